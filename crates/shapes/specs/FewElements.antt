-- How many elements a figure has in each of its ranks from the edges up. Moving and sorting leave the numbers as they
-- are; an assembled figure has in each rank no more than its facets have there together, and one body. So where the
-- possible facets of a call have few, its entries have at most rows × possible facets × as many; and by induction
-- every call of every rank has a bound that is computed from its points, its rows and the bound on its possible
-- facets. Leans on EntryFigures and Sizes.
use Rattle.std.specs.Prelude.{◌≡◌, refl, length, drop, replicate}
use Rattle.std.proofs.Common.{sym, ap, ◌∙◌, length-append}
use Rattle.std.proofs.Math.Path.{subst}
use mathlib.Core.List.{List, [], ◌∷◌, map, flat_map, Memᴰ}
use Prim.Native.Nat.{ℕ, zero, suc, ◌*◌, ◌≤◌, max, compare}
use native.Mathlib.Omega.{arith}
use Rattle.std.proofs.Math.ListN.{get_or, length-map}
use Rattle.definitions.specs.Lists.{sort_nats, compare_nats}
use Rattle.definitions.specs.Vectors.{Vec}
use Rattle.definitions.specs.Subspace.{Subspace}
use Rattle.definitions.specs.Orbits.{Row, image}
use Rattle.definitions.specs.Figures.{Elements, Figure, renumber, sort_ranks, sort_strong, move_ends, lowest_ranks}
use Rattle.definitions.specs.Figures.{without_lowest, assemble, figure_of}
use Rattle.definitions.specs.Search.{Facet}
use Rattle.definitions.specs.Recursion.{Rules, Entry, Inner, move_sorted}
use Rattle.definitions.specs.Faceting.{Prepared, possible_facets, at_orbit, split, facet_images, entry_of, faceting}
use Rattle.laws.specs.Lists.{Mem, here, there, of_map, of_flat_map}
use Rattle.laws.specs.Orders.{nats, nat_lists}
use Rattle.laws.specs.Ascending.{ascends_distinct, sorted_length}
use Rattle.laws.specs.Ranges.{distinct_below, fresh_few}
use Rattle.shapes.specs.Answered.{Preparation}
use Rattle.shapes.specs.Assemble.{lowest_of, lowest_all}
use Rattle.shapes.specs.Calls.{inner_points, inner_set, inner_size, at_or}

-- ---- how many elements each rank has

unfoldable pub sizes : List Elements → List ℕ
sizes ranks = map (λ (es : Elements). length es) ranks

sizes_sorted : (es : Elements) (more : List Elements) → sizes (sort_ranks es more) ≡ length es ∷ sizes more
unfolding sizes sort_ranks renumber
sizes_sorted es [] = refl
sizes_sorted es (next ∷ more) =
    let first = sorted_length compare_nats nat_lists es in
    let rest = sizes_sorted (renumber _ next) more ∙ ap (λ (n : ℕ). n ∷ sizes more) (length-map next _) in
    λ t. first t ∷ rest t

sizes_strong : (f : Figure) → sizes (sort_strong f) ≡ sizes f
unfolding sizes sort_strong
sizes_strong [] = refl
sizes_strong (empty ∷ []) = refl
sizes_strong (empty ∷ points ∷ []) = refl
sizes_strong (empty ∷ points ∷ edges ∷ more) =
    ap (λ (l : List ℕ). length empty ∷ length points ∷ l) (sizes_sorted (map sort_nats edges) more
    ∙ ap (λ (n : ℕ). n ∷ sizes more) (length-map edges sort_nats))

pub sizes_moved : (to : ℕ → ℕ) (f : Figure) → sizes (move_ends to f) ≡ sizes f
unfolding sizes move_ends
sizes_moved to [] = refl
sizes_moved to (empty ∷ []) = refl
sizes_moved to (empty ∷ points ∷ []) = refl
sizes_moved to (empty ∷ points ∷ edges ∷ more) =
    ap (λ (n : ℕ). length empty ∷ length points ∷ n ∷ sizes more) (length-map edges (map to))

-- ---- few in each rank from the edges up

abbrev pub FewIn : ℕ → List ℕ → Type 0
FewIn w ns = (n : ℕ) → Mem n ns → n ≤ w

abbrev pub Few : ℕ → Figure → Type 0
Few w f = FewIn w (drop 2 (sizes f))

few_none : (w : ℕ) → Few w []
unfolding sizes
few_none w n m = elim m [ ]

pub few_moved : (w : ℕ) (to : ℕ → ℕ) (f : Figure) → Few w f → Few w (move_ends to f)
few_moved w to f h = subst (λ (l : List ℕ). FewIn w (drop 2 l)) (sym (sizes_moved to f)) h

few_sorted : (w : ℕ) (to : ℕ → ℕ) (f : Figure) → Few w f → Few w (move_sorted to f)
unfolding move_sorted
few_sorted w to f h =
    subst (λ (l : List ℕ). FewIn w (drop 2 l)) (sym (sizes_strong (move_ends to f) ∙ sizes_moved to f)) h

-- ---- assembled facets

sizes_dropped : (f : Figure) → sizes (drop 2 f) ≡ drop 2 (sizes f)
unfolding sizes
sizes_dropped [] = refl
sizes_dropped (empty ∷ []) = refl
sizes_dropped (empty ∷ points ∷ ranks) = refl

-- a facet without its lowest rank has the others
sizes_without : (es : Elements) (r : List Elements) (n : ℕ) → Mem n (sizes (without_lowest es r)) → Mem n (sizes r)
unfolding sizes without_lowest renumber
sizes_without es [] n m = m
sizes_without es (x ∷ []) n m = elim m [ ]
sizes_without es (x ∷ next ∷ more) n (Memᴰ.head q) = there (here (q ∙ length-map next _))
sizes_without es (x ∷ next ∷ more) n (Memᴰ.tail m) = there (there m)

abbrev FewFacets : ℕ → List (List Elements) → Type 0
FewFacets w facets = (r : List Elements) → Mem r facets → FewIn w (sizes r)

lowest_few : (w : ℕ) (r : List Elements) → FewIn w (sizes r) → length (lowest_of r) ≤ w
unfolding sizes
lowest_few w [] h = omega arith
lowest_few w (x ∷ more) h = h (length x) (here refl)

all_lowest_few : (w : ℕ) (facets : List (List Elements)) → FewFacets w facets
    → length (lowest_all facets) ≤ length facets * w
unfolding flat_map
all_lowest_few w [] h = omega arith
all_lowest_few w (r ∷ facets) h =
    let a = length-append (lowest_of r) (lowest_all facets) in
    let b = lowest_few w r (h r (here refl)) in
    let c = all_lowest_few w facets (λ s m. h s (there m)) in
    omega arith

lowest_ranks_few : (w : ℕ) (facets : List (List Elements)) → FewFacets w facets
    → length (lowest_ranks facets) ≤ length facets * w
unfolding lowest_ranks
lowest_ranks_few w facets h =
    let a = fresh_few compare_nats [] (lowest_all facets) in
    let b = all_lowest_few w facets h in
    omega arith

assemble_few : (w b more : ℕ) (facets : List (List Elements)) → 1 ≤ b → length facets * w ≤ b → FewFacets w facets
    → FewIn b (sizes (assemble more facets))
unfolding sizes assemble
assemble_few w b zero facets one product h n (Memᴰ.head q) = let a = lowest_ranks_few w facets h in omega arith
assemble_few w b zero facets one product h n (Memᴰ.tail (Memᴰ.head q)) = omega arith
assemble_few w b zero facets one product h n (Memᴰ.tail (Memᴰ.tail m)) = elim m [ ]
assemble_few w b (suc more) facets one product h n (Memᴰ.head q) = let a = lowest_ranks_few w facets h in omega arith
assemble_few w b (suc more) facets one product h n (Memᴰ.tail m) =
    let upper = map (without_lowest (lowest_ranks facets)) facets in
    let many : length upper ≡ length facets = length-map facets (without_lowest (lowest_ranks facets)) in
    assemble_few w b more upper one (subst (λ (k : ℕ). k * w ≤ b) (sym many) product) above n m
  where
    above : FewFacets w (map (without_lowest (lowest_ranks facets)) facets)
    above s i k j =
        let r = of_map (without_lowest (lowest_ranks facets)) s facets i in
        h r.0 r.1 k (sizes_without (lowest_ranks facets) r.0 k (subst (λ (l : List Elements). Mem k (sizes l)) r.2 j))

-- the figure of a list of facets, each of them few
pub figure_few : (w b more n : ℕ) (facets : List Figure) → 1 ≤ b → length facets * w ≤ b
    → ((f : Figure) → Mem f facets → Few w f) → Few b (figure_of more n facets)
unfolding figure_of sizes
figure_few w b more n facets one product h =
    let stacks = map (drop 2) facets in
    let many : length stacks ≡ length facets = length-map facets (drop 2) in
    subst (λ (l : List ℕ). FewIn b (drop 2 l))
    (sym (sizes_strong (([] ∷ []) ∷ replicate n (0 ∷ []) ∷ assemble more stacks)))
    (assemble_few w b more stacks one (subst (λ (k : ℕ). k * w ≤ b) (sym many) product)
    (λ r m k i. let q = of_map (drop 2) r facets m in
    h q.0 q.1 k (subst (λ (l : List ℕ). Mem k l) (ap sizes q.2 ∙ sizes_dropped q.0) i)))

-- ---- the entries of a call, from its possible facets

-- a list of so many for each
each_many : {A B : Type 0} (f : A → List B) (n : ℕ) (l : List A) → ((x : A) → length (f x) ≡ n)
    → length (flat_map f l) ≡ n * length l
unfolding flat_map
each_many f n [] h = omega arith
each_many f n (x ∷ l) h =
    let a = length-append (f x) (flat_map f l) in
    let b = h x in
    let c = each_many f n l h in
    omega arith

images_many : (p : Prepared) (l : List Facet) → length (flat_map (facet_images p) l) ≡ length p.rows * length l
unfolding facet_images
images_many p l = each_many (facet_images p) (length p.rows) l (λ f. length-map p.rows _)

-- what is asked of the inner calls: few in every entry
module _ (p : Prepared) (w : ℕ)
    (inner_few : (i : Inner) → Mem i p.inner → (e : Entry) → Mem e i.answer.entries → Few w e.figure) where
  pub possible_few : (i : Inner) → Mem i p.inner → (f : Figure) → Mem f (possible_facets i) → Few w f
  unfolding possible_facets
  possible_few i m f k =
      let to : ℕ → ℕ = λ v. get_or i.orbit.vertices v 0 in
      let r = of_map (λ (e : Entry). move_ends to e.figure) f i.answer.entries k in
      subst (Few w) (sym r.2) (few_moved w to r.0.figure (inner_few i m r.0 r.1))

  facet_few : (f : Facet) → Few w (get_or (at_orbit possible_facets p.inner f.0) f.1 [])
  unfolding at_orbit
  facet_few f =
      at_or (Few w) (get_or (map possible_facets p.inner) f.0 []) f.1 [] (few_none w)
      (at_or (λ (fs : List Figure). (g : Figure) → Mem g fs → Few w g) (map possible_facets p.inner) f.0 []
      (λ g m. elim m [ ])
      (λ fs m g k. let r = of_map possible_facets fs p.inner m in
      possible_few r.0 r.1 g (subst (λ (l : List Figure). Mem g l) r.2 k)))

  images_few : (l : List Facet) (g : Figure) → Mem g (flat_map (facet_images p) l) → Few w g
  unfolding facet_images
  images_few l g m =
      let r = of_flat_map (facet_images p) g l m in
      let figure = get_or (at_orbit possible_facets p.inner r.0.0) r.0.1 [] in
      let q = of_map (λ (row : Row). move_sorted (image row) figure) g p.rows r.2 in
      subst (Few w) (sym q.2) (few_sorted w (image q.0) figure (facet_few r.0))

  -- rows × split facets × as many
  pub entry_few : (b : ℕ) (l : List Facet) → 1 ≤ b → length p.rows * length (split p l) * w ≤ b
      → Few b (entry_of p l).figure
  unfolding entry_of
  entry_few b l one product =
      let parts = split p l in
      figure_few w b p.more p.points (flat_map (facet_images p) parts) one
      (subst (λ (k : ℕ). k * w ≤ b) (sym (images_many p parts)) product) (images_few parts)

-- ---- every rank

-- the most elements that a rank of an entry's figure has from the edges up: of a call with at most so many points,
-- rows and possible facets, whose rank is 2 + more
unfoldable pub most_elements : ℕ → ℕ → ℕ → ℕ → ℕ
most_elements n rows facets zero = 1
most_elements n rows facets (suc zero) = max 1 (n * n)
most_elements n rows facets (suc (suc more)) = max 1 (rows * facets * most_elements n rows facets (suc more))

-- an inner call has no more points and rows
pub inner_points_holds : (more : ℕ) (rules : Rules) (plane : Subspace) (points : List Vec) (rows : List Row)
    (p : Prepared) → Preparation more rules (faceting more rules) plane points rows p → (i : Inner) → Mem i p.inner
    → length (inner_points plane points i) ≤ length points
inner_points_holds more rules plane points rows p made i m =
    let set = inner_set more rules (faceting more rules) plane points rows p made i m in
    let a = distinct_below (length points) i.orbit.vertices
    (ascends_distinct compare nats i.orbit.vertices set.ascends) set.below in
    let b = inner_size more rules (faceting more rules) plane points rows p made i in
    omega arith
