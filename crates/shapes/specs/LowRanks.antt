-- Calls of rank 2 and 3. A call of rank 2 has one entry, and its ridge rows hold one ridge each. So at rank 3 every
-- orbit has one possible facet, the edge between its set's first two vertices; nothing is compound, an entry's list
-- is the emitted list itself, and every place in it is (a, 0). Leans on Emitted and Edges.
use Rattle.std.specs.Prelude.{◌≡◌, refl, ◌⊎◌, Bool, true, false, cond, List, [], ◌∷◌, map, ℕ, zero, suc, ◌*◌, ◌/◌, ◌≤◌}
use Rattle.std.specs.Prelude.{◌<◌, eqb, length, replicate}
use Rattle.std.proofs.Math.Path.{sym, ap}
use Rattle.std.proofs.Common.{◌∙◌, subst, inl, inr, arith}
use Rattle.std.proofs.lemmas.Simd.{map-map}
use Rattle.std.proofs.Math.ListN.{get_or, get_or-eq_default}
use Rattle.std.proofs.lemmas.List.{length-map}
use Rattle.definitions.specs.Lists.{Pair, any_of, count_from}
use Rattle.definitions.specs.Outcome.{answered}
use Rattle.definitions.specs.Vectors.{Vec}
use Rattle.definitions.specs.Subspace.{Subspace}
use Rattle.definitions.specs.Orbits.{Row, Orbit, image}
use Rattle.definitions.specs.Figures.{Compound, dyad, move_ends, components_of, split_queue, parts_of}
use Rattle.definitions.specs.Search.{Facet}
use Rattle.definitions.specs.Recursion.{Rules, Entry, Answer, Inner, vertex_ridge, swapped_ends, separate_ends}
use Rattle.definitions.specs.Recursion.{edge_call}
use Rattle.definitions.specs.Faceting.{Prepared, possible_facets, split_in, at_orbit, split, entry_of, finish, faceting}
use Rattle.laws.specs.Lists.{Mem, member_at, map_at_holds, flat_map_same}
use Rattle.laws.specs.Places.{map_same, flat_singles}
use Rattle.laws.specs.Segments.{le_or_lt}
use Rattle.shapes.specs.Answered.{answers_equal, facet_number, Preparation, AnsweredCall}
use Rattle.shapes.specs.Emitted.{found_facet, found_few, entry_of_list, entries_number}
use Rattle.shapes.specs.Edges.{edge_figure}

-- ---- rank 2

-- One entry, the edge 0–1, whose list names each ridge row's one ridge; one ridge row where some row swaps the ends,
-- and else two.
pub record RankTwo (budget : ℕ) (a : Answer) : Type 0 where
  pub ends : ℕ
  pub one_or_two_holds : (ends ≡ 1) ⊎ (ends ≡ 2)
  pub counts : a.counts ≡ replicate ends (2 / ends)
  pub entries : a.entries ≡ record {
    list = map (λ (v : ℕ). (v, 0)) (count_from 0 ends);
    before = map (λ (v : ℕ). (v, 0)) (count_from 0 ends);
    figure = dyad;
  } ∷ []
  pub possible : a.possible ≡ map (λ (v : ℕ). vertex_ridge v ∷ []) (count_from 0 ends)
  pub compounds : a.compounds ≡ []
  pub left : a.left ≡ budget

pub rank_two : (rules : Rules) (plane : Subspace) (points : List Vec) (rows : List Row) (budget : ℕ) (a : Answer)
    → faceting 0 rules plane points rows budget ≡ answered a → RankTwo budget a
unfolding faceting edge_call swapped_ends separate_ends count_from
rank_two rules plane points rows budget a e =
    subst (RankTwo budget) (answers_equal (cond swaps (swapped_ends budget) (separate_ends budget)) a e) (go swaps)
  where
    swaps : Bool
    swaps = any_of (λ (row : Row). eqb 1 (image row 0)) rows

    go : (b : Bool) → RankTwo budget (cond b (swapped_ends budget) (separate_ends budget))
    go true = record {
      ends = 1;
      one_or_two_holds = inl refl;
      counts = refl;
      entries = refl;
      possible = refl;
      compounds = refl;
      left = refl;
    }
    go false = record {
      ends = 2;
      one_or_two_holds = inr refl;
      counts = refl;
      entries = refl;
      possible = refl;
      compounds = refl;
      left = refl;
    }

-- ---- what is said of an orbit

no_inner : Inner
no_inner = record {
  orbit = record { vertices = []; count = 0 };
  answer = record { counts = []; entries = []; possible = []; compounds = []; left = 0 };
}

-- the inner call of an orbit's number, for a number that there is
unfoldable pub inner_at : List Inner → ℕ → Inner
unfolding no_inner
inner_at inner orbit = get_or inner orbit no_inner

pub inner_at_member : (inner : List Inner) (orbit : ℕ) → orbit < length inner → Mem (inner_at inner orbit) inner
unfolding inner_at
inner_at_member inner orbit h = member_at inner orbit no_inner h

pub at_orbit_holds : {A : Type 0} (says : Inner → List A) (inner : List Inner) (orbit : ℕ) → orbit < length inner
    → at_orbit says inner orbit ≡ says (inner_at inner orbit)
unfolding at_orbit inner_at
at_orbit_holds says inner orbit h = map_at_holds says inner orbit [] no_inner h

-- a facet of the call: its orbit's number is one, and its own is below the number of that orbit's possible facets
pub facet_orbit : (inner : List Inner) (f : Facet) → f.1 < get_or (map facet_number inner) f.0 0
    → (f.0 < length inner) × (f.1 < facet_number (inner_at inner f.0))
unfolding inner_at
facet_orbit inner f h = go (le_or_lt (length inner) f.0)
  where
    go : (length inner ≤ f.0) ⊎ (f.0 < length inner)
        → (f.0 < length inner) × (f.1 < facet_number (get_or inner f.0 no_inner))
    go (inl k) =
        let n : length (map facet_number inner) ≡ length inner = length-map inner facet_number in
        let e : get_or (map facet_number inner) f.0 0
        ≡ 0 = get_or-eq_default (map facet_number inner) 0 (omega arith) in
        absurd (omega arith)
    go (inr k) = (k, subst (λ (n : ℕ). f.1 < n) (map_at_holds facet_number inner f.0 0 no_inner k) h)

-- ---- where nothing is compound

pub nothing_to_split : (steps : ℕ) (queue : List ℕ) → split_queue steps [] queue ≡ queue
unfolding split_queue components_of
nothing_to_split zero queue = refl
nothing_to_split (suc steps) [] = refl
nothing_to_split (suc steps) (a ∷ queue) = ap (λ (q : List ℕ). a ∷ q) (nothing_to_split steps queue)

split_in_alone : (i : Inner) → i.answer.compounds ≡ [] → (f : Facet) → split_in i f ≡ f ∷ []
unfolding split_in parts_of
split_in_alone i e f =
    let items = length (get_or (map (λ (x : Entry). x.list) i.answer.entries) f.1 []) in
    ap (λ (c : List Compound). map (λ (part : ℕ). (f.0, part)) (split_queue (2 * items) c (f.1 ∷ []))) e
    ∙ ap (map (λ (part : ℕ). (f.0, part))) (nothing_to_split (2 * items) (f.1 ∷ []))

-- a list of the call's facets is its own split list
pub split_alone : (p : Prepared) → ((i : Inner) → Mem i p.inner → i.answer.compounds ≡ []) → (l : List Facet)
    → ((f : Facet) → Mem f l → f.0 < length p.inner) → split p l ≡ l
unfolding split
split_alone p none_in l h =
    flat_map_same (λ (f : Facet). at_orbit (λ (i : Inner). split_in i f) p.inner f.0) (λ (f : Facet). f ∷ []) l
    (λ f m.
    at_orbit_holds (λ (i : Inner). split_in i f) p.inner f.0 (h f m)
    ∙ split_in_alone (inner_at p.inner f.0) (none_in (inner_at p.inner f.0) (inner_at_member p.inner f.0 (h f m))) f)
    ∙ flat_singles l

-- ---- rank 3

-- the edge of an orbit: from the first vertex of its set to the second
unfoldable pub edge_of : Orbit → Pair
edge_of o = (get_or o.vertices 0 0, get_or o.vertices 1 0)

-- what a call of rank 3 has before its search
module _ (rules : Rules) (plane : Subspace) (points : List Vec) (rows : List Row) (p : Prepared)
    (made : Preparation 0 rules (faceting 0 rules) plane points rows p) where
  -- every inner call is one of rank 2
  pub inner_rank_two : (i : Inner) → Mem i p.inner → (budget : ℕ) × RankTwo budget i.answer
  inner_rank_two i m =
      let given = made.inner.each i m in
      (given.budget, rank_two rules _ _ _ given.budget i.answer given.is)

  pub inner_alone : (i : Inner) → Mem i p.inner → i.answer.compounds ≡ []
  inner_alone i m = (inner_rank_two i m).1.compounds

  -- each orbit has one possible facet
  pub one_facet : (i : Inner) → Mem i p.inner → facet_number i ≡ 1
  one_facet i m = ap length (inner_rank_two i m).1.entries

  -- and that is the edge between its set's first two vertices
  pub one_edge : (i : Inner) → Mem i p.inner → possible_facets i ≡ edge_figure (edge_of i.orbit) ∷ []
  unfolding possible_facets edge_of edge_figure move_ends dyad
  one_edge i m =
      ap (map (λ (e : Entry). move_ends (λ (v : ℕ). get_or i.orbit.vertices v 0) e.figure))
      (inner_rank_two i m).1.entries

module _ (rules : Rules) (plane : Subspace) (points : List Vec) (rows : List Row) (a : Answer)
    (c : AnsweredCall 0 rules plane points rows a) where
  abbrev p : Prepared
  p = c.before

  -- the possible facets of an answer of rank 3: one edge to an orbit
  pub possible_edges : a.possible
      ≡ map (λ (o : Orbit). edge_figure (edge_of o) ∷ []) (map (λ (i : Inner). i.orbit) p.inner)
  unfolding finish
  possible_edges =
      ap (λ (x : Answer). x.possible) c.is
      ∙ map_same possible_facets (λ (i : Inner). edge_figure (edge_of i.orbit) ∷ []) p.inner
      (one_edge rules plane points rows p c.prepared)
      ∙ sym (map-map (λ (o : Orbit). edge_figure (edge_of o) ∷ []) (λ (i : Inner). i.orbit) p.inner)

  -- a facet of a list found is (a, 0)
  pub found_first : (l : List Facet) → Mem l c.found.lists → (f : Facet) → Mem f l → (f.0 < length p.inner) × (f.1 ≡ 0)
  found_first l m f i =
      let r = facet_orbit p.inner f (found_facet rules p c.found c.is_found_holds l m f i) in
      let k = r.1 in
      let e = one_facet rules plane points rows p c.prepared (inner_at p.inner f.0) (inner_at_member p.inner f.0 r.0) in
      (r.0, omega arith)

  -- a list found is its own split list
  pub found_unsplit : (l : List Facet) → Mem l c.found.lists → split p l ≡ l
  found_unsplit l m =
      split_alone p (inner_alone rules plane points rows p c.prepared) l (λ f i. (found_first l m f i).0)

  -- an entry's list is a list found
  pub entry_list : (e : Entry) → Mem e a.entries
      → (l : List Facet) × Mem l c.found.lists × (e ≡ entry_of p l) × (e.list ≡ l)
  unfolding finish entry_of
  entry_list e m =
      let r = entry_of_list rules p c.found c.is_found_holds e (subst (λ (x : Answer). Mem e x.entries) c.is m) in
      (r.0, r.1, r.2, ap (λ (x : Entry). x.list) r.2 ∙ found_unsplit r.0 r.1)

  -- every place (a, b) of a facet's list has b = 0 at rank 3
  pub entry_places : (e : Entry) → Mem e a.entries → (x : Pair) → Mem x e.list → (x.0 < length p.inner) × (x.1 ≡ 0)
  entry_places e m x i = let r = entry_list e m in found_first r.0 r.1 x (subst (λ (l : List Pair). Mem x l) r.3 i)

-- ---- the bounds, at every rank from 3

pub few_entries_holds : (more : ℕ) (rules : Rules) (plane : Subspace) (points : List Vec) (rows : List Row)
    (a : Answer) → AnsweredCall more rules plane points rows a → length a.entries ≤ rules.bounds.entries
unfolding finish
few_entries_holds more rules plane points rows a c =
    let e : length a.entries ≡ length c.found.lists = ap (λ (x : Answer). length x.entries) c.is
    ∙ entries_number rules c.before c.found c.is_found_holds in
    let k = found_few rules c.before c.found c.is_found_holds in
    omega arith
