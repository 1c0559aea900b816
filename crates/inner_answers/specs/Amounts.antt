-- How much the pools of a layout hold: at most so many ridges and facets for an orbit, and so many places and edges
-- for a facet. A call of rank 3 keeps two ridges and places and one edge at most, a call of rank 4 no more than there
-- are pairs of 20 points. From an orbit's inner answer alone. Leans on the layout and on the sizes of answers.
use Rattle.std.specs.Prelude.{◌≡◌, ℕ, zero, suc, ◌+◌, ◌*◌, ◌≤◌}
use Rattle.std.proofs.Common.{sym, ◌∙◌}
use Rattle.std.proofs.Math.Path.{ap, subst}
use mathlib.Core.List.{List, [], ◌∷◌, ◌++◌, map, flat_map, map-append, append-nil}
use native.Mathlib.Omega.{arith}
use Rattle.std.proofs.Math.ListN.{length, length-append}
use Rattle.definitions.specs.Lists.{Pair}
use Rattle.laws.specs.Lists.{Mem, flat_map_append}
use Rattle.shapes.specs.Kept.{Kept}
use Rattle.layout.specs.Keeps.{joined, ridge_codes, places_of, edges_of}
use Rattle.kept_polygons.specs.Totals.{joined_few}

-- the most that an orbit may have: ridges, facets, and places and edges of a facet
pub record Most : Type 0 where
  pub ridges : ℕ
  pub facets : ℕ
  pub places : ℕ
  pub edges : ℕ

-- a call of rank 3, and one of rank 4
unfoldable pub most_at : ℕ → Most
most_at zero = record { ridges = 2; facets = 1; places = 2; edges = 1 }
most_at (suc more) = record { ridges = 190; facets = 1024; places = 190; edges = 190 }

-- one orbit has no more
pub record OrbitAmounts (most : Most) (k : Kept) : Type 0 where
  pub ridges : length (ridge_codes k) ≤ most.ridges
  pub facets : length k.places ≤ most.facets
  pub places : (l : List ℕ) → Mem l k.places → length l ≤ most.places
  pub edges : (l : List Pair) → Mem l k.edges → length l ≤ most.edges
  pub edges_many : length k.edges ≡ length k.places

-- all orbits
pub record Amounts (most : Most) (kept : List Kept) : Type 0 where
  pub ridges : length (joined (map ridge_codes kept)) ≤ most.ridges * length kept
  pub facets : length (places_of kept) ≤ most.facets * length kept
  pub places : length (joined (places_of kept)) ≤ most.places * length (places_of kept)
  pub edges : length (joined (edges_of kept)) ≤ most.edges * length (places_of kept)

-- lists joined
module _ {A : Type 0} where
  joined_append : (ls ms : List (List A)) → joined (ls ++ ms) ≡ joined ls ++ joined ms
  joined_append ls ms = flat_map_append (λ (l : List A). l) ls ms

  joined_one : (ls : List (List A)) (l : List A) → length (joined (ls ++ (l ∷ []))) ≡ length (joined ls) + length l
  unfolding flat_map
  joined_one ls l =
      ap length (joined_append ls (l ∷ [])) ∙ (length-append (joined ls) (l ++ [])
      ∙ ap (λ (n : ℕ). length (joined ls) + n) (length-append l [] ∙ omega arith))

module _ (most : Most) where
  pub amounts_none : Amounts most []
  unfolding places_of edges_of flat_map
  amounts_none = record { ridges = omega arith; facets = omega arith; places = omega arith; edges = omega arith }

  -- one orbit more
  pub amounts_more : (kept : List Kept) (k : Kept) → Amounts most kept → OrbitAmounts most k
      → Amounts most (kept ++ (k ∷ []))
  unfolding places_of edges_of flat_map
  amounts_more kept k m o =
      let a = most.ridges in
      let f = most.facets in
      let b = most.places in
      let c = most.edges in
      let n : length (kept ++ (k ∷ [])) ≡ length kept + 1 = length-append kept (k ∷ []) in
      let codes : map ridge_codes (kept ++ (k ∷ []))
      ≡ map ridge_codes kept ++ (ridge_codes k ∷ []) = map-append ridge_codes kept (k ∷ []) in
      let r = ap (λ (l : List (List ℕ)). length (joined l)) codes ∙ joined_one (map ridge_codes kept) (ridge_codes k) in
      let split : places_of (kept ++ (k ∷ []))
      ≡ places_of kept ++ k.places = flat_map_append (λ (x : Kept). x.places) kept (k ∷ [])
      ∙ ap (λ (l : List (List ℕ)). places_of kept ++ l) (append-nil k.places) in
      let np : length (places_of (kept ++ (k ∷ []))) ≡ length (places_of kept) + length k.places = ap length split
      ∙ length-append (places_of kept) k.places in
      let p : length (joined (places_of (kept ++ (k ∷ []))))
      ≡ length (joined (places_of kept)) + length (joined k.places) =
      ap (λ (l : List (List ℕ)). length (joined l)) split ∙ (ap length (joined_append (places_of kept) k.places)
      ∙ length-append (joined (places_of kept)) (joined k.places)) in
      let pk = joined_few b k.places o.places in
      let split-e : edges_of (kept ++ (k ∷ []))
      ≡ edges_of kept ++ k.edges = flat_map_append (λ (x : Kept). x.edges) kept (k ∷ [])
      ∙ ap (λ (l : List (List Pair)). edges_of kept ++ l) (append-nil k.edges) in
      let e : length (joined (edges_of (kept ++ (k ∷ []))))
      ≡ length (joined (edges_of kept)) + length (joined k.edges) =
      ap (λ (l : List (List Pair)). length (joined l)) split-e ∙ (ap length (joined_append (edges_of kept) k.edges)
      ∙ length-append (joined (edges_of kept)) (joined k.edges)) in
      let ek = joined_few c k.edges o.edges in
      let ma : a * (length kept + 1) ≡ a * length kept + a = omega arith in
      let mf : f * (length kept + 1) ≡ f * length kept + f = omega arith in
      let mb : b * (length (places_of kept) + length k.places)
      ≡ b * length (places_of kept) + b * length k.places = omega arith in
      let mc : c * (length (places_of kept) + length k.places)
      ≡ c * length (places_of kept) + c * length k.places = omega arith in
      let ce : c * length k.edges ≡ c * length k.places = ap (λ (x : ℕ). c * x) o.edges_many in
      record {
        ridges =
            subst (λ (x : ℕ). length (joined (map ridge_codes (kept ++ (k ∷ [])))) ≤ a * x) (sym n)
            (omega (arith, m.ridges, o.ridges));
        facets =
            subst (λ (x : ℕ). length (places_of (kept ++ (k ∷ []))) ≤ f * x) (sym n)
            (omega (arith, m.facets, o.facets));
        places =
            subst (λ (x : ℕ). length (joined (places_of (kept ++ (k ∷ [])))) ≤ b * x) (sym np)
            (omega (arith, m.places));
        edges =
            subst (λ (x : ℕ). length (joined (edges_of (kept ++ (k ∷ [])))) ≤ c * x) (sym np)
            (omega (arith, m.edges));
      }
