-- Facets by their numbers: the candidates of a list, read from the tables. Leans on Layout and on the laws of words
-- and pools.
use Rattle.std.specs.Prelude.{◌≡◌, length, Option, Some, None}
use Rattle.std.proofs.Math.Path.{refl, sym, ap}
use Rattle.std.proofs.Common.{◌∙◌, ext_get_or}
use mathlib.Core.List.{List, [], ◌∷◌, ◌++◌, map, flat_map, map-append}
use Prim.Native.Nat.{ℕ, zero, suc, ◌+◌, ◌*◌, ◌≤◌, ◌<◌}
use native.Mathlib.Omega.{arith}
use Rattle.std.proofs.Math.ListN.{get_or, replicate}
use Rattle.std.proofs.lemmas.List.{length-map}
use Rattle.definitions.specs.Lists.{count_from}
use Rattle.definitions.specs.Job.{number_at}
use Rattle.definitions.specs.Search.{Table, Facet, all_facets, ones_at}
use Rattle.laws.specs.Lists.{map_at_holds, count_at, count_length, member_at}
use Rattle.completeness.specs.Facets.{orbit_below}
use Rattle.words.specs.Words.{get_d_words}
use Rattle.pool.specs.Pool.{count, closed_lists, length_at, place_at, closed_length, list_length, list_item}
use Rattle.pool.specs.Pool.{item_inside}
use Rattle.facets.specs.declared.Areas.{Areas}
use Rattle.facets.specs.Frames.{candidates}
use Rattle.facets.specs.Layout.{Inputs, KindIn, numbers, facet_of, ones_of, ones_part}

-- ---- the candidates and their numbers

all_numbers : (t : Table) → map (facet_of t) (count_from 0 (length (all_facets t))) ≡ all_facets t
unfolding facet_of
all_numbers t =
    let c = count_length 0 (length (all_facets t)) in
    let m = length-map (count_from 0 (length (all_facets t))) (facet_of t) in
    ext_get_or (0, 0) (map (facet_of t) (count_from 0 (length (all_facets t)))) (all_facets t) (omega arith)
    (λ i h. map_at_holds (facet_of t) (count_from 0 (length (all_facets t))) i (0, 0) 0 (omega arith)
    ∙ ap (λ (x : ℕ). get_or (all_facets t) x (0, 0))
    (count_at 0 (length (all_facets t)) i 0 (omega arith) ∙ omega arith))

module _ {A B : Type 0} where
  map_replicate : (f : A → B) (n : ℕ) (x : A) → map f (replicate n x) ≡ replicate n (f x)
  map_replicate f zero x = refl
  map_replicate f (suc n) x = ap (λ (r : List B). f x ∷ r) (map_replicate f n x)

  map_repeated : (f : A → B) (n : B → ℕ) (l : List A)
      → map f (flat_map (λ (x : A). replicate (n (f x)) x) l) ≡ flat_map (λ (y : B). replicate (n y) y) (map f l)
  unfolding flat_map
  map_repeated f n [] = refl
  map_repeated f n (x ∷ l) =
      map-append f (replicate (n (f x)) x) (flat_map (λ (y : A). replicate (n (f y)) y) l)
      ∙ (ap (λ (r : List B). r ++ map f (flat_map (λ (y : A). replicate (n (f y)) y) l)) (map_replicate f (n (f x)) x)
      ∙ ap (λ (r : List B). replicate (n (f x)) (f x) ++ r) (map_repeated f n l))

pub numbers_are : (t : Table) (kind : Option ℕ) → map (facet_of t) (numbers t kind) ≡ candidates t kind
unfolding numbers candidates ones_of
numbers_are t None = all_numbers t
numbers_are t (Some ridge) =
    map_repeated (facet_of t) (ones_at t ridge) (count_from 0 (length (all_facets t)))
    ∙ ap (flat_map (λ (f : Facet). replicate (ones_at t ridge f) f)) (all_numbers t)

-- of all facets the one at a place has that number
pub numbers_all : (t : Table) (i : ℕ) → i < length (numbers t None) → get_or (numbers t None) i 0 ≡ i
unfolding numbers
numbers_all t i h =
    let c = count_length 0 (length (all_facets t)) in
    count_at 0 (length (all_facets t)) i 0 (omega arith) ∙ omega arith

pub numbers_all_length : (t : Table) → length (numbers t None) ≡ length (all_facets t)
unfolding numbers
numbers_all_length t = count_length 0 (length (all_facets t))

-- ---- read from the tables

module _ (t : Table) (a : Areas) (s : List ℕ) (h : Inputs t a s) where
  ones_count : count (ones_part a s) ≡ a.ridges
  ones_count =
      sym (closed_length 2 a.ridges (ones_part a s))
      ∙ (ap length h.holds.ones_are ∙ (length-map (count_from 0 a.ridges) (ones_of t) ∙ count_length 0 a.ridges))

  ones_list : (ridge : ℕ) → ridge < a.ridges
      → get_or (closed_lists 2 a.ridges (ones_part a s)) ridge [] ≡ ones_of t ridge
  ones_list ridge k =
      let c = count_length 0 a.ridges in
      ap (λ (l : List (List ℕ)). get_or l ridge []) h.holds.ones_are
      ∙ (map_at_holds (ones_of t) (count_from 0 a.ridges) ridge [] 0 (omega arith)
      ∙ ap (ones_of t) (count_at 0 a.ridges ridge 0 k ∙ omega arith))

  ones_length : (ridge : ℕ) → ridge < a.ridges → length_at (ones_part a s) ridge ≡ length (ones_of t ridge)
  ones_length ridge k =
      sym (list_length 2 a.ridges (ones_part a s) h.holds.ones_sound ridge (omega (arith, ones_count)))
      ∙ ap length (ones_list ridge k)

  pub kind_length : (ridge : ℕ) → ridge < a.ridges → length_at (ones_part a s) ridge ≡ length (numbers t (Some ridge))
  unfolding numbers
  kind_length ridge k = ones_length ridge k

  -- where the item at a place lies
  pub kind_room : (ridge i : ℕ) → ridge < a.ridges → i < length (numbers t (Some ridge))
      → (12 + 4 * ridge ≤ length (ones_part a s))
      × (place_at 2 a.ridges (ones_part a s) ridge i + 2 ≤ length (ones_part a s))
  unfolding place_at
  kind_room ridge i k l =
      let e = kind_length ridge k in
      let n = item_inside 2 a.ridges (ones_part a s) h.holds.ones_sound ridge (omega (arith, ones_count)) i
      (omega arith) in
      let f = h.holds.ones_sound.fits in
      (omega arith, omega arith)

  pub kind_item : (ridge i : ℕ) → ridge < a.ridges → i < length (numbers t (Some ridge))
      → number_at (ones_part a s) (place_at 2 a.ridges (ones_part a s) ridge i) 2 ≡ get_or (numbers t (Some ridge)) i 0
  unfolding numbers
  kind_item ridge i k l =
      let n = ones_length ridge k in
      sym (list_item 2 a.ridges (ones_part a s) h.holds.ones_sound ridge (omega (arith, ones_count)) i (omega arith))
      ∙ ap (λ (r : List ℕ). get_or r i 0) (ones_list ridge k)

  pub orbit_is : (x : ℕ) → x < a.facets → number_at s (2 * x) 2 ≡ (facet_of t x).0
  unfolding facet_of
  orbit_is x k =
      let e = h.holds.facets in
      sym (get_d_words 2 s a.facets x k)
      ∙ (ap (λ (l : List ℕ). get_or l x 0) h.holds.orbit_of
      ∙ map_at_holds (λ (f : Facet). f.0) (all_facets t) x 0 (0, 0) (omega arith))

-- and that orbit is one of the table
pub facet_small : (t : Table) (a : Areas) (s : List ℕ) (x : ℕ) → Inputs t a s → x < a.facets
    → (facet_of t x).0 < a.orbits
unfolding facet_of
facet_small t a s x h k =
    let f = h.holds.facets in
    let b = orbit_below t (facet_of t x) (member_at (all_facets t) x (0, 0) (omega arith)) in
    let o = h.holds.orbits in
    omega arith

-- the bytes say how many candidates there are, whichever table they hold
pub same_length : (t u : Table) (a : Areas) (s : List ℕ) → Inputs t a s → Inputs u a s → (kind : Option ℕ)
    → KindIn a kind → length (numbers t kind) ≡ length (numbers u kind)
same_length t u a s h k None l =
    numbers_all_length t ∙ (sym h.holds.facets ∙ (k.holds.facets ∙ sym (numbers_all_length u)))
same_length t u a s h k (Some ridge) l =
    sym (kind_length t a s h ridge (l ridge refl)) ∙ kind_length u a s k ridge (l ridge refl)

-- a place fits four bytes
pub numbers_few : (t : Table) (a : Areas) (s : List ℕ) → Inputs t a s → (kind : Option ℕ) → KindIn a kind
    → length (numbers t kind) < 4294967296
unfolding length_at
numbers_few t a s h None l =
    let e = numbers_all_length t in
    let f = h.holds.facets in
    let g = h.fits.few_facets in
    omega arith
numbers_few t a s h (Some ridge) l =
    let r = l ridge refl in
    let e = kind_length t a s h ridge r in
    let b = h.holds.ones_sound.below (ridge + 1) (omega (arith, ones_count t a s h)) in
    let m = h.holds.ones_sound.small in
    omega arith
