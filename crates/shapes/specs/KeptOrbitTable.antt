-- The table that a call searches is made of what it keeps of its inner calls, at every rank from 3. From what the
-- call has before its search alone. Leans on KeptOrbits and RidgeKeys.
use Rattle.std.specs.Prelude.{◌≡◌}
use Rattle.std.proofs.Math.Path.{refl, ap}
use Rattle.std.proofs.Common.{◌∙◌}
use mathlib.Core.List.{List, [], ◌∷◌, ◌++◌, map, flat_map, map-map}
use Prim.Native.Nat.{ℕ, zero, suc, ◌<◌, Ordering}
use native.Mathlib.Omega.{arith}
use Rattle.std.proofs.Math.ListN.{length, get_or, get_or-append}
use Rattle.std.proofs.lemmas.List.{length-map}
use Rattle.definitions.specs.Lists.{Pair, map_with}
use Rattle.definitions.specs.Orbits.{Row}
use Rattle.definitions.specs.Figures.{Figure}
use Rattle.definitions.specs.Recursion.{Entry, Answer, Inner}
use Rattle.laws.specs.Lists.{Mem, append_at, of_flat_map}
use Rattle.laws.specs.Places.{map_same}
use Rattle.shapes.specs.Ridges.{KnownKeys, no_keys, number_key, number_keys}
use Rattle.shapes.specs.NestedCalls.{read_ridge}
use Rattle.shapes.specs.RidgeKeys.{ridges_read}
use Rattle.shapes.specs.KeptOrbits.{KeptOrbit, number_over, together, keep_by, number_ridge_key, orbit_numbers}

-- ---- places of an answer

-- the places of an entry are facets of the answer's orbits
pub record PlacesIn (a : Answer) : Type 0 where
  pub below : (e : Entry) → Mem e a.entries → (place : Pair) → Mem place e.list
      → place.1 < length (get_or a.possible place.0 [])

-- ---- one number for a place

pub length_at : {A : Type 0} (lists : List (List A)) (a : ℕ)
    → length (get_or lists a []) ≡ get_or (map length lists) a 0
length_at [] a = refl
length_at (l ∷ lists) zero = refl
length_at (l ∷ lists) (suc a) = length_at lists a

pub of_together : {A : Type 0} (x : A) (lists : List (List A)) → Mem x (together lists)
    → (l : List A) × Mem l lists × Mem x l
unfolding together
of_together {A} x lists m = of_flat_map (λ (l : List A). l) x lists m

pub item_over : {A : Type 0} (lists : List (List A)) (a b : ℕ) (d : A) → b < length (get_or lists a [])
    → get_or (together lists) (number_over (map length lists) a b) d ≡ get_or (get_or lists a []) b d
unfolding together flat_map number_over
item_over [] a b d h = absurd (omega arith)
item_over (l ∷ lists) zero b d h = get_or-append l (together lists) d b h
item_over (l ∷ lists) (suc a) b d h =
    append_at l (together lists) (number_over (map length lists) a b) d ∙ item_over lists a b d h

-- ---- numbers together

module _ {A B S : Type 0} (f : S → A → B × S) where
  map_with_append : (s : S) (l m : List A) → map_with f s (l ++ m)
      ≡ ((map_with f s l).0 ++ (map_with f (map_with f s l).1 m).0, (map_with f (map_with f s l).1 m).1)
  unfolding map_with
  map_with_append s [] m = refl
  map_with_append s (x ∷ l) m = ap (λ (r : List B × S). ((f s x).0 ∷ r.0, r.1)) (map_with_append (f s x).1 l m)

  map_with_together : (s : S) (lists : List (List A)) → map_with f s (together lists)
      ≡ (together (map_with (map_with f) s lists).0, (map_with (map_with f) s lists).1)
  unfolding map_with together flat_map
  map_with_together s [] = refl
  map_with_together s (l ∷ lists) =
      map_with_append s l (together lists)
      ∙ ap (λ (r : List B × S). ((map_with f s l).0 ++ r.0, r.1)) (map_with_together (map_with f s l).1 lists)

map_with_map : {A A' B S : Type 0} (f : S → A → B × S) (item : A' → A) (s : S) (l : List A')
    → map_with f s (map item l) ≡ map_with (λ (t : S) (x : A'). f t (item x)) s l
unfolding map_with
map_with_map f item s [] = refl
map_with_map {B = B} {S = S} f item s (x ∷ l) =
    ap (λ (r : List B × S). ((f s (item x)).0 ∷ r.0, r.1)) (map_with_map f item (f s (item x)).1 l)

-- results shown otherwise, and what is alike of all results of an item
module _ {A A' B B' S : Type 0} (f : S → A → B × S) (g : S → A' → B' × S) (item : A' → A) (shown : B' → B)
    (one : (s : S) (x : A') → f s (item x) ≡ (shown (g s x).0, (g s x).1)) where
  map_with_shown : (s : S) (l : List A')
      → map_with f s (map item l) ≡ (map shown (map_with g s l).0, (map_with g s l).1)
  unfolding map_with
  map_with_shown s [] = refl
  map_with_shown s (x ∷ l) =
      ap (λ (r : B × S). (r.0 ∷ (map_with f r.1 (map item l)).0, (map_with f r.1 (map item l)).1)) (one s x)
      ∙ ap (λ (r : List B × S). (shown (g s x).0 ∷ r.0, r.1)) (map_with_shown (g s x).1 l)

-- ---- the table of keys kept by number

module _ {K F : Type 0} (c : K → K → Ordering) (send : (ℕ → ℕ) → K → K) (keys : Inner → List (List K))
    (facets : Inner → List F) (rows : List Row) where
  abbrev kept : Inner → KeptOrbit K F
  kept = keep_by send keys facets

  -- one orbit's ridges, list by list or all together
  abbrev orbit_lists : KnownKeys K → Inner → List (List ℕ) × KnownKeys K
  orbit_lists known i = map_with (map_with (number_key c send rows i.orbit.vertices)) known (keys i)

  orbit_together : (known : KnownKeys K) (i : Inner) → map_with (number_ridge_key c send rows) known (kept i).ridges
      ≡ (together (orbit_lists known i).0, (orbit_lists known i).1)
  unfolding keep_by number_ridge_key number_key
  orbit_together known i =
      map_with_map (number_ridge_key c send rows) (send (λ (v : ℕ). get_or i.orbit.vertices v 0)) known
      (together (keys i)) ∙ map_with_together (number_key c send rows i.orbit.vertices) known (keys i)

  pub numbers_together : (inner : List Inner)
      → orbit_numbers c send rows (map kept inner) ≡ (
        map together (number_keys c send rows keys (no_keys K) inner).0,
        (number_keys c send rows keys (no_keys K) inner).1,
      )
  unfolding orbit_numbers number_keys
  numbers_together inner =
      ap (map_with (map_with (number_ridge_key c send rows)) (no_keys K))
      (map-map (λ (k : KeptOrbit K F). k.ridges) kept inner)
      ∙ map_with_shown (map_with (number_ridge_key c send rows)) orbit_lists
      (λ (i : Inner). (kept i).ridges) together orbit_together (no_keys K) inner

-- ---- every rank from 3

pub ridges_as_many : (more : ℕ) (i : Inner) → map length (ridges_read more i) ≡ map length i.answer.possible
unfolding ridges_read
ridges_as_many more i =
    map-map length (map (read_ridge more)) i.answer.possible
    ∙ map_same (λ (fs : List Figure). length (map (read_ridge more) fs)) length i.answer.possible
    (λ fs m. length-map fs (read_ridge more))
