-- How much a call keeps of its inner calls, at every rank from 3: what can stand there, and how many. And that every
-- ridge's number is one of a ridge orbit, each with its count. From what the call has before its search alone. How
-- many ridges and elements fit is a question of capacities, and asked elsewhere. Leans on KeptOrbitTable, AnswerSizes
-- and RidgeCounts.
use Rattle.std.specs.Prelude.{◌≡◌, refl}
use Rattle.std.proofs.Math.Path.{ap}
use Rattle.std.proofs.Common.{length-append}
use mathlib.Core.List.{List, [], ◌∷◌, map, flat_map}
use Prim.Native.Nat.{ℕ, zero, suc, ◌+◌, ◌≤◌, ◌<◌}
use native.Mathlib.Omega.{arith}
use Rattle.std.proofs.Math.ListN.{length, get_or}
use Rattle.definitions.specs.Orbits.{Row}
use Rattle.definitions.specs.Figures.{Compound}
use Rattle.laws.specs.Lists.{Mem}
use Rattle.laws.specs.Ascending.{Distinct}
use Rattle.shapes.specs.Sets.{VertexSet}
use Rattle.shapes.specs.Sizes.{Counted}
use Rattle.shapes.specs.Nested.{Nested, NestedSet}
use Rattle.shapes.specs.NestedCalls.{Ridge, RidgeOn, facets_many}
use Rattle.shapes.specs.RidgeKeys.{compare_ridge, send_ridge}
use Rattle.shapes.specs.KeptOrbits.{KeptOrbit, number_over, together, orbit_numbers}

-- ---- one number for a place

pub number_below : {A : Type 0} (lists : List (List A)) (a b : ℕ) → b < length (get_or lists a [])
    → number_over (map length lists) a b < length (together lists)
unfolding number_over together flat_map
number_below [] a b h = absurd (omega arith)
number_below (l ∷ lists) zero b h = let e = length-append l (together lists) in omega arith
number_below (l ∷ lists) (suc a) b h =
    let e = length-append l (together lists) in
    let r = number_below lists a b h in
    omega arith

-- different places have different numbers
pub number_apart : {A : Type 0} (lists : List (List A)) (a b c d : ℕ) → b < length (get_or lists a [])
    → d < length (get_or lists c []) → number_over (map length lists) a b ≡ number_over (map length lists) c d
    → (a ≡ c) × (b ≡ d)
unfolding number_over
number_apart [] a b c d h k e = absurd (omega arith)
number_apart (l ∷ lists) zero b zero d h k e = (refl, e)
number_apart (l ∷ lists) zero b (suc c) d h k e = absurd (omega arith)
number_apart (l ∷ lists) (suc a) b zero d h k e = absurd (omega arith)
number_apart (l ∷ lists) (suc a) b (suc c) d h k e =
    let r = number_apart lists a b c d h k (omega arith) in
    (ap suc r.0, r.1)

-- ---- what is kept of an orbit

-- of one orbit of a call of rank 3 + more on n points
pub record OrbitSized (more n : ℕ) (rows : List Row) (k : KeptOrbit (Ridge more) (Nested more)) : Type 0 where
  pub vertices : VertexSet n k.orbit.vertices
  pub few_vertices : length k.orbit.vertices ≤ n
  pub some_vertices : 2 + more ≤ length k.orbit.vertices
  pub counted : Counted rows k.orbit.count
  pub ridges_on : (r : Ridge more) → Mem r k.ridges → RidgeOn n more r
  pub ridges_many : length k.ridges ≡ length k.counts
  pub inner_counted : (c : ℕ) → Mem c k.counts → Counted rows c
  pub places_below : (l : List ℕ) → Mem l k.places → (a : ℕ) → Mem a l → a < length k.ridges
  pub places_some : (l : List ℕ) → Mem l k.places → 0 < length l
  pub places_distinct : (l : List ℕ) → Mem l k.places → Distinct l
  pub facets_many : length k.facets ≡ length k.places
  pub facets_sets : (x : Nested more) → Mem x k.facets → NestedSet n more x
  pub compounds_below : (c : Compound) → Mem c k.compounds
      → (c.whole < length k.places) × (c.first < c.second) × (c.second < length k.places)

-- ---- ridge orbits

-- every ridge's number is one of a ridge orbit, and each ridge orbit has its count
pub record OrbitRidges (more : ℕ) (rows : List Row) (kept : List (KeptOrbit (Ridge more) (Nested more))) : Type 0 where
  pub below : (l : List ℕ) → Mem l (orbit_numbers (compare_ridge more) (send_ridge more) rows kept).0 → (number : ℕ)
      → Mem number l
      → number < length (orbit_numbers (compare_ridge more) (send_ridge more) rows kept).1.counts
  pub counted : (c : ℕ) → Mem c (orbit_numbers (compare_ridge more) (send_ridge more) rows kept).1.counts
      → Counted rows c
