-- A power that a shift makes, the bits of a set, and the turns of the loops over a set and over points. Leans on
-- Steps and Vertices.
use mathlib.Core.Path.{◌≡◌, refl, sym, ap, ◌∙◌}
use mathlib.Core.Bool.{true, false, cond}
use mathlib.Core.List.{List, [], ◌∷◌, ◌++◌, map}
use Prim.Native.Nat.{ℕ, zero, suc, ◌+◌, ◌*◌, ◌/◌, ◌%◌, ◌^◌, ◌≤◌, ◌<◌}
use native.Mathlib.Omega.{arith}
use native.Mathlib.Nat.{mod-eq_of_lt, mod-one, one-le-pow, pow-le-pow_right, pow-zero, two-pow-succ}
use lib.Arith.{digits_div, digits_mod, mod-mul}
use lib.Count.{ones, ones_step}
use lib.ListN.{length, get_or, take, drop, drop_of_length-le}
use lib.Ieee.{Float, lt}
use Rattle.definitions.specs.Vectors.{Vec}
use Rattle.definitions.specs.Subspace.{Subspace, distance}
use Rattle.definitions.specs.Orbits.{image, point_at, points_near, set_image}
use Rattle.laws.specs.Parts.{map_take_more}
use Rattle.laws.specs.Sets.{set_number, vertices_from, number_sorted, number_small}
use Rattle.rows.specs.Rows.{row_at, image_at_holds}
use Rattle.sets.specs.Steps.{near_set, near_step}
use Rattle.sets.specs.Vertices.{Below, bit_length}

pub shifted : (v : ℕ) → v < 32 → (1 * 2 ^ v) % 4294967296 ≡ 2 ^ v
shifted v h =
    let small = pow-le-pow_right {n = 2} (omega arith) {i = v} {j = 31} (omega arith) in
    let e : 1 * 2 ^ v ≡ 2 ^ v = omega arith in
    ap (λ (k : ℕ). k % 4294967296) e ∙ mod-eq_of_lt (omega arith)

-- ---- how many vertices

-- 32 bits are all of a number of 32 bits
pub all_bits : (n x : ℕ) → 32 ≤ n → x < 4294967296 → x % 2 ^ n ≡ x
all_bits n x h small =
    let large = pow-le-pow_right {n = 2} (omega arith) {i = 32} {j = n} h in
    mod-eq_of_lt (omega arith)

-- those of the lowest n bits that are set are the vertices below n
pub count_bits : (v n x : ℕ) → ones (x % 2 ^ n) ≡ length (vertices_from v n x)
unfolding vertices_from ones
count_bits v zero x = rw (pow-zero, mod-one) refl
count_bits v (suc n) x =
    let digits : x % 2 ^ suc n ≡ (x / 2 % 2 ^ n) * 2 + x % 2 = ap (λ (k : ℕ). x % k) (two-pow-succ n ∙ (omega arith))
    ∙ mod-mul x {m = 2 ^ n} {c = 2} (one-le-pow n 2 (omega arith)) (omega arith) in
    let low : x % 2 ^ suc n % 2 ≡ x % 2 = ap (λ (k : ℕ). k % 2) digits ∙ digits_mod (x / 2 % 2 ^ n) (omega arith) in
    let half : x % 2 ^ suc n / 2 ≡ x / 2 % 2 ^ n = ap (λ (k : ℕ). k / 2) digits
    ∙ digits_div (x / 2 % 2 ^ n) (omega arith) in
    ones_step (x % 2 ^ suc n) ∙ ((λ t. low t + ones (half t))
    ∙ (ap (λ (k : ℕ). x % 2 + k) (count_bits (suc v) n (x / 2)) ∙ sym (bit_length v n x)))

-- ---- the image of a set

-- row i's image of v, where it lies
abbrev pub image_in : List ℕ → ℕ → ℕ → ℕ
image_in s i v = get_or s (32 * i + v) 0

number_append : (l : List ℕ) (v : ℕ) → set_number (l ++ (v ∷ [])) ≡ set_number l + 2 ^ v
unfolding set_number
number_append [] v = omega arith
number_append (u ∷ l) v = omega (arith, number_append l v)

-- the images of one vertex more
pub image_more : (s : List ℕ) (i : ℕ) (vertices : List ℕ) (k : ℕ) → k < length vertices
    → set_number (map (image_in s i) (take (k + 1) vertices))
    ≡ set_number (map (image_in s i) (take k vertices)) + 2 ^ image_in s i (get_or vertices k 0)
image_more s i vertices k h =
    ap set_number (map_take_more (image_in s i) vertices k 0 h)
    ∙ number_append (map (image_in s i) (take k vertices)) (image_in s i (get_or vertices k 0))

same_map : (s : List ℕ) (i n : ℕ) (vertices : List ℕ) → Below n vertices
    → map (image_in s i) vertices ≡ map (image (row_at n i s)) vertices
unfolding row_at
same_map s i n [] below = refl
same_map s i n (v ∷ vertices) below =
    rw (
      image_at_holds n i s v (below 0 (omega arith)),
      same_map s i n vertices (λ k h. below (suc k) (omega (arith, h))),
    ) refl

pub image_whole : (s : List ℕ) (i n : ℕ) (vertices : List ℕ) → Below n vertices
    → set_number (map (image_in s i) vertices) ≡ set_number (set_image vertices (row_at n i s))
unfolding set_image
image_whole s i n vertices below =
    ap set_number (same_map s i n vertices below) ∙ sym (number_sorted (map (image (row_at n i s)) vertices))

-- ---- the points near a plane: a turn of the loop

module _ (tolerance : Float) (s : Subspace) (ps : List Vec) where
  abbrev pub near_from : ℕ → ℕ
  near_from v = set_number (points_near tolerance s (drop v ps) v)

  near_turn : (v : ℕ) → v < length ps
      → near_from v ≡ cond (lt (distance s (point_at ps v)) tolerance) (2 ^ v) 0 + near_from (v + 1)
  near_turn v h = let e : suc v ≡ v + 1 = omega arith in
      near_step tolerance s ps v h ∙ ap (λ (k : ℕ). cond (lt (distance s (point_at ps v)) tolerance) (2 ^ v) 0
      + set_number (points_near tolerance s (drop k ps) k)) e

  -- point v joins where it is near
  pub near_joins : (v : ℕ) → v < length ps → lt (distance s (point_at ps v)) tolerance ≡ true
      → near_from v ≡ 2 ^ v + near_from (v + 1)
  near_joins v h near = near_turn v h ∙ rw near refl

  pub near_stays : (v : ℕ) → v < length ps → lt (distance s (point_at ps v)) tolerance ≡ false
      → near_from v ≡ near_from (v + 1)
  near_stays v h far = near_turn v h ∙ rw far (omega arith)

  pub near_end : (v : ℕ) → length ps ≤ v → near_from v ≡ 0
  unfolding points_near set_number
  near_end v h = rw (drop_of_length-le ps h) refl

  pub near_small : length ps ≤ 20 → near_from 0 < 4294967296
  near_small h =
      let p : 2 ^ length ps ≤ 1048576 = pow-le-pow_right {n = 2} (omega arith) {i = length ps} {j = 20} h in
      omega (arith, number_small (near_set tolerance s ps 0))
