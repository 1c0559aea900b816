-- Pairs walked with marks: a pair is its code, the walk is the definition's, and no more than 190 pairs are walked.
-- Leans on Laws and Marks.
use mathlib.Core.Path.{◌≡◌, refl, sym, ap, ◌∙◌}
use mathlib.Core.Bool.{Bool, true, false, cond, ◌||◌}
use mathlib.Core.List.{List, [], ◌∷◌, ◌++◌, map, flat_map, append-nil, append_assoc, map-append}
use Prim.Native.Nat.{ℕ, zero, suc, ◌+◌, ◌*◌, ◌-◌, ◌≤◌, ◌<◌, min, max}
use native.Mathlib.Omega.{arith}
use lib.Dec.{compare_is_eq}
use lib.ListN.{length, get_or, take, set, length-append, length-map, length-replicate, get_or-replicate, replicate}
use lib.Seq.{take-suc}
use Rattle.definitions.specs.Lists.{Pair, any_of, member_nat, member_pair, compare_pair, count_from}
use Rattle.definitions.specs.Orbits.{Row, image, pair_image, vertex_openers, pair_openers, pairs_from, above}
use Rattle.laws.specs.Lists.{Mem, here, there, of_map, of_flat_map, at_member, count_length, of_count, flat_map_append}
use Rattle.laws.specs.Lists.{count_more, any_append}
use Rattle.laws.specs.Parts.{rows, take_more}
use Rattle.rows.specs.Rows.{rows_in, RowsFit}
use Rattle.rows.specs.Marks.{marked, marked_more, marked_at_holds, marked_length, passed, walked, marks_after}
use Rattle.rows.specs.Marks.{walked_append, marks_append, walked_fewer}
use Rattle.rows.specs.Codes.{codes_more, code_small, member_codes, map_codes}
use Rattle.rows.proofs.Codes.{codes_wide, image_small}
use Rattle.rows.specs.Codes.{pair_code, pair_codes}
use Rattle.openers.specs.Meaning.{pairs_above}
use Rattle.openers.proofs.Laws.{same_cond, item_passed, item_opened}

-- ---- a pair is its code

member_append : (p : Pair) (xs ys : List Pair) → member_pair p (xs ++ ys) ≡ (member_pair p xs || member_pair p ys)
unfolding member_pair
member_append p xs ys = any_append (λ (q : Pair). compare_is_eq (compare_pair p q)) xs ys

-- ---- marks agree with what was marked

pub record AgreePairs (marks : List Bool) (seen : List Pair) : Type 0 where
  pub long : length marks ≡ 400
  pub at : (p : Pair) → p.0 < 20 → p.1 < 20 → get_or marks (pair_code p) false ≡ member_pair p seen

pub agree_none : AgreePairs (replicate 400 false) []
unfolding member_pair any_of pair_code
agree_none = record {
  long = length-replicate 400 false;
  at = λ p h k. get_or-replicate 400 (20 * p.0 + p.1) false false (omega arith);
}

module _ (n m : ℕ) (s : List ℕ) (fits : RowsFit n m s) where
  agree_more : (marks : List Bool) (seen : List Pair) (p : Pair) → p.0 < n → p.1 < n → AgreePairs marks seen
      → AgreePairs (marked marks (pair_codes (rows_in 32 m s) p)) (map (pair_image p) (rows_in n m s) ++ seen)
  agree_more marks seen p a b g = record {
    long = marked_length marks _ ∙ g.long;
    at = λ q h k.
        let new = map (pair_image p) (rows_in n m s) in
        let codes : pair_codes (rows_in 32 m s) p ≡ map pair_code new = codes_wide n m p.0 p.1 s a b fits.n_fits
        ∙ map_codes (rows_in n m s) p in
        marked_at_holds marks (pair_codes (rows_in 32 m s) p) (pair_code q) (omega (arith, code_small q h k, g.long))
        ∙ (ap (λ (l : List ℕ). member_nat (pair_code q) l || get_or marks (pair_code q) false) codes
        ∙ (rw (member_codes q new k (λ x i. image_small fits p x a b i), g.at q h k) refl
        ∙ sym (member_append q new seen)));
  }

  pub pairs_walked : (skip : Pair → Bool) (marks : List Bool) (seen ps : List Pair) → AgreePairs marks seen
      → ((p : Pair) → Mem p ps → (p.0 < n) × (p.1 < n))
      → walked pair_code (pair_codes (rows_in 32 m s)) skip marks ps ≡ pair_openers skip (rows_in n m s) seen ps
  unfolding walked passed pair_openers
  pairs_walked skip marks seen [] a h = refl
  pairs_walked skip marks seen (p ∷ ps) a h =
      let below = h p (here refl) in
      let old = pairs_walked skip marks seen ps a (λ q k. h q (there k)) in
      let new =
      pairs_walked skip (marked marks (pair_codes (rows_in 32 m s) p)) (map (pair_image p) (rows_in n m s) ++ seen) ps
      (agree_more marks seen p below.0 below.1 a) (λ q k. h q (there k)) in
      same_cond (ap (λ (b : Bool). b
      || skip p) (a.at p (omega (arith, below.0, fits.n_fits)) (omega (arith, below.1, fits.n_fits)))) old
      (ap (λ (l : List Pair). p ∷ l) new)

-- ---- the openers walked

opener_range : (rows : List Row) (seen : List ℕ) (a m k : ℕ) → k < length (vertex_openers rows seen (count_from a m))
    → (a + k ≤ get_or (vertex_openers rows seen (count_from a m)) k 0)
    × (get_or (vertex_openers rows seen (count_from a m)) k 0 < a + m)
unfolding vertex_openers count_from
opener_range rows seen a zero k h = absurd (omega arith)
opener_range rows seen a (suc m) k h =
    go (member_nat a seen) k h (λ j l. opener_range rows seen (suc a) m j l)
    (λ j l. opener_range rows (map (λ (row : Row). image row a) rows ++ seen) (suc a) m j l)
  where
    new : List ℕ
    new = vertex_openers rows (map (λ (row : Row). image row a) rows ++ seen) (count_from (suc a) m)

    old : List ℕ
    old = vertex_openers rows seen (count_from (suc a) m)

    go : (b : Bool) (k : ℕ) → k < length (cond b old (a ∷ new))
        → ((j : ℕ) → j < length old → (suc a + j ≤ get_or old j 0) × (get_or old j 0 < suc a + m))
        → ((j : ℕ) → j < length new → (suc a + j ≤ get_or new j 0) × (get_or new j 0 < suc a + m))
        → (a + k ≤ get_or (cond b old (a ∷ new)) k 0) × (get_or (cond b old (a ∷ new)) k 0 < a + suc m)
    go true k h f g = let r = f k h in (omega (arith, r.0), omega (arith, r.1))
    go false zero h f g = (omega arith, omega arith)
    go false (suc k) h f g = let r = g k (omega arith) in (omega (arith, r.0), omega (arith, r.1))

-- ---- how many pairs

-- the number of pairs whose smaller vertex is below k, of n vertices
unfoldable pub pairs_below : ℕ → ℕ → ℕ
pairs_below n zero = 0
pairs_below n (suc k) = pairs_below n k + (n - suc k)

below_wider : (n k : ℕ) → n ≤ 20 → pairs_below n k ≤ pairs_below 20 k
unfolding pairs_below
below_wider n zero h = omega arith
below_wider n (suc k) h = omega (arith, below_wider n k h)

below_more : (k j : ℕ) → pairs_below 20 k ≤ pairs_below 20 (k + j)
unfolding pairs_below
below_more k zero = let e : k + 0 ≡ k = omega arith in rw e (omega arith)
below_more k (suc j) = let e : k + suc j ≡ suc (k + j) = omega arith in rw e (omega (arith, below_more k j))

below_all : (n k : ℕ) → n ≤ 20 → k ≤ 20 → pairs_below n k ≤ 190
unfolding pairs_below
below_all n k h l = let e : k + (20 - k) ≡ 20 = omega arith in
    let all : pairs_below 20 k ≤ pairs_below 20 20 = rw e at (below_more k (20 - k)) in omega (arith, below_wider n k h)

from_more : (n : ℕ) (l : List ℕ) (v : ℕ) → pairs_from n (l ++ (v ∷ [])) ≡ pairs_from n l ++ pairs_above n v
unfolding pairs_from pairs_above flat_map
from_more n l v =
    flat_map_append (pairs_above n) l (v ∷ [])
    ∙ ap (λ (r : List Pair). pairs_from n l ++ r) (append-nil (pairs_above n v))

above_length : (n v : ℕ) → length (pairs_above n v) ≡ n - suc v
unfolding pairs_above above
above_length n v = length-map (count_from (suc v) (n - suc v)) (λ (w : ℕ). (v, w)) ∙ count_length (suc v) (n - suc v)

-- What the loops over openers need of them: each is a vertex, and no earlier than its place.
pub record Rising (n : ℕ) (l : List ℕ) : Type 0 where
  pub at_least : (k : ℕ) → k < length l → k ≤ get_or l k 0
  pub below : (k : ℕ) → k < length l → get_or l k 0 < n

pub openers_rise : (rows : List Row) (n : ℕ) → Rising n (vertex_openers rows [] (count_from 0 n))
openers_rise rows n = record {
  at_least = λ k h. let r = opener_range rows [] 0 n k h in omega (arith, r.0);
  below = λ k h. let r = opener_range rows [] 0 n k h in omega (arith, r.1);
}

module _ (n : ℕ) (l : List ℕ) (rise : Rising n l) where
  from_few : (k : ℕ) → k ≤ length l → length (pairs_from n (take k l)) ≤ pairs_below n k
  unfolding pairs_below pairs_from flat_map
  from_few zero h = omega arith
  from_few (suc k) h =
      let e : take (suc k) l ≡ take k l ++ (get_or l k 0 ∷ []) = take-suc l k 0 (omega arith) in
      let len : length (pairs_from n (take (suc k) l)) ≡ length (pairs_from n (take k l)) + (n - suc (get_or l k 0)) =
      ap (λ (r : List ℕ). length (pairs_from n r)) e ∙ (ap length (from_more n (take k l) (get_or l k 0))
      ∙ (length-append (pairs_from n (take k l)) (pairs_above n (get_or l k 0))
      ∙ ap (λ (j : ℕ). length (pairs_from n (take k l)) + j) (above_length n (get_or l k 0)))) in
      omega (arith, from_few k (omega arith), rise.at_least k (omega arith))

  -- behind the pairs of the first k openers there is room for those of the next
  pub room : n ≤ 20 → (k count : ℕ) → k < length l → count ≤ length (pairs_from n (take k l))
      → count + (n - (get_or l k 0 + 1)) ≤ 190
  unfolding pairs_below
  room h k count i j =
      omega (
        arith,
        from_few k (omega arith),
        rise.at_least k i,
        rise.below k i,
        below_all n (suc k) h (omega (arith, rise.at_least k i, rise.below k i)),
      )

  pub from_vertices : (p : Pair) → Mem p (pairs_from n l) → (p.0 < n) × (p.1 < n)
  unfolding pairs_from above
  from_vertices p h =
      let r = of_flat_map (λ (v : ℕ). map (λ (w : ℕ). (v, w)) (above n v)) p l h in
      let q = of_map (λ (w : ℕ). (r.0, w)) p (above n r.0) r.2 in
      let a = at_member r.0 l 0 r.1 in
      let b = of_count (suc r.0) (n - suc r.0) q.0 q.1 in
      let first : p.0 ≡ r.0 = ap (λ (x : Pair). x.0) q.2 in
      let second : p.1 ≡ q.0 = ap (λ (x : Pair). x.1) q.2 in
      (omega (arith, rise.below a.0 a.1, a.2), omega (arith, rise.below a.0 a.1, a.2, b.1))

-- ---- the walk along the pairs of one vertex, and along openers

module _ (images : Pair → List ℕ) (skip : Pair → Bool) (marks : List Bool) where
  -- the pairs (v, w') with w' below w
  abbrev pub up_to : ℕ → ℕ → List Pair
  up_to v w = map (λ (u : ℕ). (v, u)) (count_from (suc v) (w - suc v))

  up_more : (v w : ℕ) → v < w → up_to v (w + 1) ≡ up_to v w ++ ((v, w) ∷ [])
  up_more v w h =
      let e : w + 1 - suc v ≡ w - suc v + 1 = omega arith in
      let f : suc v + (w - suc v) ≡ w = omega arith in
      ap (λ (j : ℕ). map (λ (u : ℕ). (v, u)) (count_from (suc v) j)) e
      ∙ (ap (map (λ (u : ℕ). (v, u))) (count_more (suc v) (w - suc v)
      ∙ ap (λ (u : ℕ). count_from (suc v) (w - suc v) ++ (u ∷ [])) f)
      ∙ map-append (λ (u : ℕ). (v, u)) (count_from (suc v) (w - suc v)) (w ∷ []))

  abbrev pub found_up : ℕ → ℕ → List Pair
  found_up v w = walked pair_code images skip marks (up_to v w)

  abbrev pub marks_up : ℕ → ℕ → List Bool
  marks_up v w = marks_after pair_code images skip marks (up_to v w)

  pub up_none : (v : ℕ) → (found_up v (v + 1) ≡ []) × (marks_up v (v + 1) ≡ marks)
  unfolding walked marks_after count_from
  up_none v = let e : v + 1 - suc v ≡ 0 = omega arith in (rw e refl, rw e refl)

  found_up_holds : (v w : ℕ) → v < w
      → found_up v (w + 1) ≡ found_up v w ++ walked pair_code images skip (marks_up v w) ((v, w) ∷ [])
  found_up_holds v w h =
      ap (walked pair_code images skip marks) (up_more v w h)
      ∙ walked_append pair_code images skip marks (up_to v w) ((v, w) ∷ [])

  marks_up_holds : (v w : ℕ) → v < w
      → marks_up v (w + 1) ≡ marks_after pair_code images skip (marks_up v w) ((v, w) ∷ [])
  marks_up_holds v w h =
      ap (marks_after pair_code images skip marks) (up_more v w h)
      ∙ marks_append pair_code images skip marks (up_to v w) ((v, w) ∷ [])

  -- what the turn at w leaves
  module _ (v w : ℕ) (h : v < w) (before : List Pair) {pairs : List Pair} {now : List Bool}
      (pairs_are : pairs ≡ before ++ found_up v w) (marks_are : now ≡ marks_up v w) where
    turn : {r : List Pair} {t : List Bool} → (r ≡ pairs ++ walked pair_code images skip now ((v, w) ∷ []))
        × (t ≡ marks_after pair_code images skip now ((v, w) ∷ []))
        → (r ≡ before ++ found_up v (w + 1)) × (t ≡ marks_up v (w + 1))
    turn one = (
      rw (
        found_up_holds v w h,
        ← (append_assoc before (found_up v w) (walked pair_code images skip (marks_up v w) ((v, w) ∷ []))),
        ← pairs_are,
        ← marks_are,
      ) one.0,
      rw (marks_up_holds v w h, ← marks_are) one.1,
    )

    pub pair_marked : get_or now (20 * v + w) false ≡ true
        → (pairs ≡ before ++ found_up v (w + 1)) × (now ≡ marks_up v (w + 1))
    unfolding passed pair_code
    pair_marked e = turn (item_passed pair_code images skip now (v, w) pairs (rw e refl))

    pub pair_skipped : get_or now (20 * v + w) false ≡ false → skip (v, w) ≡ true
        → (pairs ≡ before ++ found_up v (w + 1)) × (now ≡ marks_up v (w + 1))
    unfolding passed pair_code
    pair_skipped e f = turn (item_passed pair_code images skip now (v, w) pairs (rw (e, f) refl))

    pub pair_opened : get_or now (20 * v + w) false ≡ false → skip (v, w) ≡ false → {r : List Pair} {t : List Bool}
        → r ≡ pairs ++ ((v, w) ∷ []) → t ≡ marked now (images (v, w))
        → (r ≡ before ++ found_up v (w + 1)) × (t ≡ marks_up v (w + 1))
    unfolding passed pair_code
    pair_opened e f p g = turn (item_opened pair_code images skip now (v, w) pairs (rw (e, f) refl) p g)

  pub up_few : (v w : ℕ) → length (found_up v w) ≤ w - suc v
  up_few v w =
      let e : length (up_to v w) ≡ length (count_from (suc v) (w - suc v)) =
      length-map {B = Pair} (count_from (suc v) (w - suc v)) (λ (u : ℕ). (v, u)) in
      let f = count_length (suc v) (w - suc v) in
      omega (arith, walked_fewer pair_code images skip marks (up_to v w))

  pub up_room : (before pairs : List Pair) (v w : ℕ) → pairs ≡ before ++ found_up v w
      → length pairs ≤ length before + (w - suc v)
  up_room before pairs v w e =
      let same = ap length e in
      omega (arith, same, length-append before (found_up v w), up_few v w)

  pub up_all : (n v w : ℕ) → w ≡ n → up_to v w ≡ pairs_above n v
  unfolding pairs_above above
  up_all n v w e = rw e refl

  module _ (n : ℕ) (l : List ℕ) where
    abbrev pub found_from : ℕ → List Pair
    found_from k = walked pair_code images skip marks (pairs_from n (take k l))

    abbrev pub marks_from : ℕ → List Bool
    marks_from k = marks_after pair_code images skip marks (pairs_from n (take k l))

    pub from_none : (found_from 0 ≡ []) × (marks_from 0 ≡ marks)
    unfolding walked marks_after pairs_from flat_map
    from_none = (refl, refl)

    next : (k : ℕ) → k < length l
        → pairs_from n (take (k + 1) l) ≡ pairs_from n (take k l) ++ pairs_above n (get_or l k 0)
    next k h = ap (pairs_from n) (take_more l k 0 h) ∙ from_more n (take k l) (get_or l k 0)

    pub found_from_holds : (k : ℕ) → k < length l → found_from (k + 1)
        ≡ found_from k ++ walked pair_code images skip (marks_from k) (pairs_above n (get_or l k 0))
    found_from_holds k h =
        ap (walked pair_code images skip marks) (next k h)
        ∙ walked_append pair_code images skip marks (pairs_from n (take k l)) (pairs_above n (get_or l k 0))

    pub marks_from_holds : (k : ℕ) → k < length l
        → marks_from (k + 1) ≡ marks_after pair_code images skip (marks_from k) (pairs_above n (get_or l k 0))
    marks_from_holds k h =
        ap (marks_after pair_code images skip marks) (next k h)
        ∙ marks_append pair_code images skip marks (pairs_from n (take k l)) (pairs_above n (get_or l k 0))
