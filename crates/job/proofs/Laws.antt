-- What the proofs of the functions cite: each test one step at a time, and the order of the refusals. Assumes nothing.
use mathlib.Core.Path.{◌≡◌, refl, sym, ap, ◌∙◌}
use mathlib.Core.Bool.{Bool, true, false, ◌&&◌}
use mathlib.Core.List.{List, [], ◌∷◌, ◌++◌, map}
use Rattle.std.specs.Prelude.{Option, Some, None, MatchOption}
use Rattle.std.proofs.Common.{drop-cons}
use Rattle.std.specs.List.{list_all, range_with_len}
use Rattle.std.specs.Float.{float_is_finite}
use native.Mathlib.Numerals.{add-one}
use lib.Pointwise.{pointwise}
use Prim.Native.Nat.{ℕ, zero, suc, ◌+◌, ◌-◌, ◌*◌, ◌≤◌, ◌<◌}
use native.Mathlib.Omega.{arith}
use borrow.Author.Tests.{lt-leb, le-leb, eq-eqb, ne_eqb}
use lib.Dec.{leb, eqb, leb→le, eqb→eq}
use lib.IntN.{pos}
use lib.ListN.{length, get_or, take, drop}
use lib.Ieee.{Float, nan, inf, fin, binary64, of_bits, le}
use Rattle.definitions.specs.Lists.{all_of, count_from}
use Rattle.definitions.specs.Vectors.{zero64}
use Rattle.definitions.specs.Job.{Bytes, read_job, float_at, floats_at, vectors_at, between, within, all_within}
use Rattle.definitions.specs.Job.{limit_good, is_finite, floats_good, same_nats, is_permutation, Test}
use Rattle.laws.specs.Bools.{true→holds, first, second}
use Rattle.laws.specs.Refusals.{first_refused, first_one_of, stops, first_refused_append}
use Rattle.laws.specs.Tests.{product_at_most, spaced, spaced_first, all_same, all_spaced, same_first, same_none}
use Rattle.laws.specs.Tests.{between_opposites}
use Rattle.load.specs.declared.Header.{Header}
use Rattle.load.specs.declared.Fields.{Fields}
use Rattle.load.specs.Places.{Counted}
use Rattle.load.specs.Meaning.{fields_of, rows_at, Loadable}
use Rattle.definitions.specs.Outcome.{refused, answered}
use Rattle.job.specs.Refusal.{checked_as, checked_by, has_mark, size_within}
use Rattle.job.specs.Passed.{refused_as, passed_as}

-- ---- the mark

eqb_comm : (a b : ℕ) → eqb a b ≡ eqb b a
eqb_comm a b = go (eqb a b) refl
  where
    go : (r : Bool) → eqb a b ≡ r → eqb a b ≡ eqb b a
    go true e = let same : a ≡ b = eqb→eq a b (true→holds e) in rw same refl
    go false e = e ∙ sym (ne_eqb b a (λ (same : b ≡ a). let no : true ≡ false = sym (eq-eqb a b (sym same)) ∙ e in cc))

-- the letters, as the slice compares them
pub mark_told : (bytes : Bytes) → 11 ≤ length bytes → pointwise eqb (70 ∷ 67 ∷ 84 ∷ []) (take 3 bytes) ≡ has_mark bytes
unfolding has_mark
mark_told [] h = absurd (omega arith)
mark_told (a ∷ []) h = absurd (omega arith)
mark_told (a ∷ b ∷ []) h = absurd (omega arith)
mark_told (a ∷ b ∷ c ∷ rest) h =
    rw (
      le-leb 11 (length (a ∷ b ∷ c ∷ rest)) h,
      same_first,
      same_first,
      same_first,
      same_none,
      eqb_comm 70 a,
      eqb_comm 67 b,
      eqb_comm 84 c,
    ) refl

pub too_short_for_a_mark : (bytes : Bytes) → length bytes < 11 → false ≡ has_mark bytes
unfolding has_mark
too_short_for_a_mark bytes h = rw (lt-leb 11 (length bytes) h) refl

pub marked_long : (bytes : Bytes) → has_mark bytes ≡ true → 11 ≤ length bytes
unfolding has_mark
marked_long bytes e =
    leb→le 11 (length bytes)
    (first (leb 11 (length bytes)) (same_nats (take 3 bytes) (70 ∷ 67 ∷ 84 ∷ [])) (true→holds e))

-- ---- sizes

-- the constants of the code stand for whole numbers
pub within_131072 : (x : Float) → size_within (of_bits binary64 0x4100000000000000) x ≡ within 131072 x
unfolding size_within of_bits
within_131072 x = between_opposites 131072 1 (pos 17) refl x

pub within_65536 : (x : Float) → size_within (of_bits binary64 0x40f0000000000000) x ≡ within 65536 x
unfolding size_within of_bits
within_65536 x = between_opposites 65536 1 (pos 16) refl x

pub within_1 : (x : Float) → size_within (of_bits binary64 0x3ff0000000000000) x ≡ within 1 x
unfolding size_within of_bits
within_1 x = between_opposites 1 1 (pos 0) refl x

pub limit_told : {P : Float → Type 0} (o : Option Float) (r : Bool) → MatchOption o (r ≡ true) P
    → ((x : Float) → P x → r ≡ (size_within (of_bits binary64 0x4100000000000000) x && le zero64 x)) → r ≡ limit_good o
unfolding limit_good
limit_told None r d told = d
limit_told (Some x) r d told = told x d ∙ ap (λ (b : Bool). b && le zero64 x) (within_131072 x)

-- the library's test, and the definition's
pub finite_same : (x : Float) → float_is_finite x ≡ is_finite x
unfolding float_is_finite is_finite
finite_same nan = refl
finite_same (inf s) = refl
finite_same (fin s m e) = refl

-- a test of each of so many that stand apart
pub each_spaced : {A : Type 0} (test : A → Bool) (f : ℕ → A) (stride at many : ℕ)
    → list_all (λ (i : ℕ). test (f (at + stride * i))) (range_with_len 0 many) ≡ all_of test (spaced f stride at many)
unfolding spaced all_of count_from
each_spaced test f stride at many = go 0 many
  where
    go : (a many : ℕ) → list_all (λ (i : ℕ). test (f (at + stride * i))) (range_with_len a many)
        ≡ all_of test (map (λ (i : ℕ). f (at + stride * i)) (count_from a many))
    go a zero = refl
    go a (suc many) = rw (add-one a) (ap (λ (b : Bool). test (f (at + stride * a)) && b) (go (suc a) many))

-- each of n bytes from a place on is its own number
pub each_own : (l : List ℕ) (at n : ℕ) → at + n ≤ length l
    → list_all (λ (i : ℕ). eqb (get_or l (at + i) 0) i) (range_with_len 0 n)
    ≡ same_nats (take n (drop at l)) (count_from 0 n)
unfolding count_from
each_own l at n fits =
    let e : at + 0 ≡ at = omega arith in
    go 0 n (omega arith) ∙ ap (λ (k : ℕ). same_nats (take n (drop k l)) (count_from 0 n)) e
  where
    go : (a many : ℕ) → at + a + many ≤ length l
        → list_all (λ (i : ℕ). eqb (get_or l (at + i) 0) i) (range_with_len a many)
        ≡ same_nats (take many (drop (at + a) l)) (count_from a many)
    go a zero h = sym same_none
    go a (suc many) h =
        let e : at + suc a ≡ suc (at + a) = omega arith in
        rw (add-one a, drop-cons l (at + a) 0 (omega arith), same_first)
        (ap (λ (b : Bool). eqb (get_or l (at + a) 0) a && b) (go (suc a) many (omega arith)
        ∙ ap (λ (k : ℕ). same_nats (take many (drop k l)) (count_from (suc a) many)) e))

-- a run of numbers, as one vector and as several
module _ (c : Float) (most : ℕ) (same : (x : Float) → size_within c x ≡ within most x) (bytes : Bytes) (at : ℕ) where
  pub vector_good : (d : ℕ) → all_of (size_within c) (floats_at bytes at d) ≡ all_within most (floats_at bytes at d)
  unfolding all_within
  vector_good d = all_same (size_within c) (within most) same (floats_at bytes at d)

  pub vectors_good : (d many : ℕ)
      → all_of (size_within c) (floats_at bytes at (d * many)) ≡ all_of (all_within most) (vectors_at bytes at d many)
  unfolding all_within floats_at vectors_at spaced
  vectors_good d many =
      all_same (size_within c) (within most) same (floats_at bytes at (d * many))
      ∙ sym (all_spaced (within most) (float_at bytes) 8 at d many)

-- the tests of the floats, in terms of the fields
module _ (bytes : Bytes) (f : Fields) (k : Loadable bytes f) where
  abbrev limits_good : Bool
  limits_good = limit_good f.limits.shortest && limit_good f.limits.longest && is_finite f.tolerance

  abbrev offset_good : Bool
  offset_good = all_of (size_within (of_bits binary64 0x40f0000000000000)) (floats_at bytes f.offset f.d)

  abbrev basis_good : Bool
  basis_good = all_of (size_within (of_bits binary64 0x3ff0000000000000)) (floats_at bytes f.basis (f.d * (f.rank - 1)))

  abbrev points_good : Bool
  points_good = all_of (size_within (of_bits binary64 0x40f0000000000000)) (floats_at bytes f.points (f.d * f.n))

  floats_are : floats_good (read_job bytes) ≡ (limits_good && offset_good && basis_good && points_good)
  unfolding floats_good
  floats_are =
      rw (
        k.shortest_is,
        k.longest_is,
        k.tolerance_is,
        k.offset_is,
        k.basis_is,
        k.points_is,
        vector_good _ 65536 within_65536 bytes f.offset f.d,
        vectors_good _ 1 within_1 bytes f.basis f.d (f.rank - 1),
        vectors_good _ 65536 within_65536 bytes f.points f.d f.n,
      ) refl

  pub limits_fail : limits_good ≡ false → false ≡ floats_good (read_job bytes)
  limits_fail p = sym (floats_are ∙ ap (λ (z : Bool). z && offset_good && basis_good && points_good) p)

  behind_limits : limits_good ≡ true → floats_good (read_job bytes) ≡ (offset_good && basis_good && points_good)
  behind_limits p = floats_are ∙ ap (λ (z : Bool). z && offset_good && basis_good && points_good) p

  pub offset_fails : limits_good ≡ true → offset_good ≡ false → false ≡ floats_good (read_job bytes)
  offset_fails p r = sym (behind_limits p ∙ ap (λ (z : Bool). z && basis_good && points_good) r)

  behind_offset : limits_good ≡ true → offset_good ≡ true → floats_good (read_job bytes) ≡ (basis_good && points_good)
  behind_offset p r = behind_limits p ∙ ap (λ (z : Bool). z && basis_good && points_good) r

  pub basis_fails : limits_good ≡ true → offset_good ≡ true → basis_good ≡ false → false ≡ floats_good (read_job bytes)
  basis_fails p r s = sym (behind_offset p r ∙ ap (λ (z : Bool). z && points_good) s)

  pub points_decide : limits_good ≡ true → offset_good ≡ true → basis_good ≡ true
      → points_good ≡ floats_good (read_job bytes)
  points_decide p r s = sym (behind_offset p r ∙ ap (λ (z : Bool). z && points_good) s)

-- ---- what the tests of the header leave

at_least : (lowest highest x : ℕ) → between lowest highest x ≡ true → lowest ≤ x
unfolding between
at_least lowest highest x t = leb→le lowest x (first (leb lowest x) (leb x highest) (true→holds t))

at_most : (lowest highest x : ℕ) → between lowest highest x ≡ true → x ≤ highest
unfolding between
at_most lowest highest x t = leb→le x highest (second (leb lowest x) (leb x highest) (true→holds t))

pub counted : (h : Header) → between 2 4 h.rank ≡ true → between (h.rank - 1) 4 h.d ≡ true → between 2 20 h.n ≡ true
    → between 1 120 h.count ≡ true → Counted h
counted h r d n k = record {
  rank_least = at_least 2 4 h.rank r;
  rank_most = at_most 2 4 h.rank r;
  d_least = at_least (h.rank - 1) 4 h.d d;
  d_most = at_most (h.rank - 1) 4 h.d d;
  n_least = at_least 2 20 h.n n;
  n_most = at_most 2 20 h.n n;
  count_least = at_least 1 120 h.count k;
  count_most = at_most 1 120 h.count k;
}

pub rank_above_zero : (rank : ℕ) → between 2 4 rank ≡ true → 1 ≤ rank
rank_above_zero rank e = let l = at_least 2 4 rank e in omega arith

first_item_of : (bytes : Bytes) (at n count : ℕ) → 1 ≤ count
    → get_or (rows_at bytes at n count) 0 [] ≡ take n (drop at bytes)
unfolding rows_at spaced
first_item_of bytes at n count h =
    let e : count ≡ suc (count - 1) = omega arith in
    ap (λ (k : ℕ). get_or (rows_at bytes at n k) 0 []) e
    ∙ ap (λ (l : List Bytes). get_or l 0 []) (spaced_first (λ (q : ℕ). take n (drop q bytes)) n at (count - 1))

pub first_row_fits : (bytes : Bytes) (f : Fields) → Loadable bytes f → f.rows + f.n ≤ length bytes
first_row_fits bytes f k = let m = product_at_most f.n 1 f.n f.count (omega arith) k.count_least in omega arith

-- row 0, and all rows
pub first_row : (bytes : Bytes) (f : Fields) → Loadable bytes f
    → same_nats (get_or (read_job bytes).rows 0 []) (count_from 0 (read_job bytes).n)
    ≡ same_nats (take f.n (drop f.rows bytes)) (count_from 0 f.n)
first_row bytes f k = rw (k.rows_is, ← k.n_is, first_item_of bytes f.rows f.n f.count k.count_least) refl

pub all_rows : (bytes : Bytes) (f : Fields) → Loadable bytes f
    → all_of (is_permutation (read_job bytes).n) (read_job bytes).rows
    ≡ all_of (is_permutation f.n) (rows_at bytes f.rows f.n f.count)
all_rows bytes f k = rw (k.rows_is, ← k.n_is) refl

-- ---- the order of the refusals

-- a list of tests, and how far it has been passed
module _ (ts : List Test) (bytes : Bytes) where
  -- the first refusal is the first among the tests behind so many
  abbrev pub Reached : ℕ → Type 0
  Reached many = first_refused ts ≡ first_refused (drop many ts)

  -- the first of those left is not passed: it decides
  pub refused_here : (t : Test) (us : List Test) → first_refused ts ≡ first_refused (t ∷ us) → t.passes tt ≡ false
      → refused t.number ≡ checked_by ts bytes
  unfolding checked_by checked_as
  refused_here t us reached fails = sym (ap (checked_as bytes) (stops ts t us reached fails))

  -- none is left
  pub all_passed : first_refused ts ≡ None → (f : Fields) → f ≡ fields_of bytes → answered f ≡ checked_by ts bytes
  unfolding checked_by checked_as
  all_passed none_fails f e = ap answered e ∙ sym (ap (checked_as bytes) none_fails)

-- one list behind another: the first refuses, or leaves it to the second
module _ (ts us : List Test) (bytes : Bytes) where
  pub refused_before : (number : ℕ) → refused number ≡ checked_by ts bytes
      → refused number ≡ checked_by (ts ++ us) bytes
  unfolding checked_by checked_as first_one_of
  refused_before number e =
      sym (ap (checked_as bytes) (first_refused_append ts us
      ∙ ap (λ (o : Option ℕ). first_one_of o (first_refused us)) (refused_as bytes (first_refused ts) number e)))

  pub left_to_second : (f : Fields) → answered f ≡ checked_by ts bytes
      → checked_by us bytes ≡ checked_by (ts ++ us) bytes
  unfolding checked_by checked_as first_one_of
  left_to_second f e =
      sym (ap (checked_as bytes) (first_refused_append ts us
      ∙ ap (λ (o : Option ℕ). first_one_of o (first_refused us)) (passed_as bytes (first_refused ts) f e).0))
