-- A row cut into its jobs [15.1], job by job: more steps than bytes make no difference, so that what is behind a job
-- is a row itself. Leans on the definition of a row.
use Rattle.std.specs.Prelude.{◌≡◌, Bool, true, false, List, [], ◌∷◌, ℕ, zero, suc, ◌+◌, ◌-◌, ◌≤◌, ◌<◌, T, ltb, eqb}
use Rattle.std.specs.Prelude.{length, take, drop}
use Rattle.std.proofs.Math.Path.{refl, ap}
use Rattle.std.proofs.Common.{sym, ◌∙◌, subst, ⊎_elim, arith, length-drop, drop-drop}
use borrow.Author.Tests.{lt-ltb, le-ltb, eq-eqb, ne_eqb}
use Rattle.definitions.specs.Outcome.{Outcome, refused, answered, and_then, refuse_if}
use Rattle.definitions.specs.Job.{Bytes, number_at}
use Rattle.laws.specs.Segments.{le_or_lt}
use Rattle.completeness.specs.Refusals.{RefusedWithin, by_answer, by_test, by_then}
use Rattle.definitions.specs.Batch.{cut_row, jobs_in}

-- ---- one step

-- the number of bytes of the first job
abbrev pub first_length : Bytes → ℕ
first_length row = number_at row 0 4

-- what is behind the first job
abbrev pub behind_first : Bytes → Bytes
behind_first row = drop (4 + first_length row) row

-- the first job in front of the others
abbrev pub with_first : Bytes → List Bytes → Outcome (List Bytes)
with_first row others = answered (take (first_length row) (drop 4 row) ∷ others)

-- a step, where something is left: the two tests, and then the rest
abbrev step_of : Bytes → Outcome (List Bytes) → Outcome (List Bytes)
step_of row rest =
    refuse_if (ltb (length row) 4) 26
    (λ u. refuse_if (ltb (length row - 4) (first_length row)) 26 (λ v. and_then rest (with_first row)))

some_left : (row : Bytes) → 0 < length row → eqb 0 (length row) ≡ false
some_left row h = ne_eqb 0 (length row) (λ e. omega arith)

cut_some : (steps : ℕ) (row : Bytes) → 0 < length row
    → cut_row (suc steps) row ≡ step_of row (cut_row steps (behind_first row))
unfolding cut_row
cut_some steps row h = rw (some_left row h, cut_row) refl

cut_none : (steps : ℕ) (row : Bytes) → length row ≡ 0 → cut_row steps row ≡ answered []
unfolding cut_row refuse_if
cut_none zero row h = ap (λ (b : Bool). refuse_if b 26 (λ u. answered [])) (le-ltb 0 (length row) (omega arith))
cut_none (suc steps) row h = rw (eq-eqb 0 (length row) (sym h), cut_row) refl

shorter : (row : Bytes) (n : ℕ) → length row ≤ suc n → length (behind_first row) ≤ n
shorter row n h = let k = length-drop (4 + first_length row) row in omega arith

-- as many steps as bytes are enough
cut_same : (m n : ℕ) (row : Bytes) → length row ≤ m → length row ≤ n → cut_row m row ≡ cut_row n row
cut_same zero n row h k = cut_none zero row (omega arith) ∙ sym (cut_none n row (omega arith))
cut_same (suc m) zero row h k = cut_none (suc m) row (omega arith) ∙ sym (cut_none zero row (omega arith))
cut_same (suc m) (suc n) row h k =
    go (length row) refl (cut_same m n (behind_first row) (shorter row m h) (shorter row n k))
  where
    go : (many : ℕ) → length row ≡ many → cut_row m (behind_first row) ≡ cut_row n (behind_first row)
        → cut_row (suc m) row ≡ cut_row (suc n) row
    go zero e same = cut_none (suc m) row e ∙ sym (cut_none (suc n) row e)
    go (suc many) e same = cut_some m row (omega arith) ∙ (ap (step_of row) same ∙ sym (cut_some n row (omega arith)))

step : (row : Bytes) → 0 < length row → jobs_in row ≡ step_of row (jobs_in (behind_first row))
unfolding jobs_in
step row h = go (length row) refl
  where
    go : (many : ℕ) → length row ≡ many
        → cut_row (length row) row ≡ step_of row (cut_row (length (behind_first row)) (behind_first row))
    go zero e = absurd (omega arith)
    go (suc many) e =
        ap (λ (steps : ℕ). cut_row steps row) e
        ∙ (cut_some many row h ∙ ap (step_of row) (cut_same many (length (behind_first row)) (behind_first row)
        (shorter row many (omega arith)) (omega arith)))

-- ---- the three ways a row begins

module _ (row : Bytes) where
  pub cut_empty : length row ≡ 0 → jobs_in row ≡ answered []
  unfolding jobs_in
  cut_empty h = cut_none (length row) row h

  pub cut_remainder : 0 < length row → length row < 4 → jobs_in row ≡ refused 26
  unfolding refuse_if
  cut_remainder h k = step row h ∙ rw (lt-ltb (length row) 4 k) refl

  pub cut_overrun : 4 ≤ length row → length row - 4 < first_length row → jobs_in row ≡ refused 26
  unfolding refuse_if
  cut_overrun h k =
      step row (omega arith) ∙ rw (le-ltb (length row) 4 h, lt-ltb (length row - 4) (first_length row) k) refl

  pub cut_first : 4 ≤ length row → first_length row ≤ length row - 4
      → jobs_in row ≡ and_then (jobs_in (behind_first row)) (with_first row)
  unfolding refuse_if
  cut_first h k =
      step row (omega arith) ∙ rw (le-ltb (length row) 4 h, le-ltb (length row - 4) (first_length row) k) refl

-- ---- whether a row can be cut

unfoldable pub is_cut : Outcome (List Bytes) → Bool
is_cut (refused number) = false
is_cut (answered jobs) = true

pub cut_refused : (number : ℕ) → is_cut (refused number) ≡ true → ⊥
unfolding is_cut
cut_refused number e = subst T (sym e) tt

then_cut : (row : Bytes) (o : Outcome (List Bytes)) → is_cut (and_then o (with_first row)) ≡ is_cut o
unfolding is_cut and_then
then_cut row (refused number) = refl
then_cut row (answered jobs) = refl

module _ (row : Bytes) where
  pub remainder_fails : 0 < length row → length row < 4 → is_cut (jobs_in row) ≡ false
  unfolding is_cut
  remainder_fails h k = ap is_cut (cut_remainder row h k)

  pub overrun_fails : 4 ≤ length row → length row - 4 < first_length row → is_cut (jobs_in row) ≡ false
  unfolding is_cut
  overrun_fails h k = ap is_cut (cut_overrun row h k)

  pub first_passes : 4 ≤ length row → first_length row ≤ length row - 4
      → is_cut (jobs_in row) ≡ is_cut (jobs_in (behind_first row))
  first_passes h k = ap is_cut (cut_first row h k) ∙ then_cut row (jobs_in (behind_first row))

  pub empty_passes : length row ≡ 0 → is_cut (jobs_in row) ≡ true
  unfolding is_cut
  empty_passes h = ap is_cut (cut_empty row h)

  -- a row that can be cut begins with a job, or is empty
  pub begins : is_cut (jobs_in row) ≡ true → 0 < length row → (4 ≤ length row) × (first_length row ≤ length row - 4)
  begins e h = ⊎_elim long (λ k. absurd (against (remainder_fails h k))) (le_or_lt 4 (length row))
    where
      against : is_cut (jobs_in row) ≡ false → ⊥
      against q = subst T (sym e ∙ q) tt

      long : 4 ≤ length row → (4 ≤ length row) × (first_length row ≤ length row - 4)
      long k =
          ⊎_elim (λ a. (k, a)) (λ a. absurd (against (overrun_fails k a)))
          (le_or_lt (first_length row) (length row - 4))

-- what cannot be cut is refused with 26
cut_refusals : (steps : ℕ) (row : Bytes) → RefusedWithin 26 26 (cut_row steps row)
unfolding cut_row
cut_refusals zero row = by_test (ltb 0 (length row)) 26 _ (omega arith, omega arith) by_answer
cut_refusals (suc steps) row = go (eqb 0 (length row)) (cut_refusals steps (behind_first row))
  where
    go : (b : Bool) → RefusedWithin 26 26 (cut_row steps (behind_first row)) → RefusedWithin {A =
        List Bytes} 26 26 (elim b [ true ↦ answered [] | false ↦ step_of row (cut_row steps (behind_first row)) ])
    go true within = by_answer
    go false within =
        by_test (ltb (length row) 4) 26 _ (omega arith, omega arith)
        (by_test (ltb (length row - 4) (first_length row)) 26 _ (
          omega arith,
          omega arith,
        ) (by_then (cut_row steps (behind_first row)) (with_first row) within (λ others. by_answer)))

pub not_cut : (row : Bytes) → is_cut (jobs_in row) ≡ false → jobs_in row ≡ refused 26
unfolding is_cut jobs_in
not_cut row e = go (cut_row (length row) row) refl e
  where
    go : (o : Outcome (List Bytes)) → cut_row (length row) row ≡ o → is_cut o ≡ false → o ≡ refused 26
    go (refused number) q h = let k = (cut_refusals (length row) row).number_is number q in ap refused (omega arith)
    go (answered jobs) q h = absurd (subst T h tt)

-- ---- the loop that looks a row through

-- before `at` there are jobs alone, so that the rest decides
pub record Looked (row : Bytes) (at : ℕ) : Type 0 where
  pub inside : at ≤ length row
  pub same : is_cut (jobs_in (drop at row)) ≡ is_cut (jobs_in row)

pub looked_first : (row : Bytes) → Looked row 0
looked_first row = record { inside = omega arith; same = refl }

module _ {row : Bytes} {at : ℕ} (l : Looked row at) where
  left_length : length (drop at row) ≡ length row - at
  left_length = length-drop at row

  -- the length is read where it stands
  many_is : first_length (drop at row) ≡ number_at row at 4
  unfolding number_at
  many_is = refl

  pub looked_remainder : at < length row → length row - at < 4 → false ≡ is_cut (jobs_in row)
  looked_remainder h k =
      sym (remainder_fails (drop at row) (omega (arith, left_length)) (omega (arith, left_length))) ∙ l.same

  pub looked_overrun : at + 4 ≤ length row → length row - at - 4 < number_at row at 4 → false ≡ is_cut (jobs_in row)
  looked_overrun h k =
      sym (overrun_fails (drop at row) (omega (arith, left_length)) (omega (arith, left_length, many_is))) ∙ l.same

  pub looked_next : at + 4 ≤ length row → number_at row at 4 ≤ length row - at - 4
      → Looked row (at + (4 + number_at row at 4))
  looked_next h k =
      let behind : at + (4 + first_length (drop at row)) ≡ at + (4 + number_at row at 4) = omega (arith, many_is) in
      let next : behind_first (drop at row) ≡ drop (at + (4 + number_at row at 4)) row =
      drop-drop (4 + first_length (drop at row)) at row ∙ ap (λ (j : ℕ). drop j row) behind in
      record {
        inside = omega arith;
        same =
            ap (λ (x : Bytes). is_cut (jobs_in x)) (sym next)
            ∙ (sym (first_passes (drop at row) (omega (arith, left_length)) (omega (arith, left_length, many_is)))
            ∙ l.same);
      }

  pub looked_all : length row ≤ at → true ≡ is_cut (jobs_in row)
  looked_all h = sym (empty_passes (drop at row) (omega (arith, left_length))) ∙ l.same
