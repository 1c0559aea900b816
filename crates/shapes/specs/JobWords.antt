-- Every number of an accepted job's answer is a u32, so its bytes lose nothing of it. What a job guarantees (2 to 20
-- points, 1 to 120 rows, a budget of four bytes) and the bounds of its rules keep every number of the answer below
-- 2^32, at every rank whose figures are few enough: `fewest` is where a further rank joins. Leans on AnswerWords and
-- Jobs.
use Rattle.std.specs.Prelude.{refl, List, [], ◌∷◌, ℕ, zero, suc, ◌≤◌, ◌<◌, T, length, take, drop}
use Rattle.std.proofs.Common.{arith, length-take}
use Rattle.definitions.specs.Job.{Bytes, little, number_at, read_job, between, header_tests, value_tests, job_tests}
use Rattle.laws.specs.Lists.{Mem, here, there}
use Rattle.laws.specs.Refusals.{AllPassed, passes_at, passed}
use Rattle.laws.specs.Pairs.{in_take}

-- 2^32, the number of different u32
abbrev pub u32s : ℕ
u32s = 4294967296

-- ---- the budget

-- bytes are numbers below 256
pub record AreBytes (bytes : Bytes) : Type 0 where
  pub byte : (b : ℕ) → Mem b bytes → b < 256

of_dropped : {A : Type 0} (n : ℕ) (x : A) (l : List A) → Mem x (drop n l) → Mem x l
of_dropped zero x l m = m
of_dropped (suc n) x [] m = m
of_dropped (suc n) x (y ∷ l) m = there (of_dropped n x l m)

four_bytes : (l : Bytes) → ((b : ℕ) → Mem b l → b < 256) → length l ≤ 4 → little l < u32s
unfolding little
four_bytes [] h k = omega arith
four_bytes (a ∷ []) h k = let x = h a (here refl) in omega arith
four_bytes (a ∷ b ∷ []) h k = let x = h a (here refl) in let y = h b (there (here refl)) in omega arith
four_bytes (a ∷ b ∷ c ∷ []) h k =
    let x = h a (here refl) in
    let y = h b (there (here refl)) in
    let z = h c (there (there (here refl))) in
    omega arith
four_bytes (a ∷ b ∷ c ∷ d ∷ []) h k =
    let x = h a (here refl) in
    let y = h b (there (here refl)) in
    let z = h c (there (there (here refl))) in
    let w = h d (there (there (there (here refl)))) in
    omega arith
four_bytes (a ∷ b ∷ c ∷ d ∷ e ∷ l) h k = absurd (omega arith)

number_below : (bytes : Bytes) → AreBytes bytes → (at : ℕ) → number_at bytes at 4 < u32s
unfolding number_at
number_below bytes are at =
    let k = length-take 4 (drop at bytes) in
    four_bytes (take 4 (drop at bytes)) (λ b m. are.byte b (of_dropped at b bytes (in_take 4 b (drop at bytes) m)))
    (omega arith)

pub budget_below : (bytes : Bytes) → AreBytes bytes → (read_job bytes).budget < u32s
unfolding read_job
budget_below bytes are = number_below bytes are _

-- ---- the ranks of jobs

pub rank_passed : (bytes : Bytes) → AllPassed (job_tests bytes) → T (between 2 4 (read_job bytes).rank)
unfolding passes_at job_tests header_tests value_tests
rank_passed bytes h = passed 3 (job_tests bytes) h
