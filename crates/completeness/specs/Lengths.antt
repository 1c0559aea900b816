-- What the lengths of workspace and answer buffer change. A job has an outcome by itself (`alone`), and the buffer
-- only adds 17; a longer workspace only takes 12 away. So an accepted job has the same bytes with every longer
-- workspace and every room from its length on, and a refused one the same refusal, unless it is 12 or 17. Leans on
-- Refusals.
use Rattle.std.specs.Prelude.{◌≡◌, refl, ◌⊎◌, Bool, not, List, [], ◌∷◌, ℕ, ◌≤◌, ◌<◌, T, ltb}
use Rattle.std.proofs.Common.{sym, subst, ◌∙◌, inl, inr, arith, le→leb, nltb→le, ltb→lt}
use Rattle.std.proofs.Math.Path.{ap}
use Rattle.std.proofs.Math.Bool.{true, false}
use Rattle.std.proofs.Math.Dec.{leb, leb→le}
use Rattle.std.proofs.Math.ListN.{length}
use Rattle.definitions.specs.Outcome.{Outcome, refused, answered, and_then, refuse_if}
use Rattle.definitions.specs.Recursion.{Answer}
use Rattle.definitions.specs.Job.{Bytes, Job, Test, between, read_job, workspace_for, job_tests, workspace_tests, tests}
use Rattle.definitions.specs.Job.{pass_all, bounds1, call_of, answer_bytes, alone, fitting, outcome_within, outcome}
use Rattle.laws.specs.Bools.{false→fails, true→holds, holds→true}
use Rattle.laws.specs.Outcomes.{answered_before, not_refused_if}
use Rattle.laws.specs.Refusals.{pass_all_append}
use Rattle.completeness.specs.Refusals.{RefusedBy, RefusedWithin, is_test, is_version_test, same_number}
use Rattle.completeness.specs.Refusals.{answer_is_no_refusal, by_answer, by_then, by_tests, wider, call_refusals}
use Rattle.completeness.specs.Refusals.{test_number}

-- ---- the outcome before the buffer

-- a job's call and its bytes
job_call_refusals : (job : Job)
    → RefusedWithin 13 16 (and_then (call_of bounds1 job) (λ (a : Answer). answered (answer_bytes job.budget a)))
unfolding call_of
job_call_refusals job = by_then _ _ (call_refusals _ _ _ _ _ _) (λ a. by_answer)

then_then : {A B C : Type 0} (o : Outcome A) (f : A → Outcome B) (g : B → Outcome C)
    → and_then (and_then o f) g ≡ and_then o (λ a. and_then (f a) g)
unfolding and_then
then_then (refused number) f g = refl
then_then (answered a) f g = refl

pass_then : {A B : Type 0} (ts : List Test) (next : Unit {0} → Outcome A) (g : A → Outcome B)
    → and_then (pass_all ts next) g ≡ pass_all ts (λ u. and_then (next u) g)
unfolding pass_all refuse_if and_then
pass_then [] next g = refl
pass_then (t ∷ ts) next g = go (not (t.passes tt)) (pass_then ts next g)
  where
    go : (b : Bool) → and_then (pass_all ts next) g ≡ pass_all ts (λ u. and_then (next u) g)
        → and_then (refuse_if b t.number (λ u. pass_all ts next)) g
        ≡ refuse_if b t.number (λ u. pass_all ts (λ v. and_then (next v) g))
    go true ih = refl
    go false ih = ih

-- the buffer's length matters once it is known
pub outcome_alone : (bytes : Bytes) (workspace room : ℕ)
    → outcome bytes workspace room ≡ and_then (alone bytes workspace) (fitting room)
unfolding outcome outcome_within alone and_then
outcome_alone bytes workspace room =
    let job = read_job bytes in
    let written : Answer → Outcome Bytes = λ a. answered (answer_bytes job.budget a) in
    sym
    (pass_then (tests bytes workspace) (λ u. and_then (call_of bounds1 job) written) (fitting room)
    ∙ ap (λ (o : Outcome Bytes). pass_all (tests bytes workspace) (λ u. o))
    (then_then (call_of bounds1 job) written (fitting room)))

-- and it is never 17 itself
pub never_17 : (bytes : Bytes) (workspace : ℕ) → RefusedBy (λ (n : ℕ). n ≡ 17 → ⊥) (alone bytes workspace)
unfolding alone is_test is_version_test between
never_17 bytes workspace =
    by_tests (tests bytes workspace) _ (λ t i e. subst (λ (n : ℕ). T (is_test n)) e (test_number bytes workspace t i))
    (wider _ _ (λ n h e. omega (arith, h.1)) (job_call_refusals (read_job bytes)))

-- ---- a longer workspace

-- the test of the workspace comes behind the job's own, which no length decides but the job's
twelfth : {A : Type 0} (bytes : Bytes) (workspace : ℕ) (next : Unit {0} → Outcome A)
    → pass_all (tests bytes workspace) next
    ≡ pass_all (job_tests bytes) (λ u. refuse_if (not (leb (workspace_for (read_job bytes).rank) workspace)) 12 next)
unfolding tests workspace_tests pass_all
twelfth bytes workspace next = pass_all_append (job_tests bytes) (workspace_tests bytes workspace) next

-- tests passed before two outcomes that go on alike
pass_same : {A : Type 0} (ts : List Test) (f g : Unit {0} → Outcome A) (o : Outcome A) → (f tt ≡ o → g tt ≡ o)
    → pass_all ts f ≡ o → pass_all ts g ≡ o
unfolding pass_all refuse_if
pass_same [] f g o h e = h e
pass_same (t ∷ ts) f g o h e = go (not (t.passes tt)) (pass_same ts f g o h) e
  where
    go : (b : Bool) → (pass_all ts f ≡ o → pass_all ts g ≡ o) → refuse_if b t.number (λ u. pass_all ts f) ≡ o
        → refuse_if b t.number (λ u. pass_all ts g) ≡ o
    go true ih q = q
    go false ih q = ih q

module _ (bytes : Bytes) (workspace other : ℕ) where
  abbrev need : ℕ
  need = workspace_for (read_job bytes).rank

  abbrev next : Unit {0} → Outcome Bytes
  next =
      λ u.
      and_then (call_of bounds1 (read_job bytes)) (λ (a : Answer). answered (answer_bytes (read_job bytes).budget a))

  -- an outcome that passes from the one twelfth test to the other
  by_twelfth : (o : Outcome Bytes)
      → (refuse_if (not (leb need workspace)) 12 next ≡ o → refuse_if (not (leb need other)) 12 next ≡ o)
      → alone bytes workspace ≡ o → alone bytes other ≡ o
  unfolding alone
  by_twelfth o h e =
      twelfth bytes other next
      ∙ pass_same (job_tests bytes) (λ u. refuse_if (not (leb need workspace)) 12 next)
      (λ u. refuse_if (not (leb need other)) 12 next) o h (sym (twelfth bytes workspace next) ∙ e)

  -- a longer workspace changes nothing but 12
  pub alone_grows : workspace ≤ other → (o : Outcome Bytes) → (o ≡ refused 12 → ⊥) → alone bytes workspace ≡ o
      → alone bytes other ≡ o
  unfolding refuse_if
  alone_grows longer o n = by_twelfth o (go (leb need workspace) refl)
    where
      go : (b : Bool) → leb need workspace ≡ b → refuse_if (not b) 12 next ≡ o
          → refuse_if (not (leb need other)) 12 next ≡ o
      go true e q =
          let k = leb→le need workspace (true→holds e) in
          ap (λ (b : Bool). refuse_if (not b) 12 next) (holds→true (leb need other) (le→leb need other (omega arith)))
          ∙ q
      go false e q = absurd (n (sym q))

  -- and no workspace changes a refusal before 12
  pub alone_early : (number : ℕ) → (12 ≤ number → number ≤ 17 → ⊥) → alone bytes workspace ≡ refused number
      → alone bytes other ≡ refused number
  unfolding refuse_if
  alone_early number early = by_twelfth (refused number) (λ q. absurd (go (leb need workspace) q))
    where
      go : (b : Bool) → refuse_if (not b) 12 next ≡ refused number → ⊥
      go true q = let k = (job_call_refusals (read_job bytes)).number_is number q in early (omega arith) (omega arith)
      go false q = let k = same_number {A = Bytes} 12 number q in early (omega arith) (omega arith)

-- ---- the outcome

fits : (room : ℕ) (answer : Bytes) → length answer ≤ room → fitting room answer ≡ answered answer
unfolding fitting refuse_if
fits room answer h = go (ltb room (length answer)) refl
  where
    go : (b : Bool) → ltb room (length answer) ≡ b → refuse_if b 17 (λ u. answered answer) ≡ answered answer
    go true e = let k = ltb→lt room (length answer) (true→holds e) in absurd (omega arith)
    go false e = refl

does_not_fit : (room : ℕ) (answer : Bytes) (number : ℕ) → fitting room answer ≡ refused number
    → (number ≡ 17) × (room < length answer)
unfolding fitting refuse_if
does_not_fit room answer number e = go (ltb room (length answer)) refl e
  where
    go : (b : Bool) → ltb room (length answer) ≡ b → refuse_if b 17 (λ u. answered answer) ≡ refused number
        → (number ≡ 17) × (room < length answer)
    go true t q = (sym (same_number {A = Bytes} 17 number q), ltb→lt room (length answer) (true→holds t))
    go false t q = absurd (answer_is_no_refusal answer number q)

-- what an outcome says of the job alone
record AnsweredAlone (bytes : Bytes) (workspace room : ℕ) (answer : Bytes) : Type 0 where
  is_alone : alone bytes workspace ≡ answered answer
  short : length answer ≤ room

answered_alone : (bytes : Bytes) (workspace room : ℕ) (answer : Bytes)
    → outcome bytes workspace room ≡ answered answer → AnsweredAlone bytes workspace room answer
unfolding fitting
answered_alone bytes workspace room answer e =
    let a =
    answered_before (alone bytes workspace) (fitting room) answer (sym (outcome_alone bytes workspace room) ∙ e) in
    let b = not_refused_if (ltb room (length a.0)) 17 (λ u. answered a.0) answer a.2 in
    let same : a.0 ≡ answer = same_answer a.0 b.1 in
    let k = nltb→le room (length a.0) (false→fails b.0) in
    let n = ap length same in
    record { is_alone = a.1 ∙ ap answered same; short = omega arith }
  where
    same_answer : (x : Bytes) → answered x ≡ answered answer → x ≡ answer
    same_answer x q = cc

-- an answer that is longer than the room
record TooLong (bytes : Bytes) (workspace room number : ℕ) : Type 0 where
  is_17 : number ≡ 17
  answer : Bytes
  is_alone : alone bytes workspace ≡ answered answer
  long : room < length answer

refused_alone : (bytes : Bytes) (workspace room number : ℕ) → outcome bytes workspace room ≡ refused number
    → (alone bytes workspace ≡ refused number) ⊎ TooLong bytes workspace room number
unfolding and_then
refused_alone bytes workspace room number e =
    go (alone bytes workspace) refl (sym (outcome_alone bytes workspace room) ∙ e)
  where
    go : (o : Outcome Bytes) → alone bytes workspace ≡ o → and_then o (fitting room) ≡ refused number
        → (alone bytes workspace ≡ refused number) ⊎ TooLong bytes workspace room number
    go (refused n) is q = inl (is ∙ ap refused (same_number {A = Bytes} n number q))
    go (answered answer) is q =
        let d = does_not_fit room answer number q in
        inr (record { is_17 = d.0; answer = answer; is_alone = is; long = d.1 })

module _ (bytes : Bytes) (workspace room : ℕ) where
  -- an accepted job: the same bytes with every longer workspace and every room from its length on
  pub answer_stays : (answer : Bytes) → outcome bytes workspace room ≡ answered answer → (longer space : ℕ)
      → workspace ≤ longer → length answer ≤ space → outcome bytes longer space ≡ answered answer
  unfolding and_then
  answer_stays answer e longer space h k =
      let a = answered_alone bytes workspace room answer e in
      let is = alone_grows bytes workspace longer h (answered answer) (answer_is_no_refusal answer 12) a.is_alone in
      outcome_alone bytes longer space ∙ ap (λ (o : Outcome Bytes). and_then o (fitting space)) is ∙ fits space answer k

  -- a refused one: the same refusal with every longer workspace and every room, unless it is 12 or 17
  pub refusal_stays : (number : ℕ) → outcome bytes workspace room ≡ refused number → (number ≡ 12 → ⊥)
      → (number ≡ 17 → ⊥)
      → (longer space : ℕ) → workspace ≤ longer → outcome bytes longer space ≡ refused number
  unfolding and_then
  refusal_stays number e not-12 not-17 longer space h = go (refused_alone bytes workspace room number e)
    where
      go : (alone bytes workspace ≡ refused number) ⊎ TooLong bytes workspace room number
          → outcome bytes longer space ≡ refused number
      go (inl a) =
          let is = alone_grows bytes workspace longer h (refused number)
          (λ q. not-12 (same_number {A = Bytes} number 12 q)) a in
          outcome_alone bytes longer space ∙ ap (λ (o : Outcome Bytes). and_then o (fitting space)) is
      go (inr x) = absurd (not-17 x.is_17)

  -- with every workspace whatever, where it is looked for before 12: a number that is not 12 to 17
  pub early_refusal_stays : (number : ℕ) → outcome bytes workspace room ≡ refused number
      → (12 ≤ number → number ≤ 17 → ⊥) → (other space : ℕ) → outcome bytes other space ≡ refused number
  unfolding and_then
  early_refusal_stays number e early other space = go (refused_alone bytes workspace room number e)
    where
      go : (alone bytes workspace ≡ refused number) ⊎ TooLong bytes workspace room number
          → outcome bytes other space ≡ refused number
      go (inl a) =
          outcome_alone bytes other space
          ∙ ap (λ (o : Outcome Bytes). and_then o (fitting space)) (alone_early bytes workspace other number early a)
      go (inr x) = let k = x.is_17 in absurd (early (omega arith) (omega arith))

  -- and 17 is an answer that does not fit: with room enough it is given
  pub seventeen_means : outcome bytes workspace room ≡ refused 17
      → (answer : Bytes) × (room < length answer) × (outcome bytes workspace (length answer) ≡ answered answer)
  unfolding and_then
  seventeen_means e = go (refused_alone bytes workspace room 17 e)
    where
      go : (alone bytes workspace ≡ refused 17) ⊎ TooLong bytes workspace room 17
          → (answer : Bytes) × (room < length answer) × (outcome bytes workspace (length answer) ≡ answered answer)
      go (inl a) = absurd ((never_17 bytes workspace).number_is 17 a refl)
      go (inr x) =
          let many = length x.answer in (
            x.answer,
            x.long,
            outcome_alone bytes workspace many
                ∙ ap (λ (o : Outcome Bytes). and_then o (fitting many)) x.is_alone ∙ fits many x.answer (omega arith),
          )
