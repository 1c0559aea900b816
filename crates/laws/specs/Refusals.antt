-- Lists of tests in the order in which they refuse: the first that is not passed, what `pass_all` then answers, and a
-- passed test found by its number. Leans on Outcomes.
use Rattle.std.specs.Prelude.{◌≡◌, refl, Bool, true, false, cond, not, ◌&&◌, List, [], ◌∷◌, ◌++◌, ℕ, T, eqb}
use Rattle.std.proofs.Common.{ap, ◌∙◌, true≢false, arith}
use Rattle.std.specs.Prelude.{Option, Some, None}
use Rattle.definitions.specs.Lists.{all_of}
use Rattle.definitions.specs.Outcome.{Outcome, refused, answered, refuse_if}
use Rattle.definitions.specs.Job.{Test, pass_all}
use Rattle.laws.specs.Bools.{both, first, second}
use Rattle.laws.specs.Outcomes.{not_refused_if}

-- ---- the first refusal

-- the number of the first test that is not passed
unfoldable pub first_refused : List Test → Option ℕ
first_refused [] = None
first_refused (t ∷ ts) = let later = first_refused ts in cond (t.passes tt) later (Some t.number)

-- refused with a number, or what follows
unfoldable pub refused_or : {A : Type 0} → Option ℕ → (Unit {0} → Outcome A) → Outcome A
refused_or None next = next tt
refused_or (Some number) next = refused number

pub pass_all_holds : {A : Type 0} (ts : List Test) (next : Unit {0} → Outcome A)
    → pass_all ts next ≡ refused_or (first_refused ts) next
unfolding pass_all first_refused refused_or refuse_if
pass_all_holds [] next = refl
pass_all_holds {A} (t ∷ ts) next = go (t.passes tt) (pass_all_holds ts next)
  where
    go : (b : Bool) → pass_all ts next ≡ refused_or (first_refused ts) next
        → refuse_if (not b) t.number (λ u. pass_all ts next)
        ≡ refused_or (cond b (first_refused ts) (Some t.number)) next
    go true e = e
    go false e = refl

pub pass_all_refused : {A : Type 0} (ts : List Test) (next : Unit {0} → Outcome A) (number : ℕ)
    → first_refused ts ≡ Some number → pass_all ts next ≡ refused number
unfolding refused_or
pass_all_refused ts next number e = pass_all_holds ts next ∙ ap (λ (o : Option ℕ). refused_or o next) e

pub pass_all_passed : {A : Type 0} (ts : List Test) (next : Unit {0} → Outcome A) → first_refused ts ≡ None
    → pass_all ts next ≡ next tt
unfolding refused_or
pass_all_passed ts next e = pass_all_holds ts next ∙ ap (λ (o : Option ℕ). refused_or o next) e

-- a test that is passed leaves it to those behind it, and one that is not decides
pub goes_on : (ts : List Test) (t : Test) (us : List Test) → first_refused ts ≡ first_refused (t ∷ us)
    → t.passes tt ≡ true → first_refused ts ≡ first_refused us
unfolding first_refused
goes_on ts t us e p = e ∙ ap (λ (b : Bool). cond b (first_refused us) (Some t.number)) p

pub stops : (ts : List Test) (t : Test) (us : List Test) → first_refused ts ≡ first_refused (t ∷ us)
    → t.passes tt ≡ false → first_refused ts ≡ Some t.number
unfolding first_refused
stops ts t us e p = e ∙ ap (λ (b : Bool). cond b (first_refused us) (Some t.number)) p

-- the last test is passed, so that none fails
pub ends : (ts : List Test) (t : Test) → first_refused ts ≡ first_refused (t ∷ []) → t.passes tt ≡ true
    → first_refused ts ≡ None
unfolding first_refused
ends ts t e p = goes_on ts t [] e p

-- two lists of tests, one behind the other: the first decides, or leaves it to the second
unfoldable pub first_one_of : Option ℕ → Option ℕ → Option ℕ
first_one_of None later = later
first_one_of (Some number) later = Some number

pub first_refused_append : (ts us : List Test)
    → first_refused (ts ++ us) ≡ first_one_of (first_refused ts) (first_refused us)
unfolding first_refused first_one_of
first_refused_append [] us = refl
first_refused_append (t ∷ ts) us = go (t.passes tt) (first_refused_append ts us)
  where
    go : (b : Bool) → first_refused (ts ++ us) ≡ first_one_of (first_refused ts) (first_refused us)
        → cond b (first_refused (ts ++ us)) (Some t.number)
        ≡ first_one_of (cond b (first_refused ts) (Some t.number)) (first_refused us)
    go true e = e
    go false e = refl

-- ---- tests that are passed

-- every test of a list is passed
abbrev pub AllPassed : List Test → Type 0
AllPassed ts = T (all_of (λ (t : Test). t.passes tt) ts)

-- whether the test of a number is passed; a number that no test has refuses nothing
unfoldable pub passes_at : ℕ → List Test → Bool
passes_at number [] = true
passes_at number (t ∷ ts) = let later = passes_at number ts in cond (eqb number t.number) (t.passes tt) later

-- Where every test is passed, so is the one of a number: at a list that is written out, `passes_at` computes to that
-- test, wherever it stands.
pub passed : (number : ℕ) (ts : List Test) → AllPassed ts → T (passes_at number ts)
unfolding all_of passes_at
passed number [] h = tt
passed number (t ∷ ts) h =
    go (eqb number t.number) (first (t.passes tt) (all_of (λ (u : Test). u.passes tt) ts) h)
    (passed number ts (second (t.passes tt) (all_of (λ (u : Test). u.passes tt) ts) h))
  where
    go : (same : Bool) → T (t.passes tt) → T (passes_at number ts) → T (cond same (t.passes tt) (passes_at number ts))
    go true here later = here
    go false here later = later

some_is_not_none : {number : ℕ} → Some number ≡ None → ⊥
some_is_not_none e = let z : ◌≡◌ {A = ℕ} 0 1 = cc in absurd (omega arith)

pub none_refused : (ts : List Test) → first_refused ts ≡ None → AllPassed ts
unfolding first_refused all_of
none_refused [] e = tt
none_refused (t ∷ ts) e = go (t.passes tt) e (none_refused ts)
  where
    go : (b : Bool) → cond b (first_refused ts) (Some t.number) ≡ None → (first_refused ts ≡ None → AllPassed ts)
        → T (b && all_of (λ (u : Test). u.passes tt) ts)
    go true q rest = rest q
    go false q rest = absurd (some_is_not_none q)

-- the same of a list that stands in front of another, or behind it
pub front_passed : (ts us : List Test) → AllPassed (ts ++ us) → AllPassed ts
unfolding all_of
front_passed [] us h = tt
front_passed (t ∷ ts) us h =
    both (t.passes tt) (all_of (λ (u : Test). u.passes tt) ts)
    (first (t.passes tt) (all_of (λ (u : Test). u.passes tt) (ts ++ us)) h)
    (front_passed ts us (second (t.passes tt) (all_of (λ (u : Test). u.passes tt) (ts ++ us)) h))

-- an answer means that every test was passed, and that what follows was answered
pub answered_passed : {A : Type 0} (ts : List Test) (next : Unit {0} → Outcome A) (a : A)
    → pass_all ts next ≡ answered a → AllPassed ts × (next tt ≡ answered a)
unfolding pass_all all_of
answered_passed [] next a e = (tt, e)
answered_passed (t ∷ ts) next a e =
    let here = not_refused_if (not (t.passes tt)) t.number (λ u. pass_all ts next) a e in
    let later = answered_passed ts next a here.1 in
    (both (t.passes tt) (all_of (λ (u : Test). u.passes tt) ts) (passes (t.passes tt) here.0) later.0, later.1)
  where
    passes : (b : Bool) → not b ≡ false → T b
    passes true z = tt
    passes false z = absurd (true≢false z)

-- one list behind another
pub pass_all_append : {A : Type 0} (ts us : List Test) (next : Unit {0} → Outcome A)
    → pass_all (ts ++ us) next ≡ pass_all ts (λ u. pass_all us next)
unfolding pass_all
pass_all_append [] us next = refl
pass_all_append {A} (t ∷ ts) us next =
    ap (λ (o : Outcome A). refuse_if (not (t.passes tt)) t.number (λ u. o)) (pass_all_append ts us next)

-- two continuations that are alike where all tests are passed
pub pass_all_same : {A : Type 0} (ts : List Test) (f g : Unit {0} → Outcome A) → (AllPassed ts → f tt ≡ g tt)
    → pass_all ts f ≡ pass_all ts g
unfolding pass_all all_of refuse_if
pass_all_same [] f g h = h tt
pass_all_same {A} (t ∷ ts) f g h =
    go (t.passes tt)
    (λ p. pass_all_same ts f g (λ k. h (both (t.passes tt) (all_of (λ (u : Test). u.passes tt) ts) p k)))
  where
    go : (b : Bool) → (T b → pass_all ts f ≡ pass_all ts g)
        → refuse_if (not b) t.number (λ u. pass_all ts f) ≡ refuse_if (not b) t.number (λ u. pass_all ts g)
    go true e = e tt
    go false e = refl
