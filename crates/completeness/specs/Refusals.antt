-- Which numbers a refusal has: a call's are 13 to 16, at every rank; a job's 1 to 17, 22 and 25. So a return code
-- below 0 is minus one of these, and a code of 0 or more is an answer's length. Leans on the definitions and laws.
use Rattle.std.specs.Prelude.{◌≡◌, refl, ◌⊎◌, Bool, not, ◌&&◌, ◌||◌, ℕ, zero, suc, ◌+◌, ◌≤◌, T, leb, ltb, eqb, ℤ, pos}
use Rattle.std.specs.Prelude.{negsuc, length}
use Rattle.std.proofs.Common.{sym, ap, subst, inl, inr, arith, leb→le, le→leb}
use Rattle.std.proofs.Math.Bool.{true, false}
use mathlib.Core.List.{List, [], ◌∷◌, ◌++◌, map, reverse_aux}
use Rattle.definitions.specs.Lists.{all_of}
use Rattle.definitions.specs.Outcome.{Outcome, refused, answered, and_then, refuse_if}
use Rattle.definitions.specs.Vectors.{Vec}
use Rattle.definitions.specs.Subspace.{Subspace, from_points, flatten}
use Rattle.definitions.specs.Orbits.{Row, Orbit, point_at}
use Rattle.definitions.specs.Search.{Facet, Table, Found, Item, Verdict, over, closed, open_at, EntryLimits}
use Rattle.definitions.specs.Search.{limit_reached, emit, emit_if, examine, search, judge, totals, put_in, starts}
use Rattle.definitions.specs.Recursion.{Rules, Call, Inner, edge_call, inner_call, inner_calls, rows_within}
use Rattle.definitions.specs.Recursion.{call_on_set}
use Rattle.definitions.specs.Faceting.{Way, plain_way, prepare_with, prepare, faceting, faceting_with, search_from}
use Rattle.definitions.specs.Faceting.{orbits_of, prepare_from, answer_from}
use Rattle.definitions.specs.Job.{Bytes, Test, tests, pass_all, call_of, between, fitting, outcome_within, outcome}
use Rattle.definitions.specs.Job.{code_of, header_tests, value_tests, job_tests, workspace_tests}
use Rattle.laws.specs.Bools.{both, first, second, left_of, right_of, either}
use Rattle.laws.specs.Lists.{Mem, here, there, all_of_holds}

-- ---- refusals of some numbers

-- whatever is refused has a number of which this holds
pub record RefusedBy {A : Type 0} (p : ℕ → Type 0) (o : Outcome A) : Type 0 where
  pub number_is : (number : ℕ) → o ≡ refused number → p number

-- one between these
abbrev pub RefusedWithin : {A : Type 0} → ℕ → ℕ → Outcome A → Type 0
RefusedWithin low high o = RefusedBy (λ (number : ℕ). (low ≤ number) × (number ≤ high)) o

number_of : {A : Type 0} → Outcome A → ℕ
number_of (refused number) = number
number_of (answered a) = 0

pub same_number : {A : Type 0} (m n : ℕ) → ◌≡◌ {A = Outcome A} (refused m) (refused n) → m ≡ n
unfolding number_of
same_number {A} m n e = ap (λ (o : Outcome A). number_of o) e

is_refused : {A : Type 0} → Outcome A → Bool
is_refused (refused number) = true
is_refused (answered a) = false

pub answer_is_no_refusal : {A : Type 0} (a : A) (n : ℕ) → answered a ≡ refused n → ⊥
unfolding is_refused
answer_is_no_refusal {A} a n e = subst (λ (o : Outcome A). T (not (is_refused o))) e tt

module _ {p : ℕ → Type 0} where
  pub one_number : {A : Type 0} (n : ℕ) → p n → RefusedBy {A = A} p (refused n)
  one_number {A} n h = record { number_is = λ m e. subst p (same_number {A = A} n m e) h }

  pub by_answer : {A : Type 0} {a : A} → RefusedBy p (answered a)
  by_answer {A} {a} = record { number_is = λ m e. absurd (answer_is_no_refusal a m e) }

  pub by_then : {A B : Type 0} (o : Outcome A) (next : A → Outcome B) → RefusedBy p o
      → ((a : A) → RefusedBy p (next a)) → RefusedBy p (and_then o next)
  unfolding and_then
  by_then {A} {B} (refused n) next h k =
      record { number_is = λ m e. h.number_is m (ap refused (same_number {A = B} n m e)) }
  by_then (answered a) next h k = k a

  pub by_test : {A : Type 0} (b : Bool) (n : ℕ) (next : Unit {0} → Outcome A) → p n → RefusedBy p (next tt)
      → RefusedBy p (refuse_if b n next)
  unfolding refuse_if
  by_test true n next h g = one_number n h
  by_test false n next h g = g

  pub by_tests : {A : Type 0} (ts : List Test) (next : Unit {0} → Outcome A) → ((t : Test) → Mem t ts → p t.number)
      → RefusedBy p (next tt) → RefusedBy p (pass_all ts next)
  unfolding pass_all
  by_tests [] next h g = g
  by_tests (t ∷ ts) next h g =
      by_test (not (t.passes tt)) t.number (λ u. pass_all ts next) (h t (here refl))
      (by_tests ts next (λ s i. h s (there i)) g)

-- of more numbers
pub wider : {A : Type 0} {o : Outcome A} (p q : ℕ → Type 0) → ((n : ℕ) → p n → q n) → RefusedBy p o → RefusedBy q o
wider p q h r = record { number_is = λ n e. h n (r.number_is n e) }

-- ---- the search: 15 and 16

emitted_within : (v : Verdict) (limits : EntryLimits) (list : List Facet) (left : ℕ) (emitted : List (List Facet))
    (next : List (List Facet) → Outcome Found)
    → ((lists : List (List Facet)) → RefusedWithin 15 16 (next lists))
    → RefusedWithin 15 16 (emit_if v limits list left emitted next)
unfolding emit_if emit
emitted_within over limits list left emitted next h = h emitted
emitted_within (open_at ridge) limits list left emitted next h = h emitted
emitted_within closed limits list left emitted next h =
    by_test (leb limits.bound (length emitted)) 15 _ (omega arith, omega arith)
    (go (limit_reached limits.limit (length (emitted ++ (list ∷ [])))))
  where
    go : (b : Bool)
        → RefusedWithin {A = Found} 15 16 (elim b [
          | true ↦ answered (record {
            lists = emitted ++ (list ∷ []);
            left = left;
          })
          | false ↦ next (emitted ++ (list ∷ []))
        ])
    go true = by_answer
    go false = h (emitted ++ (list ∷ []))

examined_within : (t : Table) (limits : EntryLimits) (left : ℕ) (pending : List Item) (emitted : List (List Facet))
    → RefusedWithin 15 16 (examine t limits left pending emitted)
unfolding examine
examined_within t limits zero [] emitted = by_answer
examined_within t limits zero (item ∷ pending) emitted = one_number 16 (omega arith, omega arith)
examined_within t limits (suc left) [] emitted = by_answer
examined_within t limits (suc left) (item ∷ pending) emitted =
    let verdict = judge (totals t item.list) in
    emitted_within verdict limits item.list left emitted
    (examine t limits left (reverse_aux (put_in limits.extended t item verdict) pending))
    (λ lists. examined_within t limits left (reverse_aux (put_in limits.extended t item verdict) pending) lists)

pub search_refusals : (t : Table) (limits : EntryLimits) (budget : ℕ) → RefusedWithin 15 16 (search t limits budget)
unfolding search
search_refusals t limits budget = examined_within t limits budget (reverse_aux (starts t) []) []

-- ---- a call of any rank: 13 to 16

inner_within : (inner : Orbit → ℕ → Outcome Inner) (bound : ℕ)
    → ((o : Orbit) (budget : ℕ) → RefusedWithin 13 16 (inner o budget)) → (orbits : List Orbit) (facets left : ℕ)
    → RefusedWithin 13 16 (inner_calls inner bound orbits facets left)
unfolding inner_calls
inner_within inner bound h [] facets left = by_answer
inner_within inner bound h (orbit ∷ orbits) facets left =
    by_then (inner orbit left) _ (h orbit left)
    (λ i.
    let stored = facets + length i.answer.entries in
    by_test (ltb bound stored) 15 _ (omega arith, omega arith)
    (by_then (inner_calls inner bound orbits stored i.answer.left) _
    (inner_within inner bound h orbits stored i.answer.left) (λ later. by_answer)))

refit_within : (wanted : ℕ) (rules : Rules) (call : Call)
    → ((plane : Subspace) (points : List Vec) (rows : List Row) (budget : ℕ)
    → RefusedWithin 13 16 (call plane points rows budget))
    → (flat : List Vec) (rows : List Row) (orbit : Orbit) (budget : ℕ)
    → RefusedWithin 13 16 (inner_call wanted rules call flat rows orbit budget)
unfolding call_on_set inner_call
refit_within wanted rules call h flat rows orbit budget =
    let points = map (point_at flat) orbit.vertices in
    let plane = from_points rules.tolerance points in
    by_test (not (eqb (length plane.basis) wanted)) 14 _ (omega arith, omega arith)
    (by_then (call plane points (rows_within orbit.vertices rows) budget) _
    (h plane points (rows_within orbit.vertices rows) budget) (λ a. by_answer))

-- from the orbits on, with inner calls that are so refused
way_refusals : (way : Way) (more : ℕ) (rules : Rules) (call : Call)
    → ((plane : Subspace) (points : List Vec) (rows : List Row) (budget : ℕ)
    → RefusedWithin 13 16 (call plane points rows budget))
    → (plane : Subspace) (points : List Vec) (rows : List Row) (budget : ℕ)
    → RefusedWithin 13 16 (answer_from rules (prepare_with way more rules call plane points rows budget))
unfolding answer_from prepare_from prepare_with search_from
way_refusals way more rules call h plane points rows budget =
    let flat = map (flatten plane) points in
    let orbits = orbits_of more rules plane points rows in
    by_then (prepare_with way more rules call plane points rows budget) _
    (by_test (ltb rules.bounds.orbits (length orbits)) 13 _ (omega arith, omega arith)
    (by_then
    (inner_calls (inner_call (suc more) rules call flat rows) rules.bounds.facets (way.keeps orbits) 0 budget) _
    (inner_within (inner_call (suc more) rules call flat rows) rules.bounds.facets
    (refit_within (suc more) rules call h flat rows) (way.keeps orbits) 0 budget) (λ done. by_answer)))
    (λ p. by_then (search_from rules p) _ (wider _ _ (λ n h. (omega arith, h.1)) (search_refusals _ _ _))
    (λ found. by_answer))

pub call_refusals : (more : ℕ) (rules : Rules) (plane : Subspace) (points : List Vec) (rows : List Row) (budget : ℕ)
    → RefusedWithin 13 16 (faceting more rules plane points rows budget)
unfolding faceting edge_call prepare
call_refusals zero rules plane points rows budget = by_answer
call_refusals (suc more) rules plane points rows budget =
    way_refusals plain_way more rules (faceting more rules) (call_refusals more rules) plane points rows budget

-- the same of a call in a way of its own
pub call_refusals_with : (way : Way) (more : ℕ) (rules : Rules) (plane : Subspace) (points : List Vec)
    (rows : List Row) (budget : ℕ) → RefusedWithin 13 16 (faceting_with way more rules plane points rows budget)
unfolding faceting_with edge_call
call_refusals_with way zero rules plane points rows budget = by_answer
call_refusals_with way (suc more) rules plane points rows budget =
    way_refusals way more rules (faceting more rules) (call_refusals more rules) plane points rows budget

-- ---- a job: 1 to 17, 22 and 25

-- the tests of what versions 2 and 3 brought: the tolerance and the rule
unfoldable pub is_version_test : ℕ → Bool
is_version_test number = eqb number 22 || eqb number 25

-- the numbers of the tests before the call
unfoldable pub is_test : ℕ → Bool
is_test number = between 1 12 number || is_version_test number

-- all numbers of refusals
unfoldable pub is_refusal : ℕ → Bool
is_refusal number = between 1 17 number || is_version_test number

numbered : (bytes : Bytes) (workspace : ℕ) → T (all_of (λ (t : Test). is_test t.number) (tests bytes workspace))
unfolding all_of is_test is_version_test between tests job_tests header_tests value_tests workspace_tests
numbered bytes workspace = tt

pub test_number : (bytes : Bytes) (workspace : ℕ) (t : Test) → Mem t (tests bytes workspace) → T (is_test t.number)
test_number bytes workspace t i =
    all_of_holds (λ (s : Test). is_test s.number) (tests bytes workspace) (numbered bytes workspace) t i

within_refusals : (low high n : ℕ) → 1 ≤ low → high ≤ 17 → low ≤ n → n ≤ high → T (is_refusal n)
unfolding is_refusal between
within_refusals low high n l h a b =
    left_of (leb 1 n && leb n 17) (is_version_test n)
    (both (leb 1 n) (leb n 17) (le→leb 1 n (omega arith)) (le→leb n 17 (omega arith)))

test_is_refusal : (n : ℕ) → T (is_test n) → T (is_refusal n)
unfolding is_test is_refusal between
test_is_refusal n h = go (either (leb 1 n && leb n 12) (is_version_test n) h)
  where
    go : T (leb 1 n && leb n 12) ⊎ T (is_version_test n) → T ((leb 1 n && leb n 17) || is_version_test n)
    go (inl k) =
        within_refusals 1 12 n (omega arith) (omega arith) (leb→le 1 n (first (leb 1 n) (leb n 12) k))
        (leb→le n 12 (second (leb 1 n) (leb n 12) k))
    go (inr k) = right_of (leb 1 n && leb n 17) (is_version_test n) k

pub refusal_numbers : (bytes : Bytes) (workspace room : ℕ)
    → RefusedBy (λ (n : ℕ). T (is_refusal n)) (outcome bytes workspace room)
unfolding outcome outcome_within call_of fitting is_refusal between
refusal_numbers bytes workspace room =
    by_tests (tests bytes workspace) _ (λ t i. test_is_refusal t.number (test_number bytes workspace t i))
    (by_then _ _ (wider _ _ (λ n h. within_refusals 13 16 n (omega arith) (omega arith) h.0 h.1)
    (call_refusals _ _ _ _ _ _)) (λ a. by_test _ 17 _ tt by_answer))

-- ---- the return code

-- What a return code says: 0 or more is an answer's length, less is minus the number of a refusal, one of 1 to 17, 22
-- or 25.
pub record CodeSays (o : Outcome Bytes) (code : ℤ) : Type 0 where
  pub an_answer : (many : ℕ) → code ≡ pos many → (answer : Bytes) × (o ≡ answered answer) × (length answer ≡ many)
  pub a_refusal : (less : ℕ) → code ≡ negsuc less → (o ≡ refused (suc less)) × T (is_refusal (suc less))

pub code_says : (bytes : Bytes) (workspace room : ℕ)
    → CodeSays (outcome bytes workspace room) (code_of (outcome bytes workspace room))
unfolding code_of is_refusal is_version_test between
code_says bytes workspace room = go (outcome bytes workspace room) (refusal_numbers bytes workspace room)
  where
    no_length : (n many : ℕ) → negsuc n ≡ pos many → ⊥
    no_length n many e = let z : ◌≡◌ {A = ℕ} 0 1 = cc in omega arith

    go : (o : Outcome Bytes) → RefusedBy (λ (n : ℕ). T (is_refusal n)) o → CodeSays o (code_of o)
    go (refused zero) h = absurd (h.number_is 0 refl)
    go (refused (suc n)) h = record {
      an_answer = λ many e. absurd (no_length n many e);
      a_refusal =
          λ less e. let same : n ≡ less = cc in (
            ap (λ (m : ℕ). refused (suc m)) same,
            subst (λ (m : ℕ). T (is_refusal (suc m))) same (h.number_is (suc n) refl),
          );
    }
    go (answered bytes) h = record {
      an_answer = λ many e. (bytes, refl, cc);
      a_refusal = λ less e. absurd (no_length less (length bytes) (sym e));
    }
