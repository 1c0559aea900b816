-- `job::check_header` meets its contract. Behind each test the first refusal is the first among those that are left,
-- and the test that fails is the one. `behind-k` says so behind test k. Assumes nothing.
use mathlib.Core.Bool.{true}
use mathlib.Core.Path.{◌≡◌, refl, sym, ap, ◌∙◌}
use Rattle.std.specs.Prelude.{None}
use Prim.Native.Nat.{ℕ, ◌-◌, ◌<◌}
use borrow.Author.Tests.{lt-ltb, le-ltb, eq-eqb, ne_eqb}
use lib.Dec.{ltb, eqb}
use lib.ListN.{length}
use Rattle.definitions.specs.Job.{Bytes, read_job, between, header_tests}
use Rattle.laws.specs.Refusals.{first_refused, goes_on, ends, none_refused}
use Rattle.load.specs.declared.Header.{Header}
use Rattle.load.specs.declared.Places.{Places}
use Rattle.load.specs.Places.{header_of, places_of, size_is}
use Rattle.job.specs.Refusal.{has_mark}
use Rattle.job.specs.Passed.{header_passed}
use Rattle.job.proofs.Laws.{marked_long, counted, rank_above_zero, Reached, refused_here, all_passed}
use Rattle.job.proofs.check_header.Goals as goal

behind-1 : (job : Bytes) → has_mark job ≡ true → Reached (header_tests job) job 1
unfolding header_tests has_mark
behind-1 job m = goes_on (header_tests job) _ _ refl m

-- the tests of the header
module _ (job : Bytes) (x : Header) (is : x ≡ header_of job) (m : has_mark job ≡ true) where
  behind-2 : between 1 3 x.version ≡ true → Reached (header_tests job) job 2
  unfolding header_tests read_job header_of
  behind-2 v = goes_on (header_tests job) _ _ (behind-1 job m) (ap (λ (h : Header). between 1 3 h.version) (sym is) ∙ v)

  behind-3 : between 1 3 x.version ≡ true → between 2 4 x.rank ≡ true → Reached (header_tests job) job 3
  unfolding header_tests read_job header_of
  behind-3 v r = goes_on (header_tests job) _ _ (behind-2 v) (ap (λ (h : Header). between 2 4 h.rank) (sym is) ∙ r)

  behind-4 : between 1 3 x.version ≡ true → between 2 4 x.rank ≡ true → between (x.rank - 1) 4 x.d ≡ true
      → Reached (header_tests job) job 4
  unfolding header_tests read_job header_of
  behind-4 v r d =
      goes_on (header_tests job) _ _ (behind-3 v r) (ap (λ (h : Header). between (h.rank - 1) 4 h.d) (sym is) ∙ d)

  behind-5 : between 1 3 x.version ≡ true → between 2 4 x.rank ≡ true → between (x.rank - 1) 4 x.d ≡ true
      → between 2 20 x.n ≡ true → Reached (header_tests job) job 5
  unfolding header_tests read_job header_of
  behind-5 v r d n =
      goes_on (header_tests job) _ _ (behind-4 v r d) (ap (λ (h : Header). between 2 20 h.n) (sym is) ∙ n)

  behind-6 : between 1 3 x.version ≡ true → between 2 4 x.rank ≡ true → between (x.rank - 1) 4 x.d ≡ true
      → between 2 20 x.n ≡ true → between 1 120 x.count ≡ true → Reached (header_tests job) job 6
  unfolding header_tests read_job header_of
  behind-6 v r d n k =
      goes_on (header_tests job) _ _ (behind-5 v r d n) (ap (λ (h : Header). between 1 120 h.count) (sym is) ∙ k)

  behind-7 : between 1 3 x.version ≡ true → between 2 4 x.rank ≡ true → between (x.rank - 1) 4 x.d ≡ true
      → between 2 20 x.n ≡ true → between 1 120 x.count ≡ true → x.flags < 8 → Reached (header_tests job) job 7
  unfolding header_tests read_job header_of
  behind-7 v r d n k f =
      goes_on (header_tests job) _ _ (behind-6 v r d n k) (ap (λ (h : Header). ltb h.flags 8) (sym is) ∙ lt-ltb _ _ f)

-- the length that the header states
size-stated : (bytes : Bytes) (p : Places) → p ≡ places_of (header_of bytes) → (read_job bytes).size ≡ p.size
size-stated bytes p e = size_is bytes ∙ ap (λ (q : Places). q.size) (sym e)

none_fails : (job : Bytes) → Reached (header_tests job) job 7 → (p : Places) → p ≡ places_of (header_of job)
    → length job ≡ p.size → first_refused (header_tests job) ≡ None
unfolding header_tests
none_fails job b p e s =
    ends (header_tests job) _ b (ap (λ (size : ℕ). eqb (length job) size) (size-stated job p e) ∙ eq-eqb _ _ s)

pub returns-then-not-has_mark : goal.returns-then-not-has_mark
unfolding header_tests has_mark
returns-then-not-has_mark c =
    refused_here (header_tests c.args.job.now) _ _ _ refl (sym c.has_mark.ensures ∙ c.if-not-has_mark.true)

pub header_of-h-requires : goal.header_of-h-requires
header_of-h-requires c = marked_long _ (sym c.has_mark.ensures ∙ c.if-not-has_mark.false)

pub returns-then-not-between : goal.returns-then-not-between
unfolding header_tests read_job header_of
returns-then-not-between c =
    refused_here (header_tests c.args.job.now) _ _ _
    (behind-1 c.args.job.now (sym c.has_mark.ensures ∙ c.if-not-has_mark.false))
    (ap (λ (h : Header). between 1 3 h.version) (sym c.header_of-h.ensures)
    ∙ (sym c.between.ensures ∙ c.if-not-between.true))

pub returns-then-not-between-2 : goal.returns-then-not-between-2
unfolding header_tests read_job header_of
returns-then-not-between-2 c =
    refused_here (header_tests c.args.job.now) _ _ _
    (behind-2 c.args.job.now c.header_of-h.result c.header_of-h.ensures
    (sym c.has_mark.ensures ∙ c.if-not-has_mark.false) (sym c.between.ensures ∙ c.if-not-between.false))
    (ap (λ (h : Header). between 2 4 h.rank) (sym c.header_of-h.ensures)
    ∙ (sym c.between-2.ensures ∙ c.if-not-between-2.true))

pub overflow_sub-h : goal.overflow_sub-h
overflow_sub-h c = rank_above_zero _ (sym c.between-2.ensures ∙ c.if-not-between-2.false)

pub returns-then-not-between-3 : goal.returns-then-not-between-3
unfolding header_tests read_job header_of
returns-then-not-between-3 c =
    refused_here (header_tests c.args.job.now) _ _ _
    (behind-3 c.args.job.now c.header_of-h.result c.header_of-h.ensures (sym c.has_mark.ensures
    ∙ c.if-not-has_mark.false) (sym c.between.ensures ∙ c.if-not-between.false) (sym c.between-2.ensures
    ∙ c.if-not-between-2.false))
    (ap (λ (h : Header). between (h.rank - 1) 4 h.d) (sym c.header_of-h.ensures)
    ∙ (sym c.between-3.ensures ∙ c.if-not-between-3.true))

pub returns-then-not-between-4 : goal.returns-then-not-between-4
unfolding header_tests read_job header_of
returns-then-not-between-4 c =
    refused_here (header_tests c.args.job.now) _ _ _
    (behind-4 c.args.job.now c.header_of-h.result c.header_of-h.ensures (sym c.has_mark.ensures
    ∙ c.if-not-has_mark.false) (sym c.between.ensures ∙ c.if-not-between.false) (sym c.between-2.ensures
    ∙ c.if-not-between-2.false) (sym c.between-3.ensures ∙ c.if-not-between-3.false))
    (ap (λ (h : Header). between 2 20 h.n) (sym c.header_of-h.ensures)
    ∙ (sym c.between-4.ensures ∙ c.if-not-between-4.true))

pub returns-then-not-between-5 : goal.returns-then-not-between-5
unfolding header_tests read_job header_of
returns-then-not-between-5 c =
    refused_here (header_tests c.args.job.now) _ _ _
    (behind-5 c.args.job.now c.header_of-h.result c.header_of-h.ensures (sym c.has_mark.ensures
    ∙ c.if-not-has_mark.false) (sym c.between.ensures ∙ c.if-not-between.false) (sym c.between-2.ensures
    ∙ c.if-not-between-2.false) (sym c.between-3.ensures ∙ c.if-not-between-3.false)
    (sym c.between-4.ensures ∙ c.if-not-between-4.false))
    (ap (λ (h : Header). between 1 120 h.count) (sym c.header_of-h.ensures)
    ∙ (sym c.between-5.ensures ∙ c.if-not-between-5.true))

pub returns-then-h-ge8 : goal.returns-then-h-ge8
unfolding header_tests read_job header_of
returns-then-h-ge8 c =
    refused_here (header_tests c.args.job.now) _ _ _
    (behind-6 c.args.job.now c.header_of-h.result c.header_of-h.ensures (sym c.has_mark.ensures
    ∙ c.if-not-has_mark.false) (sym c.between.ensures ∙ c.if-not-between.false) (sym c.between-2.ensures
    ∙ c.if-not-between-2.false) (sym c.between-3.ensures ∙ c.if-not-between-3.false)
    (sym c.between-4.ensures ∙ c.if-not-between-4.false) (sym c.between-5.ensures ∙ c.if-not-between-5.false))
    (ap (λ (h : Header). ltb h.flags 8) (sym c.header_of-h.ensures) ∙ le-ltb _ _ c.if-h-ge8.true)

pub places_of-p-requires : goal.places_of-p-requires
places_of-p-requires c =
    counted _ (sym c.between-2.ensures ∙ c.if-not-between-2.false)
    (sym c.between-3.ensures ∙ c.if-not-between-3.false) (sym c.between-4.ensures ∙ c.if-not-between-4.false)
    (sym c.between-5.ensures ∙ c.if-not-between-5.false)

pub returns-then-job-p : goal.returns-then-job-p
unfolding header_tests
returns-then-job-p c =
    let places_are = c.places_of-p.ensures ∙ ap places_of c.header_of-h.ensures in
    refused_here (header_tests c.args.job.now) _ _ _
    (behind-7 c.args.job.now c.header_of-h.result c.header_of-h.ensures (sym c.has_mark.ensures
    ∙ c.if-not-has_mark.false) (sym c.between.ensures ∙ c.if-not-between.false) (sym c.between-2.ensures
    ∙ c.if-not-between-2.false) (sym c.between-3.ensures ∙ c.if-not-between-3.false) (sym c.between-4.ensures
    ∙ c.if-not-between-4.false) (sym c.between-5.ensures ∙ c.if-not-between-5.false) c.if-h-ge8.false)
    (ap (λ (size : ℕ). eqb (length c.args.job.now) size) (size-stated c.args.job.now _ places_are)
    ∙ ne_eqb _ _ c.if-job-p.true)

pub fields_of-requires : goal.fields_of-requires
fields_of-requires c =
    let job = c.args.job.now in
    header_passed job (none_refused (header_tests job)
    (none_fails job (behind-7 c.args.job.now c.header_of-h.result c.header_of-h.ensures (sym c.has_mark.ensures
    ∙ c.if-not-has_mark.false) (sym c.between.ensures ∙ c.if-not-between.false) (sym c.between-2.ensures
    ∙ c.if-not-between-2.false) (sym c.between-3.ensures ∙ c.if-not-between-3.false)
    (sym c.between-4.ensures ∙ c.if-not-between-4.false)
    (sym c.between-5.ensures ∙ c.if-not-between-5.false) c.if-h-ge8.false) c.places_of-p.result
    (c.places_of-p.ensures ∙ ap places_of c.header_of-h.ensures) c.if-job-p.false))

pub returns : goal.returns
returns c =
    let job = c.args.job.now in
    all_passed (header_tests job) job
    (none_fails job (behind-7 c.args.job.now c.header_of-h.result c.header_of-h.ensures (sym c.has_mark.ensures
    ∙ c.if-not-has_mark.false) (sym c.between.ensures ∙ c.if-not-between.false) (sym c.between-2.ensures
    ∙ c.if-not-between-2.false) (sym c.between-3.ensures ∙ c.if-not-between-3.false)
    (sym c.between-4.ensures ∙ c.if-not-between-4.false)
    (sym c.between-5.ensures ∙ c.if-not-between-5.false) c.if-h-ge8.false) c.places_of-p.result
    (c.places_of-p.ensures ∙ ap places_of c.header_of-h.ensures) c.if-job-p.false) _ c.fields_of.ensures
