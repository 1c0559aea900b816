-- What the tests of a job with a package leave [17.10]: the job passes its own tests and the workspace's, the package
-- passes 18, and the job's call by that package is the definition's. Leans on the checks of a job and on what is
-- written of a call.
use Rattle.std.specs.Prelude.{◌≡◌, true, false, ℕ, ◌≤◌, T, leb}
use Rattle.std.proofs.Math.Path.{refl, sym, ap}
use Rattle.std.proofs.Common.{subst, ◌∙◌}
use mathlib.Core.List.{List, [], ◌++◌}
use Rattle.std.specs.Prelude.{Option, Some, None}
use Rattle.definitions.specs.Outcome.{refused, answered, and_then}
use Rattle.definitions.specs.Recursion.{Answer}
use Rattle.definitions.specs.Faceting.{Way}
use Rattle.definitions.specs.Job.{Bytes, read_job, bounds1, workspace_for, Test, header_tests, value_tests, job_tests}
use Rattle.definitions.specs.Job.{workspace_tests, tests, answer_bytes}
use Rattle.definitions.specs.Noble.{read_package, package_good}
use Rattle.definitions.specs.NobleCalls.{noble_way, noble_call_of, package_tests, noble_tests, noble_alone}
use Rattle.laws.specs.Refusals.{stops, ends, first_refused, first_one_of, first_refused_append, pass_all_refused}
use Rattle.laws.specs.Refusals.{pass_all_passed, passes_at, passed, none_refused, front_passed}
use Rattle.load.specs.declared.Fields.{Fields}
use Rattle.load.specs.Places.{header_of}
use Rattle.load.specs.Meaning.{fields_of}
use Rattle.load.proofs.Meaning.{loadable}
use Rattle.job.specs.Refusal.{checked_as, checked_by, checked_of}
use Rattle.job.specs.Passed.{checked_passed, refused_as, rank_loaded, header_passed}
use Rattle.tallies.specs.Meaning.{package_in}
use Rattle.tallies.specs.declared.Package.{Package}
use Rattle.faceting.specs.Ways.{way_of, way_noble}
use Rattle.job_calls.specs.Loaded.{call_by, counts}
use Rattle.answering.specs.Answered.{bytes_of}

-- where two lists of tests together refuse nothing, neither does
none_of : (x y : Option ℕ) → first_one_of x y ≡ None → (x ≡ None) × (y ≡ None)
unfolding first_one_of
none_of None y e = (refl, e)
none_of (Some k) y e = (e, cc)

pub both_pass : (ts us : List Test) → first_refused (ts ++ us) ≡ None
    → (first_refused ts ≡ None) × (first_refused us ≡ None)
both_pass ts us e = none_of (first_refused ts) (first_refused us) (sym (first_refused_append ts us) ∙ e)

module _ (bytes pack : Bytes) (workspace : ℕ) where
  pub noble_refused : (number : ℕ) → refused number ≡ checked_by (noble_tests bytes pack workspace) bytes
      → noble_alone bytes pack workspace ≡ refused number
  unfolding noble_alone checked_by
  noble_refused number e =
      pass_all_refused (noble_tests bytes pack workspace) _ number
      (refused_as bytes (first_refused (noble_tests bytes pack workspace)) number e)

  module _ (f : Fields) (passes : answered f ≡ checked_by (noble_tests bytes pack workspace) bytes) where
    none_fails : first_refused (noble_tests bytes pack workspace) ≡ None
    none_fails = (checked_passed (noble_tests bytes pack workspace) bytes f passes).0

    own_and_rest : (first_refused (job_tests bytes) ≡ None)
        × (first_refused (package_tests bytes pack ++ workspace_tests bytes workspace) ≡ None)
    unfolding noble_tests
    own_and_rest = both_pass (job_tests bytes) (package_tests bytes pack ++ workspace_tests bytes workspace) none_fails

    rest : (first_refused (package_tests bytes pack) ≡ None) × (first_refused (workspace_tests bytes workspace) ≡ None)
    rest = both_pass (package_tests bytes pack) (workspace_tests bytes workspace) own_and_rest.1

    -- the package passes
    pub pack_good : T (package_good (read_job bytes).n pack)
    unfolding passes_at package_tests
    pack_good = passed 18 (package_tests bytes pack) (none_refused (package_tests bytes pack) rest.0)

    -- and the job passes as without it
    pub job_passes : answered f ≡ checked_of bytes workspace
    unfolding checked_of checked_by checked_as tests first_one_of
    job_passes =
        let all : first_refused (job_tests bytes ++ workspace_tests bytes workspace) ≡ None =
        first_refused_append (job_tests bytes) (workspace_tests bytes workspace)
        ∙ (ap (λ (o : Option ℕ). first_one_of o (first_refused (workspace_tests bytes workspace))) own_and_rest.0
        ∙ rest.1) in
        ap answered (checked_passed (noble_tests bytes pack workspace) bytes f passes).1
        ∙ sym (ap (checked_as bytes) all)

    n_is : f.n ≡ (read_job bytes).n
    n_is = (counts bytes workspace f job_passes).n_is

    pub pack_fits : T (package_good f.n pack)
    pack_fits = subst (λ (n : ℕ). T (package_good n pack)) (sym n_is) pack_good

    -- what is loaded is the definition's package, and the call by it the definition's
    pub noble_call : (whole : Package) → package_in f.n whole ≡ read_package f.n pack
        → call_by (way_of f.n (Some whole)) (read_job bytes)
        ≡ noble_call_of bounds1 (read_job bytes) (read_package (read_job bytes).n pack)
    unfolding call_by noble_call_of
    noble_call whole is =
        let same : way_of f.n (Some whole) ≡ noble_way (read_package (read_job bytes).n pack) =
        way_noble f.n whole ∙ ap noble_way (is ∙ ap (λ (n : ℕ). read_package n pack) n_is) in
        ap (λ (w : Way). call_by w (read_job bytes)) same

    pub alone_is : noble_alone bytes pack workspace
        ≡ bytes_of f.budget (noble_call_of bounds1 (read_job bytes) (read_package (read_job bytes).n pack))
    unfolding noble_alone bytes_of
    alone_is =
        pass_all_passed (noble_tests bytes pack workspace) _ none_fails
        ∙ ap (λ (budget : ℕ). and_then (noble_call_of bounds1 (read_job bytes) (read_package (read_job bytes).n pack))
        (λ (a : Answer). answered (answer_bytes budget a))) (sym (counts bytes workspace f job_passes).budget_is)

-- ---- the tests one after the other

n_loaded : (bytes : Bytes) (f : Fields) → f ≡ fields_of bytes → f.n ≡ (read_job bytes).n
unfolding fields_of read_job header_of
n_loaded bytes f e = ap (λ (g : Fields). g.n) e

module _ (bytes pack : Bytes) (workspace : ℕ) where
  -- a refusal of the job's own
  pub refused_own : (number : ℕ) → refused number ≡ checked_by (job_tests bytes) bytes
      → refused number ≡ checked_by (noble_tests bytes pack workspace) bytes
  unfolding checked_by checked_as noble_tests first_one_of
  refused_own number e =
      sym (ap (checked_as bytes)
      (first_refused_append (job_tests bytes) (package_tests bytes pack ++ workspace_tests bytes workspace)
      ∙ ap (λ (o : Option ℕ).
      first_one_of o (first_refused (package_tests bytes pack ++ workspace_tests bytes workspace)))
      (refused_as bytes (first_refused (job_tests bytes)) number e)))

  module _ (f : Fields) (own : answered f ≡ checked_by (job_tests bytes) bytes) where
    loaded : f ≡ fields_of bytes
    loaded = (checked_passed (job_tests bytes) bytes f own).1

    -- the job's own tests leave it to 18, and that to 12
    left_to : first_refused (noble_tests bytes pack workspace)
        ≡ first_one_of (first_refused (package_tests bytes pack)) (first_refused (workspace_tests bytes workspace))
    unfolding noble_tests first_one_of
    left_to =
        first_refused_append (job_tests bytes) (package_tests bytes pack ++ workspace_tests bytes workspace)
        ∙ (ap (λ (o : Option ℕ). first_one_of o (first_refused (package_tests bytes pack
        ++ workspace_tests bytes workspace))) (checked_passed (job_tests bytes) bytes f own).0
        ∙ first_refused_append (package_tests bytes pack) (workspace_tests bytes workspace))

    good_is : package_good f.n pack ≡ package_good (read_job bytes).n pack
    good_is = ap (λ (n : ℕ). package_good n pack) (n_loaded bytes f loaded)

    pub refused_eighteen : package_good f.n pack ≡ false
        → refused 18 ≡ checked_by (noble_tests bytes pack workspace) bytes
    unfolding checked_by checked_as first_one_of package_tests
    refused_eighteen e =
        let one = stops (package_tests bytes pack) _ [] refl (sym good_is ∙ e) in
        sym (ap (checked_as bytes) (left_to
        ∙ ap (λ (o : Option ℕ). first_one_of o (first_refused (workspace_tests bytes workspace))) one))

    module _ (good : package_good f.n pack ≡ true) where
      to_workspace : first_refused (noble_tests bytes pack workspace) ≡ first_refused (workspace_tests bytes workspace)
      unfolding first_one_of package_tests
      to_workspace =
          let none_here = ends (package_tests bytes pack) _ refl (sym good_is ∙ good) in
          left_to ∙ ap (λ (o : Option ℕ). first_one_of o (first_refused (workspace_tests bytes workspace))) none_here

      enough_is : leb (workspace_for f.rank) workspace ≡ leb (workspace_for (read_job bytes).rank) workspace
      enough_is = ap (λ (rank : ℕ). leb (workspace_for rank) workspace) (rank_loaded bytes f loaded)

      pub refused_twelve : leb (workspace_for f.rank) workspace ≡ false
          → refused 12 ≡ checked_by (noble_tests bytes pack workspace) bytes
      unfolding checked_by checked_as workspace_tests
      refused_twelve e =
          let one = stops (workspace_tests bytes workspace) _ [] refl (sym enough_is ∙ e) in
          sym (ap (checked_as bytes) (to_workspace ∙ one))

      pub all_pass : leb (workspace_for f.rank) workspace ≡ true
          → answered f ≡ checked_by (noble_tests bytes pack workspace) bytes
      unfolding checked_by checked_as workspace_tests
      all_pass e =
          let none_here = ends (workspace_tests bytes workspace) _ refl (sym enough_is ∙ e) in
          ap answered loaded ∙ sym (ap (checked_as bytes) (to_workspace ∙ none_here))

-- and a job that passes its own has 20 points at most
pub few_points : (bytes : Bytes) (f : Fields) → answered f ≡ checked_by (job_tests bytes) bytes → f.n ≤ 20
unfolding job_tests
few_points bytes f own =
    let c = checked_passed (job_tests bytes) bytes f own in
    let exact = header_passed bytes
    (front_passed (header_tests bytes) (value_tests bytes) (none_refused (job_tests bytes) c.0)) in
    (loadable bytes f exact c.1).n_most
