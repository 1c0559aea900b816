-- A job that passes the refusals before the call, loaded: its plane, points, rows and rules are what a call asks, and
-- the definition's call on them is the job's. Leans on the check, on the loaded fields and on what a call asks.
use Rattle.std.specs.Prelude.{◌≡◌, List, ℕ, ◌-◌, ◌*◌, ◌≤◌, length}
use Rattle.std.proofs.Math.Path.{sym, ap, subst}
use Rattle.std.proofs.Common.{◌∙◌, arith}
use Rattle.std.specs.Prelude.{None}
use Rattle.definitions.specs.Outcome.{Outcome, refused, answered, and_then}
use Rattle.definitions.specs.Recursion as recursion
use Rattle.definitions.specs.Faceting.{Way, plain_way, faceting_with}
use Rattle.definitions.specs.NobleCalls.{faceting_with_holds}
use Rattle.definitions.specs.Job as job
use Rattle.definitions.specs.Job.{Bytes, read_job, plane_of, bounds1, tests, workspace_for, call_of, answer_bytes}
use Rattle.definitions.specs.Job.{alone}
use Rattle.laws.specs.Refusals.{first_refused, pass_all_refused, pass_all_passed}
use Rattle.rows.specs.Rows.{rows_in}
use Rattle.stabilizers.specs.Permutations.{Permutations, permutations_of, rows_fit_holds}
use Rattle.shapes.specs.Calls.{Given}
use Rattle.shapes.specs.Jobs.{rows_passed, job_given}
use Rattle.space.specs.declared.Subspace.{Subspace}
use Rattle.space.specs.declared.Points.{Points}
use Rattle.space.specs.Meaning.{HoldsSubspace, HoldsPoints, subspace_of, points_of, limits_of}
use Rattle.load.specs.declared.Fields.{Fields}
use Rattle.load.specs.Places.{Exact}
use Rattle.load.specs.Meaning.{fields_of, Loadable}
use Rattle.load.proofs.Meaning.{loadable}
use Rattle.refusals.specs.declared.Refusal.{Refusal}
use Rattle.std.specs.Prelude.{Option, Result}
use Rattle.tallies.specs.declared.Package.{Package}
use Rattle.job.specs.Refusal.{checked_of}
use Rattle.job.specs.Passed.{refused_means, passed_means, own_passed, passed_exact, passed_rows, passed_workspace}
use Rattle.calls.specs.declared.Rules.{Rules}
use Rattle.call_search.specs.PreparedCalls.{call_rules}
use Rattle.calls.specs.declared.Called.{Called}
use Rattle.faceting.specs.Ways.{way_of, WayFits, way_takes}
use Rattle.faceting.specs.Asked.{Asked}
use Rattle.inner_answers.specs.AnswerMatches.{AnswerMatches}
use Rattle.job_calls.specs.CallMatches as said
use Rattle.job_calls.specs.CallMatches.{CallMatches}

-- the definition's rules, from the fields of a job
unfoldable pub job_rules : Fields → recursion.Rules
job_rules f = record {
  tolerance = f.tolerance;
  lengths = limits_of f.limits;
  entry_limit = f.entries;
  bounds = bounds1;
  rule = f.rule;
}

-- a job as a call takes it
pub record Loaded (bytes : Bytes) (f : Fields) (plane : Subspace) (points : Points) (rows : List ℕ)
    (rules : Rules) : Type 0 where
  pub plane_held : HoldsSubspace plane (plane_of (read_job bytes))
  pub plane_d : plane.d ≡ f.d
  pub points_held : HoldsPoints points f.d (read_job bytes).points
  pub points_n : points.n ≡ f.n
  pub rows_held : rows_in f.n f.count rows ≡ (read_job bytes).rows
  pub rows_room : 32 * f.count ≤ length rows
  pub rules_are : call_rules rules ≡ job_rules f

-- What the outermost call [12.1] of a job says, its rows lying where they were loaded: `(said).is` is the equation
-- with the definition's call, and `(said).can_write_lem` that its answer, if it has one, can be written.
pub record JobCalled (bytes : Bytes) (f : Fields) (rows : List ℕ) (called : Result Called Refusal)
    (s : List ℕ) : Type 0 where
  pub said : CallMatches f.rank f.n f.count rows f.budget (call_of bounds1 (read_job bytes)) called s
  pub rows_are : rows_in f.n f.count rows ≡ (read_job bytes).rows

-- the outermost call of a job in a way of its own
unfoldable pub call_by : Way → job.Job → Outcome recursion.Answer
call_by way own =
    faceting_with way (own.rank - 2) (job.rules_of bounds1 own) (plane_of own) own.points own.rows own.budget

-- what it says
pub record CalledIn (way : Way) (bytes : Bytes) (f : Fields) (rows : List ℕ) (called : Result Called Refusal)
    (s : List ℕ) : Type 0 where
  pub said : CallMatches f.rank f.n f.count rows f.budget (call_by way (read_job bytes)) called s
  pub rows_are : rows_in f.n f.count rows ≡ (read_job bytes).rows

-- without a package it is the job's call
pub called_plainly : (bytes : Bytes) (f : Fields) (rows : List ℕ) (called : Result Called Refusal) (s : List ℕ)
    → CalledIn plain_way bytes f rows called s → JobCalled bytes f rows called s
unfolding call_by call_of
called_plainly bytes f rows called s d = record {
  said =
      subst (λ (call : recursion.Call). CallMatches f.rank f.n f.count rows f.budget (call (plane_of (read_job bytes))
      (read_job bytes).points (read_job bytes).rows (read_job bytes).budget) called s)
      (faceting_with_holds ((read_job bytes).rank - 2) (job.rules_of bounds1 (read_job bytes))) d.said;
  rows_are = d.rows_are;
}

module _ (bytes : Bytes) (workspace : ℕ) (f : Fields) (passed : answered f ≡ checked_of bytes workspace) where
  none_fails : first_refused (tests bytes workspace) ≡ None
  none_fails = (passed_means bytes workspace f passed).0

  pub exact : Exact bytes
  exact = passed_exact bytes workspace none_fails

  pub own_fields : f ≡ fields_of bytes
  own_fields = (passed_means bytes workspace f passed).1

  pub counts : Loadable bytes f
  counts = loadable bytes f exact own_fields

  -- what the functions of loading ensure, with room for 120 rows of 32 bytes
  pub loads : {plane : Subspace} {points : Points} {rows : List ℕ} {rules : Rules}
      → HoldsSubspace plane (plane_of (read_job bytes)) × (plane.d ≡ f.d) × (plane.rank ≡ f.rank - 1)
      → HoldsPoints points f.d (read_job bytes).points × (points.n ≡ f.n)
      → (rows_in f.n f.count rows ≡ (read_job bytes).rows) × (length rows ≡ 3840) → call_rules rules ≡ job_rules f
      → Loaded bytes f plane points rows rules
  loads p q r u = record {
    plane_held = p.0;
    plane_d = p.1;
    points_held = q.0;
    points_n = q.1;
    rows_held = r.0;
    rows_room = omega (arith, r.1, counts.count_most);
    rules_are = u;
  }

  -- two points at least, and rows that permute them, the identity first
  given : Given (read_job bytes).points (read_job bytes).rows
  given = job_given bytes (rows_passed bytes (own_passed bytes workspace none_fails))

  -- the workspace that the rank asks for [11.3]
  room : workspace_for (read_job bytes).rank ≤ workspace
  room = passed_workspace bytes workspace none_fails

  own_room : workspace_for f.rank ≤ workspace
  own_room = subst (λ (k : ℕ). workspace_for k ≤ workspace) (sym counts.rank_is) room

  module _ {plane : Subspace} {points : Points} {rows : List ℕ} {rules : Rules}
      (l : Loaded bytes f plane points rows rules) where
    rows_are : rows_in points.n f.count rows ≡ (read_job bytes).rows
    rows_are = ap (λ (n : ℕ). rows_in n f.count rows) l.points_n ∙ l.rows_held

    permute : Permutations f.n f.count rows
    permute =
        permutations_of f.n f.count rows counts.n_most l.rows_room
        (rw (l.rows_held, counts.n_is) (passed_rows bytes workspace none_fails))

    -- what the call is asked
    pub call_asked : (ws : List ℕ) → length ws ≡ workspace → (way : Option Package) → WayFits f.n way
        → Asked f.rank plane points rows f.count rules ws way
    unfolding job_rules bounds1 call_rules
    call_asked ws long way fits = record {
      rank_least = counts.rank_least;
      rank_most = counts.rank_most;
      same_d = l.points_held.d_is ∙ sym l.plane_d;
      permute = subst (λ (n : ℕ). Permutations n f.count rows) (sym l.points_n) permute;
      rows_few = counts.count_most;
      given = rw (l.points_held.means, rows_are) given;
      few_orbits_holds = let e = ap (λ (r : recursion.Rules). r.bounds.orbits) l.rules_are in omega arith;
      few_facets_holds = let e = ap (λ (r : recursion.Rules). r.bounds.facets) l.rules_are in omega arith;
      entries_are = ap (λ (r : recursion.Rules). r.bounds.entries) l.rules_are;
      room = rw long own_room;
      way_fits = subst (λ (n : ℕ). WayFits n way) (sym l.points_n) fits;
    }

    -- the rules are the job's
    rules_job : call_rules rules ≡ job.rules_of bounds1 (read_job bytes)
    unfolding job_rules job.rules_of limits_of
    rules_job =
        l.rules_are ∙ (λ i. record {
          tolerance = counts.tolerance_is i;
          lengths = record { shortest = counts.shortest_is i; longest = counts.longest_is i };
          entry_limit = counts.entries_is i;
          bounds = bounds1;
          rule = counts.rule_is i;
        })

    -- what the call on what is loaded says
    module _ (way : Option Package) (fits : WayFits f.n way) (called : Result Called Refusal) (s : List ℕ)
        (long : length s ≡ workspace)
        (h : AnswerMatches (way_of points.n way) (f.rank - 2) (call_rules rules) (subspace_of plane)
        (points_of points) (rows_in points.n f.count rows) f.budget called s) where
      abbrev goes : ℕ → Way
      goes n = way_of n way

      call_said : CallMatches f.rank f.n f.count rows f.budget (faceting_with (goes f.n) (f.rank - 2)
          (call_rules rules) (subspace_of plane) (points_of points) (rows_in f.n f.count rows) f.budget) called s
      unfolding workspace_for
      call_said =
          let asked = call_asked s long way fits in
          let n_is : points.n ≡ length (points_of points) = l.points_held.n_is ∙ ap length (sym l.points_held.means) in
          let own : length (points_of points) ≡ f.n = sym n_is ∙ l.points_n in
          subst (λ (n : ℕ).
          CallMatches f.rank n f.count rows f.budget (faceting_with (goes n) (f.rank - 2) (call_rules rules)
          (subspace_of plane) (points_of points) (rows_in n f.count rows) f.budget) called s) own
          (said.call_said (goes (length (points_of points))) (way_takes (length (points_of points)) way)
          (call_rules rules) (subspace_of plane)
          (points_of points) f.count rows f.budget s asked.rank_least asked.rank_most (rw (← n_is) asked.given)
          (rw (← n_is) (rows_fit_holds asked.permute)) asked.rows_few
          (λ e. subst (λ (r : ℕ). workspace_for r ≤ length s) e asked.room) called (rw (← n_is) h))

      -- the same, of the definition's own rules, plane, points and rows
      pub job_called : CalledIn (goes f.n) bytes f rows called s
      unfolding call_by
      job_called =
          let own = read_job bytes in
          let is : faceting_with (goes f.n) (f.rank - 2) (call_rules rules) (subspace_of plane) (points_of points)
          (rows_in f.n f.count rows) f.budget ≡ call_by (goes f.n) own =
          λ i. faceting_with (goes f.n) (counts.rank_is i - 2) (rules_job i) (l.plane_held.means i)
          (l.points_held.means i) (l.rows_held i) (counts.budget_is i) in
          record {
            said =
                subst (λ (call : Outcome recursion.Answer).
                CallMatches f.rank f.n f.count rows f.budget call called s) is call_said;
            rows_are = l.rows_held;
          }

  -- what the job gets by itself is its call's answer
  pub alone_passed : alone bytes workspace
      ≡ and_then (call_of bounds1 (read_job bytes)) (λ (a : recursion.Answer). answered (answer_bytes f.budget a))
  unfolding alone
  alone_passed =
      pass_all_passed (tests bytes workspace) _ none_fails
      ∙ ap (λ (budget : ℕ). and_then (call_of bounds1 (read_job bytes))
      (λ (a : recursion.Answer). answered (answer_bytes budget a))) (sym counts.budget_is)

-- ---- a job that is refused

pub alone_refused : (bytes : Bytes) (workspace number : ℕ) → refused number ≡ checked_of bytes workspace
    → alone bytes workspace ≡ refused number
unfolding alone
alone_refused bytes workspace number e =
    pass_all_refused (tests bytes workspace) _ number (refused_means bytes workspace number e)
