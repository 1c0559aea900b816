-- What a norm enters, with the norm as a parameter: the geometry of a call word for word (chapters 4 and 5), and
-- above it the definitions' own text, given the orbits and planes that come of it (`call_on_set`, `prepare_from`,
-- `answer_from`). With the norm itself they are the definitions (`Covered` proves it, so that nothing has to be
-- believed of this file); with another one they show which of its values count.
use Rattle.std.specs.Prelude.{Bool, cond, not, ◌&&◌, ◌||◌, ℕ, zero, suc, ◌-◌, leb, length, Float}
use mathlib.Core.List.{List, [], ◌∷◌, ◌++◌, map, flat_map}
use Rattle.std.proofs.Math.Dec.{compare_is_eq}
use Rattle.std.specs.Float.{binary64}
use Rattle.std.specs.Float.Ieee.{div, lt}
use Rattle.definitions.specs.Lists.{Pair, compare_nats, any_of, fresh, count_from}
use Rattle.definitions.specs.Outcome.{Outcome, and_then}
use Rattle.definitions.specs.Vectors.{Vec, minus}
use Rattle.definitions.specs.Subspace.{Subspace, residual, is_hyperplane, flatten}
use Rattle.definitions.specs.Orbits.{Row, Limits, Orbit, point_at, vertex_openers, too_short, too_long, pair_openers}
use Rattle.definitions.specs.Orbits.{pairs_from, tuples, set_image, most_vertices}
use Rattle.definitions.specs.Recursion.{Rules, Bounds, Answer, Call, Inner, edge_call, call_on_set}
use Rattle.definitions.specs.Faceting.{plain_way, Prepared, prepare_from, answer_from}
use Rattle.definitions.specs.Job.{Bytes, Job, read_job, tests, pass_all, rules_of, plane_of, answer_bytes, fitting}

module _ (norm : Vec → Float) where
  -- ---- Vectors and Subspace

  unfoldable pub normalised_by : Vec → Vec
  normalised_by v = let length = norm v in map (λ (x : Float). div binary64 x length) v

  unfoldable pub distance_by : Subspace → Vec → Float
  distance_by s p = norm (residual s p)

  unfoldable pub add_point_by : Float → Subspace → Vec → Subspace
  add_point_by tolerance s p =
      let r = residual s p in
      let wider : Subspace = record { offset = s.offset; basis = s.basis ++ (normalised_by r ∷ []) } in
      cond (lt tolerance (norm r)) wider s

  unfoldable pub add_points_by : Float → Subspace → List Vec → Subspace
  add_points_by tolerance s [] = s
  add_points_by tolerance s (p ∷ ps) =
      let wider = add_points_by tolerance (add_point_by tolerance s p) ps in
      cond (leb (length s.offset) (length s.basis)) s wider

  unfoldable pub from_points_by : Float → List Vec → Subspace
  from_points_by tolerance [] = record { offset = []; basis = [] }
  from_points_by tolerance (p ∷ ps) = add_points_by tolerance (record { offset = p; basis = [] }) ps

  -- ---- Orbits

  unfoldable pub breaks_limit_by : Float → Limits → List Vec → ℕ → ℕ → Bool
  breaks_limit_by tolerance limits points v w =
      let length = norm (minus (point_at points w) (point_at points v)) in
      too_short tolerance limits.shortest length || too_long tolerance limits.longest length

  unfoldable pub points_near_by : Float → Subspace → List Vec → ℕ → List ℕ
  points_near_by tolerance s [] v = []
  points_near_by tolerance s (p ∷ ps) v =
      let rest = points_near_by tolerance s ps (suc v) in
      cond (lt (distance_by s p) tolerance) (v ∷ rest) rest

  unfoldable pub hyperplanes_by : Float → ℕ → List Vec → List Row → List (List ℕ) → List (List ℕ) → List Orbit
  hyperplanes_by tolerance most flat rows seen [] = []
  hyperplanes_by tolerance most flat rows seen (tuple ∷ ts) =
      let s = from_points_by tolerance (map (point_at flat) tuple) in
      let set = points_near_by tolerance s flat 0 in
      let joined = fresh compare_nats seen (map (set_image set) rows) in
      let orbit : Orbit = record { vertices = set; count = length joined } in
      let old = hyperplanes_by tolerance most flat rows seen ts in
      let new = orbit ∷ hyperplanes_by tolerance most flat rows (joined ++ seen) ts in
      cond (is_hyperplane s && not (any_of (λ (q : List ℕ). compare_is_eq (compare_nats set q)) seen)
      && leb (length set) most) new old

  unfoldable pub hyperplane_orbits_by : Float → Limits → ℕ → ℕ → List Vec → List Vec → List Row → List Orbit
  hyperplane_orbits_by tolerance limits rule more points flat rows =
      let n = length points in
      let breaks = breaks_limit_by tolerance limits points in
      let pairs = pair_openers (λ (p : Pair). breaks p.0 p.1) rows []
      (pairs_from n (vertex_openers rows [] (count_from 0 n))) in
      hyperplanes_by tolerance (most_vertices rule more n) flat rows [] (flat_map (tuples breaks n more) pairs)

  -- ---- Recursion and Faceting

  unfoldable pub inner_call_by : ℕ → Rules → Call → List Vec → List Row → Orbit → ℕ → Outcome Inner
  inner_call_by wanted rules call flat rows orbit =
      let points = map (point_at flat) orbit.vertices in
      call_on_set wanted call rows orbit (from_points_by rules.tolerance points) points

  unfoldable pub prepare_by : ℕ → Rules → Call → Subspace → List Vec → List Row → ℕ → Outcome Prepared
  prepare_by more rules call plane points rows =
      let flat = map (flatten plane) points in
      let orbits = hyperplane_orbits_by rules.tolerance rules.lengths rules.rule more points flat rows in
      prepare_from plain_way orbits (inner_call_by (suc more) rules call flat rows) more rules (length points) rows

  unfoldable pub faceting_by : ℕ → Rules → Call
  faceting_by zero rules = edge_call
  faceting_by (suc more) rules = λ plane points rows budget.
      answer_from rules (prepare_by more rules (faceting_by more rules) plane points rows budget)

  -- ---- Job

  unfoldable pub call_by : Bounds → Job → Outcome Answer
  call_by bounds job = faceting_by (job.rank - 2) (rules_of bounds job) (plane_of job) job.points job.rows job.budget

  unfoldable pub outcome_by : Bounds → Bytes → ℕ → ℕ → Outcome Bytes
  outcome_by bounds bytes workspace room =
      let job = read_job bytes in
      pass_all (tests bytes workspace) (λ u.
      and_then (call_by bounds job) (λ (a : Answer). fitting room (answer_bytes job.budget a)))
