-- Theorems on the definitions of specs/Jobs.
use Rattle.std.specs.Prelude.{◌≡◌, true, List, [], ℕ, ◌-◌, T, Float}
use Rattle.std.proofs.Common.{arith}
use Rattle.std.specs.Float.Ieee.{le}
use Rattle.laws.specs.Refusals.{AllPassed}
use Rattle.definitions.specs.Vectors.{Vec, dot, has_root}
use Rattle.definitions.specs.Subspace.{Subspace}
use Rattle.definitions.specs.Job.{Bytes, Job, read_job, job_tests, least_tolerance, plane_of}
use Rattle.bounds.specs.Calls.{Takes, Occurs, depth_and_rank, Bounded, Rooted, NormsFit, bound_at}
use Rattle.bounds.proofs.Calls.{occurs_bounded, every_norm_has_its_root}
use Rattle.bounds.specs.Jobs.{Admitted, AllDoubles, Whole, bounded_doubles, job_bounded, job_whole, passed_is_admitted}
use Rattle.bounds.specs.Jobs.{room_at, tolerance_high_enough}

-- ---- every norm in a job has its root

module _ (job : Job) (w : Whole job) (h : Admitted 5 job) (tolerance : Float)
    (low : T (le least_tolerance tolerance)) where
  call_room : {depth more : ℕ} {plane : Subspace} {points : List Vec}
      → Occurs tolerance (job.rank - 2) (plane_of job) job.points depth more plane points
      → NormsFit 5 (bound_at 5 16 depth)
  call_room {depth} c =
      let e = depth_and_rank c in
      let a = h.enough in
      let b = h.few in
      room_at depth (omega arith)

  call_bounded : {depth more : ℕ} {plane : Subspace} {points : List Vec}
      → Occurs tolerance (job.rank - 2) (plane_of job) job.points depth more plane points
      → Bounded 5 (bound_at 5 16 depth) plane points
  call_bounded c =
      occurs_bounded 5 16 tolerance low (job.rank - 2) (plane_of job) job.points (job_bounded 5 job w h)
      (call_room c) c

  -- For any rank, any tolerance from 1e-9 on and points of at most 5 coordinates: whatever norm a call of the job
  -- takes, its root has a value, and the norm is a finite double.
  pub job_asks_for_roots_that_exist : {depth more : ℕ} {plane : Subspace} {points : List Vec} {v : Vec}
      → Occurs tolerance (job.rank - 2) (plane_of job) job.points depth more plane points
      → Takes tolerance plane points v → Rooted v
  job_asks_for_roots_that_exist c t =
      every_norm_has_its_root 5 16 tolerance low (job.rank - 2) (plane_of job) job.points (job_bounded 5 job w h)
      (call_room c) c t

  -- And every number that it is given or flattens is a finite double.
  pub job_handles_doubles : {depth more : ℕ} {plane : Subspace} {points : List Vec}
      → Occurs tolerance (job.rank - 2) (plane_of job) job.points depth more plane points
      → AllDoubles plane points
  job_handles_doubles {depth} {plane = plane} {points = points} c =
      bounded_doubles 5 (bound_at 5 16 depth) plane points (call_room c) (call_bounded c)

-- ---- a job that passes its tests

-- A double that is negative, infinite or no number has no root [3.2]: no job that passes its own refusals ever asks
-- for it, at whatever tolerance it names.
pub no_root_is_refused : (bytes : Bytes) → AllPassed (job_tests bytes)
    → {depth more : ℕ} {plane : Subspace} {points : List Vec} {v : Vec}
    → Occurs (read_job bytes).tolerance ((read_job bytes).rank - 2) (plane_of (read_job bytes))
    (read_job bytes).points depth more plane points → Takes (read_job bytes).tolerance plane points v
    → has_root (dot v v) ≡ true
no_root_is_refused bytes t c k =
    (job_asks_for_roots_that_exist (read_job bytes) (job_whole bytes) (passed_is_admitted bytes t)
    (read_job bytes).tolerance (tolerance_high_enough bytes t) c k).root
