-- No root is refused inside a job. A job's numbers are doubles, its points' and offset's at most 2 ^ 16 in size and
-- its basis' at most 1, so that Calls' theorem holds for every call of it: for every rank and every tolerance from
-- 1e-9 on, where a point has at most 5 coordinates; and so for every job that passes its own refusals. Leans on Calls
-- and on `of_bits-fits`.
use Rattle.std.specs.Prelude.{◌≡◌, refl, Bool, ◌&&◌, List, [], ◌∷◌, ℕ, zero, suc, ◌+◌, ◌-◌, ◌*◌, ◌^◌, ◌≤◌, T, leb}
use Rattle.std.specs.Prelude.{length, Float}
use Rattle.std.proofs.Common.{ap, ◌∙◌, zero-le, arith, leb→le}
use Rattle.std.proofs.lemmas.List.{length-map}
use Rattle.std.specs.Float.{nan, inf, fin, binary64}
use Rattle.std.specs.Float.Ieee.{up, down, fits, le}
use Rattle.std.specs.Float.Ieee.Bits.{of_bits-fits}
use Rattle.std.specs.Float.Ieee.Fits.{and_l, and_r}
use Rattle.laws.specs.Floats.{AtMostPower, not_above}
use Rattle.laws.specs.Refusals.{AllPassed, passes_at, passed}
use Rattle.definitions.specs.Lists.{all_of, count_from}
use Rattle.definitions.specs.Vectors.{Vec}
use Rattle.definitions.specs.Subspace.{Subspace}
use Rattle.definitions.specs.Job.{Bytes, Job, float_at, floats_at, vectors_at, read_job, between, within, all_within}
use Rattle.definitions.specs.Job.{limit_good, floats_good, is_finite, tolerance_good, header_tests, value_tests}
use Rattle.definitions.specs.Job.{job_tests, least_tolerance, greatest_tolerance, plane_of}
use Rattle.bounds.specs.Sizes.{Each, IsDouble, is_double_holds, each_of_map, each_so, each_both, Double, Small}
use Rattle.bounds.specs.Sizes.{small_wider}
use Rattle.bounds.specs.Calls.{Bounded, NormsFit, bound_at, flattened, flattened_small}

-- ---- tests over lists

pub each_passes : {A : Type 0} (p : A → Bool) (xs : List A) → T (all_of p xs) → Each (λ (x : A). T (p x)) xs
unfolding all_of
each_passes p [] t = tt
each_passes p (x ∷ xs) t = (and_l (p x) (all_of p xs) t, each_passes p xs (and_r (p x) (all_of p xs) t))

count_length : (a n : ℕ) → length (count_from a n) ≡ n
unfolding count_from
count_length a zero = refl
count_length a (suc n) = ap suc (count_length (suc a) n)

-- ---- numbers of a job

within_power : (k most : ℕ) (x : Float) → most ≡ 2 ^ k → T (within most x) → AtMostPower k x
unfolding within le
within_power k most nan e t = t
within_power k most (inf s) e t = t
within_power k most (fin s m d) e t =
    let h = not_above (m * up d * 1) (most * 1 * down d) t in
    let g = ap (λ (z : ℕ). z * down d) e in
    omega arith

-- what is read is a double or no number at all, and of the length that was asked for
pub record Read (d : ℕ) (v : Vec) : Type 0 where
  pub long : length v ≡ d
  pub held : Each (λ (x : Float). T (fits binary64 x)) v

floats_read : (bytes : Bytes) (at d : ℕ) → Read d (floats_at bytes at d)
unfolding floats_at float_at
floats_read bytes at d = record {
  long = length-map (count_from 0 d) (λ (i : ℕ). float_at bytes (at + 8 * i)) ∙ count_length 0 d;
  held =
      each_of_map (λ (x : Float). T (fits binary64 x)) (λ (i : ℕ). float_at bytes (at + 8 * i))
      (λ i. of_bits-fits binary64 _) (count_from 0 d);
}

vectors_read : (bytes : Bytes) (at d many : ℕ) → Each (Read d) (vectors_at bytes at d many)
unfolding vectors_at
vectors_read bytes at d many =
    each_of_map (Read d) (λ (i : ℕ). floats_at bytes (at + 8 * d * i) d) (λ i. floats_read bytes (at + 8 * d * i) d)
    (count_from 0 many)

vectors_length : (bytes : Bytes) (at d many : ℕ) → length (vectors_at bytes at d many) ≡ many
unfolding vectors_at
vectors_length bytes at d many =
    length-map (count_from 0 many) (λ (i : ℕ). floats_at bytes (at + 8 * d * i) d) ∙ count_length 0 many

read_small : (n d k most : ℕ) (v : Vec) → d ≤ n → most ≡ 2 ^ k → Read d v → T (all_within most v) → Small n k v
unfolding all_within
read_small n d k most v D e r t = record {
  short = let l = r.long in omega arith;
  sized =
      each_so (λ (x : Float). T (fits binary64 x) × T (within most x)) (Double k) (λ x h. record {
        holds = h.0;
        within = within_power k most x e h.1;
      }) v
      (each_both (λ (x : Float). T (fits binary64 x)) (λ (x : Float). T (within most x)) v r.held
      (each_passes (within most) v t));
}

vectors_small : (n d k most : ℕ) (vs : List Vec) → d ≤ n → most ≡ 2 ^ k → Each (Read d) vs
    → T (all_of (all_within most) vs) → Each (Small n k) vs
vectors_small n d k most vs D e r t =
    each_so (λ (v : Vec). Read d v × T (all_within most v)) (Small n k) (λ v h. read_small n d k most v D e h.0 h.1) vs
    (each_both (Read d) (λ (v : Vec). T (all_within most v)) vs r (each_passes (all_within most) vs t))

-- ---- a job

-- what refusals 4 and 9 leave: points of at least rank − 1 and at most n coordinates, and numbers of the sizes of
-- [11.2]
pub record Admitted (n : ℕ) (job : Job) : Type 0 where
  pub enough : job.rank - 1 ≤ job.d
  pub few : job.d ≤ n
  pub good : T (floats_good job)

-- how a job's vectors are read, whatever its bytes; nothing more is needed of the bytes, so that what follows holds
-- for any version that reads them so
pub record Whole (job : Job) : Type 0 where
  pub offset : Read job.d job.offset
  pub basis : Each (Read job.d) job.basis
  pub basis_length : length job.basis ≡ job.rank - 1
  pub points : Each (Read job.d) job.points

pub job_whole : (bytes : Bytes) → Whole (read_job bytes)
unfolding read_job
job_whole bytes = record {
  offset = floats_read bytes _ _;
  basis = vectors_read bytes _ _ _;
  basis_length = vectors_length bytes _ _ _;
  points = vectors_read bytes _ _ _;
}

pub job_bounded : (n : ℕ) (job : Job) → Whole job → Admitted n job → Bounded n 16 (plane_of job) job.points
unfolding floats_good plane_of
job_bounded n job w h =
    let limits = limit_good job.shortest && limit_good job.longest && is_finite job.tolerance in
    let offsets = all_within 65536 job.offset in
    let bases = all_of (all_within 1) job.basis in
    let before = and_l (limits && offsets && bases) (all_of (all_within 65536) job.points) h.good in
    let earlier = and_l (limits && offsets) bases before in
    record {
      tame = record {
        offset = read_small n job.d 16 65536 job.offset h.few refl w.offset (and_r limits offsets earlier);
        basis =
            each_so (Small n 0) (Small n 1) (λ v. small_wider v zero-le) job.basis
            (vectors_small n job.d 0 1 job.basis h.few refl w.basis (and_r (limits && offsets) bases before));
        few = let a = h.enough in let b = h.few in let e = w.basis_length in omega arith;
      };
      small = vectors_small n job.d 16 65536 job.points h.few refl w.points
          (and_r (limits && offsets && bases) (all_of (all_within 65536) job.points) h.good);
    }

-- ---- every norm in a job has its root

bound_at_holds : (depth : ℕ) → bound_at 5 16 depth ≡ 16 + 7 * depth
unfolding bound_at
bound_at_holds zero = refl
bound_at_holds (suc depth) = let e = bound_at_holds depth in omega arith

-- points of at most 5 coordinates leave room down to depth 67; a job of at most 5 coordinates has no call deeper than
-- 4
pub room_at : (depth : ℕ) → depth ≤ 67 → NormsFit 5 (bound_at 5 16 depth)
room_at depth h = let e = bound_at_holds depth in omega arith

-- every number that a call of the job is given, or makes of its points by flattening, is a finite double
pub record AllDoubles (plane : Subspace) (points : List Vec) : Type 0 where
  pub offset : Each IsDouble plane.offset
  pub basis : Each (Each IsDouble) plane.basis
  pub given : Each (Each IsDouble) points
  pub flat : Each (Each IsDouble) (flattened plane points)

small_doubles : (n k : ℕ) (v : Vec) → Small n k v → Each IsDouble v
small_doubles n k v s = each_so (Double k) IsDouble (is_double_holds k) v s.sized

pub bounded_doubles : (n k : ℕ) (plane : Subspace) (points : List Vec) → NormsFit n k → Bounded n k plane points
    → AllDoubles plane points
bounded_doubles n k plane points room h = record {
  offset = small_doubles n k plane.offset h.tame.offset;
  basis = each_so (Small n 1) (Each IsDouble) (small_doubles n 1) plane.basis h.tame.basis;
  given = each_so (Small n k) (Each IsDouble) (small_doubles n k) points h.small;
  flat =
      each_so (Small n (k + 2 + n)) (Each IsDouble) (small_doubles n (k + 2 + n)) (flattened plane points)
      (flattened_small n k plane points room h);
}

-- ---- a job that passes its tests

pub passed_is_admitted : (bytes : Bytes) → AllPassed (job_tests bytes) → Admitted 5 (read_job bytes)
unfolding passes_at job_tests header_tests value_tests between
passed_is_admitted bytes h =
    let job = read_job bytes in
    let dimension : T (leb (job.rank - 1) job.d && leb job.d 4) = passed 4 (job_tests bytes) h in
    let most = leb→le job.d 4 (and_r (leb (job.rank - 1) job.d) (leb job.d 4) dimension) in
    record {
      enough = leb→le (job.rank - 1) job.d (and_l (leb (job.rank - 1) job.d) (leb job.d 4) dimension);
      few = omega arith;
      good = passed 9 (job_tests bytes) h;
    }

-- refusal 22 leaves a tolerance from 1e-9 on
pub tolerance_high_enough : (bytes : Bytes) → AllPassed (job_tests bytes)
    → T (le least_tolerance (read_job bytes).tolerance)
unfolding passes_at job_tests header_tests value_tests tolerance_good
tolerance_high_enough bytes h =
    let tolerance = (read_job bytes).tolerance in
    and_l (le least_tolerance tolerance) (le tolerance greatest_tolerance) (passed 22 (job_tests bytes) h)
