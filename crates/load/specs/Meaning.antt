-- The fields of a job as the code hands them on, and what they mean: the definition's `Job`, its plane, its points
-- and its rows. Leans on Places and on what the crate of spaces says.
use Rattle.std.proofs.Props.{props}
use Rattle.std.specs.Prelude.{◌≡◌, refl, List, map, ℕ, ◌+◌, ◌-◌, ◌*◌, ◌≤◌, length, take, drop, Float}
use Rattle.definitions.specs.Lists.{count_from}
use Rattle.definitions.specs.Orbits.{Row}
use Rattle.definitions.specs.Job.{Bytes, read_job, floats_at, vectors_at}
use Rattle.load.specs.declared.Fields.{Fields}
use Rattle.load.specs.Places.{header_of, places_of}

-- ---- the fields

-- the fields of the definition's job, and the places of what is too long for a struct
unfoldable pub fields_of : Bytes → Fields
fields_of bytes =
    let job = read_job bytes in
    let places = places_of (header_of bytes) in
    record {
      rank = job.rank;
      d = job.d;
      n = job.n;
      count = job.row_count;
      limits = record { shortest = job.shortest; longest = job.longest };
      entries = job.entry_limit;
      tolerance = job.tolerance;
      rule = job.rule;
      budget = job.budget;
      offset = places.offset;
      basis = places.basis;
      points = places.points;
      rows = places.rows;
    }

-- that fields are a job's has one proof at most: they are numbers, floats and options of these
pub read_once : (f : Fields) (bytes : Bytes) → IsProp (f ≡ fields_of bytes)
read_once f bytes = Prim.hlevel props

-- ---- rows

-- so many rows of n bytes, one behind the other from a place on, as a job holds them
unfoldable pub rows_at : Bytes → ℕ → ℕ → ℕ → List Row
rows_at bytes at n count = map (λ (i : ℕ). take n (drop (at + n * i) bytes)) (count_from 0 count)

-- ---- what fields say of a job of its exact length

-- The fields are those of the definition's job; the counts are bounded, and each part lies in the job.
pub record Loadable (bytes : Bytes) (f : Fields) : Type 0 where
  pub rank_is : f.rank ≡ (read_job bytes).rank
  pub d_is : f.d ≡ (read_job bytes).d
  pub n_is : f.n ≡ (read_job bytes).n
  pub count_is : f.count ≡ (read_job bytes).row_count
  pub shortest_is : f.limits.shortest ≡ (read_job bytes).shortest
  pub longest_is : f.limits.longest ≡ (read_job bytes).longest
  pub entries_is : f.entries ≡ (read_job bytes).entry_limit
  pub tolerance_is : f.tolerance ≡ (read_job bytes).tolerance
  pub rule_is : f.rule ≡ (read_job bytes).rule
  pub budget_is : f.budget ≡ (read_job bytes).budget
  pub rank_least : 2 ≤ f.rank
  pub rank_most : f.rank ≤ 4
  pub d_least : f.rank - 1 ≤ f.d
  pub d_most : f.d ≤ 4
  pub n_least : 2 ≤ f.n
  pub n_most : f.n ≤ 20
  pub count_least : 1 ≤ f.count
  pub count_most : f.count ≤ 120
  pub offset_fits : f.offset + 8 * f.d ≤ length bytes
  pub basis_fits : f.basis + 8 * f.d * (f.rank - 1) ≤ length bytes
  pub points_fit : f.points + 8 * f.d * f.n ≤ length bytes
  pub rows_fit_holds : f.rows + f.n * f.count ≤ length bytes
  pub offset_is : (read_job bytes).offset ≡ floats_at bytes f.offset f.d
  pub basis_is : (read_job bytes).basis ≡ vectors_at bytes f.basis f.d (f.rank - 1)
  pub points_is : (read_job bytes).points ≡ vectors_at bytes f.points f.d f.n
  pub rows_is : (read_job bytes).rows ≡ rows_at bytes f.rows f.n f.count
