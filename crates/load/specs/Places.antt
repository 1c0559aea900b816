-- The header of a job, and where its fields stand: the places that the definition's `read_job` reads at, as the
-- structs of the code hold them. Leans on the definition of a job.
use Rattle.std.specs.Prelude.{◌≡◌, refl, cond, ◌+◌, ◌-◌, ◌*◌, ◌≤◌, leb, length, get_or}
use Rattle.definitions.specs.Job.{Bytes, number_at, flag_set, read_job}
use Rattle.load.specs.declared.Header.{Header}
use Rattle.load.specs.declared.Places.{Places}

-- the version, the counts and the flags, read where they would stand
unfoldable pub header_of : Bytes → Header
header_of bytes = record {
  version = number_at bytes 3 2;
  rank = get_or bytes 5 0;
  d = get_or bytes 6 0;
  n = get_or bytes 7 0;
  count = number_at bytes 8 2;
  flags = get_or bytes 10 0;
}

-- [10.2] where each field behind the header begins
unfoldable pub places_of : Header → Places
places_of h =
    let maxAt = 11 + cond (flag_set h.flags 1) 8 0 in
    let limitAt = maxAt + cond (flag_set h.flags 2) 8 0 in
    let toleranceAt = limitAt + cond (flag_set h.flags 4) 4 0 in
    let ruleAt = toleranceAt + cond (leb 2 h.version) 8 0 in
    let budgetAt = ruleAt + cond (leb 3 h.version) 1 0 in
    let offsetAt = budgetAt + 4 in
    let basisAt = offsetAt + 8 * h.d in
    let pointsAt = basisAt + 8 * h.d * (h.rank - 1) in
    let rows_at = pointsAt + 8 * h.d * h.n in
    record {
      max = maxAt;
      limit = limitAt;
      tolerance = toleranceAt;
      rule = ruleAt;
      budget = budgetAt;
      offset = offsetAt;
      basis = basisAt;
      points = pointsAt;
      rows = rows_at;
      size = rows_at + h.n * h.count;
    }

-- what refusals 3 to 6 leave of a header
pub record Counted (h : Header) : Type 0 where
  pub rank_least : 2 ≤ h.rank
  pub rank_most : h.rank ≤ 4
  pub d_least : h.rank - 1 ≤ h.d
  pub d_most : h.d ≤ 4
  pub n_least : 2 ≤ h.n
  pub n_most : h.n ≤ 20
  pub count_least : 1 ≤ h.count
  pub count_most : h.count ≤ 120

-- what refusals 1 to 8 leave of a job: its counts, and that it is just as long as they say
pub record Exact (bytes : Bytes) : Type 0 where
  pub header_fits : 11 ≤ length bytes
  pub counted : Counted (header_of bytes)
  pub long : length bytes ≡ (places_of (header_of bytes)).size

-- the definition's length is the one worked out here
pub size_is : (bytes : Bytes) → (read_job bytes).size ≡ (places_of (header_of bytes)).size
unfolding read_job header_of places_of
size_is bytes = refl
