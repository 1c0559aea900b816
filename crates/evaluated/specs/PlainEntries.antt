-- The plain entries [18.2] [18.3], evaluated on jobs that tell the readings of the request apart, each
-- with what the Rust's `filter_irc` gives. The last of these keeps an entry that another stands inside of, which the
-- promise of [18.4] allows.
use Rattle.std.specs.Prelude.{Bool, false, ◌&&◌, ℕ, ◌+◌, ◌*◌, T, eqb, length, get_or}
use mathlib.Core.List.{List, [], ◌∷◌, flat_map}
use Rattle.definitions.specs.Lists.{Pair, all_of}
use Rattle.definitions.specs.Outcome.{Outcome, refused, answered}
use Rattle.definitions.specs.Recursion.{Answer}
use Rattle.definitions.specs.Job.{Bytes, same_nats}
use Rattle.definitions.specs.Prices.{answer_of}
use Rattle.definitions.specs.Plain.{split_lists, plain_ones, Inside, nothing, passed, taken}
use Rattle.definitions.specs.Open.{open_all}
use Rattle.definitions.specs.Examples.{open_examples, bytes_of, job_with, whole_points, plain, with_budget, identity}
use Rattle.definitions.specs.Examples.{segment_job, square_job}

-- ---- jobs

pub record PlainCase : Type 0 where
  pub job : Bytes
  pub workspace : ℕ
  pub kept : List ℕ

-- two points
unfoldable pub two_points : PlainCase
two_points = record { job = segment_job (identity 2); workspace = 0; kept = 0 ∷ [] }

-- the list (0,0), (0,4) holds the list (0,4), which begins above it
unfoldable pub begins_above : PlainCase
begins_above = record {
  job =
      job_with (plain 4) 3
      (whole_points ((0 ∷ 0 ∷ 0 ∷ []) ∷ (0 ∷ 0 ∷ 0 ∷ []) ∷ (1 ∷ 0 ∷ 0 ∷ []) ∷ (1 ∷ 1 ∷ 1 ∷ []) ∷ []))
      ((0 ∷ 1 ∷ 2 ∷ 3 ∷ []) ∷ (1 ∷ 2 ∷ 3 ∷ 0 ∷ []) ∷ []);
  workspace = 4194304;
  kept = 0 ∷ 1 ∷ [];
}

-- entry 1 is left out, and has no label
unfoldable pub no_label : PlainCase
no_label = record {
  job =
      job_with (plain 4) 3
      (whole_points ((1 ∷ 0 ∷ 0 ∷ []) ∷ (0 ∷ 0 ∷ 0 ∷ []) ∷ (1 ∷ 0 ∷ 0 ∷ []) ∷ (1 ∷ 1 ∷ 0 ∷ []) ∷ []))
      ((0 ∷ 1 ∷ 2 ∷ 3 ∷ []) ∷ (1 ∷ 2 ∷ 0 ∷ 3 ∷ []) ∷ (2 ∷ 0 ∷ 1 ∷ 3 ∷ []) ∷ []);
  workspace = 4194304;
  kept = 0 ∷ [];
}

-- split lists: before splitting no list of this job stands in another
unfoldable pub by_split_lists : PlainCase
by_split_lists = record {
  job =
      job_with (plain 4) 3
      (whole_points ((1 ∷ 0 ∷ 0 ∷ []) ∷ (0 ∷ 1 ∷ 0 ∷ []) ∷ (0 ∷ 0 ∷ 1 ∷ []) ∷ (1 ∷ 0 ∷ 0 ∷ []) ∷ []))
      ((0 ∷ 1 ∷ 2 ∷ 3 ∷ []) ∷ (3 ∷ 2 ∷ 0 ∷ 1 ∷ []) ∷ []);
  workspace = 4194304;
  kept = 0 ∷ 2 ∷ [];
}

-- entry 2 has the list (1,2), (4,0), (2,0), and the list (1,2), (2,0) of entry 0 stands inside it
unfoldable pub walk_ends : PlainCase
walk_ends = record {
  job =
      job_with (plain 4) 3 (whole_points ((0 ∷ 2 ∷ 2 ∷ []) ∷ (0 ∷ 0 ∷ 0 ∷ []) ∷ (2 ∷ 1 ∷ 2 ∷ []) ∷ (0 ∷ 0 ∷ 2 ∷ [])
      ∷ (0 ∷ 2 ∷ 1 ∷ []) ∷ []))
      ((0 ∷ 1 ∷ 2 ∷ 3 ∷ 4 ∷ []) ∷ (0 ∷ 1 ∷ 2 ∷ 4 ∷ 3 ∷ []) ∷ (0 ∷ 4 ∷ 1 ∷ 2 ∷ 3 ∷ []) ∷ []);
  workspace = 4194304;
  kept = 0 ∷ 2 ∷ 3 ∷ [];
}

unfoldable pub gives : List ℕ → Outcome Bytes → Bool
gives words (refused number) = false
gives words (answered bytes) = same_nats bytes (flat_map (bytes_of 4) words)

unfoldable pub refuses : ℕ → Outcome Bytes → Bool
refuses n (refused number) = eqb n number
refuses n (answered bytes) = false

-- with just the bytes that are needed
unfoldable pub keeps : PlainCase → Bool
keeps c = gives (length c.kept ∷ c.kept) (plain_ones c.job c.workspace (4 + 4 * length c.kept))

pub readings : T (all_of keeps (two_points ∷ begins_above ∷ no_label ∷ by_split_lists ∷ walk_ends ∷ []))
unfolding open_all open_examples two_points begins_above no_label by_split_lists walk_ends gives keeps
readings = tt

-- the job's own refusals come first, 17 last, for the numbers' bytes and not for the answer's
pub refusals : T (refuses 1 (plain_ones [] 0 0) && refuses 12 (plain_ones (square_job (plain 3)) 524287 0)
    && refuses 16 (plain_ones (square_job (with_budget 3 0)) 524288 0)
    && refuses 17 (plain_ones (segment_job (identity 2)) 0 7))
unfolding open_all open_examples refuses
refusals = tt

-- ---- an entry that is kept though another stands inside it

unfoldable pub lists_in : Outcome Answer → List (List Pair)
lists_in (refused number) = []
lists_in (answered a) = split_lists a.entries

unfoldable pub walk_ends_lists : List (List Pair)
walk_ends_lists = lists_in (answer_of walk_ends.job 4194304)

pub kept_with_another_inside : Inside (get_or walk_ends_lists 0 []) (get_or walk_ends_lists 2 [])
unfolding open_all open_examples walk_ends lists_in walk_ends_lists
kept_with_another_inside =
    taken (1, 2) ((2, 0) ∷ []) ((4, 0) ∷ (2, 0) ∷ [])
    (passed (4, 0) ((2, 0) ∷ []) ((2, 0) ∷ []) (taken (2, 0) [] [] (nothing [])))
