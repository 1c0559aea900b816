-- The call with a package: docs/SPECIFICATION.md, [17.8] to [17.11]. The orbits that the package keeps, closed lists
-- that are not extended, the refusals with 18 among them, and what is demanded of the entries. Leans on Noble,
-- Faceting and Demands.
use Rattle.std.specs.Prelude.{◌≡◌, refl, false, not, ℕ, zero, suc, ◌-◌, ◌≤◌, T, ℤ, pos, neg_ℤ, length, take, drop}
use Rattle.std.specs.Prelude.{replicate}
use mathlib.Core.List.{List, [], ◌∷◌, ◌++◌, Memᴰ, Pairwise}
use Rattle.std.specs.Prelude.{Option, None}
use Rattle.definitions.specs.Lists.{is_gt}
use Rattle.definitions.specs.Outcome.{Outcome, refused, answered, and_then}
use Rattle.definitions.specs.Search.{Facet, Found}
use Rattle.definitions.specs.Recursion.{Bounds, Rules, Entry, Answer}
use Rattle.definitions.specs.Faceting.{Way, plain_way, Prepared, prepare_with, prepare, table_for, entries_of}
use Rattle.definitions.specs.Faceting.{compare_entries, search_from, faceting, faceting_with}
use Rattle.definitions.specs.Job.{Bytes, Job, read_job, bounds1, rules_of, plane_of, Test, job_tests, workspace_tests}
use Rattle.definitions.specs.Job.{pass_all, answer_bytes, fitting, between}
use Rattle.definitions.specs.Demands.{choice_of, is_closed_choice, choices_of, equal_shares, EntryOfChoice}
use Rattle.definitions.specs.Noble.{Package, read_package, package_good, kept_by, AllMinimalChoices}

-- ---- the call

-- [17.8] [17.9] the orbits that the package keeps, and closed lists are not extended
unfoldable pub noble_way : Package → Way
noble_way p = record { keeps = kept_by p; extended = false }

-- [17.8] without a package it is the call of [9.1]
pub faceting_with_holds : (n : ℕ) (rules : Rules) → faceting_with plain_way n rules ≡ faceting n rules
unfolding faceting_with faceting prepare
faceting_with_holds zero rules = refl
faceting_with_holds (suc more) rules = refl

-- [17.10] the outermost call of a job with a package
unfoldable pub noble_call_of : Bounds → Job → Package → Outcome Answer
noble_call_of bounds job p =
    faceting_with (noble_way p) (job.rank - 2) (rules_of bounds job) (plane_of job) job.points job.rows job.budget

-- ---- refusals

-- [17.10] 18: the package, for the job's number of vertices
unfoldable pub package_tests : Bytes → Bytes → List Test
package_tests bytes pack = record { number = 18; passes = λ u. package_good (read_job bytes).n pack } ∷ []

-- [17.10] the job's own tests, then 18, then the workspace
unfoldable pub noble_tests : Bytes → Bytes → ℕ → List Test
noble_tests bytes pack workspace = job_tests bytes ++ (package_tests bytes pack ++ workspace_tests bytes workspace)

-- [17.10] what a job with a package gets by itself: its answer's bytes, however many, or a refusal that is not 17
unfoldable pub noble_alone : Bytes → Bytes → ℕ → Outcome Bytes
noble_alone bytes pack workspace =
    let job = read_job bytes in
    pass_all (noble_tests bytes pack workspace) (λ u.
    and_then (noble_call_of bounds1 job (read_package job.n pack))
    (λ (a : Answer). answered (answer_bytes job.budget a)))

-- [17.10] the answer's bytes where there is room for them, or the refusal
unfoldable pub noble_outcome : Bytes → Bytes → ℕ → ℕ → Outcome Bytes
noble_outcome bytes pack workspace room =
    let job = read_job bytes in
    pass_all (noble_tests bytes pack workspace) (λ u.
    and_then (noble_call_of bounds1 job (read_package job.n pack))
    (λ (a : Answer). fitting room (answer_bytes job.budget a)))

-- ---- demands

-- [17.11] the first demand [13.1], of any outcome
pub record FirstDemand (result : Outcome Bytes) (room : ℕ) (code : ℤ) (buffer : Bytes) : Type 0 where
  pub after_refusal : (number : ℕ) → result ≡ refused number → (code ≡ neg_ℤ (pos number)) × (buffer ≡ replicate room 0)
  pub after_answer : (answer : Bytes) → result ≡ answered answer
      → (many : ℕ) × (code ≡ pos many) × (many ≤ room) × (length buffer ≡ room)
      × (drop many buffer ≡ replicate (room - many) 0)

-- [17.11] the second [13.2], of any outcome
pub record SecondDemand (result : Outcome Bytes) (code : ℤ) (buffer : Bytes) : Type 0 where
  pub same_bytes : (answer : Bytes) → result ≡ answered answer
      → (code ≡ pos (length answer)) × (take (length answer) buffer ≡ answer)

-- [17.11] What is demanded of the entries of a call with a package, above rank 2: of its entry limit, what it had
-- before its search, the lists its search emits, and the entries.
pub record MinimalEntries (limit : Option ℕ) (p : Prepared) (emitted : List (List Facet))
    (entries : List Entry) : Type 0 where
  -- sound, whatever the shares and the limit: the choice that the record names is closed, and the entry is made from
  -- it
  pub every_entry : (e : Entry) → Memᴰ e entries
      → T (is_closed_choice (table_for p) (choice_of e.before)) × EntryOfChoice p e (choice_of e.before)
  -- under the proviso and without a limit, the choices that the records name, in the entries' order, are the closed
  -- choices with none properly inside, once each
  pub minimal : limit ≡ None → T (equal_shares (table_for p)) → AllMinimalChoices (table_for p) (choices_of entries)
  -- sorted
  pub ascending : Pairwise (λ (d e : Entry). T (not (is_gt (compare_entries d e)))) entries
  -- and just those of the lists that the search emits
  pub exactly : entries ≡ entries_of p emitted

-- [17.11] the outermost call of a job of rank 3 or more with a package, before its search
unfoldable pub noble_prepared_of : Job → Package → Outcome Prepared
noble_prepared_of job p =
    let rules = rules_of bounds1 job in
    prepare_with (noble_way p) (job.rank - 3) rules (faceting (job.rank - 3) rules)
    (plane_of job) job.points job.rows job.budget

-- [17.11] the orbits are those that the package keeps, the search is the definitions', and the entries are as
-- demanded
pub record NobleCallComplete (job : Job) (pack : Package) (entries : List Entry) : Type 0 where
  pub before : Prepared
  pub is_before : noble_prepared_of job pack ≡ answered before
  pub found : Found
  pub is_found_holds : search_from (rules_of bounds1 job) before ≡ answered found
  pub complete : MinimalEntries job.entry_limit before found.lists entries

-- [17.11] of the bytes of a job and of a package and any list of entries, for jobs of rank 3 or 4
pub record NobleComplete (bytes pack : Bytes) (entries : List Entry) : Type 0 where
  pub holds : T (between 3 4 (read_job bytes).rank)
      → NobleCallComplete (read_job bytes) (read_package (read_job bytes).n pack) entries
