-- Jobs with a package, evaluated: what is examined, what 13 counts, the place of 18 among the refusals, and what
-- `NobleComplete` [17.11] rules out of the square: no entry, an entry missing, one twice, a compound added.
use Rattle.std.specs.Prelude.{◌≡◌, Bool, false, not, ◌&&◌, List, [], ◌∷◌, ◌++◌, ℕ, T, eqb, take, drop}
use Rattle.std.proofs.Common.{sym, ap, ◌∙◌, subst, T_not}
use Rattle.definitions.specs.Lists.{all_of}
use Rattle.definitions.specs.Outcome.{Outcome, refused, answered}
use Rattle.definitions.specs.Figures.{dyad}
use Rattle.definitions.specs.Search.{Facet}
use Rattle.definitions.specs.Recursion.{Entry}
use Rattle.definitions.specs.Job.{Bytes, Job, read_job, bounds1, rules_of, number_at, alone}
use Rattle.definitions.specs.Noble.{Package, read_package}
use Rattle.definitions.specs.NobleCalls.{noble_call_of, noble_alone, noble_prepared_of, NobleCallComplete}
use Rattle.definitions.specs.NobleCalls.{NobleComplete}
use Rattle.definitions.specs.Examples.{identity}
use Rattle.definitions.specs.RuledOut.{same_entries, entries_after, entries_with, square_bytes, square_entries}
use Rattle.definitions.specs.RuledOut.{open_square}
use Rattle.evaluated.specs.Packages.{package_bytes}

-- ---- the square

-- the square's points are the full set, and each counts for so many
unfoldable pub square_pack : ℕ → Bytes
square_pack count = package_bytes 4 count (0 ∷ 1 ∷ 2 ∷ 3 ∷ []) (identity 4)

-- how many lists an answer says were examined
unfoldable pub examined : Outcome Bytes → ℕ → Bool
examined (refused number) many = false
examined (answered bytes) many = eqb (number_at bytes 0 4) many

unfoldable pub refused_with : {A : Type 0} → ℕ → Outcome A → Bool
refused_with number (refused k) = eqb k number
refused_with number (answered a) = false

-- with count 2 all six lines are kept: the same entries, and fewer lists examined; with count 1 none is
pub square_examined : T (examined (alone square_bytes 524288) 35
    && examined (noble_alone square_bytes (square_pack 2) 524288) 22
    && examined (noble_alone square_bytes (square_pack 1) 524288) 0)
unfolding open_square package_bytes square_pack examined
square_examined = tt

-- 13 counts all six, also where none is kept
pub thirteen_counts_all : T (refused_with 13 (noble_call_of (record {
  orbits = 5;
  facets = 1024;
  entries = 1024;
}) (read_job square_bytes) (read_package 4 (square_pack 1))))
unfolding open_square package_bytes square_pack refused_with
thirteen_counts_all = tt

-- the job's own refusals, then 18, then 12
unfoldable pub in_order : List Bool
in_order =
    refused_with 1 (noble_alone [] [] 0)
    ∷ refused_with 8 (noble_alone (square_bytes ++ (0 ∷ [])) [] 0)
    ∷ refused_with 18 (noble_alone square_bytes [] 0)
    ∷ refused_with 12 (noble_alone square_bytes (square_pack 2) 524287)
    ∷ []

pub eighteen_between : T (all_of (λ (b : Bool). b) in_order)
unfolding open_square package_bytes square_pack refused_with in_order
eighteen_between = tt

-- ---- entries that pass are those that the definition's search gives

unfoldable pub noble_entries : Job → Package → List Entry
noble_entries job pack = entries_with (rules_of bounds1 job) (noble_prepared_of job pack)

pub only_these : (job : Job) (pack : Package) (entries : List Entry) → NobleCallComplete job pack entries
    → entries ≡ noble_entries job pack
unfolding entries_after entries_with noble_entries
only_these job pack entries done =
    done.complete.exactly
    ∙ sym (ap (entries_after done.before) done.is_found_holds)
    ∙ sym (ap (entries_with (rules_of bounds1 job)) done.is_before)

unfoldable pub square_nobles : List Entry
square_nobles = noble_entries (read_job square_bytes) (read_package 4 (square_pack 2))

-- they are those without a package: no closed choice of the square lies inside another
pub square_same : T (same_entries square_nobles square_entries)
unfolding open_square package_bytes square_pack noble_entries square_nobles
square_same = tt

pub square_ruled_out : (entries : List Entry) → T (same_entries entries entries)
    → T (not (same_entries entries square_nobles)) → NobleComplete square_bytes (square_pack 2) entries → ⊥
unfolding open_square package_bytes square_pack noble_entries square_nobles
square_ruled_out entries same differ demand =
    T_not (same_entries entries square_nobles) differ
    (subst (λ (e : List Entry). T (same_entries entries e))
    (only_these (read_job square_bytes) (read_package 4 (square_pack 2)) entries (demand.holds tt)) same)

unfoldable pub open_nobles : Unit {0}
unfolding open_square package_bytes square_pack noble_entries square_nobles
open_nobles = tt

-- no entry
pub not_none : NobleComplete square_bytes (square_pack 2) [] → ⊥
unfolding open_nobles
not_none = square_ruled_out [] tt tt

-- the first is missing
unfoldable pub first_missing : List Entry
first_missing = drop 1 square_nobles

pub not_missing : NobleComplete square_bytes (square_pack 2) first_missing → ⊥
unfolding open_nobles first_missing
not_missing = square_ruled_out first_missing tt tt

-- the first is there twice
unfoldable pub first_twice : List Entry
first_twice = take 1 square_nobles ++ square_nobles

pub not_twice : NobleComplete square_bytes (square_pack 2) first_twice → ⊥
unfolding open_nobles first_twice
not_twice = square_ruled_out first_twice tt tt

-- a compound of two figures is there too: the facets of the first entry with those of the last behind them
unfoldable pub together : List Entry → List Facet
together [] = []
together (e ∷ entries) = e.before ++ together entries

unfoldable pub compound_added : List Entry
compound_added =
    square_nobles ++ (record { list = together square_nobles; before = together square_nobles; figure = dyad } ∷ [])

pub not_with_compound : NobleComplete square_bytes (square_pack 2) compound_added → ⊥
unfolding open_nobles together compound_added
not_with_compound = square_ruled_out compound_added tt tt
