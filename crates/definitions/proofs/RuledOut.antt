-- That `Demand3` [13.8] rules out, at the square: no entry, one entry only, an entry twice, another figure, another
-- order. The lists are defined in specs/RuledOut. Leans on Demands and evaluates.
use Rattle.std.specs.Prelude.{◌≡◌, refl, Bool, false, not, ◌&&◌, T, take, drop}
use Rattle.std.proofs.Common.{sym, ap, ◌∙◌, subst, T_not}
use mathlib.Core.List.{List, [], ◌∷◌, ◌++◌, map, flat_map, reverse}
use Rattle.std.proofs.Math.Dec.{compare_is_eq}
use Rattle.definitions.specs.Lists.{compare_nats, all_of}
use Rattle.definitions.specs.Outcome.{Outcome, refused, answered}
use Rattle.definitions.specs.Figures.{dyad}
use Rattle.definitions.specs.Search.{Facet, Table, Found}
use Rattle.definitions.specs.Recursion.{Rules, Entry}
use Rattle.definitions.specs.Faceting.{Prepared, table_for, entries_of, search_from}
use Rattle.definitions.specs.Job.{Bytes, Job, read_job, bounds1, rules_of, between, counted, entry_words}
use Rattle.definitions.specs.Demands.{Demand3, CallComplete, Accepted, prepared_of, choice_of, is_closed_choice}
use Rattle.definitions.specs.Demands.{is_order_of, equal_shares}
use Rattle.definitions.specs.Open.{open_all}
use Rattle.definitions.specs.Examples.{open_examples, plain, square_job, bytes_of}
use Rattle.definitions.specs.KnownJobs.{plain_square_answer}
use Rattle.definitions.specs.RuledOut.{entries_after, entries_with, entries_of_job, same_entries, square_bytes}
use Rattle.definitions.specs.RuledOut.{square_entries, open_square, only_last, first_twice, other_figure, other_before}
use Rattle.definitions.specs.RuledOut.{backwards, closed_in_order, sensible, denies}

-- ---- entries that pass are those that the definition's search gives

pub only_these : (job : Job) (entries : List Entry) → CallComplete job entries → entries ≡ entries_of_job job
unfolding entries_after entries_with entries_of_job
only_these job entries done =
    done.complete.exactly
    ∙ sym (ap (entries_after done.before) done.is_found_holds)
    ∙ sym (ap (entries_with (rules_of bounds1 job)) done.is_before)

-- entries that are written otherwise than the definition's do not meet the third demand
pub ruled_out : (bytes : Bytes) (entries : List Entry) → Accepted bytes → T (between 3 4 (read_job bytes).rank)
    → T (same_entries entries entries)
    → T (not (same_entries entries (entries_of_job (read_job bytes)))) → Demand3 bytes entries → ⊥
ruled_out bytes entries accepted rank same differ demand =
    T_not (same_entries entries (entries_of_job (read_job bytes))) differ
    (subst (λ (e : List Entry). T (same_entries entries e))
    (only_these (read_job bytes) entries (demand.holds accepted rank)) same)

-- ---- the square

pub square_accepted : Accepted square_bytes
unfolding open_all open_examples square_bytes plain_square_answer
square_accepted = record {
  workspace = 524288;
  room = 4000;
  answer = flat_map (bytes_of 4) plain_square_answer;
  is_answered_holds = refl;
}

-- `ruled_out` at the square: both tests are computed
pub square_ruled_out : (entries : List Entry) → T (same_entries entries entries)
    → T (not (same_entries entries square_entries)) → Demand3 square_bytes entries → ⊥
unfolding open_all open_examples square_bytes square_entries
square_ruled_out entries same differ = ruled_out square_bytes entries square_accepted tt same differ

-- no entry
pub not_none : Demand3 square_bytes [] → ⊥
unfolding open_square
not_none = square_ruled_out [] tt tt

pub not_one : Demand3 square_bytes only_last → ⊥
unfolding open_square only_last
not_one = square_ruled_out only_last tt tt

pub not_twice : Demand3 square_bytes first_twice → ⊥
unfolding open_square first_twice
not_twice = square_ruled_out first_twice tt tt

pub not_other_figure : Demand3 square_bytes other_figure → ⊥
unfolding open_square other_figure
not_other_figure = square_ruled_out other_figure tt tt

pub not_other_before : Demand3 square_bytes other_before → ⊥
unfolding open_square other_before
not_other_before = square_ruled_out other_before tt tt

pub not_backwards : Demand3 square_bytes backwards → ⊥
unfolding open_square backwards
not_backwards = square_ruled_out backwards tt tt

-- ---- the words of [13.3] to [13.7] say of the square what they should

pub square_sensible : T (sensible (prepared_of (read_job square_bytes)) (map (λ (e : Entry). e.before) square_entries))
unfolding open_square closed_in_order sensible
square_sensible = tt

pub square_denies : T (denies (prepared_of (read_job square_bytes)))
unfolding open_square denies
square_denies = tt
