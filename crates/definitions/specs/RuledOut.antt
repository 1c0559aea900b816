-- What `Demand3` [13.8] rules out, shown of the square: no entry, one entry only, an entry twice, another figure,
-- another order. Leans on Demands and evaluates.
use Rattle.std.specs.Prelude.{◌≡◌, refl, Bool, false, not, ◌&&◌, T, take, drop}
use Rattle.std.proofs.Common.{sym, ap, ◌∙◌, subst, T_not}
use mathlib.Core.List.{List, [], ◌∷◌, ◌++◌, map, flat_map, reverse}
use Rattle.std.proofs.Math.Dec.{compare_is_eq}
use Rattle.definitions.specs.Lists.{compare_nats, all_of}
use Rattle.definitions.specs.Outcome.{Outcome, refused, answered}
use Rattle.definitions.specs.Figures.{dyad}
use Rattle.definitions.specs.Search.{Facet, Table, Found}
use Rattle.definitions.specs.Recursion.{Rules, Entry}
use Rattle.definitions.specs.Faceting.{Prepared, table_for, entries_of, search_from}
use Rattle.definitions.specs.Job.{Bytes, Job, read_job, bounds1, rules_of, between, counted, entry_words}
use Rattle.definitions.specs.Demands.{Demand3, CallComplete, Accepted, prepared_of, choice_of, is_closed_choice}
use Rattle.definitions.specs.Demands.{is_order_of, equal_shares}
use Rattle.definitions.specs.Open.{open_all}
use Rattle.definitions.specs.Examples.{open_examples, plain, square_job, bytes_of}
use Rattle.definitions.specs.KnownJobs.{plain_square_answer}

-- ---- entries that pass are those that the definition's search gives

-- what the search gives, and no entry where it is refused
unfoldable pub entries_after : Prepared → Outcome Found → List Entry
entries_after p (refused number) = []
entries_after p (answered found) = entries_of p found.lists

unfoldable pub entries_with : Rules → Outcome Prepared → List Entry
entries_with rules (refused number) = []
entries_with rules (answered p) = entries_after p (search_from rules p)

unfoldable pub entries_of_job : Job → List Entry
entries_of_job job = entries_with (rules_of bounds1 job) (prepared_of job)

-- whether two lists of entries are written alike
unfoldable pub same_entries : List Entry → List Entry → Bool
same_entries d e = compare_is_eq (compare_nats (counted entry_words d) (counted entry_words e))

-- ---- the square

unfoldable pub square_bytes : Bytes
square_bytes = square_job (plain 3)

unfoldable pub square_entries : List Entry
square_entries = entries_of_job (read_job square_bytes)

unfoldable pub open_square : Unit {0}
unfolding open_all open_examples same_entries entries_after entries_with entries_of_job square_bytes square_entries
open_square = tt

-- only 3,4,5
unfoldable pub only_last : List Entry
only_last = drop 6 square_entries

-- the first entry twice
unfoldable pub first_twice : List Entry
first_twice = take 1 square_entries ++ square_entries

-- the first entry with another figure
unfoldable pub other_figure : List Entry
other_figure =
    map (λ (e : Entry). record {
      list = e.list;
      before = e.before;
      figure = dyad;
    }) (take 1 square_entries) ++ drop 1 square_entries

-- the first entry with another list before splitting
unfoldable pub other_before : List Entry
other_before =
    map (λ (e : Entry). record {
      list = e.list;
      before = reverse e.before;
      figure = e.figure;
    }) (take 1 square_entries) ++ drop 1 square_entries

-- the entries in another order
unfoldable pub backwards : List Entry
backwards = reverse square_entries

-- ---- the words of [13.3] to [13.7] say of the square what they should

-- the list before splitting of every entry of the square is an order of a closed choice; the shares are equal
unfoldable pub closed_in_order : Table → List (List Facet) → Bool
closed_in_order table =
    all_of (λ (l : List Facet). is_closed_choice table (choice_of l) && is_order_of table [] (choice_of l) l)

unfoldable pub sensible : Outcome Prepared → List (List Facet) → Bool
sensible (refused number) lists = false
sensible (answered p) lists = equal_shares (table_for p) && closed_in_order (table_for p) lists

-- and it denies an open choice, a choice with a facet too many, and an order that takes the facets as they come
unfoldable pub denies : Outcome Prepared → Bool
denies (refused number) = false
denies (answered p) =
    not (is_closed_choice (table_for p) ((0, 0) ∷ (1, 0) ∷ []))
    && not (is_closed_choice (table_for p) ((0, 0) ∷ (1, 0) ∷ (2, 0) ∷ (3, 0) ∷ []))
    && not (is_closed_choice (table_for p) [])
    && is_closed_choice (table_for p) ((0, 0) ∷ (2, 0) ∷ (3, 0) ∷ (5, 0) ∷ [])
    && not
    (is_order_of (table_for p) [] ((0, 0) ∷ (2, 0) ∷ (3, 0) ∷ (5, 0) ∷ []) ((0, 0) ∷ (5, 0) ∷ (2, 0) ∷ (3, 0) ∷ []))
