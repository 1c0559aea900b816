-- A worked example: a job whose proviso fails. Its rows are not closed under composition; one facet has shares 1 and,
-- last, 0 in one ridge orbit, so it adds nothing there and may yet be taken where that orbit is open. A closed choice
-- then has two orders, and the entries, 17, are more than the closed choices, 15. Evaluated.
use Rattle.std.specs.Prelude.{Bool, false, not, ◌&&◌, List, [], ◌∷◌, map, ℕ, T, eqb, length}
use Rattle.definitions.specs.Lists.{compare_pairs, fresh}
use Rattle.definitions.specs.Outcome.{Outcome, refused, answered}
use Rattle.definitions.specs.Search.{Facet, Table, Found}
use Rattle.definitions.specs.Faceting.{Prepared, table_for, search_from}
use Rattle.definitions.specs.Job.{Job, read_job, bounds1, rules_of}
use Rattle.definitions.specs.Demands.{prepared_of, choice_of, is_closed_choice, is_order_of, equal_shares}
use Rattle.definitions.specs.Open.{open_all}
use Rattle.definitions.specs.Examples.{open_examples, job_with, plain, whole_points}

-- rank 4, (0,1,0), (1,2,0), (1,0,1), (0,0,0), (2,1,1), rows 01234, 01432, 01342
unfoldable pub two_orders_job : Job
two_orders_job =
    read_job (job_with (plain 4) 3 (whole_points ((0 ∷ 1 ∷ 0 ∷ []) ∷ (1 ∷ 2 ∷ 0 ∷ []) ∷ (1 ∷ 0 ∷ 1 ∷ [])
    ∷ (0 ∷ 0 ∷ 0 ∷ []) ∷ (2 ∷ 1 ∷ 1 ∷ []) ∷ []))
    ((0 ∷ 1 ∷ 2 ∷ 3 ∷ 4 ∷ []) ∷ (0 ∷ 1 ∷ 4 ∷ 3 ∷ 2 ∷ []) ∷ (0 ∷ 1 ∷ 3 ∷ 4 ∷ 2 ∷ []) ∷ []))

unfoldable pub choice : List Facet
choice = (2, 0) ∷ (3, 0) ∷ (4, 1) ∷ []

-- one choice, two orders
unfoldable pub two_orders_in : Table → Bool
two_orders_in table =
    not (equal_shares table)
    && is_closed_choice table choice
    && is_order_of table [] choice ((2, 0) ∷ (3, 0) ∷ (4, 1) ∷ [])
    && is_order_of table [] choice ((2, 0) ∷ (4, 1) ∷ (3, 0) ∷ [])

-- so many lists are emitted, and so many choices are among them
unfoldable pub emitted_are : ℕ → ℕ → Outcome Found → Bool
emitted_are lists choices (refused number) = false
emitted_are lists choices (answered found) =
    eqb (length found.lists) lists && eqb (length (fresh compare_pairs [] (map choice_of found.lists))) choices

unfoldable pub two_orders : Outcome Prepared → Bool
two_orders (refused number) = false
two_orders (answered p) =
    two_orders_in (table_for p) && emitted_are 17 15 (search_from (rules_of bounds1 two_orders_job) p)

pub without_the_proviso : T (two_orders (prepared_of two_orders_job))
unfolding open_all open_examples two_orders_job choice two_orders_in emitted_are two_orders
without_the_proviso = tt
