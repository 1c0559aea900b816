-- What the words of Symmetry say of the small jobs of specs/Carried, evaluated: rows one after another, closed rows,
-- ranks that a row keeps or not; that the promise [13.12] is kept for the square, denies an entry that is not carried
-- wherever it stands, and could not be made of rows that are not closed.
use Rattle.std.specs.Prelude.{◌≡◌, refl, Bool, not, ◌&&◌, ℕ, T, replicate}
use Rattle.std.proofs.Common.{sym, subst, T_not}
use mathlib.Core.List.{List, [], ◌∷◌, flat_map, Memᴰ}
use Rattle.std.proofs.Math.Dec.{compare_is_eq}
use Rattle.definitions.specs.Lists.{compare_nats, all_of}
use Rattle.definitions.specs.Orbits.{Row, image}
use Rattle.definitions.specs.Figures.{Elements, Figure, compare_figures}
use Rattle.definitions.specs.Recursion.{Entry, move_sorted}
use Rattle.definitions.specs.Job.{Bytes, read_job, same_nats}
use Rattle.definitions.specs.Demands.{Accepted}
use Rattle.definitions.specs.Symmetry.{composed, closed_rows, Carries, RanksKept, CarriedByAll, Symmetric}
use Rattle.definitions.specs.Open.{open_all}
use Rattle.definitions.specs.Examples.{open_examples, bytes_of, job_with, plain, whole_points, identity, square_rows}
use Rattle.definitions.specs.Examples.{symmetric_job}
use Rattle.definitions.specs.RuledOut.{entries_after, entries_with, entries_of_job}
use Rattle.definitions.specs.Carried.{turn, swap, is_carried, two_edges, one_polygon, symmetric_square, all_carried}
use Rattle.definitions.specs.Carried.{triangle, turned_job, turned_answer, path}

-- ---- rows

-- the turn after the swap, and the swap after the turn
pub one_after_another : T
    (same_nats (composed turn swap) (2 ∷ 1 ∷ 0 ∷ []) && same_nats (composed swap turn) (0 ∷ 2 ∷ 1 ∷ []))
unfolding open_all turn swap
one_after_another = tt

-- The identity is closed, and the square's symmetries are. Not closed: rows that are their own inverses, without
-- one after another; the turn, without the turn after itself.
pub which_are_closed : T (closed_rows (identity 3)
    && closed_rows square_rows
    && not (closed_rows (swap ∷ (0 ∷ 2 ∷ 1 ∷ []) ∷ identity 3)) && not (closed_rows (turn ∷ identity 3)))
unfolding open_all open_examples turn swap
which_are_closed = tt

-- ---- a row and a figure

-- a figure that fails the test is not carried
pub not_carried : (row : Row) (figure : Figure) → T (compare_is_eq (compare_figures figure figure))
    → T (not (is_carried row figure)) → Carries row figure → ⊥
unfolding is_carried Carries
not_carried row figure same differs carried =
    T_not (is_carried row figure) differs
    (subst (λ (moved : Figure). T (compare_is_eq (compare_figures moved figure))) (sym carried) same)

-- ---- ranks that a row keeps, and ranks that it does not

-- the turn carries 12 to 02
pub edges_not_kept : RanksKept (image turn) two_edges → ⊥
unfolding open_all RanksKept turn two_edges
edges_not_kept kept = elsewhere (kept.0.among (0 ∷ 2 ∷ []) (Memᴰ.tail (Memᴰ.head refl)))
  where
    apart : (e : List ℕ) → T (not (compare_is_eq (compare_nats e (0 ∷ 2 ∷ [])))) → e ≡ 0 ∷ 2 ∷ [] → ⊥
    apart e differs same =
        T_not (compare_is_eq (compare_nats e (0 ∷ 2 ∷ []))) differs
        (subst (λ (d : List ℕ). T (compare_is_eq (compare_nats d (0 ∷ 2 ∷ [])))) (sym same) tt)

    elsewhere : Memᴰ {A = List ℕ} (0 ∷ 2 ∷ []) ((0 ∷ 1 ∷ []) ∷ (1 ∷ 2 ∷ []) ∷ []) → ⊥
    elsewhere (Memᴰ.head same) = apart (0 ∷ 1 ∷ []) tt (sym same)
    elsewhere (Memᴰ.tail (Memᴰ.head same)) = apart (1 ∷ 2 ∷ []) tt (sym same)
    elsewhere (Memᴰ.tail (Memᴰ.tail m)) = elim m [ ]

-- to exchange the points 2 and 3 keeps the edges, and carries the polygon to 013
pub polygon_not_kept : RanksKept (image (0 ∷ 1 ∷ 3 ∷ 2 ∷ [])) one_polygon → ⊥
unfolding open_all RanksKept one_polygon
polygon_not_kept kept = elsewhere (kept.1.0.among (0 ∷ 2 ∷ 4 ∷ []) (Memᴰ.head refl))
  where
    elsewhere : Memᴰ {A = List ℕ} (0 ∷ 2 ∷ 4 ∷ []) ((0 ∷ 1 ∷ 3 ∷ []) ∷ []) → ⊥
    elsewhere (Memᴰ.head same) = subst (λ (d : List ℕ). T (compare_is_eq (compare_nats d (0 ∷ 2 ∷ 4 ∷ [])))) same tt
    elsewhere (Memᴰ.tail m) = elim m [ ]

-- ---- the square with its eight symmetries

pub square_carried : T (all_carried square_rows (entries_of_job (read_job symmetric_square)))
unfolding open_all open_examples entries_after entries_with entries_of_job is_carried all_carried symmetric_square
square_carried = tt

-- behind any other entry it breaks the promise
pub not_behind_another : (other : Entry) → Symmetric symmetric_square (other ∷ triangle ∷ []) → ⊥
unfolding open_all open_examples is_carried triangle symmetric_square
not_behind_another other promise =
    let turned : Row = 1 ∷ 2 ∷ 3 ∷ 0 ∷ [] in
    not_carried turned triangle.figure tt tt
    ((promise.holds tt tt).figures triangle (Memᴰ.tail (Memᴰ.head refl)) turned (Memᴰ.tail (Memᴰ.head refl)))

-- ---- rows that are not closed

pub turned_accepted : Accepted turned_job
unfolding open_all open_examples turn turned_job turned_answer
turned_accepted = record {
  workspace = 524288;
  room = 4000;
  answer = flat_map (bytes_of 4) turned_answer;
  is_answered_holds = refl;
}

pub turned_entries : entries_of_job (read_job turned_job) ≡ path ∷ []
unfolding open_all open_examples entries_after entries_with entries_of_job two_edges turn turned_job path
turned_entries = refl

-- which the turn carries to 12 and 02
pub not_without_closed_rows : CarriedByAll (read_job turned_job).rows (entries_of_job (read_job turned_job)) → ⊥
unfolding open_all open_examples is_carried two_edges turn turned_job path
not_without_closed_rows all =
    not_carried turn path.figure tt tt
    ((subst (CarriedByAll (read_job turned_job).rows) turned_entries all).figures path (Memᴰ.head refl) turn
    (Memᴰ.tail (Memᴰ.head refl)))
