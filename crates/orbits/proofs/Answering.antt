-- The answer of the whole, from the walk along all pairs. Leans on Answers.
use mathlib.Core.Path.{◌≡◌, sym, subst}
use mathlib.Core.Bool.{Bool}
use mathlib.Core.List.{List, []}
use Prim.Native.Nat.{ℕ}
use lib.ListN.{length}
use lib.Ieee.{Float}
use Rattle.definitions.specs.Lists.{Pair, count_from}
use Rattle.definitions.specs.Vectors.{Vec}
use Rattle.definitions.specs.Orbits.{Row, Limits, pair_openers, pairs_from, vertex_openers, most_vertices}
use Rattle.definitions.specs.Orbits.{hyperplane_orbits}
use Rattle.laws.specs.Lists.{Mem}
use Rattle.words.specs.Words.{words}
use Rattle.sorted.specs.Ascending.{Ascending, ascending_nil}
use Rattle.rows.specs.Rows.{rows_in}
use Rattle.openers.specs.Meaning.{breaks}
use Rattle.orbits.specs.Hyperplanes.{Permutes}
use Rattle.orbits.specs.Workspace.{seen_in}
use Rattle.orbits.specs.Walks.{Walked}
use Rattle.orbits.specs.Answers.{answer_in, orbits_or_refusal, counted, at_first, PairsRise, pair_tuples, openers_rise}
use Rattle.orbits.specs.Answers.{walk_answers}
use Rattle.orbits.specs.declared.Progress.{Progress}
use Rattle.std.specs.Prelude.{Result}
use Rattle.refusals.specs.declared.Refusal.{Refusal}

-- nothing was seen yet
pub none_ascend : (ws : List ℕ) → Ascending (seen_in 0 ws)
unfolding seen_in words
none_ascend ws = ascending_nil

-- ---- n is said in two ways

pub openers_rise_as : (skip : Pair → Bool) (rows : List Row) (k n : ℕ) (openers : List ℕ) (ps : List Pair)
    → ps ≡ pair_openers skip rows [] (pairs_from k openers) → k ≡ n → PairsRise n ps
openers_rise_as skip rows k n openers ps h e =
    subst (λ (j : ℕ). PairsRise j ps) e (subst (PairsRise k) (sym h) (openers_rise skip rows k openers))

pub openers_same : (tolerance : Float) (limits : Limits) (points : List Vec) (m : ℕ) (s : List ℕ) (ps : List Pair)
    (n k : ℕ) → n ≡ k
    → ps ≡ pair_openers (breaks tolerance limits points) (rows_in n m s) []
    (pairs_from n (vertex_openers (rows_in n m s) [] (count_from 0 n)))
    → ps ≡ pair_openers (breaks tolerance limits points) (rows_in k m s) []
    (pairs_from k (vertex_openers (rows_in k m s) [] (count_from 0 k)))
openers_same tolerance limits points m s ps n k e h =
    subst (λ (j : ℕ). ps ≡ pair_openers (breaks tolerance limits points) (rows_in j m s) []
    (pairs_from j (vertex_openers (rows_in j m s) [] (count_from 0 j)))) e h

module _ (tolerance : Float) (limits : Limits) (rule more : ℕ) (points flat : List Vec) (rows : List Row) (bound : ℕ)
    (ps : List Pair) (ws : List ℕ) (r : Result Progress Refusal) (after : List ℕ) where
  abbrev whole : ℕ → Type 0
  whole n =
      answer_in n (counted r) after
      ≡ orbits_or_refusal bound (hyperplane_orbits tolerance limits rule more points flat rows)

  pub answers : (n most : ℕ) → length flat ≡ n → most ≡ most_vertices rule more n → length points ≡ n
      → ((row : Row) → Mem row rows → Permutes n row)
      → ps
      ≡ pair_openers (breaks tolerance limits points) rows [] (pairs_from n (vertex_openers rows [] (count_from 0 n)))
      → Walked tolerance most flat rows bound at_first ws (pair_tuples tolerance limits points flat n more ps) r after
      → whole n
  answers n most e =
      subst (λ (k : ℕ). most ≡ most_vertices rule more k → length points ≡ k
      → ((row : Row) → Mem row rows → Permutes k row) → ps ≡ pair_openers
      (breaks tolerance limits points) rows [] (pairs_from k (vertex_openers rows [] (count_from 0 k)))
      → Walked tolerance most flat rows bound at_first ws (pair_tuples tolerance limits points flat k more ps) r after
      → whole k) e
      (λ most-is same permute openers walk.
      let by-rule = subst (λ (many : ℕ). Walked tolerance many flat rows bound at_first ws
      (pair_tuples tolerance limits points flat (length flat) more ps) r after) most-is walk in
      walk_answers tolerance limits rule more points flat rows bound same permute ps openers ws r after by-rule)
