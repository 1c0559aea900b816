-- Theorems on the definitions of specs/FigureNumbers.
use Rattle.std.specs.Prelude.{◌≡◌, refl}
use Rattle.std.proofs.Common.{sym}
use Rattle.std.proofs.Math.Path.{subst}
use mathlib.Core.List.{List, [], ◌∷◌, flat_map}
use Prim.Native.Nat.{ℕ, suc, ◌≤◌, ◌<◌, compare}
use native.Mathlib.Omega.{arith}
use Rattle.std.proofs.Math.ListN.{length}
use Rattle.definitions.specs.Figures.{Elements, Figure}
use Rattle.definitions.specs.Job.{figure_words}
use Rattle.laws.specs.Lists.{Mem, here, there}
use Rattle.laws.specs.Orders.{nats}
use Rattle.laws.specs.Ascending.{ascends_distinct}
use Rattle.laws.specs.Ranges.{distinct_below}
use Rattle.shapes.specs.Shape.{Rank, Stack, Shaped, number_of_ranks}
use Rattle.shapes.specs.FigureWords.{rank_words, figure_words_holds}
use Rattle.shapes.specs.FewElements.{Few}
use Rattle.shapes.specs.FigureNumbers.{OnGround, WordsBelow, each_below, joined_below, low_few, lowest, more_below}
use Rattle.shapes.specs.FigureNumbers.{none_below, ranks_few}

-- ---- one figure

-- the numbers of a rank
ground_rank : (most : ℕ) (es : Elements) → 1 < most → length es < most → ((e : List ℕ) → Mem e es → length e ≤ 1)
    → ((e : List ℕ) → Mem e es → (x : ℕ) → Mem x e → x ≡ 0) → WordsBelow most (rank_words es)
unfolding rank_words
ground_rank most es two few short zeros =
    more_below few (each_below (λ (e : List ℕ). length e ∷ e) es (λ e i. let k = short e i in
    more_below (omega arith) (record { word = λ x j. let z = zeros e i x j in omega arith })))

rank_below : (most bound : ℕ) (es : Elements) → bound < most → Rank bound es → length es < most
    → WordsBelow most (rank_words es)
unfolding rank_words
rank_below most bound es b r few =
    more_below few (each_below (λ (e : List ℕ). length e ∷ e) es (λ e i.
    let h = r.elements e i in
    let many = distinct_below bound e (ascends_distinct compare nats e h.ascends) h.below in
    more_below (omega arith) (record { word = λ x j. let k = h.below x j in omega arith })))

stack_below : (most bound : ℕ) (ranks : List Elements) → bound < most → Stack bound ranks
    → ((es : Elements) → Mem es ranks → length es < most) → WordsBelow most (flat_map rank_words ranks)
unfolding flat_map
stack_below most bound [] b s few = none_below
stack_below most bound (es ∷ ranks) b s few =
    joined_below (rank_words es) (rank_below most bound es b s.0 (few es (here refl)))
    (stack_below most (length es) ranks (few es (here refl)) s.1 (λ fs i. few fs (there i)))

-- a figure with its shape, on so many points, with at most so many elements in each rank from the edges up
module _ (most n w rank : ℕ) (f : Figure) (shaped : Shaped n rank f) (ground : OnGround n f) (few : Few w f)
    (two : 1 < most) (points : n < most) (elements : w < most) where
  low_rank : (es : Elements) → Mem es (shaped.empty ∷ shaped.vertices ∷ []) → WordsBelow most (rank_words es)
  low_rank es i =
      let j = subst (λ (l : List Elements). Mem es l)
      (sym (lowest most n w rank f shaped ground few two points elements)) i in
      ground_rank most es two (low_few most n w rank f shaped ground few two points elements es j) (ground.short es j)
      (ground.zeros es j)

  pub figure_below : suc rank < most → WordsBelow most (figure_words f)
  unfolding flat_map
  figure_below ranks =
      let number = number_of_ranks n rank f shaped in
      subst (WordsBelow most) (sym (figure_words_holds f))
      (more_below (omega arith)
      (subst (λ (g : Figure). WordsBelow most (flat_map rank_words g)) (sym shaped.is)
      (joined_below (rank_words shaped.empty) (low_rank shaped.empty (here refl))
      (joined_below (rank_words shaped.vertices) (low_rank shaped.vertices (there (here refl)))
      (stack_below most n shaped.ranks points shaped.tower.stack
      (ranks_few most n w rank f shaped ground few two points elements))))))
