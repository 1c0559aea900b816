-- The answers of rank 2, word by word. Leans on the definitions.
use mathlib.Core.Path.{◌≡◌, refl}
use mathlib.Core.List.{[], ◌∷◌, ◌++◌, flat_map}
use Prim.Native.Nat.{ℕ, ◌-◌}
use mathlib.Core.Bool.{true, false}
use lib.ListN.{set, replicate}
use Rattle.definitions.specs.Figures.{dyad, rank_of}
use Rattle.definitions.specs.Recursion.{vertex_ridge, swapped_ends, separate_ends}
use Rattle.definitions.specs.Lists.{any_of, keep, count_from, member_nat}
use Rattle.definitions.specs.Job.{counted, figure_words, facet_words, entry_words, compound_words, is_end, used_points}
use Rattle.definitions.specs.Job.{summary_words, answer_words}
use Rattle.rows.specs.Codes.{pair_of}
use Rattle.shapes.specs.Edges.{edge_figure}
use Rattle.shapes.specs.EdgeSets.{ends}
use Rattle.shapes.specs.UsedPoints.{end_of, ends_used}
use Rattle.edge_marks.specs.Marks.{codes_marked, edges_marked}
use Rattle.edge_marks.specs.Summaries.{summary_marked}

pub segment_words : figure_words (edge_figure (pair_of 1)) ≡ figure_words dyad
unfolding dyad edge_figure pair_of
segment_words = refl

pub segment_summary : summary_marked 2 (set (replicate 400 false) 1 true) 2 ≡ 2 ∷ 1 ∷ 2 ∷ []
unfolding summary_marked ends_used end_of edges_marked codes_marked keep count_from any_of member_nat ends pair_of
segment_summary = refl

pub ridge_words : (v : ℕ) → 1 ∷ 3 ∷ 0 ∷ 1 ∷ 1 ∷ 0 ∷ 1 ∷ 1 ∷ v ∷ [] ≡ counted figure_words (vertex_ridge v ∷ [])
unfolding counted figure_words vertex_ridge flat_map
ridge_words v = refl

pub swapped_entry : 1 ∷ 1 ∷ 0 ∷ 0 ∷ 1 ∷ 0 ∷ 0 ∷ figure_words dyad ≡ counted entry_words (swapped_ends 0).entries
unfolding swapped_ends counted entry_words facet_words figure_words dyad flat_map
swapped_entry = refl

pub separate_entry : 1 ∷ 2 ∷ 0 ∷ 0 ∷ 1 ∷ 0 ∷ 2 ∷ 0 ∷ 0 ∷ 1 ∷ 0 ∷ figure_words dyad
    ≡ counted entry_words (separate_ends 0).entries
unfolding separate_ends counted entry_words facet_words figure_words dyad flat_map
separate_entry = refl

module _ (budget left : ℕ) where
  pub swapped_words : (budget - left) ∷ 1 ∷ 2 ∷ counted entry_words (swapped_ends 0).entries
      ++ (counted figure_words (vertex_ridge 0 ∷ []) ++ (0 ∷ 2 ∷ 1 ∷ 2 ∷ []))
      ≡ answer_words budget (swapped_ends left)
  unfolding answer_words swapped_ends counted entry_words facet_words figure_words dyad vertex_ridge summary_words
      used_points is_end keep count_from any_of member_nat compound_words rank_of flat_map
  swapped_words = refl

  pub separate_words : (budget - left) ∷ 2 ∷ 1 ∷ 1 ∷ counted entry_words (separate_ends 0).entries
      ++ (counted figure_words (vertex_ridge 0 ∷ [])
      ++ (counted figure_words (vertex_ridge 1 ∷ []) ++ (0 ∷ 2 ∷ 1 ∷ 2 ∷ [])))
      ≡ answer_words budget (separate_ends left)
  unfolding answer_words separate_ends counted entry_words facet_words figure_words dyad vertex_ridge summary_words
      used_points is_end keep count_from any_of member_nat compound_words rank_of flat_map
  separate_words = refl
