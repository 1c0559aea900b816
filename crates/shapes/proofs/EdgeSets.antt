-- Theorems on the definitions of specs/EdgeSets.
use Rattle.std.specs.Prelude.{length, drop}
use Rattle.std.proofs.Common.{sym, ◌∙◌, subst}
use mathlib.Core.List.{List, [], ◌∷◌, map}
use Prim.Native.Nat.{ℕ}
use Rattle.std.proofs.lemmas.List.{length-map}
use Rattle.definitions.specs.Lists.{Pair, compare_pair, compare_nats, count_from}
use Rattle.laws.specs.Lists.{of_map}
use Rattle.laws.specs.Orders.{pairs, nat_lists}
use Rattle.laws.specs.Ascending.{ascends_distinct}
use Rattle.laws.specs.Places.{ascends_map}
use Rattle.shapes.specs.Shape.{Element, Rank, Stack}
use Rattle.shapes.specs.FigureOf.{body_element}
use Rattle.shapes.specs.EdgeSets.{EdgeSet, compare_ends, ends, ends_element, polygon}

-- ---- rank 4

pub polygon_stack : (n k : ℕ) (l : List Pair) → EdgeSet n l → Stack n (drop 2 (polygon k l))
unfolding polygon
polygon_stack n k l h = (
  record {
    elements = λ d m. let r = of_map ends d l m in subst (Element n) (sym r.2) (ends_element n r.0 (h.proper r.0 r.1));
    distinct =
        ascends_distinct compare_nats nat_lists (map ends l)
        (ascends_map compare_pair pairs compare_nats nat_lists ends (λ e. Unit {0})
        (λ d e u v q. compare_ends d e ∙ q) l (λ e m. tt) h.ascends);
  },
  (
    subst (λ (many : ℕ). Rank many (count_from 0 (length l) ∷ [])) (sym (length-map l ends)) (body_element (length l)),
    tt,
  ),
)
