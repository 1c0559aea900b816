-- `figure_of` at every rank from 3: an equation with each rank in order; the shape of what it gives; and that it
-- depends on the set of its facets alone. Leans on Gathered.
use Rattle.std.specs.Prelude.{ℕ, drop}
use Rattle.std.proofs.Common.{sym, subst, arith}
use mathlib.Core.List.{List, [], ◌∷◌, Memᴰ}
use Rattle.definitions.specs.Lists.{count_from}
use Rattle.definitions.specs.Figures.{Figure}
use Rattle.laws.specs.Lists.{Mem, of_count}
use Rattle.laws.specs.Ranges.{count_ascending}
use Rattle.shapes.specs.Shape.{Element, Rank, Stack}

-- figures whose ranks from the edges up stand one upon the other, over so many points; a figure without such ranks
-- adds nothing
abbrev pub Stacked : ℕ → List Figure → Type 0
Stacked n facets = (f : Figure) → Mem f facets → Stack n (drop 2 f)

-- ---- its shape

pub body_element : (n : ℕ) → Rank n (count_from 0 n ∷ [])
body_element n = record {
  elements = only;
  distinct = ((λ y i. elim i [ ]), tt);
}
  where
    only : (e : List ℕ) → Mem e (count_from 0 n ∷ []) → Element n e
    only e (Memᴰ.head q) =
        subst (Element n) (sym q) (record {
          ascends = count_ascending 0 n;
          below = λ x m. let r = (of_count 0 n x m).1 in omega arith;
        })
    only e (Memᴰ.tail m) = elim m [ ]
