-- Theorems on the definitions of specs/Nested.
use Rattle.std.specs.Prelude.{◌≡◌, refl, map}
use Rattle.std.proofs.Common.{sym, ◌∙◌}
use Rattle.std.proofs.Math.Path.{ap, subst}
use Prim.Native.Nat.{ℕ, zero, suc, min, max}
use native.Mathlib.Omega.{arith}
use Rattle.laws.specs.Lists.{of_map}
use Rattle.laws.specs.Places.{ascends_map, map_same}
use Rattle.shapes.specs.Move.{Rising}
use Rattle.shapes.specs.EdgeSets.{Proper, ends, compare_ends, ends_element}
use Rattle.shapes.specs.Polygons.{edge_via, ends_via}
use Rattle.shapes.specs.LevelFigures.{Written}
use Rattle.shapes.specs.LevelMoves.{Keeping}
use Rattle.shapes.specs.Nested.{Nested, NestedSet, compare_nested, move_nested, nested, nested_in_order, nested_order}
use Rattle.shapes.specs.Nested.{nested_sets, raise_nested, raised_compare, set_in_order}

-- ---- nested sets

-- edges are written by their ends
pub ends_written : (n : ℕ) → Written nested n (Proper n) ends
ends_written n = record { element = ends_element n; keeps = λ d e p q. compare_ends d e }

-- ---- by a map that rises

module _ (n m : ℕ) (to : ℕ → ℕ) (up : Rising n m to) where
  pub raised_set : (k : ℕ) (x : Nested k) → NestedSet n k x → NestedSet m k (raise_nested to k x)
  unfolding raise_nested ends_via
  raised_set zero e p = record { rises = up.rises e.0 e.1 p.rises p.below; below = up.below e.1 p.below }
  raised_set (suc k) l p = (
    ascends_map (compare_nested k) (nested_order k) (compare_nested k) (nested_order k) (raise_nested to k)
        (NestedSet n k) (λ x y i j e. raised_compare n m to up k x y i j ∙ e) l p.1 p.0,
    λ y i. let r = of_map (raise_nested to k) y l i in subst (NestedSet m k) (sym r.2) (raised_set k r.0 (p.1 r.0 r.1)),
  )

  unfoldable pub nested_raising : Keeping nested (nested_sets n) nested
  unfolding raise_nested
  nested_raising = record { to = raise_nested to; subs = λ k x h. refl; keeps = raised_compare n m to up }

  -- putting in order changes nothing
  pub raised_moved : (k : ℕ) (x : Nested k) → NestedSet n k x → move_nested to k x ≡ raise_nested to k x
  unfolding move_nested raise_nested edge_via ends_via
  raised_moved zero e p =
      let r = up.rises e.0 e.1 p.rises p.below in
      let low : min (to e.0) (to e.1) ≡ to e.0 = omega arith in
      let high : max (to e.0) (to e.1) ≡ to e.1 = omega arith in
      λ t. (low t, high t)
  raised_moved (suc k) l p =
      ap (nested_in_order k) (map_same (move_nested to k) (raise_nested to k) l (λ x i. raised_moved k x (p.1 x i)))
      ∙ set_in_order m k (map (raise_nested to k) l) (raised_set (suc k) l p)
