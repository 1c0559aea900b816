-- Theorems on the definitions of specs/Ascending.
use Rattle.std.specs.Prelude.{◌≡◌}
use Rattle.std.proofs.Math.Path.{refl, ap}
use Rattle.std.proofs.Common.{◌∙◌}
use mathlib.Core.List.{List, [], ◌∷◌}
use Prim.Native.Nat.{Ordering}
use Rattle.definitions.specs.Lists.{insert_by, sort_by}
use Rattle.laws.specs.Orders.{Linear}
use Rattle.laws.specs.Ascending.{Ascends, insert_first}

module _ {A : Type 0} (c : A → A → Ordering) (order : Linear c) where
  -- ---- sorting

  -- what ascends is sorted already
  pub sort_ascending : (l : List A) → Ascends c l → sort_by c l ≡ l
  unfolding sort_by
  sort_ascending [] h = refl
  sort_ascending (x ∷ l) h = ap (insert_by c x) (sort_ascending l h.1) ∙ insert_first c order x l h.0
