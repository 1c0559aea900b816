-- Options: one that holds something is not none, and two that are equal hold the same.
use Rattle.std.specs.Prelude.{◌≡◌, Bool, true, false, not, T}
use Rattle.std.proofs.Common.{ap, subst}
use Rattle.std.specs.Prelude.{Option, Some, None}

contents : {A : Type 0} → A → Option A → A
contents otherwise None = otherwise
contents otherwise (Some x) = x

pub some_equal : {A : Type 0} (x y : A) → Some x ≡ Some y → x ≡ y
unfolding contents
some_equal x y e = ap (contents x) e

is_some : {A : Type 0} → Option A → Bool
is_some None = false
is_some (Some x) = true

pub none_is_not_some : {A : Type 0} (x : A) → None ≡ Some x → ⊥
unfolding is_some
none_is_not_some {A} x e = subst (λ (o : Option A). T (not (is_some o))) e tt
