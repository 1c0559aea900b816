-- `register::code` meets its contract: by the three cases of what was written. Assumes nothing.
use mathlib.Core.Path.{◌≡◌, ap, ◌∙◌}
use Prim.Native.Nat.{ℕ}
use native.Mathlib.Omega.{arith}
use borrow.Author.Rules.{rules}
use Rattle.std.specs.Prelude.{Some, None}
use lib.IntN.{ℤ, pos, neg_ℤ}
use mir.Facts.{to_z-of_z, to_z_pos}
use mir.Syntax.{w64}
use mir.Val.{SFits}
use Rattle.answering.specs.Codes.{code_written}
use Rattle.register.proofs.code.Goals as goal

-- minus a number, as the number is known
minus : {z : ℤ} {m n : ℕ} → z ≡ neg_ℤ (pos m) → m ≡ n → z ≡ neg_ℤ (pos n)
minus e f = e ∙ ap (λ (n : ℕ). neg_ℤ (pos n)) f

pub returns-in-Ok-None : goal.returns-in-Ok-None
unfolding code_written
returns-in-Ok-None c =
    let fits : SFits w64 c.refusal.result = search rules in
    let none : c.in-Ok-None.field-0 ≡ None = rw c.in-Ok-None.is at c.in-Ok-None.field-0-is in
    let room : c.number.result ≡ 17 = c.number.ensures in
    rw (c.in-Ok-None.is, none) (to_z-of_z fits ∙ minus {n = 17} c.refusal.ensures (omega (arith, room)))

pub returns-in-Err : goal.returns-in-Err
unfolding code_written
returns-in-Err c =
    let fits : SFits w64 c.refusal-in-Err.result = search rules in
    rw c.in-Err.is (to_z-of_z fits ∙ (c.refusal-in-Err.ensures ∙ ap (λ (n : ℕ). neg_ℤ (pos n)) c.number-in-Err.ensures))

pub overflow_cast-result : goal.overflow_cast-result
overflow_cast-result c =
    let some : c.in-Ok-Some.field-0 ≡ Some c.in-Ok-Some.many = rw c.in-Ok-Some.is at c.in-Ok-Some.field-0-is in
    let h = rw (c.in-Ok-Some.is, some) at c.requires in
    omega (arith, h)

pub returns-in-Ok-Some : goal.returns-in-Ok-Some
unfolding code_written
returns-in-Ok-Some c =
    let some : c.in-Ok-Some.field-0 ≡ Some c.in-Ok-Some.many = rw c.in-Ok-Some.is at c.in-Ok-Some.field-0-is in
    let h = rw (c.in-Ok-Some.is, some) at c.requires in
    rw (c.in-Ok-Some.is, some) (to_z_pos w64 {n = _} (omega (arith, h)))
