-- `batches::is_cut` meets its contract: a rest too short for a length, or a length that overruns the row, decides
-- (`looked_remainder`, `looked_overrun`). A turn passes one job (`looked_next`), and at the end none is left.
use mathlib.Core.Path.{sym, subst}
use Prim.Native.Nat.{ℕ, ◌+◌}
use native.Mathlib.Omega.{arith}
use Rattle.batches.specs.Cutting.{Looked, looked_first, looked_remainder, looked_overrun, looked_next, looked_all}
use Rattle.batches.proofs.is_cut.Goals as goal

pub loop-at-init : goal.loop-at-init
loop-at-init c = looked_first _

pub returns-then-left-lt-LENGTH_BYTES : goal.returns-then-left-lt-LENGTH_BYTES
returns-then-left-lt-LENGTH_BYTES c = looked_remainder c.loop-at.invariant (omega arith) (omega arith)

pub returns-then-left-many : goal.returns-then-left-many
returns-then-left-many c = looked_overrun c.loop-at.invariant (omega arith) (omega (arith, c.get-many.ensures))

pub loop-at-preserved : goal.loop-at-preserved
loop-at-preserved c =
    subst (λ (many : ℕ). Looked c.args.row.now (c.loop-at.at + (4 + many))) (sym c.get-many.ensures)
    (looked_next c.loop-at.invariant (omega arith) (omega (arith, c.get-many.ensures)))

pub returns : goal.returns
returns c = looked_all c.loop-at.invariant (omega arith)
