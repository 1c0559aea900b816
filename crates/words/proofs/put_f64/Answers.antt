-- `words::put_f64` meets its contract. Assumes nothing.
use mathlib.Core.Path.{◌≡◌, sym, ap, ◌∙◌}
use Prim.Native.Nat.{ℕ}
use Rattle.std.specs.Float.{binary64}
use Rattle.std.specs.Float.Ieee.{to_bits}
use Rattle.words.specs.Words.{put}
use Rattle.words.proofs.Laws.{nan_pattern_written}
use Rattle.words.proofs.put_f64.Goals.{then-is_nan, else-is_nan}
use Rattle.words.proofs.put_f64.Goals as goal

pub returns : goal.returns
returns c =
    let pattern : c.if-is_nan.bits ≡ to_bits binary64 c.args.x = elim c.if-is_nan.branch [
      | then-is_nan w ↦ w.bits-is ∙ nan_pattern_written c.args.x (sym c.is_nan.ensures.value ∙ w.if-is_nan.true)
      | else-is_nan w ↦ w.bits-is
    ] in
    c.put.ensures ∙ ap (λ (k : ℕ). put 8 c.args.s.now c.args.at k) pattern
