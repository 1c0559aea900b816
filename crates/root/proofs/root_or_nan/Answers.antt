-- `root::root_or_nan` meets its contract: the value, or the NaN where there is none. Assumes nothing.
use mathlib.Core.Path.{◌≡◌, refl, ap, ◌∙◌}
use Rattle.std.specs.Prelude.{Option, Some, None, Float}
use Rattle.std.specs.Option.{unwrap_or}
use Rattle.definitions.specs.Vectors.{value_of}
use Rattle.root.specs.Special.{nan_written}
use lib.Ieee.{binary64, of_bits}
use Rattle.root.proofs.root_or_nan.Goals as goal

value_or_nan : (o : Option Float) → unwrap_or o (of_bits binary64 9221120237041090560) ≡ value_of o
unfolding value_of
value_or_nan None = nan_written
value_or_nan (Some x) = refl

pub returns : goal.returns
returns c = c.unwrap_or.ensures ∙ (value_or_nan c.root.result ∙ ap value_of c.root.ensures)
