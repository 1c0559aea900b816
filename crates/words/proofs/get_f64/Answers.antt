-- `words::get_f64` meets its contract. Assumes nothing.
use Rattle.words.proofs.Laws.{read_as_nan, read_as_number, no_nan_pattern}
use Rattle.words.proofs.get_f64.Goals as goal

pub returns-then-size-gt-INFINITY : goal.returns-then-size-gt-INFINITY
returns-then-size-gt-INFINITY c = read_as_nan _ _ _ c.get-bits.ensures c.if-size-gt-INFINITY.true

pub float_from_bits-result : goal.float_from_bits-result
float_from_bits-result c = rw (no_nan_pattern c.get-bits.result c.if-size-gt-INFINITY.false) tt

pub returns : goal.returns
returns c = read_as_number _ _ _ c.get-bits.ensures c.if-size-gt-INFINITY.false
