-- `Left::number` meets its contract.
use mathlib.Core.Path.{◌∙◌}
use Rattle.writing.specs.Asked.{number_is}
use Rattle.writing.proofs.Left.number.Goals as goal

pub returns : goal.returns
returns c = c.from.ensures ∙ (c.get.ensures ∙ number_is c.args.self.standing c.args.k c.requires)
