-- `Owners::orbit` meets its contract.
use mathlib.Core.Path.{sym, ◌∙◌}
use native.Mathlib.Omega.{arith}
use Rattle.words.specs.Words.{get_d_words}
use Rattle.possible_facets.proofs.Owners.orbit.Goals as goal

pub returns : goal.returns
returns c = (
  c.from.ensures ∙ c.get.ensures
      ∙ sym (get_d_words 2 c.args.self.bytes.now c.args.self.facets c.args.x c.requires),
  omega arith,
)
