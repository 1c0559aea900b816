-- `Ids::get` meets its contract.
use mathlib.Core.Path.{sym, ◌∙◌}
use Rattle.words.specs.Words.{get_d_words}
use Rattle.facet_images.proofs.Ids.get.Goals as goal

pub returns : goal.returns
returns c = let ids = c.args.self in c.get.ensures ∙ sym (get_d_words 4 ids.bytes.now ids.count c.args.i c.requires)
