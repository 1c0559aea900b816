-- `Subspace::away` meets its contract, from that of its call.
use mathlib.Core.Path.{◌≡◌, sym, ◌∙◌}
use borrow.Author.Rules.{rules}
use lib.ListN.{length}
use Rattle.vectors.specs.Wholes.{five_means, minus_length}
use Rattle.space.specs.Meaning.{subspace_of}
use Rattle.space.specs.Counts.{offset_long}
use Rattle.space.proofs.Laws.{five_read}
use Rattle.space.proofs.Subspace.away.Goals as goal

pub returns : goal.returns
unfolding subspace_of
returns c =
    let s = c.args.self.now in
    let p-fits : length c.args.p ≡ 5 = search rules in
    let p-long = five_read s c.args.p p-fits in
    five_means _ _ s.d c.minus.ensures (minus_length _ _ (p-long ∙ sym (five_read s s.offset (offset_long s))) ∙ p-long)
