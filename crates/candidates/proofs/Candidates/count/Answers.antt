-- `Candidates::count` meets its contract. How many candidates there are follows from the laws of Numbers. Assumes
-- nothing.
use mathlib.Core.Path.{sym, ◌∙◌}
use Rattle.facets.specs.Numbers.{kind_length, numbers_all_length}
use Rattle.candidates.proofs.Candidates.count.Goals as goal

pub returns-in-None : goal.returns-in-None
returns-in-None c = λ t h. rw c.in-None.is (h.holds.facets ∙ sym (numbers_all_length t))

pub returns-in-Some : goal.returns-in-Some
returns-in-Some c = λ t h. let k = c.args.self.kind_in c.in-Some.ridge c.in-Some.is in
    rw c.in-Some.is (c.list_length.ensures ∙ (rw c.ones.ensures (kind_length t _ _ h c.in-Some.ridge k)))
