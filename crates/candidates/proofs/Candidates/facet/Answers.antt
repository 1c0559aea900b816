-- `Candidates::facet` meets its contract. The item that is read is the candidate, by the laws of Numbers. Assumes
-- nothing.
use native.Mathlib.Omega.{arith}
use mathlib.Core.Path.{sym, ◌∙◌}
use Prim.Native.Nat.{◌<◌}
use lib.ListN.{length}
use Rattle.std.specs.Prelude.{Some, None}
use Rattle.facets.specs.Layout.{numbers}
use Rattle.facets.specs.Numbers.{kind_room, kind_item, numbers_all, same_length}
use Rattle.candidates.proofs.Candidates.facet.Goals as goal

pub returns-in-None : goal.returns-in-None
returns-in-None c = λ t h.
    let n = same_length t c.requires.0 _ _ h c.requires.1 c.args.self.kind c.args.self.kind_in in
    let k = c.requires.2 in
    let m : c.args.i < length (numbers t None) = rw (← c.in-None.is) (omega arith) in
    rw c.in-None.is (sym (numbers_all t c.args.i m))

pub item-requires : goal.item-requires
item-requires c =
    let k = c.args.self.kind_in c.in-Some.ridge c.in-Some.is in
    rw c.ones-ones.ensures (kind_room c.requires.0 c.args.self.areas c.args.self.ws.now c.requires.1 c.in-Some.ridge
    c.args.i k (rw c.in-Some.is at c.requires.2))

pub returns-in-Some : goal.returns-in-Some
returns-in-Some c = λ t h.
    let n = same_length t c.requires.0 _ _ h c.requires.1 c.args.self.kind c.args.self.kind_in in
    let k = c.args.self.kind_in c.in-Some.ridge c.in-Some.is in
    let m = c.requires.2 in
    let q : c.args.i < length (numbers t (Some c.in-Some.ridge)) = rw (← c.in-Some.is) (omega arith) in
    rw c.in-Some.is (c.from.ensures ∙ (c.item.ensures ∙ rw c.ones-ones.ensures
    (kind_item t c.args.self.areas c.args.self.ws.now h c.in-Some.ridge c.args.i k q)))
