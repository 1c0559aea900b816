-- `Candidates::orbit` meets its contract. The orbit that is read is that of the candidate. Assumes nothing.
use native.Mathlib.Omega.{arith}
use mathlib.Core.Path.{sym, ap, ◌∙◌}
use Rattle.definitions.specs.Search.{Facet}
use Rattle.facets.specs.Numbers.{orbit_is, same_length}
use Rattle.facets.proofs.Numbers.{numbers_small, candidate_at}
use Rattle.candidates.proofs.Candidates.orbit.Goals as goal

pub overflow_mul-x : goal.overflow_mul-x
overflow_mul-x c =
    let x = c.facet-x.ensures c.requires.0 c.requires.1 in
    let n = numbers_small c.requires.0 c.args.self.kind c.args.i c.requires.2 in
    let e = c.requires.1.holds.facets in
    omega arith

pub get-requires : goal.get-requires
get-requires c =
    let x = c.facet-x.ensures c.requires.0 c.requires.1 in
    let n = numbers_small c.requires.0 c.args.self.kind c.args.i c.requires.2 in
    let e = c.requires.1.holds.facets in
    omega arith

pub returns : goal.returns
returns c = λ t h. let l = same_length t c.requires.0 _ _ h c.requires.1 c.args.self.kind c.args.self.kind_in in
    let m = c.requires.2 in
    let n = numbers_small t c.args.self.kind c.args.i (omega arith) in
    let e = h.holds.facets in
    let x = c.facet-x.ensures t h in
    c.from.ensures
    ∙ (c.get.ensures ∙ (orbit_is t c.args.self.areas c.args.self.ws.now h c.facet-x.result (omega arith)
    ∙ rw x (ap (λ (f : Facet). f.0) (sym (candidate_at t c.args.self.kind c.args.i (omega arith))))))
