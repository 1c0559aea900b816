-- `inner_answers::keep_ends` meets its contract. Assumes nothing.
use native.Mathlib.Omega.{arith}
use Rattle.inner_answers.specs.Stored.{Storing, edge_asked, edge_full, edge_stored}
use Rattle.inner_answers.proofs.keep_ends.Goals as goal

pub returns-then-bound-layout : goal.returns-then-bound-layout
unfolding Storing
returns-then-bound-layout c =
    λ g left rows m t e b. edge_full g c.args.layout left c.args.swapped c.args.rest rows m c.args.ws.now t c.args.n e
    c.args.bound b (omega arith)

pub keep_edge-more-requires : goal.keep_edge-more-requires
keep_edge-more-requires c =
    let g = c.requires.0 in
    let left = c.requires.1 in
    let rows = c.requires.2 in
    let m = c.requires.3 in
    let t = c.requires.4 in
    edge_asked g c.args.layout left c.args.swapped c.args.rest rows m c.args.ws.now t c.args.n c.requires.5

pub returns : goal.returns
unfolding Storing
returns c =
    λ g left rows m t e b. edge_stored g c.args.layout left c.args.swapped c.args.rest rows m c.args.ws.now t c.args.n
    e c.args.bound b (omega arith) c.keep_edge-more.result c.keep_edge-more.new.ws c.keep_edge-more.ensures.layout
    c.keep_edge-more.ensures.within.1 c.keep_edge-more.ensures.keeps
