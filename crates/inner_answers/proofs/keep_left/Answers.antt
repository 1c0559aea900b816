-- `inner_answers::keep_left` meets its contract. Assumes nothing.
use native.Mathlib.Omega.{arith}
use Rattle.inner_answers.specs.Stored.{Storing, counts_small, polygons_asked, polygons_full, polygons_stored}
use Rattle.inner_answers.proofs.keep_left.Goals as goal

pub overflow_add-layout : goal.overflow_add-layout
overflow_add-layout c =
    let g = c.requires.0 in
    let left = c.requires.1 in
    let t = c.requires.2 in
    let k = counts_small g c.args.layout left c.args.level c.args.rest c.args.rows.bytes.now c.args.rows.count
    c.args.ws.now t c.args.n c.requires.3 in
    omega (arith, k.0, k.1)

pub returns-then-bound-layout : goal.returns-then-bound-layout
unfolding Storing
returns-then-bound-layout c =
    λ g left t e b. polygons_full g c.args.layout left c.args.level c.args.rest c.args.rows.bytes.now
    c.args.rows.count c.args.ws.now t c.args.n e c.args.bound b (omega arith)

pub keep_polygons-more-requires : goal.keep_polygons-more-requires
keep_polygons-more-requires c =
    let g = c.requires.0 in
    let left = c.requires.1 in
    let t = c.requires.2 in
    polygons_asked g c.args.layout left c.args.level c.args.rest c.args.rows.bytes.now c.args.rows.count c.args.ws.now
    t c.args.n c.requires.3 (omega (arith, c.requires.4))

pub returns : goal.returns
unfolding Storing
returns c =
    λ g left t e b. polygons_stored g c.args.layout left c.args.level c.args.rest c.args.rows.bytes.now
    c.args.rows.count c.args.ws.now t c.args.n e c.args.bound b
    (omega arith) c.keep_polygons-more.result c.keep_polygons-more.new.ws c.keep_polygons-more.ensures.layout
    c.keep_polygons-more.ensures.within.1 c.keep_polygons-more.ensures.keeps
