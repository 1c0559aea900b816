-- `faceting::start_call` meets its contract: the kept areas are cleared behind the orbits, which stay. Assumes nothing.
use mathlib.Core.Path.{◌≡◌, sym, subst}
use borrow.Author.Rules.{rules}
use lib.ListN.{length}
use Rattle.layout.specs.Keeps.{LayoutFits}
use Rattle.layout.specs.declared.KeptLayout.{KeptLayout}
use Rattle.layout.specs.Capacities.{layout_for}
use Rattle.faceting.specs.Ways.{way_of, way_takes}
use Rattle.faceting.proofs.Starts.{start_kept}
use Rattle.faceting.proofs.start_call.Goals as goal

pub find_kept-answer-requires : goal.find_kept-answer-requires
find_kept-answer-requires c = (c.requires.0, c.requires.1, c.requires.3, c.requires.4)

pub clear_kept-requires : goal.clear_kept-requires
clear_kept-requires c =
    let found = c.find_kept-answer in
    let same : length found.new.ws ≡ length c.args.ws.now = search rules in
    let fits = subst (LayoutFits (layout_for c.args.rank)) (sym same) c.requires.2 in
    subst (λ (x : KeptLayout). LayoutFits x (length found.new.ws)) (sym c.layout_for-layout.ensures) fits

pub returns : goal.returns
returns c =
    let found = c.find_kept-answer in
    let clear = c.clear_kept in
    let same : length found.new.ws ≡ length c.args.ws.now = search rules in
    start_kept (way_of c.args.search.flat.now.n c.args.way)
    (way_takes c.args.search.flat.now.n c.args.way) c.args.rules.orbits _ c.args.search.flat.now.n found.result
    c.args.rank c.layout_for-layout.result found.new.ws clear.new.ws c.layout_for-layout.ensures
    (subst (LayoutFits (layout_for c.args.rank)) (sym same) c.requires.2) c.requires.0 clear.ensures.within
    clear.ensures.keeps found.ensures
