-- `shares::share_facets` meets its contract: what the shares are made from lies before them and stays
-- (`sources_kept`). A turn lays one facet's list (`laid_more`), and at the end all have theirs (`laid_end`).
use mathlib.Core.Path.{◌≡◌, refl, sym, ◌∙◌}
use native.Mathlib.Omega.{arith}
use Rattle.shares.specs.Areas.{clear_kept}
use Rattle.shares.specs.Shares.{sources_of, facet_codes, sources_kept}
use Rattle.shares.specs.Laying.{laid_start, laid_more, laid_ready, laid_end}
use Rattle.shares.proofs.Sharing.{facet_requires, facets_room}
use Rattle.shares.proofs.share_facets.Goals as goal

pub loop-x-init : goal.loop-x-init
loop-x-init c = (
  refl,
  omega arith,
  laid_start c.args.ws.now c.requires.2 _ c.clear.ensures
      (facet_codes (sources_of c.args.layout c.args.tables _) c.args.counts.now),
)

pub share_facet-requires : goal.share_facet-requires
share_facet-requires c = let l = c.loop-x in
    let k = clear_kept c.args.ws.now c.requires.2 _ c.clear.ensures in
    let z = sources_kept c.args.layout c.args.tables c.args.ws.now _ c.requires.0 k.1 in
    let g = rw z at l.invariant.2 in
    let r = facet_requires c.args.layout c.args.tables c.args.ws.now c.args.counts.now c.requires.0 c.requires.1
    l.ws (l.invariant.0 ∙ k.0) (g.front ∙ k.1) l.x
    (laid_ready c.args.ws.now c.requires.2 _ c.clear.ensures _ l.x g _ (facets_room c.args.layout c.args.tables
    c.args.ws.now c.args.counts.now c.requires.1 l.x c.loop-x-test.true) c.loop-x-test.true) in
    (r.0, r.1, c.loop-x-test.true, r.2)

pub loop-x-preserved : goal.loop-x-preserved
loop-x-preserved c = let l = c.loop-x in
    let k = clear_kept c.args.ws.now c.requires.2 _ c.clear.ensures in
    let z = sources_kept c.args.layout c.args.tables c.args.ws.now l.ws c.requires.0 (l.invariant.2.front ∙ k.1)
    ∙ sym (sources_kept c.args.layout c.args.tables c.args.ws.now _ c.requires.0 k.1) in
    let g =
    laid_more c.args.ws.now c.requires.2 _ c.clear.ensures _ l.x l.invariant.2 (rw z at c.share_facet.ensures) in
    (g.long, omega arith, g)

pub returns : goal.returns
returns c = let l = c.loop-x in
    let k = clear_kept c.args.ws.now c.requires.2 _ c.clear.ensures in
    let z = sources_kept c.args.layout c.args.tables c.args.ws.now _ c.requires.0 k.1 in
    let q : l.x ≡ c.args.layout.facets = omega (arith, l.invariant.1, c.loop-x-test.false) in
    rw (← z) (laid_end c.args.ws.now c.requires.2 _ c.clear.ensures _ c.args.layout.facets (rw q at l.invariant.2))
