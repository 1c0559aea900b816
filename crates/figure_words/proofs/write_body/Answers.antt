-- `figure_words::write_body` meets its contract: a turn writes one number more (`count_more`). At the end `facet` is
-- n, and the words are the body's (`body_is`).
use mathlib.Core.Path.{◌≡◌, sym}
use native.Mathlib.Omega.{arith}
use Rattle.words.specs.Wrote.{writes_none, writes_then, writes_as}
use Rattle.figure_words.specs.Laws.{body_is, count_none, count_more}
use Rattle.figure_words.proofs.write_body.Goals as goal

pub loop-facet-init : goal.loop-facet-init
loop-facet-init c = (writes_as (writes_none _) (sym count_none), omega arith)

pub loop-facet-preserved : goal.loop-facet-preserved
loop-facet-preserved c = (
  writes_as (writes_then c.loop-facet.invariant.0 c.push-in-loop-facet.ensures.writes) (sym (count_more _)),
  omega arith,
)

pub returns : goal.returns
returns c =
    let e : c.loop-facet.facet ≡ c.args.n = omega arith in
    writes_as (writes_then c.push.ensures.writes (writes_then c.push-2.ensures.writes c.loop-facet.invariant.0))
    (body_is _ _ e)
