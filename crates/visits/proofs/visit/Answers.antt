-- `visits::visit` meets its contract. The place and the facet are written, the facet joins, and the totals are
-- judged: `visited` says what that makes of the workspace. Assumes nothing.
use native.Mathlib.Omega.{arith}
use mathlib.Core.Path.{refl, ◌∙◌}
use Rattle.frames.specs.Steps.{frame_room_at, place_inside, place_small, number_small, taken_small, held_placed}
use Rattle.frames.specs.Steps.{placed_light, over_lifted, visited}
use borrow.Author.Rules.{rules}
use Rattle.visits.proofs.visit.Goals as goal

pub kind-requires : goal.kind-requires
kind-requires c = let ok = c.requires.1 in rw c.frames.ensures (frame_room_at ok.stands _ (omega arith))

pub facet-x-requires : goal.facet-x-requires
facet-x-requires c = let ok = c.requires.1 in
    rw (c.kind.ensures, c.frames.ensures) (
      c.requires.0,
      ok.stands.inputs,
      place_inside c.requires.0 c.args.a c.args.ws.now c.args.s.depth c.args.place _ ok refl,
    )

pub overflow_cast-place : goal.overflow_cast-place
overflow_cast-place c =
    let q = place_small c.requires.0 c.args.a c.args.ws.now c.args.s.depth c.args.place _ c.requires.1 refl in
    omega arith

pub overflow_cast-x : goal.overflow_cast-x
overflow_cast-x c =
    let x = rw (c.kind.ensures, c.frames.ensures) at (c.facet-x.ensures c.requires.0 c.requires.1.stands.inputs) in
    let n = number_small c.requires.0 c.args.a c.args.ws.now c.args.s.depth c.args.place c.facet-x.result c.requires.1
    x in
    omega arith

pub take_place-requires : goal.take_place-requires
take_place-requires c = let ok = c.requires.1 in frame_room_at ok.stands _ (omega arith)

pub join-over-requires : goal.join-over-requires
join-over-requires c =
    let ok = c.requires.1 in
    let x = rw (c.kind.ensures, c.frames.ensures) at (c.facet-x.ensures c.requires.0 ok.stands.inputs) in
    rw c.take_place.ensures (
      c.requires.0,
      (held_placed c.requires.0 c.args.a c.args.ws.now c.args.s.depth c.args.place c.facet-x.result ok x).inputs,
      taken_small c.requires.0 c.args.a c.args.ws.now c.args.s.depth c.args.place c.facet-x.result ok x,
      λ ridge r. let l =
          placed_light c.requires.0 c.args.a c.args.ws.now c.args.s.depth c.args.place c.facet-x.result ok x ridge r in
          omega arith,
    )

pub judge_totals-verdict-requires : goal.judge_totals-verdict-requires
judge_totals-verdict-requires c =
    let ok = c.requires.1 in
    let x = rw (c.kind.ensures, c.frames.ensures) at (c.facet-x.ensures c.requires.0 ok.stands.inputs) in (
      search rules,
      rw (c.join-over.ensures.counts, c.take_place.ensures) (rw c.take_place.ensures at c.join-over.ensures.lifts
          ∙ over_lifted c.requires.0 c.args.a c.args.ws.now c.args.s.depth c.args.place c.facet-x.result ok x),
    )

pub returns : goal.returns
returns c = (
  refl,
  refl,
  λ t ok. let x = rw (c.kind.ensures, c.frames.ensures) at (c.facet-x.ensures t ok.stands.inputs) in
      rw (c.join-over.ensures.counts, c.take_place.ensures)
      (visited t c.args.a c.args.ws.now c.args.s.depth c.args.place c.facet-x.result ok x
      c.judge_totals-verdict.result (rw (
        c.join-over.ensures.counts,
        c.take_place.ensures,
      ) at c.judge_totals-verdict.ensures)),
)
