-- `PairSearch::pair_openers` meets its contract: a turn adds what `pairs_above` finds for one opener. At the end all
-- openers were taken, and what a walk by marks finds is the definition's (`pairs_walked`).
use mathlib.Core.Path.{◌≡◌, sym, ap, ◌∙◌}
use mathlib.Core.Bool.{false}
use mathlib.Core.List.{[]}
use Prim.Native.Nat.{◌≤◌}
use native.Mathlib.Omega.{arith}
use lib.ListN.{length, take, replicate}
use lib.Seq.{take_all}
use Rattle.definitions.specs.Lists.{count_from}
use Rattle.definitions.specs.Orbits.{vertex_openers, pairs_from}
use Rattle.space.specs.Meaning.{points_of, limits_of}
use Rattle.rows.specs.Rows.{rows_in}
use Rattle.rows.specs.Marks.{walked_fewer}
use Rattle.rows.specs.Codes.{pair_code, pair_codes}
use Rattle.openers.specs.Meaning.{breaks}
use Rattle.openers.proofs.PairWalk.{from_none, found_from_holds, marks_from_holds, Rising, openers_rise, room}
use Rattle.openers.proofs.PairWalk.{from_vertices, agree_none, pairs_walked}
use Rattle.openers.proofs.PairSearch.pair_openers.Goals as goal

pub loop-v-init : goal.loop-v-init
loop-v-init c =
    let a = c.args in
    let none = from_none (pair_codes (rows_in 32 a.self.rows.count a.self.rows.bytes.now))
    (breaks a.self.tolerance (limits_of a.self.limits) (points_of a.self.points.now))
    (replicate 400 false) a.self.points.now.n c.as_slice-v-items.result.now in
    (c.new-pairs.ensures ∙ sym none.0, sym none.1)

pub pairs_above-requires : goal.pairs_above-requires
pairs_above-requires c =
    let l = c.loop-v in
    let found = c.as_slice-v-items.result.now in
    let a = c.args in
    let images = pair_codes (rows_in 32 a.self.rows.count a.self.rows.bytes.now) in
    let skip = breaks a.self.tolerance (limits_of a.self.limits) (points_of a.self.points.now) in
    let n = a.self.points.now.n in
    let rise : Rising n found = rw (c.as_slice-v-items.ensures.value ∙ c.vertex_openers-openers.ensures)
    (openers_rise (rows_in n a.self.rows.count a.self.rows.bytes.now) n) in
    let long = ap length l.invariant.0 in
    let few : length l.pairs.items ≤ length (pairs_from n (take l.v-index found)) = omega (
      arith,
      long,
      walked_fewer pair_code images skip (replicate 400 false) (pairs_from n (take l.v-index found)),
    ) in (
      rise.below l.v-index (omega arith),
      room n found rise a.self.points.now.fits.n_fits l.v-index (length l.pairs.items) (omega arith) few,
    )

pub loop-v-preserved : goal.loop-v-preserved
loop-v-preserved c =
    let l = c.loop-v in
    let found = c.as_slice-v-items.result.now in
    let a = c.args in
    let images = pair_codes (rows_in 32 a.self.rows.count a.self.rows.bytes.now) in
    let skip = breaks a.self.tolerance (limits_of a.self.limits) (points_of a.self.points.now) in
    let n = a.self.points.now.n in (
      rw (
        found_from_holds images skip (replicate 400 false) n found l.v-index (omega arith),
        ← l.invariant.0,
        ← l.invariant.1,
      ) c.pairs_above.ensures.joins,
      rw (
        marks_from_holds images skip (replicate 400 false) n found l.v-index (omega arith),
        ← l.invariant.1,
      ) c.pairs_above.ensures.marks,
    )

pub returns : goal.returns
returns c =
    let l = c.loop-v in
    let a = c.args in
    let skip = breaks a.self.tolerance (limits_of a.self.limits) (points_of a.self.points.now) in
    let n = a.self.points.now.n in
    let all = vertex_openers (rows_in n a.self.rows.count a.self.rows.bytes.now) [] (count_from 0 n) in
    let found = c.as_slice-v-items.result.now in
    let whole : take l.v-index found ≡ all = take_all l.v-index found (omega arith)
    ∙ (c.as_slice-v-items.ensures.value ∙ c.vertex_openers-openers.ensures) in
    rw (
      ← (pairs_walked n a.self.rows.count a.self.rows.bytes.now a.self.fit skip (replicate 400 false) []
          (pairs_from n all) agree_none (from_vertices n all
          (openers_rise (rows_in n a.self.rows.count a.self.rows.bytes.now) n))),
      ← whole,
    ) l.invariant.0
