-- `Symmetries::rows_within` meets its contract: a row that keeps the set is written behind the others (`row_joins`),
-- another is passed (`row_passed`), and at the end all rows were looked at.
use mathlib.Core.Path.{◌≡◌, sym, ap, ◌∙◌}
use Prim.Native.Nat.{◌+◌, ◌-◌, ◌*◌, ◌≤◌}
use native.Mathlib.Omega.{arith}
use lib.ListN.{length}
use lib.Seq.{sets}
use Rattle.definitions.specs.Recursion.{row_within}
use Rattle.laws.specs.Sets.{vertices_of}
use Rattle.rows.specs.Rows.{row_at}
use Rattle.stabilizers.specs.Places.{places, places_within}
use Rattle.stabilizers.proofs.Laws.{rows_none, row_joins, row_passed, put_within, places_few}
use Rattle.stabilizers.proofs.Symmetries.rows_within.Goals as goal
use Rattle.stabilizers.proofs.Symmetries.rows_within.Goals.{then-keeps_set, else-keeps_set}

pub loop-i-init : goal.loop-i-init
loop-i-init c =
    let none =
    rows_none (vertices_of c.args.self.n c.args.set) c.args.self.n c.args.self.rows.bytes.now c.args.out.now in
    (omega arith, omega arith, none.0, none.1)

pub loop-i-preserved : goal.loop-i-preserved
loop-i-preserved c =
    let l = c.loop-i in
    let n = c.args.self.n in
    let s = c.args.self.rows.bytes.now in
    let set = c.args.set in
    let vertices = vertices_of n set in
    let p = c.args.self.permute.each l.i c.loop-i-test.true in
    let from = 32 * l.count in
    elim c.if-keeps_set.branch [
      | then-keeps_set w ↦
          let yes = sym c.keeps_set.ensures ∙ w.if-keeps_set.true in
          let joins = row_joins vertices n s c.args.out.now l.i l.count l.out l.invariant.2 l.invariant.3 yes in
          let put : sets l.out from (places s l.i set vertices) ≡ sets l.out from
          (row_within vertices (row_at n l.i s)) = ap (sets l.out from) (places_within n l.i s p set yes) in
          let few : length (places s l.i set vertices)
          ≤ from + 32 - from = omega (arith, places_few s l.i n set, p.n_fits) in
          rw (w.count-is, w.out-is, w.write_row.ensures) (
            omega arith,
            omega (arith, l.invariant.1),
            joins.0,
            put_within from (from + 32 - from) l.out (places s l.i set vertices) few ∙ (put ∙ joins.1),
          )
      | else-keeps_set w ↦
          let passed = row_passed vertices n s c.args.out.now l.i l.count l.out l.invariant.2 l.invariant.3
          (sym c.keeps_set.ensures ∙ w.if-keeps_set.false) in
          rw (w.count-is, w.out-is) (omega arith, omega (arith, l.invariant.1), passed.0, passed.1)
    ]

pub returns-clause-count : goal.returns-clause-count
returns-clause-count c =
    let l = c.loop-i in
    let e : l.i ≡ c.args.self.rows.count = omega arith in
    rw (← e) l.invariant.2

pub returns-clause-rows : goal.returns-clause-rows
returns-clause-rows c = let l = c.loop-i in let e : l.i ≡ c.args.self.rows.count = omega arith in rw (← e) l.invariant.3
