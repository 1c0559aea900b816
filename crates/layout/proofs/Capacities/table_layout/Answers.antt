-- `Capacities::table_layout` meets its contract: its sums are those of the definition, and small. Assumes nothing.
use Rattle.std.specs.Prelude.{◌≡◌, ◌≤◌}
use Rattle.std.proofs.Common.{ap, subst, sym, arith}
use Rattle.layout.specs.Capacities.{Bounded, kept_layout, kept_small, tables_from, table_layout}
use Rattle.layout.specs.declared.Capacities.{Capacities}
use Rattle.layout.specs.declared.KeptLayout.{KeptLayout}
use Rattle.layout.proofs.Capacities.table_layout.Goals as goal

-- what is kept ends low
low : (self : Capacities) → Bounded self → (kept : KeptLayout) → kept ≡ kept_layout self → kept.end ≤ 67108864
low self b kept e = subst (λ (k : KeptLayout). k.end ≤ 67108864) (sym e) (kept_small self b)

pub overflow_add-shares-2 : goal.overflow_add-shares-2
overflow_add-shares-2 c =
    let b = c.requires in
    let l = low c.args.self b c.kept_layout-numbers.result c.kept_layout-numbers.ensures in
    omega (arith, l, b.few_ridges, b.few_ridge_orbits, b.few_orbits)

pub overflow_add-touched-2 : goal.overflow_add-touched-2
overflow_add-touched-2 c =
    let b = c.requires in
    let l = low c.args.self b c.kept_layout-numbers.result c.kept_layout-numbers.ensures in
    omega (arith, l, b.few_ridges, b.few_ridge_orbits, b.few_orbits)

pub overflow_add-ones-2 : goal.overflow_add-ones-2
overflow_add-ones-2 c =
    let b = c.requires in
    let l = low c.args.self b c.kept_layout-numbers.result c.kept_layout-numbers.ensures in
    omega (arith, l, b.few_ridges, b.few_ridge_orbits, b.few_orbits)

pub overflow_add-frames-3 : goal.overflow_add-frames-3
overflow_add-frames-3 c =
    let b = c.requires in
    let l = low c.args.self b c.kept_layout-numbers.result c.kept_layout-numbers.ensures in
    omega (arith, l, b.few_ridges, b.few_ridge_orbits, b.few_orbits)

pub overflow_add-totals : goal.overflow_add-totals
overflow_add-totals c =
    let b = c.requires in
    let l = low c.args.self b c.kept_layout-numbers.result c.kept_layout-numbers.ensures in
    omega (arith, l, b.few_ridges, b.few_ridge_orbits, b.few_orbits)

pub overflow_add-lists-2 : goal.overflow_add-lists-2
overflow_add-lists-2 c =
    let b = c.requires in
    let l = low c.args.self b c.kept_layout-numbers.result c.kept_layout-numbers.ensures in
    omega (arith, l, b.few_ridges, b.few_ridge_orbits, b.few_orbits)

pub overflow_add-result-3 : goal.overflow_add-result-3
overflow_add-result-3 c =
    let b = c.requires in
    let l = low c.args.self b c.kept_layout-numbers.result c.kept_layout-numbers.ensures in
    omega (arith, l, b.few_ridges, b.few_ridge_orbits, b.few_orbits)

pub returns : goal.returns
unfolding tables_from table_layout
returns c = ap (λ (k : KeptLayout). tables_from k.end c.args.self) c.kept_layout-numbers.ensures
