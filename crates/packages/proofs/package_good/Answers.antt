-- `packages::package_good` meets its contract: the first of the tests that fails decides. Assumes nothing.
use mathlib.Core.Path.{◌≡◌, sym, ◌∙◌}
use Prim.Native.Nat.{ℕ, zero, suc, ◌+◌, ◌-◌, ◌*◌, ◌≤◌}
use native.Mathlib.Omega.{arith}
use lib.ListN.{length}
use Rattle.laws.specs.Bools.{true→holds}
use Rattle.packages.specs.Passed.{numbers, good_counts, good_globals, good_identity, good_rows}
use Rattle.packages.proofs.package_good.Goals as goal

pub returns-then-not-counts_good : goal.returns-then-not-counts_good
returns-then-not-counts_good c =
    let a = c.args in
    good_counts a.n a.pack.now (sym c.counts_good.ensures ∙ c.if-not-counts_good.true)

pub get-requires : goal.get-requires
get-requires c =
    let a = c.args in
    let k = numbers a.n a.pack.now (true→holds (sym c.counts_good.ensures ∙ c.if-not-counts_good.false)) in
    omega (arith, k.long)

pub bounds-pack-2 : goal.bounds-pack-2
bounds-pack-2 c =
    let a = c.args in
    let k = numbers a.n a.pack.now (true→holds (sym c.counts_good.ensures ∙ c.if-not-counts_good.false)) in
    omega (arith, k.long)

pub slice_bounds-globals_good-end : goal.slice_bounds-globals_good-end
slice_bounds-globals_good-end c =
    let a = c.args in
    let k = numbers a.n a.pack.now (true→holds (sym c.counts_good.ensures ∙ c.if-not-counts_good.false)) in
    omega (arith, k.long)

pub returns-then-not-globals_good : goal.returns-then-not-globals_good
returns-then-not-globals_good c =
    let a = c.args in
    let counts = sym c.counts_good.ensures ∙ c.if-not-counts_good.false in
    let m : (5 + a.n) - 5 ≡ a.n = omega arith in
    let once = sym c.globals_good.ensures ∙ c.if-not-globals_good.true in
    good_globals a.n a.pack.now counts (rw (c.from-size.ensures, m) at once)

pub is_identity-requires : goal.is_identity-requires
is_identity-requires c =
    let a = c.args in
    let k = numbers a.n a.pack.now (true→holds (sym c.counts_good.ensures ∙ c.if-not-counts_good.false)) in
    rw c.from-size.ensures (row_fits a.n (length a.pack.now) _ _ k.rows_least k.long)
  where
    row_fits : (n long size rows : ℕ) → 1 ≤ rows → long ≡ 5 + n + size * rows → 5 + n + size ≤ long
    row_fits n long size zero h e = absurd (omega arith)
    row_fits n long size (suc rows) h e = omega arith

pub returns-then-not-is_identity : goal.returns-then-not-is_identity
returns-then-not-is_identity c =
    let a = c.args in
    let counts = sym c.counts_good.ensures ∙ c.if-not-counts_good.false in
    let m : (5 + a.n) - 5 ≡ a.n = omega arith in
    let once = sym c.globals_good.ensures ∙ c.if-not-globals_good.false in
    let other = sym c.is_identity.ensures ∙ c.if-not-is_identity.true in
    good_identity a.n a.pack.now counts (rw (c.from-size.ensures, m) at once) (rw c.from-size.ensures at other)

pub rows_good-requires : goal.rows_good-requires
rows_good-requires c =
    let a = c.args in
    let k = numbers a.n a.pack.now (true→holds (sym c.counts_good.ensures ∙ c.if-not-counts_good.false)) in
    rw (c.from-size.ensures, c.from-rows.ensures, c.get.ensures) (k.size_most, omega (arith, k.long))

pub returns : goal.returns
returns c =
    let a = c.args in
    let counts = sym c.counts_good.ensures ∙ c.if-not-counts_good.false in
    let m : (5 + a.n) - 5 ≡ a.n = omega arith in
    let once = sym c.globals_good.ensures ∙ c.if-not-globals_good.false in
    let first = sym c.is_identity.ensures ∙ c.if-not-is_identity.false in
    let all = rw (c.from-size.ensures, c.from-rows.ensures, c.get.ensures) at c.rows_good.ensures in
    all ∙ good_rows a.n a.pack.now counts (rw (c.from-size.ensures, m) at once) (rw c.from-size.ensures at first)
