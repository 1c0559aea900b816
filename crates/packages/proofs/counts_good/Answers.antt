-- `packages::counts_good` meets its contract: the first of the tests that fails decides. Assumes nothing.
use mathlib.Core.Path.{◌≡◌, sym, ap, ◌∙◌}
use mathlib.Core.Bool.{true}
use Prim.Native.Nat.{ℕ, ◌≤◌}
use native.Mathlib.Nat.{mul-le-mul}
use native.Mathlib.Omega.{arith}
use lib.Dec.{leb, leb→le}
use Rattle.definitions.specs.Job.{between}
use Rattle.laws.specs.Bools.{true→holds, second}
use Rattle.packages.specs.Passed.{counts_short, counts_rows, counts_size, counts_count, counts_length}
use Rattle.packages.proofs.counts_good.Goals as goal

at_most : (a b x : ℕ) → between a b x ≡ true → x ≤ b
unfolding between
at_most a b x e = leb→le x b (second (leb a x) (leb x b) (true→holds e))

pub returns-then-pack-lt5 : goal.returns-then-pack-lt5
returns-then-pack-lt5 c = let a = c.args in counts_short a.n a.pack.now (omega arith)

pub returns-then-not-between : goal.returns-then-not-between
returns-then-not-between c =
    let a = c.args in
    let rows = ap (between 1 120) (c.from-rows.ensures ∙ c.get.ensures) in
    counts_rows a.n a.pack.now (sym rows ∙ (sym c.between.ensures ∙ c.if-not-between.true))

pub returns-then-not-between-2 : goal.returns-then-not-between-2
returns-then-not-between-2 c =
    let a = c.args in
    let rows = ap (between 1 120) (c.from-rows.ensures ∙ c.get.ensures) in
    let size = ap (between 2 20) c.from-size.ensures in
    counts_size a.n a.pack.now (sym rows ∙ (sym c.between.ensures ∙ c.if-not-between.false))
    (sym size ∙ (sym c.between-2.ensures ∙ c.if-not-between-2.true))

pub returns-then-not-between-3 : goal.returns-then-not-between-3
returns-then-not-between-3 c =
    let a = c.args in
    let rows = ap (between 1 120) (c.from-rows.ensures ∙ c.get.ensures) in
    let size = ap (between 2 20) c.from-size.ensures in
    let count = ap (between 1 65535) (c.from-count.ensures ∙ c.get-2.ensures) in
    counts_count a.n a.pack.now (sym rows ∙ (sym c.between.ensures ∙ c.if-not-between.false))
    (sym size ∙ (sym c.between-2.ensures ∙ c.if-not-between-2.false))
    (sym count ∙ (sym c.between-3.ensures ∙ c.if-not-between-3.true))

pub overflow_mul-result : goal.overflow_mul-result
overflow_mul-result c =
    let rows = at_most 1 120 _ (sym c.between.ensures ∙ c.if-not-between.false) in
    let size = at_most 2 20 _ (sym c.between-2.ensures ∙ c.if-not-between-2.false) in
    let both = mul-le-mul size rows in
    omega arith

pub overflow_add-result-2 : goal.overflow_add-result-2
overflow_add-result-2 c =
    let rows = at_most 1 120 _ (sym c.between.ensures ∙ c.if-not-between.false) in
    let size = at_most 2 20 _ (sym c.between-2.ensures ∙ c.if-not-between-2.false) in
    let both = mul-le-mul size rows in
    omega arith

pub returns : goal.returns
returns c =
    let a = c.args in
    let rows = ap (between 1 120) (c.from-rows.ensures ∙ c.get.ensures) in
    let size = ap (between 2 20) c.from-size.ensures in
    let count = ap (between 1 65535) (c.from-count.ensures ∙ c.get-2.ensures) in
    rw (c.from-rows.ensures, c.get.ensures, c.from-size.ensures)
    (counts_length a.n a.pack.now (sym rows ∙ (sym c.between.ensures ∙ c.if-not-between.false))
    (sym size ∙ (sym c.between-2.ensures ∙ c.if-not-between-2.false))
    (sym count ∙ (sym c.between-3.ensures ∙ c.if-not-between-3.false)))
