-- `share_code` meets its contract: what it reads stands there, and the numbers stay small.
use native.Mathlib.Omega.{arith}
use Rattle.shares.proofs.Sharing.{orbit_few, orbit_asks, ridge_asks, number_asks, ridge_inside, product_small}
use Rattle.shares.proofs.Sharing.{ridge_small_holds, code_made, code_none}
use mathlib.Core.Path.{refl, ap, ◌∙◌}
use Prim.Native.Nat.{ℕ, ◌+◌, ◌*◌}
use Rattle.shares.proofs.share_code.Goals as goal

pub overflow_mul-o : goal.overflow_mul-o
overflow_mul-o c =
    omega (
      arith,
      orbit_few c.args.layout c.args.tables c.args.ws.now c.args.counts.now c.requires.0
          c.requires.1 c.args.o c.requires.2,
    )

pub overflow_add-o : goal.overflow_add-o
overflow_add-o c =
    omega (
      arith,
      orbit_few c.args.layout c.args.tables c.args.ws.now c.args.counts.now c.requires.0
          c.requires.1 c.args.o c.requires.2,
    )

pub get-own-requires : goal.get-own-requires
get-own-requires c =
    orbit_asks c.args.layout c.args.tables c.args.ws.now c.args.counts.now c.requires.0 c.requires.1 c.args.o
    c.requires.2

pub item-inner-requires : goal.item-inner-requires
item-inner-requires c =
    ridge_asks c.args.layout c.args.tables c.args.ws.now c.args.counts.now c.requires.0 c.requires.1 c.args.o
    c.requires.2 c.args.a c.requires.3

pub item-requires : goal.item-requires
item-requires c =
    number_asks c.args.layout c.args.tables c.args.ws.now c.args.counts.now c.requires.0 c.requires.1 c.args.o
    c.requires.2 c.args.a c.requires.3

pub bounds-counts-ridge : goal.bounds-counts-ridge
bounds-counts-ridge c =
    omega (
      arith,
      ridge_inside c.args.layout c.args.tables c.args.ws.now c.args.counts.now c.requires.0 c.requires.1
          c.args.o c.requires.2 c.args.a c.requires.3 _ _ _ c.get-own.ensures c.item-inner.ensures
          (c.from-ridge.ensures ∙ c.item.ensures),
    )

pub returns-then-all-eq0 : goal.returns-then-all-eq0
returns-then-all-eq0 c =
    code_none c.args.layout c.args.tables c.args.ws.now c.args.counts.now c.requires.0 c.requires.1 c.args.o
    c.requires.2 c.args.a c.requires.3 _ _ _ c.get-own.ensures c.item-inner.ensures
    (c.from-ridge.ensures ∙ c.item.ensures) _ refl c.if-all-eq0.true

pub overflow_mul-share : goal.overflow_mul-share
overflow_mul-share c =
    omega (
      arith,
      product_small c.args.layout c.args.tables c.args.ws.now c.args.counts.now c.requires.0 c.requires.1
          c.args.o c.requires.2 c.args.a c.requires.3 _ _ _ c.get-own.ensures c.item-inner.ensures
          (c.from-ridge.ensures ∙ c.item.ensures),
    )

pub overflow_cast-result : goal.overflow_cast-result
overflow_cast-result c =
    omega (
      arith,
      ridge_small_holds c.args.layout c.args.tables c.args.ws.now c.args.counts.now c.requires.0 c.requires.1
          c.args.o c.requires.2 c.args.a c.requires.3 _ _ _ c.get-own.ensures c.item-inner.ensures
          (c.from-ridge.ensures ∙ c.item.ensures),
    )

pub overflow_cast-result-2 : goal.overflow_cast-result-2
overflow_cast-result-2 c =
    omega (
      arith,
      ridge_small_holds c.args.layout c.args.tables c.args.ws.now c.args.counts.now c.requires.0 c.requires.1
          c.args.o c.requires.2 c.args.a c.requires.3 _ _ _ c.get-own.ensures c.item-inner.ensures
          (c.from-ridge.ensures ∙ c.item.ensures),
      c.min.ensures,
    )

pub returns : goal.returns
returns c =
    ap (λ (k : ℕ). 4 * c.from-ridge.result + k) c.min.ensures
    ∙ code_made c.args.layout c.args.tables c.args.ws.now c.args.counts.now c.requires.0 c.requires.1 c.args.o
    c.requires.2 c.args.a c.requires.3 _ _ _ c.get-own.ensures c.item-inner.ensures
    (c.from-ridge.ensures ∙ c.item.ensures) _ refl
