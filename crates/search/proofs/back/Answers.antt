-- `search::back` meets its contract. The frame goes, and where a facet led to it that facet leaves. Assumes nothing.
use native.Mathlib.Omega.{arith}
use mathlib.Core.Path.{◌≡◌, refl}
use Prim.Native.Nat.{◌-◌}
use Rattle.search.specs.SearchSteps.{held_drop}
use Rattle.search.proofs.back.Goals as goal

pub withdraw-requires : goal.withdraw-requires
withdraw-requires c = (
  c.requires.0,
  held_drop c.requires.0 c.args.a c.args.ws.now c.args.s.depth c.requires.1 c.requires.2,
  c.if-depth-gt0.true,
)

pub returns-then-depth-gt0 : goal.returns-then-depth-gt0
returns-then-depth-gt0 c =
    (refl, refl, λ t st. c.withdraw.ensures t (held_drop t c.args.a c.args.ws.now c.args.s.depth st c.requires.2))

pub returns-else-depth-gt0 : goal.returns-else-depth-gt0
returns-else-depth-gt0 c = (
  refl,
  refl,
  λ t st. let e : c.args.s.depth - 1 - 1 ≡ c.args.s.depth - 1 = omega arith in
      record {
        stands = rw e (held_drop t c.args.a c.args.ws.now c.args.s.depth st c.requires.2);
        frames = refl;
        lists = refl;
        tables = refl;
      },
)
