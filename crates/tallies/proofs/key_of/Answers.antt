-- `key_of` meets its contract.
use mathlib.Core.Path.{sym, subst}
use Prim.Native.Nat.{ℕ, ◌<◌}
use Rattle.orbits.specs.Numbers.{image_is}
use Rattle.tallies.specs.Meaning.{key_small}
use Rattle.tallies.proofs.Laws.{key_sends}
use Rattle.tallies.proofs.key_of.Goals as goal

pub set_image-requires : goal.set_image-requires
set_image-requires c =
    key_sends c.args.n c.args.whole.full.n c.args.set c.args.whole.globals.now _ c.requires c.vertices_of.ensures

pub returns : goal.returns
returns c =
    let is = image_is c.args.n c.args.set 0 c.args.whole.globals.now _ c.set_image.result c.vertices_of.ensures
    c.set_image.ensures in (
      is,
      subst (λ (k : ℕ). k < 1048576) (sym is)
          (key_small c.args.n c.args.whole.full.n c.args.whole.globals.now c.requires c.args.set),
    )
