-- `entries::order_lists` meets its contract. Assumes nothing.
use mathlib.Core.Path.{◌≡◌, ap, ◌∙◌}
use Prim.Native.Nat.{ℕ, ◌-◌}
use native.Mathlib.Omega.{arith}
use lib.ListN.{take}
use Rattle.pool.specs.Pool.{count}
use Rattle.entries.specs.Listed.{in_order, label_asked, label_left}
use Rattle.entries.proofs.order_lists.Goals as goal

-- the bytes lent are the pool's
whole : (bytes : ℕ) → bytes - 0 ≡ bytes
whole bytes = omega arith

pub lists-count-requires : goal.lists-count-requires
lists-count-requires c = rw (whole c.args.bytes) (omega (arith, c.requires.sound.fits))

pub label_irc-requires : goal.label_irc-requires
unfolding in_order
label_irc-requires c =
    label_asked c.args.bytes c.args.s.now c.requires _ _ c.sort_lists.ensures (c.lists-count.ensures
    ∙ ap (λ (b : ℕ). count (take b c.args.s.now)) (whole c.args.bytes))

pub returns : goal.returns
unfolding in_order
returns c = let n = c.lists-count.ensures ∙ ap (λ (b : ℕ). count (take b c.args.s.now)) (whole c.args.bytes) in
    (n, label_left c.args.bytes c.args.s.now c.requires _ _ _ c.sort_lists.ensures n c.label_irc.ensures)
