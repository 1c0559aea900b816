-- `packages::globals_good` meets its contract: each number is tested by itself. Assumes nothing.
use Prim.Native.Nat.{ℕ, ◌+◌}
use native.Mathlib.Omega.{arith}
use mathlib.Core.Path.{refl, ◌∙◌}
use mathlib.Core.Bool.{◌&&◌, not}
use borrow.Author.Tests.{tests}
use lib.Dec.{ltb}
use lib.ListN.{length, get_or, drop}
use Rattle.std.proofs.Common.{rules}
use Rattle.std.proofs.lemmas.Iterator.{YieldsList-from_range}
use Rattle.std.proofs.lemmas.Iterator.Search.{all_from_yields_List}
use Rattle.definitions.specs.Lists.{member_nat}
use Rattle.packages.specs.Once.{each_once}
use Rattle.packages.proofs.globals_good.Goals as goal

pub returns : goal.returns
returns c =
    let g = c.args.g in
    let l = c.args.globals.now in
    all_from_yields_List
    (λ (i : ℕ). ltb (get_or l i 0) g && not (member_nat (get_or l i 0) (drop (i + 1) l))) _ _ _ c.all.ensures.ran
    (YieldsList-from_range 0 (length l) (length l) refl (omega arith)) (λ x b q k. search (rules, tests))
    ∙ each_once g l
