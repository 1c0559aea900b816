-- `job::is_identity` meets its contract: each byte is tested by itself. Assumes nothing.
use Prim.Native.Nat.{ℕ, ◌+◌}
use native.Mathlib.Omega.{arith}
use mathlib.Core.Path.{refl, ◌∙◌}
use borrow.Author.Tests.{tests}
use lib.Dec.{eqb}
use lib.ListN.{get_or}
use Rattle.std.proofs.Common.{rules}
use Rattle.std.proofs.lemmas.Iterator.{YieldsList-from_range}
use Rattle.std.proofs.lemmas.Iterator.Search.{all_from_yields_List}
use Rattle.job.proofs.Laws.{each_own}
use Rattle.job.proofs.is_identity.Goals as goal

pub returns : goal.returns
returns c =
    all_from_yields_List (λ (i : ℕ). eqb (get_or c.args.job.now (c.args.at + i) 0) i) _ _ _ c.all.ensures.ran
    (YieldsList-from_range 0 c.args.n c.args.n refl (omega arith)) (λ x b q k. search (rules, tests))
    ∙ each_own c.args.job.now c.args.at c.args.n c.requires
