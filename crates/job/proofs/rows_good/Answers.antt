-- `job::rows_good` meets its contract: each row is tested by itself. Assumes nothing.
use Prim.Native.Nat.{ℕ, ◌+◌, ◌*◌}
use native.Mathlib.Omega.{arith}
use mathlib.Core.Path.{refl, ◌∙◌}
use lib.ListN.{take, drop}
use Rattle.std.proofs.Common.{rules}
use Rattle.std.proofs.lemmas.Iterator.{YieldsList-from_range}
use Rattle.std.proofs.lemmas.Iterator.Search.{all_from_yields_List}
use Rattle.definitions.specs.Job.{is_permutation}
use Rattle.laws.specs.Tests.{spaced}
use Rattle.load.specs.Meaning.{rows_at}
use Rattle.job.proofs.Laws.{each_spaced}
use Rattle.job.proofs.rows_good.Goals as goal

pub returns : goal.returns
unfolding rows_at spaced
returns c =
    all_from_yields_List (λ (i : ℕ). is_permutation c.args.n
    (take c.args.n (drop (c.args.at + c.args.n * i) c.args.job.now))) _ _ _ c.all.ensures.ran
    (YieldsList-from_range 0 c.args.count c.args.count refl (omega arith)) (λ x b q k. search rules)
    ∙ each_spaced (is_permutation c.args.n)
    (λ (q : ℕ). take c.args.n (drop q c.args.job.now)) c.args.n c.args.at c.args.count
