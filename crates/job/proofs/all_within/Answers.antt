-- `job::all_within` meets its contract: each number is tested by itself. Assumes nothing.
use Prim.Native.Nat.{ℕ, ◌+◌, ◌*◌}
use native.Mathlib.Omega.{arith}
use mathlib.Core.Path.{refl, ◌∙◌}
use Rattle.std.proofs.Common.{rules}
use Rattle.std.proofs.lemmas.Iterator.{YieldsList-from_range}
use Rattle.std.proofs.lemmas.Iterator.Search.{all_from_yields_List}
use Rattle.definitions.specs.Job.{float_at, floats_at}
use Rattle.laws.specs.Tests.{spaced}
use Rattle.job.specs.Refusal.{size_within}
use Rattle.job.proofs.Laws.{each_spaced}
use Rattle.job.proofs.all_within.Goals as goal

pub returns : goal.returns
unfolding floats_at spaced
returns c =
    all_from_yields_List
    (λ (i : ℕ). size_within c.args.most (float_at c.args.job.now (c.args.at + 8 * i))) _ _ _ c.all.ensures.ran
    (YieldsList-from_range 0 c.args.many c.args.many refl (omega arith)) (λ x b q k. search rules)
    ∙ each_spaced (size_within c.args.most) (float_at c.args.job.now) 8 c.args.at c.args.many
