-- `Candidates::binary` meets its contract: candidates ascend by orbit. Assumes nothing.
use Rattle.std.proofs.Common.{rules, arith}
use borrow.Author.Tests.{tests}
use Prim.Native.Nat.{◌-◌}
use Rattle.candidates.specs.Latest.{low_is}
use Rattle.candidates.proofs.Candidates.binary.Goals as goal

pub returns : goal.returns
returns c = λ t h. let f = c.first_not.ensures in
    let e = c.count.ensures t h in
    low_is t c.args.mark c.args.self.kind c.first_not.result (omega (arith, f.within)) (λ z. let q =
    f.before (c.first_not.result - 1) (omega arith) in
    search (rules, tests)) (λ z. let q = f.fails (omega arith) in search (rules, tests))
