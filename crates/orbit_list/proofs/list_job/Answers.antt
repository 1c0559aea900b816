-- `list_job` meets what it calls: fields that passed are those of the job, and their rank is 3 or 4.
use Rattle.std.proofs.Common.{◌≡◌, ◌∙◌, sym, arith, rules}
use Rattle.job.specs.Refusal.{checked_of}
use Rattle.definitions.specs.Outcome.{answered}
use Rattle.orbit_list.proofs.Laws.{counts}
use Rattle.orbit_list.proofs.list_job.Goals as goal

pub list_call-requires : goal.list_call-requires
list_call-requires g c =
    let f = c.in-Ok.fields in
    let passed : answered f ≡ checked_of c.args.job.now 4194304 = c.in-Ok.ensures in
    (passed, omega (arith, (counts c.args.job.now f passed).rank_least, c.if-fields-eq2.false), search rules)
