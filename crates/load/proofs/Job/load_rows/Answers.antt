-- `load::Job::load_rows` meets its contract: the job's rows stand where its fields say. Assumes nothing.
use native.Mathlib.Omega.{arith}
use Rattle.load.proofs.Meaning.{loadable}
use Rattle.load.proofs.Job.load_rows.Goals as goal

pub copy_rows-requires : goal.copy_rows-requires
copy_rows-requires c = let k = loadable _ _ c.args.self.exact c.args.self.read in (omega arith, omega arith, c.requires)

pub returns : goal.returns
returns c =
    let k = loadable _ _ c.args.self.exact c.args.self.read in
    let e = c.copy_rows.ensures in
    record { rows = (rw k.rows_is e.rows.0, e.rows.1); region = rw k.rows_is e.region }
