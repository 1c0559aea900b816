-- `job_calls::call_in_way` meets its contract: what is loaded is what the call asks, and the call on it is the job's
-- in that way. Assumes nothing.
use mathlib.Core.Path.{◌≡◌}
use native.Mathlib.Omega.{arith}
use borrow.Author.Rules.{rules}
use lib.ListN.{length}
use Rattle.job_calls.specs.Loaded.{exact, own_fields, counts, loads, call_asked, job_called}
use Rattle.job_calls.proofs.call_in_way.Goals as goal

-- A job that passed has its exact length, and its fields are its own.
pub invariant_of-job : goal.invariant_of-job
invariant_of-job c =
    record {
      exact = exact c.args.job.now _ c.args.fields c.requires.0;
      read = own_fields c.args.job.now _ c.args.fields c.requires.0;
    }

-- What was loaded is what the call asks: the plane, the points, the rules and the rows.
pub load_rows-requires : goal.load_rows-requires
load_rows-requires c = omega (arith, (counts c.args.job.now _ c.args.fields c.requires.0).count_most, c.requires.1)

pub invariant_of-loaded : goal.invariant_of-loaded
invariant_of-loaded c =
    let rows = c.load_rows.ensures.rows in
    let loaded = loads c.args.job.now (length c.args.ws.now) c.args.fields c.requires.0 c.plane-plane.ensures
    c.points-points.ensures (rows.0, omega (arith, rows.1, c.requires.1)) c.rules_of-rules.ensures in
    record { room = loaded.rows_room }

pub faceting-requires : goal.faceting-requires
faceting-requires c =
    let job = c.args.job.now in
    let size = length c.args.ws.now in
    let rows = c.load_rows.ensures.rows in
    let loaded = loads job size c.args.fields c.requires.0 c.plane-plane.ensures c.points-points.ensures
    (rows.0, omega (arith, rows.1, c.requires.1)) c.rules_of-rules.ensures in
    call_asked job size c.args.fields c.requires.0 loaded _ (search rules) _ c.requires.2

pub returns : goal.returns
returns c =
    let job = c.args.job.now in
    let size = length c.args.ws.now in
    let rows = c.load_rows.ensures.rows in
    let loaded = loads job size c.args.fields c.requires.0 c.plane-plane.ensures c.points-points.ensures
    (rows.0, omega (arith, rows.1, c.requires.1)) c.rules_of-rules.ensures in
    let left = c.faceting.new.ws in
    let long : length left ≡ size = search rules in
    job_called job size c.args.fields c.requires.0 loaded _ c.requires.2 _ left long c.faceting.ensures
