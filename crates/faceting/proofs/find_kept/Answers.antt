-- `faceting::find_kept` meets its contract: what is found, and of that what the way keeps. Assumes nothing.
use Rattle.refusals.specs.Refused.{handed_on}
use Rattle.faceting.proofs.Ways.{kept_refused}
use Rattle.faceting.proofs.find_kept.Goals as goal

pub returns-in_err-found : goal.returns-in_err-found
returns-in_err-found c =
    rw (handed_on _ _ c.from_residual.ensures.1)
    (kept_refused c.args.search.flat.now.n _ _ c.args.way _ _ _ c.in_err-found.ensures)

pub returns : goal.returns
returns c = c.keep_found.ensures _ _ c.in_ok-found.ensures
