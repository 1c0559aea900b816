-- `faceting::next_call` meets its contract: what it calls says each part. Assumes nothing.
use mathlib.Core.Path.{subst}
use mathlib.Core.List.{List}
use Rattle.definitions.specs.Vectors.{Vec}
use Rattle.definitions.specs.Subspace.{from_points}
use Rattle.sets.specs.Refitting.{Refitted}
use Rattle.laws.specs.Clauses.{of_four}
use Rattle.faceting.proofs.next_call.Goals as goal

pub returns : goal.returns
returns c = of_four (λ x0 x1 x2 x3. record { points = x0; plane = x1; count = x2; rows = x3 })
    (let chosen = c.chosen_points-points in
    let refit = c.refit-plane in
    let within = c.rows_within-m in
    let plane =
    subst (λ (ps : List Vec). Refitted refit.result chosen.result (from_points c.args.tolerance ps) c.args.wanted)
    chosen.ensures.means refit.ensures in
    (chosen.ensures, plane, within.ensures.count, within.ensures.rows))
