-- `refit` meets its contract.
use mathlib.Core.Path.{refl, sym, ◌∙◌}
use borrow.Author.Tests.{eq-eqb, ne_eqb}
use Rattle.sets.specs.Refitting.{refitted_plane, plane_in}
use Rattle.sets.proofs.refit.Goals as goal

pub returns-then-plane-wanted : goal.returns-then-plane-wanted
unfolding refitted_plane plane_in
returns-then-plane-wanted c = let e = c.from_points-plane.ensures in
    record {
      answer = rw (e.0.means, eq-eqb _ _ (sym e.0.rank_is ∙ c.if-plane-wanted.true)) refl;
      holds = e.0;
      same_d = e.1;
    }

pub returns-else-plane-wanted : goal.returns-else-plane-wanted
unfolding refitted_plane plane_in
returns-else-plane-wanted c = let e = c.from_points-plane.ensures in
    record { answer = rw (ne_eqb _ _ (λ q. c.if-plane-wanted.false (e.0.rank_is ∙ q))) refl; holds = e.0; same_d = e.1 }
