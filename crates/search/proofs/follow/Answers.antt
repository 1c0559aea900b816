-- `search::follow` meets its contract. By the cases of the verdict. Assumes nothing.
use native.Mathlib.Omega.{arith}
use mathlib.Core.Path.{◌≡◌, refl, subst}
use Rattle.std.specs.Prelude.{Option, List, ℕ}
use Rattle.definitions.specs.Search.{Table, open_at}
use Rattle.facets.specs.declared.Areas.{Areas}
use Rattle.facets.specs.Layout.{verdict, frames_part}
use Rattle.facets.specs.Judged.{NotOver}
use Rattle.frames.specs.Steps.{Entered, path_short}
use Rattle.search.specs.SearchSteps.{Judged, Followed, judged_light, judged_inside, follow_over, follow_open}
use Rattle.search.proofs.follow.Goals as goal

-- a list entered, with the ridge orbit at which it is open as it is known
entered_at : {t : Table} {a : Areas} {s u : List ℕ} {depth : ℕ} {kind known : Option ℕ} → Entered t a s u depth kind
    → kind ≡ known → Entered t a s u depth known
entered_at {t} {a} {s} {u} {depth} entered e = subst (Entered t a s u depth) e entered

pub enter-requires : goal.enter-requires
unfolding verdict NotOver
enter-requires c =
    let j : Judged c.requires.0 c.args.a c.args.ws.now c.args.s.depth (open_at c.in-Open.ridge) =
    rw c.in-Open.is at c.requires.1 in
    let r = judged_inside c.requires.0 c.args.a c.args.ws.now c.args.s.depth
    (open_at c.in-Open.ridge) j c.in-Open.ridge refl in (
      c.requires.0,
      j.stands,
      j.deep,
      λ x e. grind (arith, c.from.ensures, r, e),
      judged_light c.requires.0 c.args.a c.args.ws.now c.args.s.depth (open_at c.in-Open.ridge) j tt,
    )

pub overflow_add-result : goal.overflow_add-result
overflow_add-result c =
    let j = c.requires.1 in
    let n = path_short c.requires.0 c.args.a c.args.ws.now j.stands.inputs
    (frames_part c.args.a c.args.ws.now) c.args.s.depth c.args.s.depth j.stands.frames in
    let f = j.stands.inputs.fits in
    omega arith

pub close-requires : goal.close-requires
unfolding verdict
close-requires c = (c.requires.0, rw c.in-Closed.is at c.requires.1)

pub returns-in-Over : goal.returns-in-Over
unfolding Followed verdict
returns-in-Over c =
    λ t j. follow_over t c.args.a c.args.course c.args.ws.now c.withdraw.new.ws c.args.s.depth (rw c.in-Over.is at j)
    (c.withdraw.ensures t j.stands)

pub returns-in-Open : goal.returns-in-Open
unfolding Followed verdict
returns-in-Open c =
    λ t j. let k : Judged t c.args.a c.args.ws.now c.args.s.depth (open_at c.in-Open.ridge) = rw c.in-Open.is at j in
    follow_open t c.args.a c.args.course c.args.ws.now c.enter.new.ws c.args.s.depth c.in-Open.ridge k
    (entered_at (c.enter.ensures t k.stands) (grind (arith, c.from.ensures)))

pub returns-in-Closed : goal.returns-in-Closed
unfolding verdict
returns-in-Closed c = λ t j. c.close.ensures t (rw c.in-Closed.is at j)
