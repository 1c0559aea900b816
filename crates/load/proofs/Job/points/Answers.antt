-- `load::Job::points` meets its contract: in a job of its exact length every point is there (`loadable`). A turn
-- reads one point more (`points_turn`), and at the end i is n.
use mathlib.Core.Path.{◌≡◌, sym, ap, ◌∙◌}
use Prim.Native.Nat.{ℕ, ◌+◌, ◌*◌}
use native.Mathlib.Omega.{arith}
use Rattle.definitions.specs.Job.{vectors_at}
use Rattle.definitions.specs.Lists.{count_from}
use Rattle.laws.specs.Tests.{next_fits}
use Rattle.vectors.specs.Wholes.{five_means}
use Rattle.vectors.proofs.Wholes.{five_own}
use Rattle.load.proofs.Meaning.{loadable}
use Rattle.load.proofs.Laws.{floats_length, points_turn}
use Rattle.load.proofs.Job.points.Goals as goal

pub new-points-requires : goal.new-points-requires
new-points-requires c =
    let k = loadable _ _ c.args.self.exact c.args.self.read in
    omega arith

pub loop-i-init : goal.loop-i-init
unfolding vectors_at count_from
loop-i-init c = (omega arith, c.new-points.ensures, c.new-points.ensures.n_is)

pub overflow_add-self : goal.overflow_add-self
overflow_add-self c =
    let k = loadable _ _ c.args.self.exact c.args.self.read in
    let m = next_fits (8 * c.args.self.fields.d) c.loop-i.i c.args.self.fields.n (omega arith) in
    omega arith

pub vector_at-requires : goal.vector_at-requires
vector_at-requires c =
    let k = loadable _ _ c.args.self.exact c.args.self.read in
    let m = next_fits (8 * c.args.self.fields.d) c.loop-i.i c.args.self.fields.n (omega arith) in
    (omega arith, omega arith)

pub push-requires : goal.push-requires
push-requires c =
    let k = loadable _ _ c.args.self.exact c.args.self.read in
    let l = c.loop-i in
    (omega arith, five_own _ _ l.points.d c.vector_at.ensures (floats_length _ _ _ ∙ sym l.invariant.1.d_is))

pub loop-i-preserved : goal.loop-i-preserved
loop-i-preserved c =
    let l = c.loop-i in
    let e = l.invariant.1.d_is in (
      omega arith,
      points_turn _ _ _ _ _ _ _ _ c.push.ensures.0 e l.invariant.1.means
          (rw e (five_means _ _ _ c.vector_at.ensures (floats_length _ _ _))),
      c.push.ensures.1
          ∙ ap (λ (x : ℕ). x + 1) l.invariant.2,
    )

pub returns : goal.returns
returns c =
    let k = loadable _ _ c.args.self.exact c.args.self.read in
    let l = c.loop-i in
    let end : l.i ≡ c.args.self.fields.n = omega arith in
    (rw (k.points_is, ← end) l.invariant.1, l.invariant.2 ∙ end)
