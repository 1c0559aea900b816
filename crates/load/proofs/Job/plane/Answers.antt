-- `load::Job::plane` meets its contract: in a job of its exact length every vector is there (`loadable`). A turn
-- reads one vector more (`plane_turn`), and at the end the plane is the job's (`plane_end`).
use mathlib.Core.Path.{◌≡◌, sym, ap, ◌∙◌}
use Prim.Native.Nat.{ℕ, ◌+◌, ◌*◌, ◌-◌}
use native.Mathlib.Omega.{arith}
use Rattle.laws.specs.Tests.{next_fits}
use Rattle.vectors.specs.Wholes.{five_means}
use Rattle.vectors.proofs.Wholes.{five_own}
use Rattle.load.proofs.Meaning.{loadable}
use Rattle.load.proofs.Laws.{floats_length, offset_alone, plane_start, plane_turn, plane_end}
use Rattle.load.proofs.Job.plane.Goals as goal

pub vector_at-offset-requires : goal.vector_at-offset-requires
vector_at-offset-requires c =
    let k = loadable _ _ c.args.self.exact c.args.self.read in
    (omega arith, k.offset_fits)

pub new-plane-requires : goal.new-plane-requires
new-plane-requires c =
    let k = loadable _ _ c.args.self.exact c.args.self.read in
    let f = c.args.self.fields in
    (omega arith, five_own _ _ f.d c.vector_at-offset.ensures (floats_length _ _ f.d))

pub loop-j-init : goal.loop-j-init
loop-j-init c = (omega arith, c.new-plane.ensures.1, c.new-plane.ensures.2, plane_start _ _ _ _ _ c.new-plane.ensures.0)

pub overflow_add-self : goal.overflow_add-self
overflow_add-self c =
    let k = loadable _ _ c.args.self.exact c.args.self.read in
    let m = next_fits (8 * c.args.self.fields.d) c.loop-j.j (c.args.self.fields.rank - 1) (omega arith) in
    omega arith

pub vector_at-requires : goal.vector_at-requires
vector_at-requires c =
    let k = loadable _ _ c.args.self.exact c.args.self.read in
    let m = next_fits (8 * c.args.self.fields.d) c.loop-j.j (c.args.self.fields.rank - 1) (omega arith) in
    (omega arith, omega arith)

pub push-requires : goal.push-requires
push-requires c =
    let k = loadable _ _ c.args.self.exact c.args.self.read in
    let l = c.loop-j in
    (omega arith, five_own _ _ l.plane.d c.vector_at.ensures (floats_length _ _ _ ∙ sym l.invariant.1))

pub loop-j-preserved : goal.loop-j-preserved
loop-j-preserved c =
    let l = c.loop-j in
    let e = l.invariant.1 in (
      omega arith,
      c.push.ensures.1 ∙ e,
      c.push.ensures.2 ∙ ap (λ (x : ℕ). x + 1) l.invariant.2,
      plane_turn _ _ _ _ _ _
          _ _ c.push.ensures.0 l.invariant.3.means (rw e (five_means _ _ _ c.vector_at.ensures (floats_length _ _ _))),
    )

pub returns : goal.returns
returns c =
    let k = loadable _ _ c.args.self.exact c.args.self.read in
    let l = c.loop-j in
    let end : l.j ≡ c.args.self.fields.rank - 1 = omega arith in
    let offset = offset_alone _ _ c.new-plane.ensures.0
    ∙ five_means _ _ _ c.vector_at-offset.ensures (floats_length _ _ _) in
    (plane_end _ _ _ _ _ l.invariant.3 offset end k, l.invariant.1, l.invariant.2 ∙ end)

pub overflow_sub-j-end : goal.overflow_sub-j-end
overflow_sub-j-end c =
    let k = loadable _ _ c.args.self.exact c.args.self.read in
    omega arith
