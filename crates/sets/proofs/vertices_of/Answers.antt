-- `sets::vertices_of` meets its contract: vertex v joins where its bit is set (`come_joins`) and is passed where it
-- is not (`come_stays`), and at the end none is to come (`come_end`).
use mathlib.Core.Path.{◌≡◌, refl, sym, ap, ◌∙◌}
use mathlib.Core.List.{List, [], ◌∷◌, ◌++◌, append-nil, append_assoc}
use Prim.Native.Nat.{ℕ, ◌+◌, ◌/◌, ◌^◌, ◌≤◌}
use native.Mathlib.Nat.{div-one, div-div-eq-div-mul}
use native.Mathlib.Numerals.{unary_clauses}
use native.Mathlib.Omega.{arith}
use lib.ListN.{length, length-append}
use Rattle.laws.specs.Sets.{vertices_of}
use Rattle.sets.specs.Vertices.{to_come, come_joins, come_stays, come_end, come_all}
use Rattle.sets.proofs.vertices_of.Goals as goal
use Rattle.sets.proofs.vertices_of.Goals.{then-set-v-eq1, else-set-v-eq1}

pub loop-v-init : goal.loop-v-init
loop-v-init c =
    let n = c.args.n in
    let all = ap (to_come n 0) (div-one c.args.set) ∙ come_all n c.args.set in
    (rw c.new-found.ensures (omega arith), rw c.new-found.ensures all)

pub loop-v-preserved : goal.loop-v-preserved
loop-v-preserved c =
    let l = c.loop-v in
    let n = c.args.n in
    let set = c.args.set in
    let rest = set / 2 ^ l.v in
    let halved : rest / 2 ≡ set / 2 ^ (l.v + 1) = div-div-eq-div-mul set (2 ^ l.v) 2
    ∙ ap (λ (k : ℕ). set / k) (simp unary_clauses (refl)) in
    let later = to_come n (l.v + 1) (rest / 2) in
    let Found : List ℕ → Type 0 = λ vs. (length vs ≤ l.v + 1) × (vs ++ later ≡ vertices_of n set) in
    let found : Found c.if-set-v-eq1.found.items = elim c.if-set-v-eq1.branch [
      | then-set-v-eq1 w ↦
          let joins = come_joins n l.v rest (omega arith) w.if-set-v-eq1.true in
          let parts = append_assoc l.found.items (l.v ∷ []) later
          ∙ (ap (λ (vs : List ℕ). l.found.items ++ vs) (sym joins) ∙ l.invariant.1) in
          rw (w.found-is, w.push.ensures.items)
          (omega (arith, length-append l.found.items (l.v ∷ []), l.invariant.0), parts)
      | else-set-v-eq1 w ↦
          let stays = come_stays n l.v rest (omega arith) w.if-set-v-eq1.false in
          rw w.found-is (
            omega (arith, l.invariant.0),
            ap (λ (vs : List ℕ). l.found.items ++ vs) (sym stays)
                ∙ l.invariant.1,
          )
    ] in
    (found.0, ap (λ (k : ℕ). c.if-set-v-eq1.found.items ++ to_come n (l.v + 1) k) (sym halved) ∙ found.1)

pub returns : goal.returns
returns c =
    let l = c.loop-v in
    sym (append-nil l.found.items)
    ∙ (ap (λ (r : List ℕ). l.found.items ++ r) (sym (come_end c.args.n l.v (c.args.set / 2 ^ l.v) (omega arith)))
    ∙ l.invariant.1)
