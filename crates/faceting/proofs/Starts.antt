-- Theorems on the definitions of specs/Starts.
use Rattle.std.specs.Prelude.{◌≡◌, List, [], map, ℕ, ◌*◌, ◌≤◌, length, take}
use Rattle.std.proofs.Common.{sym, ap, ◌∙◌, subst, arith}
use Rattle.definitions.specs.Lists.{Pair}
use Rattle.definitions.specs.Outcome.{answered}
use Rattle.definitions.specs.Orbits.{Orbit}
use Rattle.definitions.specs.Faceting.{Way}
use Rattle.orbits.specs.Numbers.{orbit_of}
use Rattle.orbits.specs.Workspace.{orbits_in, orbits_front}
use Rattle.orbits.specs.Answers.{answer_in}
use Rattle.refusals.specs.declared.Refusal.{Refusal}
use Rattle.std.specs.Prelude.{Result, Ok, Err}
use Rattle.shapes.specs.Answered.{TakesSome}
use Rattle.layout.specs.Keeps.{LayoutFits, Keeps, Ridges}
use Rattle.layout.specs.declared.KeptLayout.{KeptLayout}
use Rattle.layout.specs.Capacities.{layout_for}
use Rattle.keep.specs.Storing.{beside_take}
use Rattle.keep.specs.AreasHold.{KeptWritten}
use Rattle.inner_answers.specs.State as state
use Rattle.inner_answers.specs.AnswerMatches.{OuterCall, OuterState, all_orbits, outer_orbits}
use Rattle.faceting.specs.Ways.{taken_or_refusal}
use Rattle.faceting.proofs.Ways.{found_few, found_count, found_all}
use Rattle.faceting.specs.Starts.{layout_empty}

-- the answer still holds where the front of the workspace is as it was
pub answer_kept : (way : Way) → TakesSome way
    → (bound : ℕ) (orbits : List Orbit) (n : ℕ) (r : Result ℕ Refusal) (s u : List ℕ) → bound ≤ 256
    → take 2048 u ≡ take 2048 s → answer_in n r s ≡ taken_or_refusal way bound orbits
    → answer_in n r u ≡ taken_or_refusal way bound orbits
unfolding answer_in
answer_kept way takes bound orbits n (Err x) s u few front e = e
answer_kept way takes bound orbits n (Ok count) s u few front e =
    let h : 8 * count ≤ 2048 = omega (
      arith,
      found_few way bound orbits n s count e,
      found_count way bound orbits n s count e,
      takes.no_more orbits,
    ) in
    ap (λ (l : List Pair). answered (map (orbit_of n) l)) (sym (orbits_front u 2048 count h)
    ∙ (ap (λ (l : List ℕ). orbits_in l count) front ∙ orbits_front s 2048 count h)) ∙ e

-- what a cleared layout behind the orbits says of them
pub start_kept : (way : Way) → TakesSome way
    → (bound : ℕ) (orbits : List Orbit) (n : ℕ) (r : Result ℕ Refusal) (rank : ℕ) (layout : KeptLayout) (s u : List ℕ)
    → layout ≡ layout_for rank → LayoutFits (layout_for rank) (length s) → bound ≤ 256 → KeptWritten layout s u
    → ((k : ℕ) → layout.orbits ≡ 0 → layout.facets ≡ 0 → Keeps k layout [] u × Ridges layout [] u)
    → answer_in n r s ≡ taken_or_refusal way bound orbits
    → (answer_in n r u ≡ taken_or_refusal way bound orbits)
    × ((k : ℕ) → Keeps k (layout_for rank) [] u × Ridges (layout_for rank) [] u)
start_kept way takes bound orbits n r rank layout s u is fits few within keeps e =
    let w : KeptWritten (layout_for rank) s u = subst (λ (x : KeptLayout). KeptWritten x s u) is within in
    let cleared : (k : ℕ) → (layout_for rank).orbits ≡ 0 → (layout_for rank).facets ≡ 0
    → Keeps k (layout_for rank) [] u × Ridges (layout_for rank) [] u =
    subst (λ (x : KeptLayout). (k : ℕ) → x.orbits ≡ 0 → x.facets ≡ 0 → Keeps k x [] u × Ridges x [] u) is keeps in (
      answer_kept way takes bound orbits n r s u few (beside_take w 2048 fits.orbit_room) e,
      λ k.
          cleared k (layout_empty rank).0 (layout_empty rank).1,
    )

-- before the first inner call: the orbits are found, those that are kept stand there, and the kept areas are cleared
-- behind them
pub loop_starts : (g : OuterCall) → TakesSome g.way → (layout : KeptLayout) (n count : ℕ) (s u : List ℕ)
    → n ≡ length g.points → answer_in n (Ok count) s ≡ taken_or_refusal g.way g.rules.bounds.orbits (all_orbits g)
    → g.rules.bounds.orbits ≤ 256 → take 2048 u ≡ take 2048 s → Keeps (length g.points) layout [] u
    → Ridges layout [] u → OuterState g layout g.budget 0 u
loop_starts g takes layout n count s u n_is e few front keeps ridges =
    let os = outer_orbits g in
    let h : 8 * length os ≤ 2048 = omega
    (arith, found_few g.way g.rules.bounds.orbits (all_orbits g) n s count e, takes.no_more (all_orbits g)) in
    state.state_first g.way g.more g.rules g.plane g.points g.rows g.budget (length g.points) layout u keeps ridges
    (ap (map (orbit_of (length g.points))) (sym (orbits_front u 2048 (length os) h)
    ∙ (ap (λ (l : List ℕ). orbits_in l (length os)) front ∙ orbits_front s 2048 (length os) h))
    ∙ subst (λ (k : ℕ). map (orbit_of k) (orbits_in s (length os)) ≡ os) n_is
    (found_all g.way g.rules.bounds.orbits (all_orbits g) n s count e))
