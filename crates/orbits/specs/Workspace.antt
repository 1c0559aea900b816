-- The workspace of the orbits: what it holds, what every step asks of it, and how far a step has come. Leans on
-- numbers in bytes and on ascending ones.
use Rattle.std.specs.Prelude.{◌≡◌, refl, List, [], ◌∷◌, ◌++◌, ℕ, zero, suc, ◌+◌, ◌*◌, ◌-◌, ◌≤◌, ◌<◌, length, take, drop}
use Rattle.std.specs.Prelude.{Result, Ok, Err}
use Rattle.std.proofs.Common.{◌∙◌, arith, length-append}
use Rattle.definitions.specs.Lists.{Pair}
use Rattle.definitions.specs.Job.{number_at}
use Rattle.words.specs.Words.{words, number_at_take}
use Rattle.sorted.specs.Ascending.{Ascending}
use Rattle.sorted.specs.Gathering.{added}
use Rattle.orbits.specs.declared.Progress.{Progress}
use Rattle.refusals.specs.declared.Refusal.{Refusal}
use Rattle.refusals.specs.Refused.{number_of}

-- the numbers of the sets seen
unfoldable pub seen_in : ℕ → List ℕ → List ℕ
seen_in known ws = words 4 (drop 2048 ws) known

-- the orbits found
unfoldable pub orbits_in : List ℕ → ℕ → List Pair
orbits_in ws zero = []
orbits_in ws (suc count) = orbits_in ws count ++ ((number_at ws (8 * count) 4, number_at ws (8 * count + 4) 4) ∷ [])

-- how many bytes the orbits of a call take: eight for each of 256, and behind them four for each of the sets seen,
-- 120 for an orbit
abbrev pub orbits_room : ℕ
orbits_room = 8 * 256 + 4 * (120 * 256)

-- what every step asks: space for 256 orbits of 120 sets each, and sets that ascend
pub record OrbitsRoom (bound known count : ℕ) (ws : List ℕ) : Type 0 where
  pub long : orbits_room ≤ length ws
  pub bound_fits : bound ≤ 256
  pub count_fits : count ≤ bound
  pub known_fits : known ≤ 120 * count
  pub ascends : Ascending (seen_in known ws)

-- the workspace holds sets seen and orbits
pub record HoldsOrbits (known count : ℕ) (ws seen : List ℕ) (orbits : List Pair) : Type 0 where
  pub seen_are : seen_in known ws ≡ seen
  pub orbits_are : orbits_in ws count ≡ orbits

-- how far a walk has come: it holds what the definition has so far, or the definition has more orbits than the bound
abbrev pub Reached : ℕ → Result Progress Refusal → List ℕ → List ℕ → List Pair → Type 0
Reached bound (Ok p) ws seen orbits = HoldsOrbits p.known p.count ws seen orbits
Reached bound (Err e) ws seen orbits = (number_of e ≡ 13) × (bound < length orbits)

-- a walk has its space and sets seen that ascend, where it goes on and where it was refused
abbrev pub KeepsRoom : ℕ → Result Progress Refusal → List ℕ → Type 0
KeepsRoom bound (Ok p) ws = OrbitsRoom bound p.known p.count ws
KeepsRoom bound (Err e) ws = (known : ℕ) × ((count : ℕ) × OrbitsRoom bound known count ws)

-- what was opened: one orbit more, and its sets among those seen
pub record Opened (bound known count : ℕ) (ws : List ℕ) (set : ℕ) (images : List ℕ) (r : Result Progress Refusal)
    (after : List ℕ) : Type 0 where
  pub room : KeepsRoom bound r after
  pub reached : (seen : List ℕ) (orbits : List Pair) → HoldsOrbits known count ws seen orbits
      → Reached bound r after (added seen images) (orbits ++ ((set, length (added seen images) - length seen) ∷ []))

-- ---- laws

pub orbits_length : (ws : List ℕ) (count : ℕ) → length (orbits_in ws count) ≡ count
unfolding orbits_in
orbits_length ws zero = refl
orbits_length ws (suc count) = length-append (orbits_in ws count) _ ∙ (omega (arith, orbits_length ws count))

-- orbits lie in front
pub orbits_front : (ws : List ℕ) (k count : ℕ) → 8 * count ≤ k → orbits_in (take k ws) count ≡ orbits_in ws count
unfolding orbits_in
orbits_front ws k zero h = refl
orbits_front ws k (suc count) h =
    rw (
      orbits_front ws k count (omega arith),
      number_at_take ws k (8 * count) 4 (omega arith),
      number_at_take ws k (8 * count + 4) 4 (omega arith),
    ) refl
