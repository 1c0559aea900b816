-- The shape of a figure: its ranks from the edges up, each element's subs strictly ascending and naming elements of
-- the rank below, no two elements of a rank equal; sorted, each rank strictly ascends and the last has one element.
-- `element_sort_strong` leaves such a figure as it is. Leans on the definitions and laws.
use Rattle.std.specs.Prelude.{◌≡◌, refl, List, [], ◌∷◌, length, get_or, drop}
use Rattle.std.proofs.Common.{ap, arith}
use Prim.Native.Nat.{ℕ, zero, suc, ◌<◌, compare}
use Rattle.definitions.specs.Lists.{sort_nats, compare_nats}
use Rattle.definitions.specs.Figures.{Elements, Figure}
use Rattle.laws.specs.Lists.{Mem, here, there}
use Rattle.laws.specs.Orders.{nats}
use Rattle.laws.specs.Ascending.{Distinct, Ascends}
use Rattle.laws.proofs.Ascending.{sort_ascending}

-- ---- elements, ranks, stacks of ranks

-- an element over so many elements of the rank below: its subs ascend
pub record Element (bound : ℕ) (e : List ℕ) : Type 0 where
  pub ascends : Ascends compare e
  pub below : (x : ℕ) → Mem x e → x < bound

-- the elements of a rank, no two equal
pub record Rank (bound : ℕ) (es : Elements) : Type 0 where
  pub elements : (e : List ℕ) → Mem e es → Element bound e
  pub distinct : Distinct es

-- ranks one upon the other, the lowest over so many elements
abbrev pub Stack : ℕ → List Elements → Type 0
Stack bound [] = Unit {0}
Stack bound (es ∷ more) = Rank bound es × Stack (length es) more

-- every rank ascends
abbrev pub Sorted : List Elements → Type 0
Sorted [] = Unit {0}
Sorted (es ∷ more) = Ascends compare_nats es × Sorted more

-- the last rank has one element, the body
abbrev pub Crowned : List Elements → Type 0
Crowned [] = ⊥
Crowned (es ∷ []) = length es ≡ 1
Crowned (es ∷ next ∷ more) = Crowned (next ∷ more)

pub crowned_above : (es : Elements) (ranks : List Elements) → Crowned ranks → Crowned (es ∷ ranks)
crowned_above es [] h = absurd h
crowned_above es (next ∷ ranks) h = h

pub record Tower (bound : ℕ) (ranks : List Elements) : Type 0 where
  pub stack : Stack bound ranks
  pub sorted : Sorted ranks
  pub crowned : Crowned ranks

-- A figure on so many points with rank + 1 ranks: behind the empty element's rank and the points', a tower of rank −
-- 1.
pub record Shaped (points rank : ℕ) (f : Figure) : Type 0 where
  pub empty : Elements
  pub vertices : Elements
  pub ranks : List Elements
  pub is : f ≡ empty ∷ vertices ∷ ranks
  pub number : suc (length ranks) ≡ rank
  pub tower : Tower points ranks

pub number_of_ranks : (points rank : ℕ) (f : Figure) → Shaped points rank f → length f ≡ suc rank
number_of_ranks points rank f s = let e = ap length s.is in let k = s.number in omega arith

-- the ranks from the edges up
pub shaped_drop : (points rank : ℕ) (f : Figure) (s : Shaped points rank f) → drop 2 f ≡ s.ranks
shaped_drop points rank f s = ap (drop 2) s.is

-- ---- what the records hold of smaller and larger

pub no_element_holds : (b : ℕ) → Element b []
no_element_holds b = record { ascends = tt; below = λ x m. elim m [ ] }

-- an element at a place, or the empty one where there is none
pub element_at : (b : ℕ) (es : Elements) → ((e : List ℕ) → Mem e es → Element b e) → (i : ℕ)
    → Element b (get_or es i [])
element_at b [] h i = no_element_holds b
element_at b (e ∷ es) h zero = h e (here refl)
element_at b (e ∷ es) h (suc i) = element_at b es (λ d m. h d (there m)) i

-- ---- sorting changes nothing

pub element_sorted : (b : ℕ) (e : List ℕ) → Element b e → sort_nats e ≡ e
unfolding sort_nats
element_sorted b e h = sort_ascending compare nats e h.ascends
