-- Lists of numbers: in order, and with every item below a bound.
use Rattle.std.specs.Prelude.{not, List, ℕ, ◌<◌, T}
use Rattle.definitions.specs.Lists.{is_gt, compare_nats}
use Rattle.laws.specs.Lists.{Mem}
use Rattle.laws.specs.Pairs.{Pairs}

-- no list is above a later one
abbrev pub AllAscending : List (List ℕ) → Type 0
AllAscending = Pairs (λ (x y : List ℕ). T (not (is_gt (compare_nats x y))))

-- every item of a list is below the bound
abbrev pub ItemsBelow : ℕ → List ℕ → Type 0
ItemsBelow bound l = (x : ℕ) → Mem x l → x < bound

-- every item of every list is
abbrev pub AllBelow : ℕ → List (List ℕ) → Type 0
AllBelow bound ls = (l : List ℕ) → Mem l ls → ItemsBelow bound l
