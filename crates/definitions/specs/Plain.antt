-- The plain entries: docs/SPECIFICATION.md, chapter 18. The entries in which `filter_irc` finds no other. Leans on
-- Figures, Job and Prices.
use Rattle.std.specs.Prelude.{◌≡◌, Bool, true, false, not, ◌&&◌, leb, eqb, length, get_or}
use mathlib.Core.List.{List, [], ◌∷◌, map, flat_map, Memᴰ}
use Rattle.std.specs.Prelude.{Option, Some, None}
use Prim.Native.Nat.{ℕ, ◌<◌, Ordering}
use Rattle.definitions.specs.Lists.{Pair, compare_pair, any_of, keep, count_from}
use Rattle.definitions.specs.Outcome.{Outcome, answered, and_then}
use Rattle.definitions.specs.Figures.{walk, first_above}
use Rattle.definitions.specs.Recursion.{Entry, Answer}
use Rattle.definitions.specs.Job.{Bytes, counted, word_bytes, fitting}
use Rattle.definitions.specs.Prices.{answer_of}

-- ---- `filter_irc`: lists of items of any kind, in the order that `c` gives

-- [18.1] the walk did not end before its list did
unfoldable pub is_found : {A : Type 0} → Option (List A) → Bool
is_found None = false
is_found (Some rest) = true

module _ {A : Type 0} (c : A → A → Ordering) where
  -- [18.1] b is found in a: it is no longer, its first item is not above a's, and the walk of [8.7] comes to its end
  unfoldable pub finds : List A → List A → Bool
  finds a b = leb (length b) (length a) && not (first_above c b a) && is_found (walk c a b)

  -- [18.2] some other list is found in the list at this place
  unfoldable pub finds_other : List (List A) → ℕ → Bool
  finds_other lists a =
      any_of (λ (b : ℕ). not (eqb a b) && finds (get_or lists a []) (get_or lists b [])) (count_from 0 (length lists))

  -- [18.2] `filter_irc`: the places of the lists in which no other is found, ascending
  unfoldable pub filter_irc : List (List A) → List ℕ
  filter_irc lists = keep (λ (a : ℕ). not (finds_other lists a)) (count_from 0 (length lists))

-- ---- from bytes to bytes

-- [18.3] the split lists of entries
unfoldable pub split_lists : List Entry → List (List Pair)
split_lists = map (λ (e : Entry). e.list)

-- [18.3] the numbers of the plain entries of an answer
unfoldable pub plain_of : Answer → List ℕ
plain_of a = filter_irc compare_pair (split_lists a.entries)

-- [18.3] how many, and then each, as u32
unfoldable pub plain_bytes : Answer → Bytes
plain_bytes a = flat_map word_bytes (counted (λ (number : ℕ). number ∷ []) (plain_of a))

-- [18.3] these bytes before any room for them is asked: all refusals but 17
unfoldable pub plain_alone : Bytes → ℕ → Outcome Bytes
plain_alone job workspace = and_then (answer_of job workspace) (λ (a : Answer). answered (plain_bytes a))

-- [18.3] the same where there is room for them, or 17
unfoldable pub plain_ones : Bytes → ℕ → ℕ → Outcome Bytes
plain_ones job workspace room = and_then (plain_alone job workspace) (fitting room)

-- ---- what is promised

module _ {A : Type 0} where
  -- [18.4] the items of the first list stand in the second, in their order
  pub data Inside : List A → List A → Type 0 where
    nothing : (a : List A) → Inside [] a
    passed : (x : A) (b a : List A) → Inside b a → Inside b (x ∷ a)
    taken : (x : A) (b a : List A) → Inside b a → Inside (x ∷ b) (x ∷ a)

  -- [18.4] a list other than that at place a, which stands inside that one
  pub record OtherInside (lists : List (List A)) (a : ℕ) : Type 0 where
    pub place : ℕ
    pub below : place < length lists
    pub other : a ≡ place → ⊥
    pub inside : Inside (get_or lists place []) (get_or lists a [])

  -- [18.4] there is one for every place that is not among these numbers
  pub record LeftOut (lists : List (List A)) (numbers : List ℕ) : Type 0 where
    pub each : (a : ℕ) → a < length lists → (Memᴰ a numbers → ⊥) → OtherInside lists a
