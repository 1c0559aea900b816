-- Numbers that stand for elements: a number to each element of a rank that orders as the element does. Lists of them
-- compare, are sorted and looked up as lists of elements are. An edge is 20 v + w, or its place among all pairs; a
-- set of edges on n points is one number below 2 ^ (number of pairs). Leans on Nested, AllPairs and laws/Subsets.
use Rattle.std.specs.Prelude.{◌≡◌, refl, ◌⊎◌, List, map, length}
use Rattle.std.proofs.Common.{sym, ap, ◌∙◌, inl, inr, arith}
use Prim.Native.Nat.{ℕ, zero, suc, ◌+◌, ◌*◌, ◌^◌, ◌<◌, compare, Ordering}
use Rattle.definitions.specs.Lists.{Pair, then_by, compare_pair, compare_nats}
use Rattle.laws.specs.Lists.{Mem}
use Rattle.laws.specs.Orders.{nats, pairs, lt≢gt, lt_compare, compare_lt}
use Rattle.laws.specs.Ascending.{Ascends, in_order}
use Rattle.laws.specs.Places.{place_in, place_map, keeps_compare, compare_map, ascends_map, in_order_map}
use Rattle.laws.specs.Subsets.{set_number, set_number_below}
use Rattle.shapes.specs.EdgeSets.{Proper}
use Rattle.shapes.specs.AllPairs.{all_pairs}
use Rattle.shapes.specs.Nested.{Nested, compare_nested, nested_order, nested_in_order, NestedSet}

-- on so many points, for the elements of rank 2 + k
pub record Numbering (n k : ℕ) (number : Nested k → ℕ) : Type 0 where
  pub keeps : (x y : Nested k) → NestedSet n k x → NestedSet n k y
      → compare (number x) (number y) ≡ compare_nested k x y

module _ (n k : ℕ) (number : Nested k → ℕ) (numbering : Numbering n k number) where
  rises : (x y : Nested k) → NestedSet n k x → NestedSet n k y → compare_nested k x y ≡ Ordering.lt
      → compare (number x) (number y) ≡ Ordering.lt
  rises x y h j e = numbering.keeps x y h j ∙ e

  -- equal numbers, equal elements
  pub numbers_apart : (x y : Nested k) → NestedSet n k x → NestedSet n k y → number x ≡ number y → x ≡ y
  numbers_apart x y h j e =
      (nested_order k).equal x y
      (sym (numbering.keeps x y h j) ∙ ap (compare (number x)) (sym e) ∙ nats.self (number x))

  abbrev AllSets : List (Nested k) → Type 0
  AllSets l = (x : Nested k) → Mem x l → NestedSet n k x

  -- an element of the next rank as the ascending list of its elements' numbers
  pub numbers_ascend : (l : Nested (suc k)) → NestedSet n (suc k) l → Ascends compare (map number l)
  numbers_ascend l h =
      ascends_map (compare_nested k) (nested_order k) compare nats number (NestedSet n k) rises l h.1 h.0

  -- such lists compare as the elements do
  pub numbers_compare : (l m : List (Nested k)) → AllSets l → AllSets m
      → compare_nats (map number l) (map number m) ≡ compare_nested (suc k) l m
  unfolding compare_nats
  numbers_compare = compare_map (compare_nested k) (nested_order k) compare nats number (NestedSet n k) numbering.keeps

  -- numbers put in order are those of the elements in order
  pub numbers_in_order : (l : List (Nested k)) → AllSets l
      → in_order compare nats (map number l) ≡ map number (nested_in_order k l)
  numbers_in_order = in_order_map (compare_nested k) (nested_order k) compare nats number (NestedSet n k) rises

  -- a number's place is the element's
  pub numbers_place : (all : List (Nested k)) → AllSets all → (x : Nested k) → NestedSet n k x
      → place_in compare nats (map number all) (number x) ≡ place_in (compare_nested k) (nested_order k) all x
  numbers_place all h x j =
      place_map (compare_nested k) (nested_order k) compare nats number x all (λ y m e. numbers_apart x y j (h y m) e)

-- ---- edges

-- a pair that is below another
pair_below : (d e : Pair) → compare_pair d e ≡ Ordering.lt → (d.0 < e.0) ⊎ ((d.0 ≡ e.0) × (d.1 < e.1))
unfolding compare_pair then_by
pair_below d e = go (compare d.0 e.0) refl
  where
    go : (o : Ordering) → compare d.0 e.0 ≡ o → then_by o (compare d.1 e.1) ≡ Ordering.lt
        → (d.0 < e.0) ⊎ ((d.0 ≡ e.0) × (d.1 < e.1))
    go Ordering.lt q h = inl (compare_lt d.0 e.0 q)
    go Ordering.eq q h = inr (nats.equal d.0 e.0 q, compare_lt d.1 e.1 h)
    go Ordering.gt q h = absurd (lt≢gt (sym h))

-- 20 v + w
unfoldable pub edge_code : Pair → ℕ
edge_code e = 20 * e.0 + e.1

pub edges_coded : Numbering 20 zero edge_code
unfolding edge_code
edges_coded = record { keeps = keeps_compare compare_pair pairs compare nats edge_code (Proper 20) up }
  where
    up : (d e : Pair) → Proper 20 d → Proper 20 e → compare_pair d e ≡ Ordering.lt
        → compare (20 * d.0 + d.1) (20 * e.0 + e.1) ≡ Ordering.lt
    up d e p q h = lt_compare (20 * d.0 + d.1) (20 * e.0 + e.1) (go (pair_below d e h))
      where
        go : (d.0 < e.0) ⊎ ((d.0 ≡ e.0) × (d.1 < e.1)) → 20 * d.0 + d.1 < 20 * e.0 + e.1
        go (inl r) = let b = p.below in let c = q.below in omega arith
        go (inr r) = let a = r.0 in let b = r.1 in omega arith

-- ---- sets of edges

-- a polygon as one number
unfoldable pub polygon_number : ℕ → List Pair → ℕ
polygon_number n edges = set_number compare_pair pairs (all_pairs n) edges

pub polygon_number_below : (n : ℕ) (edges : List Pair) → polygon_number n edges < 2 ^ length (all_pairs n)
unfolding polygon_number
polygon_number_below n edges = set_number_below compare_pair pairs (all_pairs n) edges
