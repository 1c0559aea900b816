-- Figures moved. A map that sends no two points to one gives, once sorted, a shaped figure again; a strictly rising
-- one (a set's ascending vertices) needs no sorting: it changes the edges' ends alone. And `element_sort_strong`
-- gives any stack of ranks its shape. Leans on Shape.
use Rattle.std.specs.Prelude.{◌≡◌, refl, ◌⊎◌, length, get_or}
use Rattle.std.proofs.Common.{sym, ap, ◌∙◌, inl, inr, arith}
use mathlib.Core.List.{List, [], ◌∷◌, map}
use Prim.Native.Nat.{Ordering}
use Prim.Native.Nat.{ℕ, suc, ◌<◌, compare}
use Rattle.definitions.specs.Lists.{sort_by, sort_nats, compare_nats}
use Rattle.definitions.specs.Figures.{Elements, number_in, renumber, sort_ranks}
use Rattle.laws.specs.Lists.{Mem, member_at}
use Rattle.laws.specs.Orders.{nats, nat_lists, compare_lt}
use Rattle.laws.specs.Sorting.{of_sorted}
use Rattle.laws.specs.Ascending.{Distinct, ascends_distinct, sorted_ascends, below_or}
use Rattle.laws.specs.Places.{place_in, place_below, place_at_holds, place_apart, sorted_image_apart}
use Rattle.shapes.specs.Shape.{Element, Rank}

-- ---- maps that send no two numbers to one

pub record Into (b d : ℕ) (to : ℕ → ℕ) : Type 0 where
  pub below : (x : ℕ) → x < b → to x < d
  pub apart : (x y : ℕ) → x < b → y < b → to x ≡ to y → x ≡ y

module _ (b d : ℕ) (to : ℕ → ℕ) (m : Into b d to) where
  abbrev Below : ℕ → Type 0
  Below x = x < b

  -- different elements stay different
  pub sent_apart : (e f : List ℕ) → Element b e → Element b f → sort_nats (map to e) ≡ sort_nats (map to f) → e ≡ f
  unfolding sort_nats
  sent_apart e f h k =
      sorted_image_apart compare nats compare nats to Below m.apart e f h.below k.below h.ascends k.ascends

-- ---- sorting gives a stack its shape

-- the numbers that a rank's elements have among others, of which they are some
pub numbers_into : (es all : Elements) → Distinct es → ((e : List ℕ) → Mem e es → Mem e all)
    → Into (length es) (length all) (λ (i : ℕ). number_in all (get_or es i []))
unfolding number_in
numbers_into es all h within =
    let found : (i : ℕ) → i < length es
    → Mem (get_or es i []) all = λ i k. within (get_or es i []) (member_at es i [] k) in
    record {
      below = λ i k. place_below compare_nats nat_lists (get_or es i []) all (found i k);
      apart = λ i j k l e.
          let same =
          place_apart compare_nats nat_lists [] (get_or es i []) (get_or es j []) all (found i k) (found j l) e in
          sym (place_at_holds compare_nats nat_lists [] es h i k) ∙ ap (place_in compare_nats nat_lists es) same
          ∙ place_at_holds compare_nats nat_lists [] es h j l;
    }

pub rank_sorted : (b : ℕ) (es : Elements) → Rank b es → Rank b (sort_by compare_nats es)
rank_sorted b es h = record {
  elements = λ e i. h.elements e (of_sorted compare_nats e es i);
  distinct =
      ascends_distinct compare_nats nat_lists (sort_by compare_nats es)
      (sorted_ascends compare_nats nat_lists es h.distinct);
}

pub sort_ranks_length : (es : Elements) (more : List Elements) → length (sort_ranks es more) ≡ suc (length more)
unfolding sort_ranks
sort_ranks_length es [] = refl
sort_ranks_length es (next ∷ more) =
    ap suc (sort_ranks_length (renumber (λ (i : ℕ). number_in (sort_by compare_nats es) (get_or es i [])) next) more)

-- ---- moved by a map that rises

pub record Rising (b d : ℕ) (to : ℕ → ℕ) : Type 0 where
  pub below : (x : ℕ) → x < b → to x < d
  pub rises : (x y : ℕ) → x < y → y < b → to x < to y

-- a map that rises sends no two numbers to one
pub raised_into : (n m : ℕ) (to : ℕ → ℕ) → Rising n m to → Into n m to
raised_into n m to up = record { below = up.below; apart = λ x y h k e. go x y h k e (below_or compare nats x y) }
  where
    go : (x y : ℕ) → x < n → y < n → to x ≡ to y
        → (x ≡ y) ⊎ ((compare x y ≡ Ordering.lt) ⊎ (compare y x ≡ Ordering.lt)) → x ≡ y
    go x y h k e (inl q) = q
    go x y h k e (inr (inl q)) = let r = up.rises x y (compare_lt x y q) k in absurd (omega arith)
    go x y h k e (inr (inr q)) = let r = up.rises y x (compare_lt y x q) h in absurd (omega arith)
