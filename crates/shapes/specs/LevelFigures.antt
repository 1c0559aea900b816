-- The figure of a list of facets that are items of levels: its ranks are those read off the items in order, at every
-- rank from 3, by induction that takes the lowest level off. Items sent elsewhere and sorted, items that stand for
-- others in the same order, and that the ranks tell the item. Leans on Levels and Gathered.
use Rattle.std.specs.Prelude.{◌≡◌, get_or}
use Rattle.std.proofs.Math.Path.{refl, sym, ap, subst}
use Rattle.std.proofs.Common.{◌∙◌}
use mathlib.Core.List.{List, [], ◌∷◌, ◌++◌, map, flat_map}
use Prim.Native.Nat.{ℕ, zero, suc, ◌<◌, compare, Ordering}
use Rattle.std.proofs.Math.ListN.{length}
use Rattle.definitions.specs.Lists.{compare_nats}
use Rattle.definitions.specs.Figures.{Elements, number_in, lowest_ranks}
use Rattle.laws.specs.Lists.{Mem, of_map, in_flat_map, of_flat_map, map_at_holds}
use Rattle.laws.specs.Orders.{Linear, nats, nat_lists, lt_compare}
use Rattle.laws.specs.Ascending.{Ascends, ascends_distinct, same_ascending, in_order, in_order_ascends, in_in_order}
use Rattle.laws.specs.Ascending.{of_in_order}
use Rattle.laws.specs.Places.{place_in, place_below, at_place, place_ascends, place_map, keeps_compare, compare_map}
use Rattle.laws.specs.Places.{ascends_map, in_order_map}
use Rattle.shapes.specs.Shape.{Element, Rank}
use Rattle.shapes.specs.Assemble.{lowest_of, lowest_all}
use Rattle.shapes.specs.Gathered.{elements_of}
use Rattle.shapes.specs.Levels.{Levels, Sets, over, over_sets, items_in_order, lowest, lowest_in, places_in, ranks_on}
use Rattle.shapes.specs.Levels.{ranks_of, lowest_items, lowest_ascends, lowest_in_good, lowest_in_over}

-- ---- items written as elements

-- items with a property are written as elements over so many, in their order
pub record Written (T : Levels) (bound : ℕ) (P : T.Item zero → Type 0) (write : T.Item zero → List ℕ) : Type 0 where
  pub element : (z : T.Item zero) → P z → Element bound (write z)
  pub keeps : (y z : T.Item zero) → P y → P z → compare_nats (write y) (write z) ≡ T.order zero y z

module _ (T : Levels) (bound : ℕ) (P : T.Item zero → Type 0) (write : T.Item zero → List ℕ)
    (written : Written T bound P write) where
  pub written_apart : (y z : T.Item zero) → P y → P z → write y ≡ write z → y ≡ z
  written_apart y z p q e =
      (T.linear zero).equal y z
      (sym (written.keeps y z p q) ∙ ap (compare_nats (write y)) (sym e) ∙ nat_lists.self (write y))

  pub written_ascends : (l : List (T.Item zero)) → ((z : T.Item zero) → Mem z l → P z) → Ascends (T.order zero) l
      → Ascends compare_nats (map write l)
  written_ascends =
      ascends_map (T.order zero) (T.linear zero) compare_nats nat_lists write P
      (λ y z p q e. written.keeps y z p q ∙ e)

  pub written_rank : (l : List (T.Item zero)) → ((z : T.Item zero) → Mem z l → P z) → Ascends (T.order zero) l
      → Rank bound (map write l)
  written_rank l h a = record {
    elements = λ e m. let r = of_map write e l m in subst (Element bound) (sym r.2) (written.element r.0 (h r.0 r.1));
    distinct = ascends_distinct compare_nats nat_lists (map write l) (written_ascends l h a);
  }

  -- the number of a written item among written items is its place among the items
  pub written_number : (all : List (T.Item zero)) → ((z : T.Item zero) → Mem z all → P z) → (z : T.Item zero) → P z
      → number_in (map write all) (write z) ≡ place_in (T.order zero) (T.linear zero) all z
  unfolding number_in
  written_number all h z p =
      place_map (T.order zero) (T.linear zero) compare_nats nat_lists write z all (λ y m. written_apart z y p (h y m))

-- good items whose subs are among these
abbrev pub Within : (T : Levels) → Sets T → List (T.Item zero) → T.Item (suc zero) → Type 0
Within T G all y = G.Good (suc zero) y × ((z : T.Item zero) → Mem z (T.subs zero y) → Mem z all)

module _ (T : Levels) (G : Sets T) (all : List (T.Item zero)) (up : Ascends (T.order zero) all) where
  abbrev c : T.Item zero → T.Item zero → Ordering
  c = T.order zero

  abbrev pub order : Linear c
  order = T.linear zero

  abbrev place_among : T.Item zero → ℕ
  place_among = place_in c order all

  rises : (y z : T.Item zero) → Mem y all → Mem z all → c y z ≡ Ordering.lt
      → compare (place_among y) (place_among z) ≡ Ordering.lt
  rises y z i j e = lt_compare (place_among y) (place_among z) (place_ascends c order y y z all up i j e)

  -- written as the places of their subs, they are written in their order
  pub places_written : Written (over T) (length all) (Within T G all) (places_in T zero all)
  unfolding compare_nats
  places_written = record {
    element = λ y p. record {
      ascends =
          ascends_map c order compare nats place_among (λ z. Mem z all) rises (T.subs zero y) p.1
          (G.ascends zero y p.0);
      below =
          λ i m. let r = of_map place_among i (T.subs zero y) m in
          subst (λ (n : ℕ). n < length all) (sym r.2) (place_below c order r.0 all (p.1 r.0 r.1));
    };
    keeps = λ x y p q.
        compare_map c order compare nats place_among (λ z. Mem z all)
        (keeps_compare c order compare nats place_among (λ z. Mem z all) rises) (T.subs zero x)
        (T.subs zero y) p.1 q.1
        ∙ sym (G.by_subs zero x y p.0 q.0);
  }

-- the items under an item are good and within what is lowest there
pub over_within : (T : Levels) (G : Sets T) (k : ℕ) (x : T.Item (suc k)) → G.Good (suc k) x
    → (all : List (T.Item zero)) → ((z : T.Item zero) → Mem z (lowest_in T (suc k) x) → Mem z all)
    → (y : T.Item (suc zero)) → Mem y (lowest_in (over T) k x) → Within T G all y
over_within T G k x h all within y m =
    (lowest_in_good (over T) (over_sets T G) k x h y m, λ z i. within z (lowest_in_over T k x y m z i))

-- ---- one rank taken off

pub lowest_of_ranks : (T : Levels) (write : T.Item zero → List ℕ) (k : ℕ) (x : T.Item k)
    → lowest_of (ranks_of T write k x) ≡ map write (lowest_in T k x)
unfolding ranks_of ranks_on lowest_in
lowest_of_ranks T write zero x = refl
lowest_of_ranks T write (suc k) x = refl

-- what stands at an item's place
pub written_at : (T : Levels) (write : T.Item zero → List ℕ) (own : List (T.Item zero)) (z : T.Item zero) → Mem z own
    → get_or (map write own) (place_in (T.order zero) (T.linear zero) own z) [] ≡ write z
written_at T write own z m =
    map_at_holds write own (place_in (T.order zero) (T.linear zero) own z) [] z
    (place_below (T.order zero) (T.linear zero) z own m)
    ∙ ap write (at_place (T.order zero) (T.linear zero) z z own m)

module _ (T : Levels) (bound : ℕ) (P : T.Item zero → Type 0) (write : T.Item zero → List ℕ)
    (written : Written T bound P write) where
  -- ---- the lowest rank of facets

  lowest_all_holds : (k : ℕ) (xs : List (T.Item k))
      → lowest_all (map (ranks_of T write k) xs) ≡ map write (flat_map (lowest_in T k) xs)
  unfolding flat_map
  lowest_all_holds k [] = refl
  lowest_all_holds k (x ∷ xs) =
      (λ t. lowest_of_ranks T write k x t ++ lowest_all_holds k xs t)
      ∙ append_map (lowest_in T k x) (flat_map (lowest_in T k) xs)
    where
      append_map : (l m : List (T.Item zero)) → map write l ++ map write m ≡ map write (l ++ m)
      append_map [] m = refl
      append_map (z ∷ l) m = ap (λ (r : Elements). write z ∷ r) (append_map l m)

  abbrev AllLowest : (k : ℕ) → List (T.Item k) → Type 0
  AllLowest k xs = (x : T.Item k) → Mem x xs → (z : T.Item zero) → Mem z (lowest_in T k x) → P z

  pub elements_of_items : (k : ℕ) (xs : List (T.Item k)) → AllLowest k xs
      → elements_of (map (ranks_of T write k) xs) ≡ map write (lowest T k (items_in_order T k xs))
  unfolding elements_of lowest_ranks
  elements_of_items k xs p =
      let c = T.order zero in
      let order = T.linear zero in
      let all = flat_map (lowest_in T k) xs in
      let inside : (z : T.Item zero) → Mem z all → P z = λ z m. let r = of_flat_map (lowest_in T k) z xs m in
      p r.0 r.1 z r.2 in
      let sorted = items_in_order T k xs in
      ap (in_order compare_nats nat_lists) (lowest_all_holds k xs)
      ∙ in_order_map c order compare_nats nat_lists write P (λ y z i j e. written.keeps y z i j ∙ e) all inside
      ∙ ap (map write)
      (same_ascending c order (in_order c order all) (lowest T k sorted) (in_order_ascends c order all)
      (lowest_ascends T k sorted (in_order_ascends (T.order k) (T.linear k) xs))
      (record {
        into = λ z m.
            let r = of_flat_map (lowest_in T k) z xs (of_in_order c order z all m) in
            (lowest_items T k sorted).into r.0 (in_in_order (T.order k) (T.linear k) r.0 xs r.1) z r.2;
        back = λ z m.
            let r = (lowest_items T k sorted).back z m in
            in_in_order c order z all
            (in_flat_map (lowest_in T k) z r.0 xs (of_in_order (T.order k) (T.linear k) r.0 xs r.1) r.2);
      }))
