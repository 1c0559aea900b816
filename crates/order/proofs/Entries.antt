-- The entries of a call, from its pools: the order of the split lists is the order of the entries, and the labels of
-- the lists are the compounds among them.
use Rattle.std.specs.Prelude.{◌≡◌, length}
use Rattle.std.proofs.Math.Path.{sym, ap}
use Rattle.std.proofs.Common.{◌∙◌, arith, subst}
use mathlib.Core.List.{List, [], map, map-map}
use Prim.Native.Nat.{ℕ, ◌<◌, compare}
use Rattle.std.proofs.Math.ListN.{get_or}
use Rattle.definitions.specs.Lists.{Pair, compare_pair, compare_pairs, compare_nats, sort_by, count_from}
use Rattle.definitions.specs.Search.{Facet}
use Rattle.definitions.specs.Recursion.{Entry}
use Rattle.definitions.specs.Faceting.{Prepared, split, entry_of, compare_entries, entries_of}
use Rattle.laws.specs.Lists.{Mem, of_count, of_map}
use Rattle.laws.specs.Sorting.{by_key, sort_map, of_sorted}
use Rattle.laws.specs.Merging.{sort_same, map_count}
use Rattle.laws.specs.Walks.{compare_numbered, labels_numbered}
use Rattle.order.specs.Numbers.{ItemsBelow, AllBelow}
use Rattle.order.specs.Areas.{list_at}
use Rattle.order.specs.Sorted.{compare_at, order_from}
use Rattle.definitions.specs.Figures.{label_irc}
use Rattle.laws.specs.Places.{map_same}

-- list k of the pool, named by `to`, is the k-th emitted list split
module _ (p : Prepared) (to : ℕ → Pair) (bound : ℕ)
    (ordered : (m n : ℕ) → m < bound → n < bound → compare_pair (to m) (to n) ≡ compare m n)
    (emitted : List (List Facet)) (most : ℕ) (pool : List ℕ)
    (splits : (k : ℕ) → k < length emitted → map to (list_at most pool k) ≡ split p (get_or emitted k []))
    (below : (k : ℕ) → k < length emitted → ItemsBelow bound (list_at most pool k)) where
  -- the entry of the k-th emitted list
  abbrev entry : ℕ → Entry
  entry k = entry_of p (get_or emitted k [])

  inside : (k : ℕ) → Mem k (count_from 0 (length emitted)) → k < length emitted
  inside k i = let r = (of_count 0 (length emitted) k i).1 in omega arith

  same_order : (j : ℕ) → Mem j (count_from 0 (length emitted)) → (k : ℕ) → Mem k (count_from 0 (length emitted))
      → by_key compare_entries entry j k ≡ compare_at most pool j k
  unfolding compare_entries entry_of compare_at compare_pairs compare_nats
  same_order j h k i =
      ap (λ (l : List Pair). compare_pairs l (split p (get_or emitted k []))) (sym (splits j (inside j h)))
      ∙ (ap (compare_pairs (map to (list_at most pool j))) (sym (splits k (inside k i)))
      ∙ compare_numbered compare compare_pair to (λ (x : ℕ). x < bound) ordered (list_at most pool j)
      (list_at most pool k) (below j (inside j h)) (below k (inside k i)))

  -- [9.5] in the order of the pool's lists, equal ones as they were emitted
  pub entries_ordered : entries_of p emitted ≡ map entry (order_from most pool 0 (length emitted))
  unfolding entries_of order_from
  entries_ordered =
      ap (λ (l : List (List Facet)). sort_by compare_entries (map (entry_of p) l)) (sym (map_count [] emitted))
      ∙ (ap (sort_by compare_entries)
      (map-map (entry_of p) (λ (k : ℕ). get_or emitted k []) (count_from 0 (length emitted)))
      ∙ (sort_map compare_entries entry (count_from 0 (length emitted))
      ∙ ap (map entry)
      (sort_same (by_key compare_entries entry) (compare_at most pool) (count_from 0 (length emitted)) same_order)))

  order_inside : (k : ℕ) → Mem k (order_from most pool 0 (length emitted)) → k < length emitted
  unfolding order_from
  order_inside k i = inside k (of_sorted (compare_at most pool) k (count_from 0 (length emitted)) i)

  -- the split lists of the entries, in order
  pub entry_lists : map (λ (e : Entry). e.list) (entries_of p emitted)
      ≡ map (map to) (map (list_at most pool) (order_from most pool 0 (length emitted)))
  unfolding entry_of
  entry_lists =
      ap (map (λ (e : Entry). e.list)) entries_ordered
      ∙ (map-map (λ (e : Entry). e.list) entry (order_from most pool 0 (length emitted))
      ∙ (map_same (λ (k : ℕ). split p (get_or emitted k [])) (λ (k : ℕ). map to (list_at most pool k))
      (order_from most pool 0 (length emitted)) (λ k i. sym (splits k (order_inside k i)))
      ∙ sym (map-map (map to) (list_at most pool) (order_from most pool 0 (length emitted)))))

  -- [9.6] the compounds among the entries are the labels of the ordered lists
  pub entry_compounds : label_irc compare_pair (map (λ (e : Entry). e.list) (entries_of p emitted))
      ≡ label_irc compare (map (list_at most pool) (order_from most pool 0 (length emitted)))
  entry_compounds =
      ap (label_irc compare_pair) entry_lists
      ∙ labels_numbered compare compare_pair to (λ (x : ℕ). x < bound) ordered
      (map (list_at most pool) (order_from most pool 0 (length emitted))) all
    where
      all : AllBelow bound (map (list_at most pool) (order_from most pool 0 (length emitted)))
      all l i x h =
          let r = of_map (list_at most pool) l (order_from most pool 0 (length emitted)) i in
          below r.0 (order_inside r.0 r.1) x (subst (Mem x) r.2 h)
