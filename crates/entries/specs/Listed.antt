-- Lists put in order and labelled: an area that begins with a pool has the numbers of its lists in order behind the
-- pool, and 2,048 bytes further on their labels. In a workspace whose front keeps what a call has of its inner calls,
-- such an area is what the call leaves. Leans on the layout, and on areas, their order and labels.
use Rattle.std.specs.Prelude.{◌≡◌, List, [], map, take, drop}
use Rattle.std.proofs.Math.Path.{sym, ap}
use Rattle.std.proofs.Common.{◌∙◌, subst, arith, length-drop}
use Prim.Native.Nat.{ℕ, ◌+◌, ◌*◌, ◌≤◌, compare}
use Rattle.std.proofs.Math.ListN.{length, get_or}
use Rattle.std.proofs.lemmas.List.Edits.{sets}
use Rattle.std.proofs.Math.Seq.{length-sets}
use Rattle.definitions.specs.Lists.{compare_nats, sort_by, count_from}
use Rattle.definitions.specs.Orbits.{Row}
use Rattle.definitions.specs.Figures.{labels_of}
use Rattle.laws.specs.Sorting.{by_key, sort_map}
use Rattle.laws.specs.Merging.{map_count}
use Rattle.laws.specs.Segments.{part, take_sets_le}
use Rattle.pool.specs.Pool.{count, closed_lists, closed_length, Sound}
use Rattle.order.specs.Areas.{HoldsOrder, list_at, order_in, lists_in, lists_length, pool_kept, order_kept, lists_kept}
use Rattle.order.specs.Areas.{holds_kept}
use Rattle.order.specs.Numbers.{AllBelow, AllAscending}
use Rattle.labels.specs.Labels.{label_bytes, labels_in, labels_read}
use Rattle.order.specs.Sorted.{compare_at, order_from, ordered, ordered_length, ordered_pool, ordered_order}
use Rattle.order.specs.Sorted.{ordered_holds}
use Rattle.order.proofs.Sorted.{ordered_ascends, sorted_lists}
use Rattle.shapes.specs.Kept.{Kept}
use Rattle.layout.specs.declared.KeptLayout.{KeptLayout}
use Rattle.layout.specs.declared.Level.{Level}
use Rattle.layout.specs.Keeps.{Keeps}
use Rattle.layout.specs.Leaves.{Leaves, order_left, emitted_pool}

-- ---- the order of lists

-- the numbers of lists in the order of the lists; equal lists keep the order of their numbers
unfoldable pub in_list_order : List (List ℕ) → List ℕ
in_list_order lists = sort_by (by_key compare_nats (λ (k : ℕ). get_or lists k [])) (count_from 0 (length lists))

pub order_sorts : (lists : List (List ℕ))
    → map (λ (k : ℕ). get_or lists k []) (in_list_order lists) ≡ sort_by compare_nats lists
unfolding in_list_order
order_sorts lists =
    sym (sort_map compare_nats (λ (k : ℕ). get_or lists k []) (count_from 0 (length lists)))
    ∙ ap (sort_by compare_nats) (map_count [] lists)

-- ---- an area of its own

-- how many lists the pool in front has
abbrev pub many : ℕ → List ℕ → ℕ
many bytes s = count (take bytes s)

-- the numbers of its lists, in the order of the lists
unfoldable pub in_order : ℕ → List ℕ → List ℕ
in_order bytes s = ordered 1024 bytes s 0 (many bytes s)

-- the labels of the lists in that order, and the area with them
unfoldable pub label_run : ℕ → List ℕ → List ℕ
label_run bytes s = label_bytes (labels_of compare (lists_in 1024 bytes (many bytes s) (in_order bytes s)))

unfoldable pub labelled : ℕ → List ℕ → List ℕ
labelled bytes s = sets (in_order bytes s) (bytes + 2048) (label_run bytes s)

-- what is asked of the area
pub record Pool (bytes : ℕ) (s : List ℕ) : Type 0 where
  pub sound : Sound 2 1024 (take bytes s)
  pub room : bytes + 2048 + 4 * many bytes s ≤ length s

module _ (bytes : ℕ) (s : List ℕ) (p : Pool bytes s) where
  pub few : many bytes s ≤ 1024
  few = p.sound.few

  abbrev n : ℕ
  n = many bytes s

  pub order_room : bytes + 2 * n ≤ length s
  order_room = let f = few in omega (arith, p.room)

  pub order_length : length (in_order bytes s) ≡ length s
  unfolding in_order
  order_length = let f = few in ordered_length 1024 bytes s 0 n p.sound (omega arith) (omega arith) order_room

  pub order_holds : HoldsOrder 1024 bytes n (in_order bytes s)
  unfolding in_order
  order_holds = let f = few in ordered_holds 1024 bytes s 0 n p.sound (omega arith) (omega arith) order_room

  pub order_ascends : AllAscending (lists_in 1024 bytes n (in_order bytes s))
  unfolding in_order
  order_ascends = let f = few in ordered_ascends 1024 bytes s 0 n p.sound (omega arith) (omega arith) order_room

  order_lists : lists_in 1024 bytes n (in_order bytes s) ≡ sort_by compare_nats (closed_lists 2 1024 (take bytes s))
  unfolding in_order
  order_lists = let f = few in sorted_lists 1024 bytes s p.sound (omega arith) order_room

  pub labelled_length : length (labelled bytes s) ≡ length s
  unfolding labelled
  labelled_length = length-sets (in_order bytes s) (bytes + 2048) (label_run bytes s) ∙ order_length

  same_front : take (bytes + 2 * n) (labelled bytes s) ≡ take (bytes + 2 * n) (in_order bytes s)
  unfolding labelled
  same_front =
      let f = few in
      take_sets_le (label_run bytes s) (in_order bytes s) (bytes + 2 * n) (bytes + 2048) (omega arith)

  pub labelled_holds : HoldsOrder 1024 bytes n (labelled bytes s)
  labelled_holds =
      holds_kept 1024 bytes n (in_order bytes s) (labelled bytes s) same_front
      (labelled_length ∙ sym order_length) order_holds

  -- the pool stays as it is, and the numbers behind it are those of its lists in order
  pub labelled_pool : take bytes (labelled bytes s) ≡ take bytes s
  unfolding in_order
  labelled_pool =
      let f = few in
      pool_kept 1024 bytes n (in_order bytes s) (labelled bytes s) same_front (labelled_length ∙ sym order_length)
      ∙ ordered_pool 1024 bytes s 0 n p.sound (omega arith) (omega arith) order_room

  pub labelled_order : order_in bytes n (labelled bytes s) ≡ in_list_order (closed_lists 2 1024 (take bytes s))
  unfolding in_order in_list_order order_from compare_at list_at
  labelled_order =
      let f = few in
      let lists = closed_lists 2 1024 (take bytes s) in
      order_kept 1024 bytes n (in_order bytes s) (labelled bytes s) same_front (labelled_length ∙ sym order_length)
      ∙ (ordered_order 1024 bytes s 0 n p.sound (omega arith) (omega arith) order_room
      ∙ ap (λ (k : ℕ). sort_by (by_key compare_nats (λ (i : ℕ). get_or lists i [])) (count_from 0 k))
      (sym (closed_length 2 1024 (take bytes s))))

  pub labelled_lists : lists_in 1024 bytes n (labelled bytes s)
      ≡ sort_by compare_nats (closed_lists 2 1024 (take bytes s))
  labelled_lists =
      lists_kept 1024 bytes n (in_order bytes s) (labelled bytes s) same_front (labelled_length ∙ sym order_length)
      ∙ order_lists

  pub labelled_ascends : AllAscending (lists_in 1024 bytes n (labelled bytes s))
  labelled_ascends =
      subst AllAscending
      (sym (lists_kept 1024 bytes n (in_order bytes s) (labelled bytes s) same_front
      (labelled_length ∙ sym order_length))) order_ascends

  pub labelled_labels : labels_in (bytes + 2048) n (labelled bytes s)
      ≡ labels_of compare (sort_by compare_nats (closed_lists 2 1024 (take bytes s)))
  unfolding labelled label_run
  labelled_labels =
      let f = few in
      let ls = lists_in 1024 bytes n (in_order bytes s) in
      let m : length ls ≡ n = lists_length 1024 bytes n (in_order bytes s) in
      let l = order_length in
      ap (λ (k : ℕ). labels_in (bytes + 2048) k
      (sets (in_order bytes s) (bytes + 2048) (label_bytes (labels_of compare ls)))) (sym m)
      ∙ (labels_read (in_order bytes s) (bytes + 2048) ls (omega (arith, p.room)) (omega arith)
      ∙ ap (labels_of compare) order_lists)

  -- what `label_irc` is asked behind `sort_lists`, and what it leaves
  pub label_asked : (t : List ℕ) (lists : ℕ) → t ≡ in_order bytes s → lists ≡ n
      → HoldsOrder 1024 bytes lists t × AllAscending (lists_in 1024 bytes lists t) × (lists ≤ 65536)
      × (bytes + 2 * lists ≤ bytes + 2048) × (bytes + 2048 + 4 * lists ≤ length t)
  label_asked t lists e q =
      let f = few in
      let l = order_length in
      rw (e, q) (order_holds, order_ascends, omega arith, omega arith, omega (arith, p.room))

  pub label_left : (t u : List ℕ) (lists : ℕ) → t ≡ in_order bytes s → lists ≡ n → u
      ≡ sets t (bytes + 2048) (label_bytes (labels_of compare (lists_in 1024 bytes lists t))) → u ≡ labelled bytes s
  unfolding labelled label_run
  label_left t u lists e q r = rw (e, q) at r

-- ---- a level

-- what is asked of a workspace with a pool of numbered facets somewhere behind what is kept
pub record ListsBehind (layout : KeptLayout) (at bytes : ℕ) (s : List ℕ) : Type 0 where
  pub behind : layout.owners + 2048 ≤ at
  pub sound : Sound 2 1024 (part at bytes s)
  pub room : at + (bytes + 2048 + 4 * count (part at bytes s)) ≤ length s
  pub numbers : AllBelow layout.facets (closed_lists 2 1024 (part at bytes s))

-- The level stands at a place, with a pool of so many bytes, and its entries' split lists are these lists, in order
-- and labelled; the lists as they were emitted stand in a pool of `extent` bytes at `origin`, list k being that which
-- was split into list k. What lies before the byte `from` is as it was, so that what is kept before it is part of
-- what the call leaves.
pub record Listed (layout : KeptLayout) (from origin extent at bytes : ℕ) (emitted lists : List (List ℕ)) (s : List ℕ)
    (level : Level) (t : List ℕ) : Type 0 where
  pub level_is : level ≡ record {
    layout = layout;
    emitted = origin;
    extent = extent;
    lists = at;
    bytes = bytes;
    count = length lists;
  }
  pub emitted_are_holds : closed_lists 2 1024 (emitted_pool level t) ≡ emitted
  pub split_are : closed_lists 2 1024 (take level.bytes (drop level.lists t)) ≡ lists
  pub order_is : order_left level t ≡ in_list_order lists
  pub labels_are : labels_in (level.bytes + 2048) level.count (drop level.lists t)
      ≡ labels_of compare (sort_by compare_nats lists)
  pub front : take from t ≡ take from s
  pub long : length t ≡ length s
  pub leaves : (more n : ℕ) (rows : List Row) (kept : List Kept) → Keeps n layout kept s
      → Leaves more n rows kept level t

module _ (layout : KeptLayout) (at bytes : ℕ) (s : List ℕ) (r : ListsBehind layout at bytes s) where
  -- its area, alone
  pub ready_pool : Pool bytes (drop at s)
  ready_pool = record { sound = r.sound; room = let d = length-drop at s in omega (arith, r.room) }
