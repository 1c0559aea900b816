-- Emitted lists split: their pool is moved to the byte behind what is kept, each list is split by the components that
-- are kept, and the split lists stand in a pool behind it, of 2,101,260 bytes: 1,024 lists of 1,024 items. Leans on
-- the layout and on splitting in pools.
use Rattle.std.specs.Prelude.{◌≡◌, refl, length, take, drop}
use Rattle.std.proofs.Math.Path.{sym, ap}
use Rattle.std.proofs.Common.{◌∙◌, subst, arith, length-append, length-drop, take_at, drop_at, take-add, take-take}
use Rattle.std.proofs.Common.{length-take-le, take_all}
use mathlib.Core.List.{List, [], ◌∷◌, ◌++◌, map, flat_map}
use Rattle.std.specs.Prelude.{Option}
use Prim.Native.Nat.{ℕ, ◌+◌, ◌-◌, ◌*◌, ◌≤◌, ◌<◌, compare}
use Rattle.std.proofs.lemmas.List.{length-map, take-append-le}
use Rattle.std.proofs.Math.Seq.{paste}
use Rattle.std.proofs.lemmas.List.Edits.{length-paste, take-paste}
use Rattle.definitions.specs.Lists.{Pair, compare_nats, sort_by}
use Rattle.definitions.specs.Orbits.{Row}
use Rattle.definitions.specs.Figures.{labels_of}
use Rattle.laws.specs.Lists.{Mem, here, there}
use Rattle.laws.specs.Places.{flat_map_map}
use Rattle.laws.specs.Segments.{part, placed, part_take, part_part, part_length, part_placed, take_placed}
use Rattle.laws.specs.Segments.{placed_length}
use Rattle.words.specs.Words.{words, words_take}
use Rattle.pool.specs.Pool.{count, base, closed_lists, emptied, Sound, closed_length, emptied_sound, emptied_closed}
use Rattle.pool.specs.Pool.{emptied_opened, emptied_used, emptied_length}
use Rattle.splitting.specs.declared.SplitLayout.{SplitLayout}
use Rattle.labels.specs.Labels.{label_of, labels_in}
use Rattle.order.specs.Numbers.{AllBelow}
use Rattle.splitting.specs.Splitting.{split_list, fill_all, fill_all_filled, Filled, PoolRoom, facet_labels, pool_of}
use Rattle.splitting.specs.Splitting.{rest_of, parts_in}
use Rattle.splitting.specs.Splitting as compounds
use Rattle.shapes.specs.Kept.{Kept}
use Rattle.layout.specs.declared.KeptLayout.{KeptLayout}
use Rattle.layout.specs.declared.Level.{Level}
use Rattle.layout.specs.Keeps.{Keeps, LayoutFits, labels_part}
use Rattle.layout.specs.Front.{keeps_front}
use Rattle.layout.specs.Leaves.{order_left, EmittedHeld, Leaves}
use Rattle.layout.specs.Capacities.{entry_bytes, split_bytes}
use Rattle.entries.specs.Listed.{in_list_order, ListsBehind, Listed}

-- the components of each facet, as they are kept
unfoldable pub components_in : KeptLayout → List ℕ → List (Option Pair)
components_in layout s = labels_in 0 layout.facets (labels_part layout s)

-- a list split by them: 380 steps are enough for a facet whose own list has at most 190 items
abbrev pub split_on : KeptLayout → List ℕ → List ℕ → List ℕ
split_on layout s = split_list 380 (components_in layout s)

-- what is asked: a pool anywhere, room for it behind what is kept and for what is made behind it, and split lists
-- that fit there
pub record Splits (layout : KeptLayout) (from bytes : ℕ) (s : List ℕ) : Type 0 where
  pub fits : LayoutFits layout (length s)
  pub few_facets : layout.facets ≤ 1024
  pub inside : from + bytes ≤ length s
  pub sound : Sound 2 1024 (part from bytes s)
  pub room : layout.owners + (bytes + entry_bytes) ≤ length s
  pub short : (l : List ℕ) → Mem l (closed_lists 2 1024 (part from bytes s)) → length (split_on layout s l) ≤ 1024
  pub whole : AllBelow layout.facets (closed_lists 2 1024 (part from bytes s))
  pub numbers : AllBelow layout.facets (map (split_on layout s) (closed_lists 2 1024 (part from bytes s)))

-- ---- lists and parts

-- lists of at most so many items, joined
pub joined_few : {A B : Type 0} (f : A → List B) (most : ℕ) (l : List A) → ((x : A) → Mem x l → length (f x) ≤ most)
    → length (flat_map f l) ≤ most * length l
unfolding flat_map
joined_few f most [] h = omega arith
joined_few f most (x ∷ l) h =
    let a = length-append (f x) (flat_map f l) in
    let b = h x (here refl) in
    let c = joined_few f most l (λ y i. h y (there i)) in
    omega arith

-- a copy: what lies before it, and the copy itself
module _ (d : List ℕ) (at : ℕ) (s : List ℕ) (n : ℕ) (h : at ≤ length d) (k : n ≤ length s) where
  pub paste_before : take at (paste d at s n) ≡ take at d
  paste_before =
      sym (take-take at (at + n) (paste d at s n) (omega arith))
      ∙ (ap (take at) (take-paste d at s n h k) ∙ take_at (take at d) (take n s) at (length-take-le at d h))

  pub paste_part : part at n (paste d at s n) ≡ take n s
  paste_part =
      sym (part_take (at + n) (paste d at s n) at n (omega arith))
      ∙ (ap (part at n) (take-paste d at s n h k)
      ∙ (ap (take n) (drop_at (take at d) (take n s) at (length-take-le at d h)) ∙ take-take n n s (omega arith)))

-- ---- the steps

module _ (layout : KeptLayout) (from bytes : ℕ) (s : List ℕ) (r : Splits layout from bytes s) where
  -- where the pool is moved to, and the split lists begin
  abbrev at : ℕ
  at = layout.owners + 2048

  abbrev to : ℕ
  to = layout.owners + 2048 + bytes

  abbrev labels : ℕ
  labels = layout.labels

  abbrev emitted : List (List ℕ)
  emitted = closed_lists 2 1024 (part from bytes s)

  abbrev lists : List (List ℕ)
  lists = map (split_on layout s) emitted

  -- the part that splitting works in, and how it is laid out
  abbrev wide : ℕ
  wide = to + split_bytes - labels

  abbrev split_layout : SplitLayout
  split_layout = record {
    facets = layout.facets;
    from = at - labels;
    to = at - labels + bytes;
    most = 1024;
    steps = 380;
  }

  labels_before : labels + 4096 ≤ layout.owners
  labels_before = r.fits.label_room

  module _ (s1 : List ℕ) (moved : s1 ≡ paste s at (drop from s) bytes) where
    long1 : length s1 ≡ length s
    long1 =
        let d = length-drop from s in
        ap length moved ∙ length-paste s at (drop from s) bytes (omega (arith, r.room)) (omega (arith, r.inside))

    front1 : take at s1 ≡ take at s
    front1 =
        let d = length-drop from s in
        ap (take at) moved ∙ paste_before s at (drop from s) bytes (omega (arith, r.room)) (omega (arith, r.inside))

    pool1 : part at bytes s1 ≡ part from bytes s
    pool1 =
        let d = length-drop from s in
        ap (part at bytes) moved ∙ paste_part s at (drop from s) bytes (omega (arith, r.room)) (omega (arith, r.inside))

    abbrev u : List ℕ
    u = part labels wide s1

    u_length : length u ≡ wide
    u_length = part_length labels wide s1 (omega (arith, long1, r.room, labels_before))

    pool_is : pool_of split_layout u ≡ part from bytes s
    pool_is =
        let b : at - labels + bytes - (at - labels) ≡ bytes = omega arith in
        let e : labels + (at - labels) ≡ at = omega (arith, labels_before) in
        ap (λ (n : ℕ). part (at - labels) n u) b
        ∙ (part_part (at - labels) bytes labels wide s1 (omega (arith, labels_before))
        ∙ (ap (λ (n : ℕ). part n bytes s1) e ∙ pool1))

    table_is : facet_labels split_layout u ≡ components_in layout s
    unfolding components_in labels_in
    table_is =
        ap (map label_of)
        (words_take 4 (drop labels s1) wide layout.facets (omega (arith, labels_before, r.few_facets))
        ∙ (sym (words_take 4 (drop labels s1) (layout.owners - labels) layout.facets
        (omega (arith, labels_before, r.few_facets)))
        ∙ ap (λ (l : List ℕ). words 4 l layout.facets) same))
      where
        same : part labels (layout.owners - labels) s1 ≡ part labels (layout.owners - labels) s
        same =
            sym (part_take at s1 labels (layout.owners - labels) (omega (arith, labels_before)))
            ∙ (ap (part labels (layout.owners - labels)) front1
            ∙ part_take at s labels (layout.owners - labels) (omega (arith, labels_before)))

    parts_are : map (parts_in split_layout u) (closed_lists 2 1024 (pool_of split_layout u)) ≡ lists
    parts_are = rw (pool_is, table_is) refl

    all_few : length (flat_map (parts_in split_layout u) (closed_lists 2 1024 (pool_of split_layout u))) ≤ 1048576
    all_few =
        let c = closed_length 2 1024 (part from bytes s) in
        rw (pool_is, table_is) (omega (arith, joined_few (split_on layout s) 1024 emitted r.short, r.sound.few))

    rest_length : length (rest_of split_layout u) ≡ split_bytes
    rest_length = length-drop (at - labels + bytes) u ∙ omega (arith, u_length, labels_before)

    -- what `split_lists` is asked
    pub split_asked : compounds.SplittingRoom split_layout u
        × (base 1024 + 2 * length (flat_map (parts_in split_layout u) (closed_lists 2 1024 (pool_of split_layout u)))
        ≤ length (rest_of split_layout u))
        × (length (flat_map (parts_in split_layout u) (closed_lists 2 1024 (pool_of split_layout u))) < 4294967296)
    split_asked = (
      record {
        table = omega (arith, labels_before, r.few_facets);
        order = omega arith;
        inside = omega (arith, u_length, labels_before);
        short = omega arith;
        few = omega arith;
        sound = rw pool_is r.sound;
      },
      omega (arith, all_few, rest_length),
      omega (arith, all_few),
    )

    -- ---- the split lists

    module _ (p : List ℕ) (many : length p ≡ length u) (split : p
        ≡ take (at - labels + bytes) u ++ fill_all 1024 (emptied (rest_of split_layout u))
        (map (parts_in split_layout u) (closed_lists 2 1024 (pool_of split_layout u)))) where
      abbrev s2 : List ℕ
      s2 = placed labels wide s1 p

      abbrev empty : List ℕ
      empty = emptied (rest_of split_layout u)

      front_length : length (take (at - labels + bytes) u) ≡ at - labels + bytes
      front_length = length-take-le (at - labels + bytes) u (omega (arith, u_length, labels_before))

      rest_is : drop (at - labels + bytes) p ≡ fill_all 1024 empty lists
      rest_is =
          ap (drop (at - labels + bytes)) split
          ∙ (drop_at (take (at - labels + bytes) u) _ (at - labels + bytes) front_length
          ∙ ap (fill_all 1024 empty) parts_are)

      filled : Filled 1024 (omega arith) empty (fill_all 1024 empty lists) lists
      filled =
          fill_all_filled 1024 (omega arith) empty lists (λ l i v j. let b = r.numbers l i v j in
          omega (arith, r.few_facets)) (emptied_opened 2 1024 (rest_of split_layout u) fits) room free
        where
          fits : base 1024 ≤ length (rest_of split_layout u)
          fits = omega (arith, rest_length)

          none_closed : count empty ≡ 0
          none_closed =
              sym (closed_length 2 1024 empty) ∙ ap length (emptied_closed 2 1024 (rest_of split_layout u) fits)

          all : length (flat_map (λ (l : List ℕ). l) lists) ≤ 1048576
          all =
              let e = ap length (flat_map_map (λ (l : List ℕ). l) (split_on layout s) emitted) in
              let c = closed_length 2 1024 (part from bytes s) in
              let j = joined_few (split_on layout s) 1024 emitted r.short in
              omega (arith, r.sound.few)

          room : PoolRoom 1024 empty (length (flat_map (λ (l : List ℕ). l) lists))
          room =
              let n = emptied_used 2 1024 (rest_of split_layout u) fits in
              let l = emptied_length (rest_of split_layout u) in
              record {
                sound = emptied_sound 2 1024 (rest_of split_layout u) fits;
                fits = omega (arith, all, rest_length);
                small = omega (arith, all);
              }

          free : count empty + length lists ≤ 1024
          free =
              let c = closed_length 2 1024 (part from bytes s) in
              let m = length-map emitted (split_on layout s) in
              omega (arith, none_closed, r.sound.few)

      -- ---- the workspace with them

      long2 : length s2 ≡ length s
      long2 = placed_length labels wide s1 p (omega (arith, long1, r.room, labels_before)) (many ∙ u_length) ∙ long1

      own : part labels wide s2 ≡ p
      own = part_placed labels wide s1 p (omega (arith, long1, r.room, labels_before)) (many ∙ u_length)

      split_part : part to split_bytes s2 ≡ fill_all 1024 empty lists
      split_part =
          let e : labels + (at - labels + bytes) ≡ to = omega (arith, labels_before) in
          let d = length-drop (at - labels + bytes) p in
          ap (λ (n : ℕ). part n split_bytes s2) (sym e)
          ∙ (sym (part_part (at - labels + bytes) split_bytes labels wide s2 (omega (arith, labels_before)))
          ∙ (ap (part (at - labels + bytes) split_bytes) own
          ∙ (take_all split_bytes (drop (at - labels + bytes) p) (omega (arith, many, u_length, labels_before))
          ∙ rest_is)))

      split_closed : closed_lists 2 1024 (part to split_bytes s2) ≡ lists
      split_closed =
          ap (closed_lists 2 1024) split_part ∙ (filled.lists ∙ ap (λ (l : List (List ℕ)). l ++ lists)
          (emptied_closed 2 1024 (rest_of split_layout u) (omega (arith, rest_length))))

      -- what `sort_entries` is asked
      pub sort_asked : ListsBehind layout to split_bytes s2
      sort_asked = record {
        behind = omega arith;
        sound = sound2;
        room = omega (arith, sound2.few, long2, r.room);
        numbers = subst (AllBelow layout.facets) (sym split_closed) r.numbers;
      }
        where
          sound2 : Sound 2 1024 (part to split_bytes s2)
          sound2 = subst (Sound 2 1024) (sym split_part) filled.sound

      front2 : take at s2 ≡ take at s
      front2 =
          let e : labels + (at - labels) ≡ at = omega (arith, labels_before) in
          ap (λ (n : ℕ). take n s2) (sym e)
          ∙ (take-add labels (at - labels) s2
          ∙ (ap (λ (l : List ℕ). l ++ part labels (at - labels) s2)
          (take_placed labels wide s1 p labels (omega (arith, long1, r.room, labels_before)) (omega arith))
          ∙ (ap (λ (l : List ℕ). take labels s1 ++ l) inner
          ∙ (sym (take-add labels (at - labels) s1) ∙ (ap (λ (n : ℕ). take n s1) e ∙ front1)))))
        where
          inner : part labels (at - labels) s2 ≡ part labels (at - labels) s1
          inner =
              sym (take-take (at - labels) wide (drop labels s2) (omega (arith, labels_before)))
              ∙ (ap (take (at - labels)) (own ∙ split)
              ∙ (take-append-le (at - labels) (take (at - labels + bytes) u) _ (omega (arith, front_length))
              ∙ (take-take (at - labels) (at - labels + bytes) u (omega arith)
              ∙ take-take (at - labels) wide (drop labels s1) (omega (arith, labels_before)))))

      -- the moved pool is as it was
      pool2 : part at bytes s2 ≡ part from bytes s
      pool2 =
          let k = at - labels + bytes in
          let e : labels + (at - labels) ≡ at = omega (arith, labels_before) in
          let b : at - labels + bytes - (at - labels) ≡ bytes = omega arith in
          ap (λ (n : ℕ). part n bytes s2) (sym e)
          ∙ (sym (part_part (at - labels) bytes labels wide s2 (omega (arith, labels_before)))
          ∙ (ap (part (at - labels) bytes) (own ∙ split)
          ∙ (sym (part_take k (take k u ++ _) (at - labels) bytes (omega arith))
          ∙ (ap (part (at - labels) bytes) (take_at (take k u) _ k front_length)
          ∙ (part_take k u (at - labels) bytes (omega arith)
          ∙ (ap (λ (n : ℕ). part (at - labels) n u) (sym b) ∙ pool_is))))))

      abbrev ls : List (List ℕ)
      ls = closed_lists 2 1024 (part to split_bytes s2)

      module _ (level : Level) (t : List ℕ) (l : Listed layout to to split_bytes to split_bytes ls ls s2 level t) where
        -- the level that splitting leaves, whose emitted lists stand in another pool
        abbrev apart : Level
        apart = record {
          layout = layout;
          emitted = at;
          extent = bytes;
          lists = to;
          bytes = split_bytes;
          count = level.count;
        }

        sorted_is : level ≡ record {
          layout = layout;
          emitted = to;
          extent = split_bytes;
          lists = to;
          bytes = split_bytes;
          count = level.count;
        }
        sorted_is =
            l.level_is
            ∙ ap (λ (n : ℕ). record {
              layout = layout;
              emitted = to;
              extent = split_bytes;
              lists = to;
              bytes = split_bytes;
              count = n;
            }) (sym (ap (λ (x : Level). x.count) l.level_is))

        still : part at bytes t ≡ part from bytes s
        still =
            sym (part_take to t at bytes (omega arith))
            ∙ (ap (part at bytes) l.front ∙ (part_take to s2 at bytes (omega arith) ∙ pool2))

        parted : closed_lists 2 1024 (take split_bytes (drop to t)) ≡ lists
        parted =
            subst (λ (x : Level). closed_lists 2 1024 (take x.bytes (drop x.lists t)) ≡ ls) sorted_is l.split_are
            ∙ split_closed

        stand : EmittedHeld apart t
        stand = record {
          behind = omega arith;
          before = omega arith;
          sound = subst (Sound 2 1024) (sym still) r.sound;
          as_many =
              sym (closed_length 2 1024 (take split_bytes (drop to t)))
              ∙ (ap length parted ∙ (length-map emitted (split_on layout s)
              ∙ (ap (λ (pool : List ℕ). length (closed_lists 2 1024 pool)) (sym still)
              ∙ closed_length 2 1024 (part at bytes t))));
          numbers = subst (λ (pool : List ℕ). AllBelow layout.facets (closed_lists 2 1024 pool)) (sym still) r.whole;
        }

        left : (more n : ℕ) (rows : List Row) (kept : List Kept) → Keeps n layout kept s
            → Leaves more n rows kept apart t
        left more n rows kept k =
            let w = subst (λ (x : Level). Leaves more n rows kept x t) sorted_is
            (l.leaves more n rows kept (keeps_front n layout kept s s2 front2 long2 k)) in
            record {
              keeps = w.keeps;
              behind = w.behind;
              area = w.area;
              few_entries = w.few_entries;
              room = w.room;
              numbers = w.numbers;
              ascends = w.ascends;
              emitted = stand;
            }

        pub split_left : Listed layout at at bytes to split_bytes emitted lists s apart t
        split_left = record {
          level_is =
              ap (λ (n : ℕ). record {
                layout = layout;
                emitted = at;
                extent = bytes;
                lists = to;
                bytes = split_bytes;
                count = n;
              }) (ap (λ (x : Level). x.count) l.level_is ∙ ap length split_closed);
          emitted_are_holds = ap (closed_lists 2 1024) still;
          split_are = parted;
          order_is =
              subst (λ (x : Level). order_left x t ≡ in_list_order ls) sorted_is l.order_is
              ∙ ap in_list_order split_closed;
          labels_are =
              subst (λ (x : Level). labels_in (x.bytes + 2048) x.count (drop x.lists t)
              ≡ labels_of compare (sort_by compare_nats ls)) sorted_is l.labels_are
              ∙ ap (λ (ls : List (List ℕ)). labels_of compare (sort_by compare_nats ls)) split_closed;
          front =
              sym (take-take at to t (omega arith))
              ∙ (ap (take at) l.front ∙ (take-take at to s2 (omega arith) ∙ front2));
          long = l.long ∙ long2;
          leaves = left;
        }
