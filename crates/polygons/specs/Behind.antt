-- What a call leaves stands before a place: what is written from there on changes nothing of it. Leans on what a call
-- leaves.
use Rattle.std.specs.Prelude.{◌≡◌, length, take, drop}
use Rattle.std.proofs.Common.{sym, ◌∙◌, subst, arith, length-drop}
use Rattle.std.proofs.Math.Path.{ap}
use mathlib.Core.List.{List, map}
use Prim.Native.Nat.{ℕ, ◌+◌, ◌*◌, ◌≤◌}
use Rattle.definitions.specs.Orbits.{Row}
use Rattle.definitions.specs.Figures.{compounds_from}
use Rattle.laws.specs.Segments.{part, part_take}
use Rattle.words.specs.Words.{words, words_take}
use Rattle.order.specs.Areas.{list_at, order_kept, lists_kept, holds_kept}
use Rattle.labels.specs.Labels.{labels_in, label_of}
use Rattle.order.specs.Numbers.{AllBelow, AllAscending}
use Rattle.shapes.specs.Kept.{Kept, kept_possible}
use Rattle.layout.specs.Front.{keeps_front}
use Rattle.layout.specs.Leaves.{Leaves, lists_left, emitted_pool, both_at, both_left, entry_left, answer_left}
use Rattle.layout.specs.declared.Level.{Level}

module _ {more n : ℕ} {rows : List Row} {kept : List Kept} {level : Level} {s : List ℕ} (t : List ℕ) (at : ℕ)
    (left : Leaves more n rows kept level s) (before : level.lists + (level.bytes + 2048 + 4 * level.count) ≤ at)
    (front : take at t ≡ take at s) (long : length t ≡ length s) where
  -- a part before the place
  same_part : (a k : ℕ) → a + k ≤ at → part a k t ≡ part a k s
  same_part a k l = sym (part_take at t a k l) ∙ (ap (part a k) front ∙ part_take at s a k l)

  area_same : (k : ℕ) → k ≤ level.bytes + 2048 + 4 * level.count
      → take k (drop level.lists t) ≡ take k (drop level.lists s)
  area_same k l = same_part level.lists k (omega (arith, before))

  pub lists_after : lists_left level t ≡ lists_left level s
  lists_after =
      lists_kept 1024 level.bytes level.count (drop level.lists s) (drop level.lists t)
      (area_same (level.bytes + 2 * level.count) (omega arith))
      (omega (arith, long, length-drop level.lists s, length-drop level.lists t))

  long_after : length (drop level.lists t) ≡ length (drop level.lists s)
  long_after = omega (arith, long, length-drop level.lists s, length-drop level.lists t)

  -- both pools, and the order behind the split one
  split_after : take level.bytes (drop level.lists t) ≡ take level.bytes (drop level.lists s)
  split_after = area_same level.bytes (omega arith)

  emitted_after : emitted_pool level t ≡ emitted_pool level s
  emitted_after = same_part level.emitted level.extent (omega (arith, before, left.emitted.before))

  both_after : both_left level t ≡ both_left level s
  unfolding both_left both_at
  both_after =
      let order = order_kept 1024 level.bytes level.count (drop level.lists s) (drop level.lists t)
      (area_same (level.bytes + 2 * level.count) (omega arith)) long_after in
      λ i. map (λ (k : ℕ). (list_at 1024 (split_after i) k, list_at 1024 (emitted_after i) k)) (order i)

  labels_after : labels_in (level.bytes + 2048) level.count (drop level.lists t)
      ≡ labels_in (level.bytes + 2048) level.count (drop level.lists s)
  unfolding labels_in
  labels_after =
      ap (map label_of) (sym (own t)
      ∙ (ap (λ (l : List ℕ). words 4 (part (level.bytes + 2048) (4 * level.count) l) level.count)
      (area_same whole (omega arith)) ∙ own s))
    where
      whole : ℕ
      whole = level.bytes + 2048 + 4 * level.count

      own : (l : List ℕ)
          → words 4 (part (level.bytes + 2048) (4 * level.count) (take whole (drop level.lists l))) level.count
          ≡ words 4 (drop (level.bytes + 2048) (drop level.lists l)) level.count
      own l =
          ap (λ (k : List ℕ). words 4 k level.count)
          (part_take whole (drop level.lists l) (level.bytes + 2048) (4 * level.count) (omega arith))
          ∙ words_take 4 (drop (level.bytes + 2048) (drop level.lists l)) (4 * level.count) level.count (omega arith)

  pub leaves_after : Leaves more n rows kept level t
  leaves_after = record {
    keeps =
        keeps_front n level.layout kept s t
        (same_part 0 (level.layout.owners + 2048) (omega (arith, before, left.behind))) long left.keeps;
    behind = left.behind;
    area =
        holds_kept 1024 level.bytes level.count (drop level.lists s) (drop level.lists t)
        (area_same (level.bytes + 2 * level.count) (omega arith)) long_after left.area;
    few_entries = left.few_entries;
    room = omega (arith, long, left.room);
    numbers = subst (AllBelow level.layout.facets) (sym lists_after) left.numbers;
    ascends = subst AllAscending (sym lists_after) left.ascends;
    emitted = record {
      behind = left.emitted.behind;
      before = left.emitted.before;
      sound = rw emitted_after left.emitted.sound;
      as_many = rw (split_after, emitted_after) left.emitted.as_many;
      numbers = rw emitted_after left.emitted.numbers;
    };
  }

  pub answer_after : (rest : ℕ) → answer_left more n rows kept level t rest ≡ answer_left more n rows kept level s rest
  unfolding answer_left
  answer_after rest = λ i. record {
    counts = map (λ (k : Kept). k.orbit.count) kept;
    entries = map (entry_left more n rows kept) (both_after i);
    possible = map (kept_possible more) kept;
    compounds = compounds_from 0 (labels_after i);
    left = rest;
  }
