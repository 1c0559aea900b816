-- Theorems on the definitions of specs/Listed.
use Rattle.std.specs.Prelude.{◌≡◌, refl, List, [], take, drop}
use Rattle.std.proofs.Math.Path.{sym, ap}
use Rattle.std.proofs.Common.{◌∙◌, subst, arith, take-take}
use Prim.Native.Nat.{ℕ, ◌+◌}
use Rattle.std.proofs.Math.ListN.{length}
use Rattle.definitions.specs.Lists.{compare_nats, sort_by}
use Rattle.laws.specs.Lists.{Mem}
use Rattle.laws.specs.Sorting.{of_sorted}
use Rattle.laws.specs.Segments.{part}
use Rattle.pool.specs.Pool.{count, closed_lists, closed_length, Sound}
use Rattle.order.specs.Areas.{order_in, lists_in}
use Rattle.order.specs.Numbers.{AllBelow}
use Rattle.labels.specs.Labels.{labels_in}
use Rattle.layout.specs.declared.KeptLayout.{KeptLayout}
use Rattle.layout.specs.declared.Level.{Level}
use Rattle.layout.specs.Front.{keeps_front}
use Rattle.layout.specs.Leaves.{lists_left}
use Rattle.entries.specs.Listed.{Listed, ListsBehind, labelled, labelled_ascends, labelled_holds, labelled_labels}
use Rattle.entries.specs.Listed.{labelled_lists, labelled_order, labelled_pool, ready_pool}

-- ---- a level

module _ (layout : KeptLayout) (at bytes : ℕ) (s : List ℕ) (r : ListsBehind layout at bytes s) where
  abbrev level : Level
  level = record {
    layout = layout;
    emitted = at;
    extent = bytes;
    lists = at;
    bytes = bytes;
    count = count (part at bytes s);
  }

  abbrev lists : List (List ℕ)
  lists = closed_lists 2 1024 (part at bytes s)

  module _ (t : List ℕ) (front : take at t ≡ take at s) (long : length t ≡ length s)
      (is : drop at t ≡ labelled bytes (drop at s)) where
    left_lists : lists_left level t ≡ sort_by compare_nats lists
    left_lists =
        ap (lists_in 1024 bytes (count (part at bytes s))) is
        ∙ labelled_lists bytes (drop at s) (ready_pool layout at bytes s r)

    left_numbers : AllBelow layout.facets (lists_left level t)
    left_numbers l m = r.numbers l (of_sorted compare_nats l lists (subst (Mem l) left_lists m))

    layout_front : take (layout.owners + 2048) t ≡ take (layout.owners + 2048) s
    layout_front =
        sym (take-take (layout.owners + 2048) at t r.behind)
        ∙ (ap (take (layout.owners + 2048)) front ∙ take-take (layout.owners + 2048) at s r.behind)

    pool_stays : part at bytes t ≡ part at bytes s
    pool_stays = ap (take bytes) is ∙ labelled_pool bytes (drop at s) (ready_pool layout at bytes s r)

    pub listed : Listed layout at at bytes at bytes lists lists s level t
    listed = record {
      level_is =
          ap (λ (n : ℕ). record {
            layout = layout;
            emitted = at;
            extent = bytes;
            lists = at;
            bytes = bytes;
            count = n;
          }) (sym (closed_length 2 1024 (part at bytes s)));
      emitted_are_holds = ap (closed_lists 2 1024) pool_stays;
      split_are = ap (closed_lists 2 1024) pool_stays;
      order_is =
          ap (order_in bytes (count (part at bytes s))) is
          ∙ labelled_order bytes (drop at s) (ready_pool layout at bytes s r);
      labels_are =
          ap (labels_in (bytes + 2048) (count (part at bytes s))) is
          ∙ labelled_labels bytes (drop at s) (ready_pool layout at bytes s r);
      front = front;
      long = long;
      leaves = λ more n rows kept k. record {
        keeps = keeps_front n layout kept s t layout_front long k;
        behind = r.behind;
        area = rw is (labelled_holds bytes (drop at s) (ready_pool layout at bytes s r));
        few_entries = r.sound.few;
        room = omega (arith, r.room);
        numbers = left_numbers;
        ascends = rw is (labelled_ascends bytes (drop at s) (ready_pool layout at bytes s r));
        emitted = record {
          behind = r.behind;
          before = omega arith;
          sound = subst (Sound 2 1024) (sym pool_stays) r.sound;
          as_many = refl;
          numbers =
              subst (λ (pool : List ℕ). AllBelow layout.facets (closed_lists 2 1024 pool)) (sym pool_stays) r.numbers;
        };
      };
    }
