-- Theorems on the definitions of specs/Emitted.
use Rattle.std.specs.Prelude.{◌≡◌, List, [], map, ℕ, ◌+◌, ◌-◌, ◌≤◌, length, drop}
use Rattle.definitions.specs.Search.{Facet}
use Rattle.laws.specs.Lists.{Mem, in_map}
use Rattle.laws.specs.Pairs.{Pairs}
use Rattle.laws.specs.Segments.{part}
use Rattle.completeness.specs.Taken.{OtherOrbit}
use Rattle.pool.specs.Pool.{closed_lists}
use Rattle.facets.specs.declared.Areas.{Areas}
use Rattle.facets.specs.Layout.{lists_part}
use Rattle.frames.specs.Paths.{Emitted}
use Rattle.shapes.specs.Kept.{Kept}
use Rattle.layout.specs.declared.KeptLayout.{KeptLayout}
use Rattle.layout.specs.Keeps.{Keeps}
use Rattle.layout.specs.Leaves.{facet_at}
use Rattle.layout.specs.Capacities.{entry_bytes}
use Rattle.entries.specs.Split.{Splits}
use Rattle.entries.specs.Parts.{Splittable}
use Rattle.entries.specs.Answer.{split_numbers}
use Rattle.entries.proofs.Answer.{split_short}
use Rattle.entries.specs.Emitted.{numbers_below, sound}

module _ (layout : KeptLayout) (a : Areas) (s : List ℕ) (most : a.bound ≡ 1024) where
  -- where the pool lies in the whole workspace
  abbrev at : ℕ
  at = layout.owners + a.lists

  abbrev bytes : ℕ
  bytes = a.end - a.lists

  abbrev left : List ℕ
  left = lists_part a (drop layout.owners s)

  abbrev emitted : List (List ℕ)
  emitted = closed_lists 2 1024 (part at bytes s)

  module _ (e : Emitted a left) (facets : a.facets ≡ layout.facets) where
    -- and `split_entries`
    pub split_ready : (n : ℕ) (kept : List Kept) → Keeps n layout kept s → ((k : Kept) → Mem k kept → Splittable k)
        → ((l : List Facet) → Mem l (map (map (facet_at kept)) emitted) → Pairs OtherOrbit l)
        → at + bytes ≤ length s → layout.owners + (bytes + entry_bytes) ≤ length s → Splits layout at bytes s
    split_ready n kept keeps each apart inside room = record {
      fits = keeps.fits;
      few_facets = keeps.few_facets;
      inside = inside;
      sound = sound layout a s most e facets;
      room = room;
      short =
          λ l m. split_short n layout kept s keeps emitted (numbers_below layout a s most e facets) each l m
          (apart (map (facet_at kept) l) (in_map (map (facet_at kept)) l emitted m));
      whole = numbers_below layout a s most e facets;
      numbers = split_numbers n layout kept s keeps emitted (numbers_below layout a s most e facets) each;
    }
