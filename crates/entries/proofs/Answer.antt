-- Theorems on the definitions of specs/Answer.
use Rattle.std.specs.Prelude.{◌≡◌, length}
use Rattle.std.proofs.Math.Path.{ap}
use Rattle.std.proofs.Common.{subst, arith}
use mathlib.Core.List.{List, [], map}
use Rattle.std.specs.Prelude.{Option}
use Prim.Native.Nat.{ℕ, ◌≤◌}
use Rattle.definitions.specs.Lists.{Pair}
use Rattle.definitions.specs.Orbits.{Row}
use Rattle.definitions.specs.Search.{Found}
use Rattle.laws.specs.Lists.{Mem}
use Rattle.laws.specs.Pairs.{Pairs}
use Rattle.completeness.specs.Taken.{OtherOrbit}
use Rattle.order.specs.Numbers.{AllBelow}
use Rattle.splitting.specs.Splitting.{split_list}
use Rattle.shapes.specs.Kept.{Kept, kept_answer}
use Rattle.layout.specs.declared.KeptLayout.{KeptLayout}
use Rattle.layout.specs.declared.Level.{Level}
use Rattle.layout.specs.Keeps.{Keeps, labels_from}
use Rattle.layout.specs.Leaves.{facet_at, answer_left}
use Rattle.entries.specs.Listed.{Listed}
use Rattle.entries.specs.Split.{split_on}
use Rattle.entries.specs.Parts.{Splittable, parts_below}
use Rattle.entries.proofs.Parts.{list_parts, parts_few}
use Rattle.entries.specs.Answer.{all_below, left_answer_holds, lists, lists_are, table_is}

-- ---- the two ranks

-- numbered lists that a search emitted, beside a layout
module _ (n : ℕ) (layout : KeptLayout) (kept : List Kept) (s : List ℕ) (keeps : Keeps n layout kept s)
    (emitted : List (List ℕ)) (below : AllBelow layout.facets emitted) where
  pub split_short : ((k : Kept) → Mem k kept → Splittable k) → (l : List ℕ) → Mem l emitted
      → Pairs OtherOrbit (map (facet_at kept) l) → length (split_on layout s l) ≤ 1024
  split_short each l m apart =
      let few = parts_few kept each l (all_below n layout kept s keeps emitted below l m) apart in
      let e = ap (λ (table : List (Option Pair)). length (split_list 380 table l))
      (table_is n layout kept s keeps emitted below) in
      omega (arith, keeps.few_facets, keeps.facets)

  module _ (more : ℕ) (rows : List Row) (found : Found) (is : found.lists ≡ map (map (facet_at kept)) emitted)
      (from origin extent at bytes : ℕ) (level : Level) (t : List ℕ) where
    -- else they are split
    pub left_split : ((k : Kept) → Mem k kept → Splittable k)
        → Listed layout from origin extent at bytes emitted (map (split_on layout s) emitted) s level t
        → answer_left more n rows kept level t found.left ≡ kept_answer more n rows kept found
    left_split each l =
        left_answer_holds more n rows kept (split_list 380 (labels_from 0 kept)) emitted
        (λ l m. list_parts kept each l (all_below n layout kept s keeps emitted below l m))
        (parts_below kept each emitted (all_below n layout kept s keeps emitted below)) found is layout from origin
        extent at bytes s t level
        (subst (λ (ls : List (List ℕ)). Listed layout from origin extent at bytes emitted ls s level t)
        (lists_are n layout kept s keeps emitted below) l)
