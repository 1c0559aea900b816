-- Splitting in the answers of calls, at every rank, by induction on the rank: an entry's list is not empty and names
-- nothing twice, a compound is made of two entries, and a split list names facets that the call has, none twice.
-- Leans on Splitting, Emitted and LowRanks.
use Rattle.std.specs.Prelude.{◌≡◌, refl, ℕ, ◌<◌}
use Rattle.std.proofs.Math.Path.{ap}
use mathlib.Core.List.{List, [], ◌∷◌, map, flat_map}
use native.Mathlib.Omega.{arith}
use Rattle.std.proofs.Math.ListN.{length, get_or, length-map, length-append}
use Rattle.definitions.specs.Lists.{Pair}
use Rattle.definitions.specs.Figures.{Compound, parts_of}
use Rattle.definitions.specs.Search.{Facet}
use Rattle.definitions.specs.Recursion.{Entry, Answer, Inner}
use Rattle.definitions.specs.Faceting.{Prepared, split_in, at_orbit, split}
use Rattle.laws.specs.Lists.{Mem, here}
use Rattle.laws.specs.Ascending.{Distinct}
use Rattle.shapes.specs.Answered.{facet_number}
use Rattle.shapes.specs.LowRanks.{inner_at, inner_at_member, at_orbit_holds, facet_orbit}
use Rattle.shapes.specs.Compounds.{Composed}
use Rattle.shapes.specs.Splitting.{parts_some}

-- the entries' lists
abbrev pub lists_of : Answer → List (List Pair)
lists_of a = map (λ (e : Entry). e.list) a.entries

pub record SplitAnswer (a : Answer) : Type 0 where
  pub compounds : (c : Compound) → Mem c a.compounds → Composed (lists_of a) c
  pub some_items : (l : List Pair) → Mem l (lists_of a) → 0 < length l
  pub distinct : (l : List Pair) → Mem l (lists_of a) → Distinct l

-- ---- one facet

module _ (i : Inner) (h : SplitAnswer i.answer) (f : Facet) (is-facet : f.1 < facet_number i) where
  abbrev lists : List (List Pair)
  lists = lists_of i.answer

  abbrev parts : List ℕ
  parts = parts_of i.answer.compounds (length (get_or lists f.1 [])) f.1

  pub in_lists : f.1 < length lists
  in_lists = let e = length-map i.answer.entries (λ (x : Entry). x.list) in omega arith

  pub split_in_some : 0 < length (split_in i f)
  unfolding split_in
  split_in_some =
      let k = parts_some lists i.answer.compounds h.compounds h.some_items f.1 in_lists in
      let e = length-map {B = Facet} parts (λ (part : ℕ). (f.0, part)) in
      omega arith

-- ---- a list of the call's facets

-- a facet of the call
abbrev pub InCall : Prepared → Facet → Type 0
InCall p f = f.1 < get_or (map facet_number p.inner) f.0 0

module _ (p : Prepared) (h : (i : Inner) → Mem i p.inner → SplitAnswer i.answer) where
  abbrev parts_at : Facet → List Facet
  parts_at f = at_orbit (λ (i : Inner). split_in i f) p.inner f.0

  module _ (f : Facet) (is-facet : InCall p f) where
    abbrev there_is : (f.0 < length p.inner) × (f.1 < facet_number (inner_at p.inner f.0))
    there_is = facet_orbit p.inner f is-facet

    abbrev own : Inner
    own = inner_at p.inner f.0

    pub own_split : SplitAnswer own.answer
    own_split = h own (inner_at_member p.inner f.0 there_is.0)

    pub parts_at_holds : parts_at f ≡ split_in own f
    parts_at_holds = at_orbit_holds (λ (i : Inner). split_in i f) p.inner f.0 there_is.0

  pub split_some : (l : List Facet) → ((f : Facet) → Mem f l → InCall p f) → 0 < length l → 0 < length (split p l)
  unfolding split flat_map
  split_some [] k n = absurd (omega arith)
  split_some (f ∷ l) k n =
      let inside = k f (here refl) in
      let s = split_in_some (own f inside) (own_split f inside) f (there_is f inside).1 in
      let e = ap length (parts_at_holds f inside) in
      let a = length-append (parts_at f) (flat_map parts_at l) in
      omega arith
