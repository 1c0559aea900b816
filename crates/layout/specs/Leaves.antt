-- What a call leaves in the workspace, at every rank above 2 in one form: what it kept, and its entries' lists in
-- order, split and as they were emitted, with the labels of the split ones. Nothing else of the answer is stored:
-- figures are functions of it (`kept_figure`). Leans on Keeps and on areas of lists.
use Rattle.std.specs.Prelude.{◌≡◌, length, get_or, take, drop}
use Rattle.std.proofs.Math.Path.{sym, ap, subst}
use Rattle.std.proofs.Common.{◌∙◌, arith}
use mathlib.Core.List.{List, [], map, map-map}
use Prim.Native.Nat.{ℕ, ◌+◌, ◌*◌, ◌≤◌, ◌<◌}
use Rattle.std.proofs.lemmas.List.{length-map}
use Rattle.definitions.specs.Orbits.{Row}
use Rattle.definitions.specs.Search.{Facet}
use Rattle.definitions.specs.Recursion.{Entry, Answer}
use Rattle.definitions.specs.Figures.{Figure, compounds_from}
use Rattle.laws.specs.Lists.{Mem, in_map, of_map, at_member, member_at, map_at_holds}
use Rattle.laws.specs.Segments.{part}
use Rattle.words.specs.Words.{words_length}
use Rattle.pool.specs.Pool.{count, closed_lists, closed_length, Sound}
use Rattle.order.specs.Areas.{HoldsOrder, list_at, order_in, lists_in}
use Rattle.labels.specs.Labels.{labels_in}
use Rattle.order.specs.Numbers.{ItemsBelow, AllBelow, AllAscending}
use Rattle.shapes.specs.Kept.{Kept, kept_figure, kept_possible}
use Rattle.layout.specs.Keeps.{Keeps, facets_of}
use Rattle.layout.specs.declared.Level.{Level}

-- the facet with a number
unfoldable pub facet_at : List Kept → ℕ → Facet
facet_at kept x = get_or (facets_of kept) x (0, 0)

-- the entries' split lists, in order
abbrev pub lists_left : Level → List ℕ → List (List ℕ)
lists_left level s = lists_in 1024 level.bytes level.count (drop level.lists s)

-- the pool of the lists as they were emitted
abbrev pub emitted_pool : Level → List ℕ → List ℕ
emitted_pool level s = part level.emitted level.extent s

-- the numbers of the entries' lists, in order
abbrev pub order_left : Level → List ℕ → List ℕ
order_left level s = order_in level.bytes level.count (drop level.lists s)

-- the list with a number, split, and as it was emitted
unfoldable pub both_at : Level → List ℕ → ℕ → List ℕ × List ℕ
both_at level s k = (list_at 1024 (take level.bytes (drop level.lists s)) k, list_at 1024 (emitted_pool level s) k)

-- both lists of each entry, in order
unfoldable pub both_left : Level → List ℕ → List (List ℕ × List ℕ)
both_left level s = map (both_at level s) (order_left level s)

pub lists_of_both : (level : Level) (s : List ℕ)
    → map (λ (both : List ℕ × List ℕ). both.0) (both_left level s) ≡ lists_left level s
unfolding both_left both_at lists_in
lists_of_both level s = map-map (λ (both : List ℕ × List ℕ). both.0) (both_at level s) (order_left level s)

pub both_length : (level : Level) (s : List ℕ) → length (both_left level s) ≡ level.count
unfolding both_left order_in
both_length level s =
    length-map (order_left level s) (both_at level s)
    ∙ words_length 2 (drop level.bytes (drop level.lists s)) level.count

-- the figure of a split list of numbered facets
unfoldable pub figure_left : ℕ → ℕ → List Row → List Kept → List ℕ → Figure
figure_left more n rows kept numbers = kept_figure more n rows kept (map (facet_at kept) numbers)

-- an entry from its two lists of numbered facets
unfoldable pub entry_left : ℕ → ℕ → List Row → List Kept → List ℕ × List ℕ → Entry
entry_left more n rows kept both = record {
  list = map (facet_at kept) both.0;
  before = map (facet_at kept) both.1;
  figure = figure_left more n rows kept both.0;
}

-- the answer that stands in the workspace, with what is left of the budget
unfoldable pub answer_left : ℕ → ℕ → List Row → List Kept → Level → List ℕ → ℕ → Answer
answer_left more n rows kept level s left = record {
  counts = map (λ (k : Kept). k.orbit.count) kept;
  entries = map (entry_left more n rows kept) (both_left level s);
  possible = map (kept_possible more) kept;
  compounds = compounds_from 0 (labels_in (level.bytes + 2048) level.count (drop level.lists s));
  left = left;
}

-- The emitted lists stand behind what is kept, and before the order of the split ones; they are as many, and their
-- numbers are those of facets.
pub record EmittedHeld (level : Level) (s : List ℕ) : Type 0 where
  pub behind : level.layout.owners + 2048 ≤ level.emitted
  pub before : level.emitted + level.extent ≤ level.lists + level.bytes
  pub sound : Sound 2 1024 (emitted_pool level s)
  pub as_many : count (take level.bytes (drop level.lists s)) ≡ count (emitted_pool level s)
  pub numbers : AllBelow level.layout.facets (closed_lists 2 1024 (emitted_pool level s))

pub record Leaves (more n : ℕ) (rows : List Row) (kept : List Kept) (level : Level) (s : List ℕ) : Type 0 where
  pub keeps : Keeps n level.layout kept s
  pub behind : level.layout.owners + 2048 ≤ level.lists
  pub area : HoldsOrder 1024 level.bytes level.count (drop level.lists s)
  pub few_entries : level.count ≤ 1024
  pub room : level.lists + (level.bytes + 2048 + 4 * level.count) ≤ length s
  pub numbers : AllBelow level.layout.facets (lists_left level s)
  pub ascends : AllAscending (lists_left level s)
  pub emitted : EmittedHeld level s

-- ---- the lists of an entry

module _ (level : Level) (s : List ℕ) (area : HoldsOrder 1024 level.bytes level.count (drop level.lists s)) where
  order_long : length (order_left level s) ≡ level.count
  unfolding order_in
  order_long = words_length 2 (drop level.bytes (drop level.lists s)) level.count

  -- a number that stands behind the pool is that of a list
  pub order_inside : (k : ℕ) → k < level.count
      → get_or (order_left level s) k 0 < count (take level.bytes (drop level.lists s))
  order_inside k h = area.names k h

  -- the lists of the entry at a place, by the number that stands there
  pub both_at_holds : (k : ℕ) → k < level.count
      → get_or (both_left level s) k ([], []) ≡ both_at level s (get_or (order_left level s) k 0)
  unfolding both_left
  both_at_holds k h = map_at_holds (both_at level s) (order_left level s) k ([], []) 0 (omega (arith, order_long))

  pub first_of_both : (k : ℕ) → k < level.count
      → (get_or (both_left level s) k ([], [])).0 ≡ get_or (lists_left level s) k []
  unfolding both_at lists_in
  first_of_both k h =
      ap (λ (both : List ℕ × List ℕ). both.0) (both_at_holds k h)
      ∙ sym (map_at_holds (list_at 1024 (take level.bytes (drop level.lists s))) (order_left level s) k [] 0
      (omega (arith, order_long)))

  -- their numbers are those of facets
  pub both_below : AllBelow level.layout.facets (lists_left level s) → EmittedHeld level s → (both : List ℕ × List ℕ)
      → Mem both (both_left level s)
      → ItemsBelow level.layout.facets both.0 × ItemsBelow level.layout.facets both.1
  unfolding both_left both_at list_at
  both_below numbers stand both m =
      let r = of_map (both_at level s) both (order_left level s) m in
      let i = at_member r.0 (order_left level s) 0 r.1 in
      let inside = order_inside i.0 (omega (arith, order_long, i.1)) in
      let lists = closed_lists 2 1024 (emitted_pool level s) in
      let many = closed_length 2 1024 (emitted_pool level s) in (
        numbers both.0 (subst (Mem both.0) (lists_of_both level s)
            (in_map (λ (b : List ℕ × List ℕ). b.0) both (both_left level s) m)),
        subst (λ (b : List ℕ × List ℕ). ItemsBelow level.layout.facets b.1) (sym r.2) (stand.numbers
            (get_or lists r.0 []) (member_at lists r.0 [] (omega (arith, inside, i.2, many, stand.as_many)))),
      )
