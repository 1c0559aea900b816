-- Figures and their order, the figure of facets, splitting, compounds: docs/SPECIFICATION.md, chapter 8. Leans on
-- Lists alone.
-- A figure is the list of its ranks, a rank the list of its elements, an element the list of its subs.
use Rattle.std.specs.Prelude.{Bool, false, cond, not, ◌&&◌, ltb, eqb, length, get_or, drop, replicate}
use mathlib.Core.List.{List, [], ◌∷◌, ◌++◌, map, flat_map}
use Rattle.std.specs.Prelude.{Option, Some, None}
use Prim.Native.Nat.{ℕ, zero, suc, ◌*◌, Ordering}
use Rattle.std.proofs.Math.Dec.{compare_is_eq}
use Rattle.definitions.specs.Lists.{Pair, is_gt, compare_list, compare_nats, sort_by, sort_nats, place_of, fresh}
use Rattle.definitions.specs.Lists.{count_from}

-- [8.1] a rank: a list of elements, each the list of its subs
abbrev pub Elements : Type 0
Elements = List (List ℕ)

-- [8.1] a list of ranks
abbrev pub Figure : Type 0
Figure = List Elements

-- [8.1] the elements of a rank
unfoldable pub rank_of : ℕ → Figure → Elements
rank_of rank f = get_or f rank []

-- [8.1] figures as lists of lists of lists
unfoldable pub compare_figures : Figure → Figure → Ordering
compare_figures = compare_list (compare_list compare_nats)

-- ---- `element_sort_strong`

-- [8.2] the place of the first element that equals this one
unfoldable pub number_in : Elements → List ℕ → ℕ
number_in elements e = place_of (λ (x : List ℕ). compare_is_eq (compare_nats e x)) elements

-- [8.2] each sub of each element replaced, and the subs sorted
unfoldable pub renumber : (ℕ → ℕ) → Elements → Elements
renumber number = map (λ (e : List ℕ). sort_nats (map number e))

-- [8.2] The elements of this rank, whose subs are sorted already, are sorted; the next rank is renumbered, and so
-- on. The last rank keeps its order.
unfoldable pub sort_ranks : Elements → List Elements → List Elements
sort_ranks elements [] = elements ∷ []
sort_ranks elements (next ∷ more) =
    let sorted = sort_by compare_nats elements in
    sorted ∷ sort_ranks (renumber (λ (i : ℕ). number_in sorted (get_or elements i [])) next) more

-- [8.2] `element_sort_strong`: the subs of rank 2 are sorted, then the ranks from 2 on
unfoldable pub sort_strong : Figure → Figure
sort_strong [] = []
sort_strong (empty ∷ []) = empty ∷ []
sort_strong (empty ∷ points ∷ []) = empty ∷ points ∷ []
sort_strong (empty ∷ points ∷ edges ∷ more) = empty ∷ points ∷ sort_ranks (map sort_nats edges) more

-- [8.3] a figure with its edge ends sent elsewhere, its other ranks kept
unfoldable pub move_ends : (ℕ → ℕ) → Figure → Figure
move_ends to [] = []
move_ends to (empty ∷ []) = empty ∷ []
move_ends to (empty ∷ points ∷ []) = empty ∷ points ∷ []
move_ends to (empty ∷ points ∷ edges ∷ more) = empty ∷ points ∷ map (map to) edges ∷ more

-- ---- the figure of a split list

-- [8.4] the edge 0–1
unfoldable pub dyad : Figure
dyad = ([] ∷ []) ∷ ((0 ∷ []) ∷ (0 ∷ []) ∷ []) ∷ ((0 ∷ 1 ∷ []) ∷ []) ∷ []

-- [8.5] the elements of the lowest rank of all facets, equal ones once
unfoldable pub lowest_ranks : List (List Elements) → Elements
lowest_ranks facets = fresh compare_nats [] (flat_map (λ (ranks : List Elements). get_or ranks 0 []) facets)

-- [8.5] one facet without its lowest rank, the next rank naming elements by their number in the whole figure
unfoldable pub without_lowest : Elements → List Elements → List Elements
without_lowest elements [] = []
without_lowest elements (lowest ∷ []) = []
without_lowest elements (lowest ∷ next ∷ more) =
    renumber (λ (i : ℕ). number_in elements (get_or lowest i [])) next ∷ more

-- [8.5] the ranks of the figure from the edges up, from those of its facets; `more` is the figure's rank − 3
unfoldable pub assemble : ℕ → List (List Elements) → List Elements
assemble zero facets = let elements = lowest_ranks facets in elements ∷ (count_from 0 (length elements) ∷ []) ∷ []
assemble (suc more) facets =
    let elements = lowest_ranks facets in
    elements ∷ assemble more (map (without_lowest elements) facets)

-- [8.5] the figure of facets, with n points
unfoldable pub figure_of : ℕ → ℕ → List Figure → Figure
figure_of more n facets = sort_strong (([] ∷ []) ∷ replicate n (0 ∷ []) ∷ assemble more (map (drop 2) facets))

-- ---- splitting

-- [8.8] entry `whole` is a compound of entries `first` and `second`
pub record Compound : Type 0 where
  pub whole : ℕ
  pub first : ℕ
  pub second : ℕ

-- [8.6] the two components of a compound
unfoldable pub components_of : List Compound → ℕ → Option Pair
components_of [] a = None
components_of (c ∷ cs) a = let later = components_of cs a in cond (eqb a c.whole) (Some (c.first, c.second)) later

-- [8.6] The first number of the queue is a part, or is taken away and its two components go to the end. `steps`
-- bounds how long.
unfoldable pub split_queue : ℕ → List Compound → List ℕ → List ℕ
split_queue zero compounds queue = queue
split_queue (suc steps) compounds [] = []
split_queue (suc steps) compounds (a ∷ queue) = elim (components_of compounds a) [
  | None ↦ a ∷ split_queue steps compounds queue
  | Some parts ↦ split_queue steps compounds (queue ++ (parts.0 ∷ parts.1 ∷ []))
]

-- [8.6] The parts of one facet, whose own list has the given length. Two components have lists that are not empty
-- and together make up the compound's list, so the parts are no more than the items of that list, and twice as many
-- steps end the splitting.
unfoldable pub parts_of : List Compound → ℕ → ℕ → List ℕ
parts_of compounds items a = split_queue (2 * items) compounds (a ∷ [])

-- ---- the compound map

-- [8.7] an item in front of the rest, where there is one
unfoldable pub cons_in : {A : Type 0} → A → Option (List A) → Option (List A)
cons_in x None = None
cons_in x (Some xs) = Some (x ∷ xs)

-- [8.8] b and c, where there is a c
unfoldable pub with_second : ℕ → Option ℕ → Option Pair
with_second b None = None
with_second b (Some c) = Some (b, c)

-- [8.8] the triple of entry a, where it has a label
unfoldable pub compound_at : ℕ → Option Pair → List Compound
compound_at a None = []
compound_at a (Some p) = record { whole = a; first = p.0; second = p.1 } ∷ []

-- [8.8] the triples of the entries from a on, by their labels
unfoldable pub compounds_from : ℕ → List (Option Pair) → List Compound
compounds_from a [] = []
compounds_from a (label ∷ labels) = compound_at a label ++ compounds_from (suc a) labels

-- ---- `label_irc`: lists of items of any kind, in the order that `c` gives

module _ {A : Type 0} (c : A → A → Ordering) where
  -- [8.7] The walk of the second list through the first: an item below the next one sought is kept over, an equal one
  -- is used up with it, one above ends the walk. The value is the rest.
  unfoldable pub walk : List A → List A → Option (List A)
  walk [] [] = Some []
  walk [] (y ∷ ys) = None
  walk (x ∷ xs) [] = Some (x ∷ xs)
  walk (x ∷ xs) (y ∷ ys) = elim (c x y) [
    | Ordering.lt ↦ cons_in x (walk xs (y ∷ ys))
    | Ordering.eq ↦ walk xs ys
    | Ordering.gt ↦ None
  ]

  -- [8.7] b's first item is above a's
  unfoldable pub first_above : List A → List A → Bool
  first_above [] a = false
  first_above (y ∷ ys) [] = false
  first_above (y ∷ ys) (x ∷ xs) = is_gt (c y x)

  -- [8.7] the rest of a, where b is found inside it
  unfoldable pub found_inside : List A → List A → Option (List A)
  found_inside a b = cond (ltb (length b) (length a) && not (first_above b a)) (walk a b) None

  -- [8.8] the place of the first list that equals this one, counted from k
  unfoldable pub seek : List A → List (List A) → ℕ → Option ℕ
  seek items [] k = None
  seek items (l ∷ ls) k =
      let later = seek items ls (suc k) in
      cond (compare_is_eq (compare_list c items l)) (Some k) later

  -- [8.8] The first list found inside these items decides: with a second component behind it there is a label,
  -- without one there is none. The lists are those from place b on.
  unfoldable pub label_from : List A → List (List A) → ℕ → Option Pair
  label_from items [] b = None
  label_from items (l ∷ ls) b = elim (found_inside items l) [
    | None ↦ label_from items ls (suc b)
    | Some rest ↦ with_second b (seek rest ls (suc b))
  ]

  -- [8.8] for each list its label: the places of the two that it is made of
  unfoldable pub labels_of : List (List A) → List (Option Pair)
  labels_of lists = map (λ (items : List A). label_from items lists 0) lists

  -- [8.8] `label_irc`: the compounds among sorted lists, ascending
  unfoldable pub label_irc : List (List A) → List Compound
  label_irc lists = compounds_from 0 (labels_of lists)
