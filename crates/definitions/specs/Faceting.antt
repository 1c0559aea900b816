-- The call, by recursion on the rank: docs/SPECIFICATION.md, chapter 9. In the Rust it is `faceting_subdim`. It
-- ties Orbits, Recursion, Search and Figures together.
use Rattle.std.specs.Prelude.{Bool, true, ltb, length, get_or}
use mathlib.Core.List.{List, [], map, flat_map}
use Prim.Native.Nat.{ℕ, zero, suc, Ordering}
use Rattle.definitions.specs.Lists.{compare_pair, compare_pairs, sort_by}
use Rattle.definitions.specs.Outcome.{Outcome, answered, and_then, refuse_if}
use Rattle.definitions.specs.Vectors.{Vec}
use Rattle.definitions.specs.Subspace.{Subspace, flatten}
use Rattle.definitions.specs.Orbits.{Row, Orbit, image, hyperplane_orbits}
use Rattle.definitions.specs.Figures.{Figure, move_ends, figure_of, parts_of, label_irc}
use Rattle.definitions.specs.Search.{Facet, Table, EntryLimits, Found, search}
use Rattle.definitions.specs.Recursion.{Rules, Entry, Answer, Call, Inner, InnerCalls, edge_call, inner_call}
use Rattle.definitions.specs.Recursion.{inner_calls, move_sorted, table_of}

-- [17.8] How a call goes about its work: which of its hyperplane orbits it keeps, and whether it extends closed
-- lists.
pub record Way : Type 0 where
  pub keeps : List Orbit → List Orbit
  pub extended : Bool

-- [9.1] the way of every call without a package: all orbits, and closed lists are extended
unfoldable pub plain_way : Way
plain_way = record { keeps = λ orbits. orbits; extended = true }

-- [9.1] What a call above rank 2 has before its search: its rank − 3, its number of points and its rows, its inner
-- calls, what is left of the budget, and whether closed lists are extended.
pub record Prepared : Type 0 where
  pub more : ℕ
  pub points : ℕ
  pub rows : List Row
  pub inner : List Inner
  pub left : ℕ
  pub extended : Bool

-- [9.1] the hyperplane orbits of a call above rank 2, whose points are flattened by its plane
unfoldable pub orbits_of : ℕ → Rules → Subspace → List Vec → List Row → List Orbit
orbits_of more rules plane points rows =
    hyperplane_orbits rules.tolerance rules.lengths rules.rule more points (map (flatten plane) points) rows

-- [9.1] From the orbits on: all of them not more than the bound, or 13, and the inner calls made on those that are
-- kept. `inner` makes one of them.
unfoldable pub prepare_from : Way → List Orbit → (Orbit → ℕ → Outcome Inner) → ℕ → Rules → ℕ → List Row → ℕ
    → Outcome Prepared
prepare_from way orbits inner more rules n rows budget =
    refuse_if (ltb rules.bounds.orbits (length orbits)) 13 (λ u.
    and_then (inner_calls inner rules.bounds.facets (way.keeps orbits) 0 budget) (λ (done : InnerCalls).
    answered (record {
      more = more;
      points = n;
      rows = rows;
      inner = done.calls;
      left = done.left;
      extended = way.extended;
    })))

-- [9.1] A call up to its search: its orbits are found and the inner calls made. `call` is the call of the rank below.
unfoldable pub prepare_with : Way → ℕ → Rules → Call → Subspace → List Vec → List Row → ℕ → Outcome Prepared
prepare_with way more rules call plane points rows =
    let inner = inner_call (suc more) rules call (map (flatten plane) points) rows in
    prepare_from way (orbits_of more rules plane points rows) inner more rules (length points) rows

-- [9.1] the plain call up to its search
unfoldable pub prepare : ℕ → Rules → Call → Subspace → List Vec → List Row → ℕ → Outcome Prepared
prepare = prepare_with plain_way

-- [9.1] the table that the call searches
unfoldable pub table_for : Prepared → Table
table_for p = table_of p.rows p.inner

-- ---- entries

-- [9.2] the figures of an inner call's entries, their edge ends moved to this call's vertices
unfoldable pub possible_facets : Inner → List Figure
possible_facets i = map (λ (e : Entry). move_ends (λ (v : ℕ). get_or i.orbit.vertices v 0) e.figure) i.answer.entries

-- [9.3] the parts of one facet, each with the facet's orbit
unfoldable pub split_in : Inner → Facet → List Facet
split_in i f =
    let items = length (get_or (map (λ (e : Entry). e.list) i.answer.entries) f.1 []) in
    map (λ (part : ℕ). (f.0, part)) (parts_of i.answer.compounds items f.1)

-- [9.3] what is said of the orbit with a number, or nothing where there is none
unfoldable pub at_orbit : {A : Type 0} → (Inner → List A) → List Inner → ℕ → List A
at_orbit says inner orbit = get_or (map says inner) orbit []

-- [9.3] each facet of a list replaced by its parts, at its place
unfoldable pub split : Prepared → List Facet → List Facet
split p list = flat_map (λ (f : Facet). at_orbit (λ (i : Inner). split_in i f) p.inner f.0) list

-- [9.4] the images of a facet under all rows
unfoldable pub facet_images : Prepared → Facet → List Figure
facet_images p f =
    let figure = get_or (at_orbit possible_facets p.inner f.0) f.1 [] in
    map (λ (row : Row). move_sorted (image row) figure) p.rows

-- [9.4] [9.5] the entry of a list: the list split, the list itself, and the figure of the split list
unfoldable pub entry_of : Prepared → List Facet → Entry
entry_of p list =
    let parts = split p list in
    record { list = parts; before = list; figure = figure_of p.more p.points (flat_map (facet_images p) parts) }

-- [9.5] by split list
unfoldable pub compare_entries : Entry → Entry → Ordering
compare_entries d e = compare_pairs d.list e.list

-- [9.5] an entry for each list emitted, sorted; equal split lists keep the order in which they were emitted
unfoldable pub entries_of : Prepared → List (List Facet) → List Entry
entries_of p lists = sort_by compare_entries (map (entry_of p) lists)

-- ---- the call

-- [9.1] the limits of the call's search
unfoldable pub entry_limits : Rules → Bool → EntryLimits
entry_limits rules extended = record { limit = rules.entry_limit; bound = rules.bounds.entries; extended = extended }

-- [9.6] the answer, once the search has ended
unfoldable pub finish : Prepared → Found → Answer
finish p found =
    let entries = entries_of p found.lists in
    record {
      counts = map (λ (i : Inner). i.orbit.count) p.inner;
      entries = entries;
      possible = map possible_facets p.inner;
      compounds = label_irc compare_pair (map (λ (e : Entry). e.list) entries);
      left = found.left;
    }

-- [9.1] the search of a call, with the budget that its inner calls left
unfoldable pub search_from : Rules → Prepared → Outcome Found
search_from rules p = search (table_for p) (entry_limits rules p.extended) p.left

-- [9.1] from the inner calls on: the search and the answer
unfoldable pub answer_from : Rules → Outcome Prepared → Outcome Answer
answer_from rules prepared = and_then prepared (λ (p : Prepared).
    and_then (search_from rules p) (λ (found : Found). answered (finish p found)))

-- [9.1] [1.2] The call of rank 2 + n: rank 2 looks at its rows, and any other rank makes its inner calls one rank
-- lower.
unfoldable pub faceting : ℕ → Rules → Call
faceting zero rules = edge_call
faceting (suc more) rules = λ plane points rows budget.
    answer_from rules (prepare more rules (faceting more rules) plane points rows budget)

-- [17.8] The call of rank 2 + n in a way of its own. Its inner calls are plain, and rank 2 has no orbits to keep.
unfoldable pub faceting_with : Way → ℕ → Rules → Call
faceting_with way zero rules = edge_call
faceting_with way (suc more) rules = λ plane points rows budget.
    answer_from rules (prepare_with way more rules (faceting more rules) plane points rows budget)
