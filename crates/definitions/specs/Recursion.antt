-- The recursion on the rank: docs/SPECIFICATION.md, chapter 6. What a call takes and gives, rank 2, the inner
-- calls, ridge orbits and shares. The call itself, which also searches and splits, is in Faceting.
-- Leans on Orbits, Figures and Search.
use Rattle.std.specs.Prelude.{Bool, cond, not, ℕ, ◌+◌, ◌*◌, ◌/◌, ltb, eqb, length, get_or, Float}
use mathlib.Core.List.{List, [], ◌∷◌, ◌++◌, map, zip_with}
use Rattle.std.specs.Prelude.{Option, Some, None}
use Rattle.std.proofs.Math.Dec.{compare_is_eq}
use Rattle.definitions.specs.Lists.{Pair, compare_nats, any_of, keep, fresh, place_of, map_with}
use Rattle.definitions.specs.Outcome.{Outcome, answered, and_then, refuse_if}
use Rattle.definitions.specs.Vectors.{Vec}
use Rattle.definitions.specs.Subspace.{Subspace, from_points}
use Rattle.definitions.specs.Orbits.{Row, Limits, Orbit, image, point_at, set_image}
use Rattle.definitions.specs.Figures.{Figure, Compound, compare_figures, move_ends, sort_strong, dyad}
use Rattle.definitions.specs.Search.{Facet, Share, Table}

-- ---- what a call takes and gives

-- [6.2] how many hyperplane orbits, possible facets and entries a call may have: past them it is refused with 13,
-- 15, 15
pub record Bounds : Type 0 where
  pub orbits : ℕ
  pub facets : ℕ
  pub entries : ℕ

-- [6.2] what is alike in all calls of a job; `rule` is that of crowded lines [5.8]
pub record Rules : Type 0 where
  pub tolerance : Float
  pub lengths : Limits
  pub entry_limit : Option ℕ
  pub bounds : Bounds
  pub rule : ℕ

-- [6.1] an entry: its split list, the list before splitting, as the search emitted it, and its figure
pub record Entry : Type 0 where
  pub list : List Facet
  pub before : List Facet
  pub figure : Figure

-- [6.1] an answer: the orbits' counts, the entries, each orbit's possible facets, the compound map, and what is
-- left of the budget
pub record Answer : Type 0 where
  pub counts : List ℕ
  pub entries : List Entry
  pub possible : List (List Figure)
  pub compounds : List Compound
  pub left : ℕ

-- [6.1] a call of some rank: from its plane, its points as passed, its rows and the budget to an outcome
abbrev pub Call : Type 0
Call = Subspace → List Vec → List Row → ℕ → Outcome Answer

-- ---- rank 2

-- [6.3] a possible facet of rank 2: no element, one element [0], one element that names its vertex
unfoldable pub vertex_ridge : ℕ → Figure
vertex_ridge v = [] ∷ ((0 ∷ []) ∷ []) ∷ ((v ∷ []) ∷ []) ∷ []

-- [6.3] some row carries 0 to 1: one orbit of two ends
unfoldable pub swapped_ends : ℕ → Answer
swapped_ends left = record {
  counts = 2 ∷ [];
  entries = record { list = (0, 0) ∷ []; before = (0, 0) ∷ []; figure = dyad } ∷ [];
  possible = (vertex_ridge 0 ∷ []) ∷ [];
  compounds = [];
  left = left;
}

-- [6.3] no row carries 0 to 1: two orbits of one end each
unfoldable pub separate_ends : ℕ → Answer
separate_ends left = record {
  counts = 1 ∷ 1 ∷ [];
  entries = record { list = (0, 0) ∷ (1, 0) ∷ []; before = (0, 0) ∷ (1, 0) ∷ []; figure = dyad } ∷ [];
  possible = (vertex_ridge 0 ∷ []) ∷ (vertex_ridge 1 ∷ []) ∷ [];
  compounds = [];
  left = left;
}

-- [6.3] the call of rank 2, which looks at its rows alone
unfoldable pub edge_call : Call
edge_call plane points rows budget =
    answered (cond (any_of (λ (row : Row). eqb 1 (image row 0)) rows) (swapped_ends budget) (separate_ends budget))

-- ---- the inner calls

-- [6.4] an orbit and the answer of the call on its first set
pub record Inner : Type 0 where
  pub orbit : Orbit
  pub answer : Answer

-- [6.5] a row that carries the set to itself
unfoldable pub keeps_set : List ℕ → Row → Bool
keeps_set vertices row = compare_is_eq (compare_nats (set_image vertices row) vertices)

-- [6.5] a row rewritten to places in the set
unfoldable pub row_within : List ℕ → Row → Row
row_within vertices row = map (λ (v : ℕ). place_of (eqb (image row v)) vertices) vertices

-- [6.5] the rows of an inner call, in order, with repeats
unfoldable pub rows_within : List ℕ → List Row → List Row
rows_within vertices rows = map (row_within vertices) (keep (keeps_set vertices) rows)

-- [6.4] The call on an orbit's first set, with its plane and its points, or 14. `wanted` is rank − 2, `call` the call
-- of rank − 1.
unfoldable pub call_on_set : ℕ → Call → List Row → Orbit → Subspace → List Vec → ℕ → Outcome Inner
call_on_set wanted call rows orbit plane points budget =
    refuse_if (not (eqb (length plane.basis) wanted)) 14 (λ u.
    and_then (call plane points (rows_within orbit.vertices rows) budget)
    (λ (a : Answer). answered (record { orbit = orbit; answer = a })))

-- [6.4] the points of that set, and the plane through them
unfoldable pub inner_call : ℕ → Rules → Call → List Vec → List Row → Orbit → ℕ → Outcome Inner
inner_call wanted rules call flat rows orbit =
    let points = map (point_at flat) orbit.vertices in
    call_on_set wanted call rows orbit (from_points rules.tolerance points) points

-- [6.6] the inner calls and what they left of the budget
pub record InnerCalls : Type 0 where
  pub calls : List Inner
  pub left : ℕ

-- [6.6] one orbit's call in front of the later ones
unfoldable pub before_these : Inner → InnerCalls → InnerCalls
before_these inner later = record { calls = inner ∷ later.calls; left = later.left }

-- [6.6] Orbit by orbit. As each call has returned its entries are counted with those before (`facets`), or 15; then
-- the next orbit is taken.
unfoldable pub inner_calls : (Orbit → ℕ → Outcome Inner) → ℕ → List Orbit → ℕ → ℕ → Outcome InnerCalls
inner_calls inner bound [] facets left = answered (record { calls = []; left = left })
inner_calls inner bound (orbit ∷ orbits) facets left =
    and_then (inner orbit left) (λ (i : Inner).
    let stored = facets + length i.answer.entries in
    refuse_if (ltb bound stored) 15 (λ u.
    and_then (inner_calls inner bound orbits stored i.answer.left)
    (λ (later : InnerCalls). answered (before_these i later))))

-- ---- ridges

-- [6.7] a ridge and the number of the ridge orbit that holds it
pub record Held : Type 0 where
  pub ridge : Figure
  pub orbit : ℕ

-- [6.7] the ridges held so far, and each ridge orbit's count
pub record RidgeOrbits : Type 0 where
  pub held : List Held
  pub counts : List ℕ

-- [6.7] before the first ridge
unfoldable pub no_ridges : RidgeOrbits
no_ridges = record { held = []; counts = [] }

-- [6.7] the number of the ridge orbit that holds a ridge
unfoldable pub held_by : Figure → List Held → Option ℕ
held_by ridge [] = None
held_by ridge (h ∷ hs) =
    let later = held_by ridge hs in
    cond (compare_is_eq (compare_figures ridge h.ridge)) (Some h.orbit) later

-- [6.7] a figure moved and sorted
unfoldable pub move_sorted : (ℕ → ℕ) → Figure → Figure
move_sorted to figure = sort_strong (move_ends to figure)

-- [6.7] a new ridge orbit holds those images of a ridge under the rows that no orbit holds yet; their number is its
-- count
unfoldable pub open_ridge_orbit : List Row → RidgeOrbits → Figure → RidgeOrbits
open_ridge_orbit rows known ridge =
    let number = length known.counts in
    let joining = fresh compare_figures (map (λ (h : Held). h.ridge) known.held)
    (map (λ (row : Row). move_sorted (image row) ridge) rows) in
    record {
      held = map (λ (r : Figure). record { ridge = r; orbit = number }) joining ++ known.held;
      counts = known.counts ++ (length joining ∷ []);
    }

-- [6.7] the number of the ridge orbit that holds the ridge, or that of the one it opens
unfoldable pub number_or_open : List Row → RidgeOrbits → Figure → Option ℕ → ℕ × RidgeOrbits
number_or_open rows known ridge (Some number) = (number, known)
number_or_open rows known ridge None = (length known.counts, open_ridge_orbit rows known ridge)

-- [6.7] a ridge of an inner answer, in this call's vertices and sorted, gets its number
unfoldable pub number_ridge : List Row → List ℕ → RidgeOrbits → Figure → ℕ × RidgeOrbits
number_ridge rows vertices known inner =
    let ridge = move_sorted (λ (v : ℕ). get_or vertices v 0) inner in
    number_or_open rows known ridge (held_by ridge known.held)

-- [6.7] for each orbit, for each of its inner orbits, for each ridge there, the number of its ridge orbit; they are
-- numbered in this order
unfoldable pub number_ridges : List Row → RidgeOrbits → List Inner → List (List (List ℕ)) × RidgeOrbits
number_ridges rows =
    map_with (λ known (i : Inner). map_with (map_with (number_ridge rows i.orbit.vertices)) known i.answer.possible)

-- ---- shares

-- [6.8] A place (a, b) is inner orbit a and ridge b of it. Its share: the count of the facet's orbit times the
-- inner count of a, divided by the count of the ridge orbit, rounded down.
unfoldable pub share_of : List ℕ → Inner → List (List ℕ) → Pair → Share
share_of ridgeCounts inner numbers place =
    let ridge = get_or (get_or numbers place.0 []) place.1 0 in
    (ridge, inner.orbit.count * get_or inner.answer.counts place.0 0 / get_or ridgeCounts ridge 0)

-- [6.8] the shares of each possible facet of an orbit, place by place
unfoldable pub facet_shares : List ℕ → Inner → List (List ℕ) → List (List Share)
facet_shares ridgeCounts inner numbers =
    map (λ (e : Entry). map (share_of ridgeCounts inner numbers) e.list) inner.answer.entries

-- [6.9] the table that a call searches
unfoldable pub table_of : List Row → List Inner → Table
table_of rows inner =
    let numbered = number_ridges rows no_ridges inner in
    let ridgeCounts = numbered.1.counts in
    record { shares = zip_with (facet_shares ridgeCounts) inner numbered.0; ridges = length ridgeCounts }
