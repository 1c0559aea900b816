-- Every figure of every call is that of a nested set: entries, possible facets and ridges, by induction on the rank.
-- The figure of a list found is that of all row images of its split facets' elements, at every rank from 3. Leans on
-- NestedFigures, Calls and SplitCalls.
use Rattle.std.specs.Prelude.{◌≡◌, refl, length}
use mathlib.Core.List.{List, [], map, flat_map}
use Prim.Native.Nat.{ℕ, zero, suc, ◌<◌}
use Rattle.std.proofs.Math.ListN.{get_or}
use Rattle.std.proofs.lemmas.List.{length-map}
use Rattle.definitions.specs.Outcome.{answered}
use Rattle.definitions.specs.Vectors.{Vec}
use Rattle.definitions.specs.Subspace.{Subspace}
use Rattle.definitions.specs.Orbits.{Row, image}
use Rattle.definitions.specs.Figures.{Figure, rank_of, move_ends}
use Rattle.definitions.specs.Search.{Facet}
use Rattle.definitions.specs.Recursion.{Rules, Entry, Answer, Inner, vertex_ridge}
use Rattle.definitions.specs.Faceting.{Prepared, possible_facets, at_orbit, faceting}
use Rattle.laws.specs.Lists.{Mem}
use Rattle.shapes.specs.Answered.{facet_number}
use Rattle.shapes.specs.LowRanks.{inner_at}
use Rattle.shapes.specs.Calls.{Given}
use Rattle.shapes.specs.Nested.{Nested, nested_in_order, NestedSet, move_nested}
use Rattle.shapes.specs.NestedFigures.{nested_figure, Pointed, pointed_figure, read_nested, nested_read, nested_points}

-- ---- what is shown of an answer

-- a figure of rank 2 + k that is an element's
abbrev pub Nests : (n points k : ℕ) → Figure → Type 0
Nests n points k f = (x : Nested k) × (f ≡ nested_figure points k x) × NestedSet n k x

-- the points that stand in an entry's figure, of a call of rank 2 + more: at rank 2 its two ends
unfoldable pub entry_points : ℕ → ℕ → ℕ
entry_points zero n = 2
entry_points (suc more) n = n

-- the possible facets of a call of rank 2 + k, which are ridges of the call above: at rank 2 a vertex, and above an
-- element with the points that stand in its figure
abbrev pub Ridge : ℕ → Type 0
Ridge zero = ℕ
Ridge (suc k) = Pointed k

unfoldable pub ridge_figure : (k : ℕ) → Ridge k → Figure
ridge_figure zero v = vertex_ridge v
ridge_figure (suc k) x = pointed_figure k x

abbrev pub RidgeOn : (n k : ℕ) → Ridge k → Type 0
RidgeOn n zero v = v < n
RidgeOn n (suc k) x = NestedSet n k x.1

-- read off its figure
unfoldable pub read_ridge : (k : ℕ) → Figure → Ridge k
read_ridge zero f = get_or (get_or (rank_of 2 f) 0 []) 0 0
read_ridge (suc k) f = (length (rank_of 1 f), read_nested k f)

pub ridge_read : (n k : ℕ) (r : Ridge k) → RidgeOn n k r → read_ridge k (ridge_figure k r) ≡ r
unfolding read_ridge ridge_figure rank_of vertex_ridge
ridge_read n zero v h = refl
ridge_read n (suc k) x h =
    let points = nested_points x.0 k x.1 in
    let element = nested_read n x.0 k x.1 h in
    λ t. (points t, element t)

-- the answer of a call of rank 2 + more on n points
pub record NestedAnswer (n more : ℕ) (a : Answer) : Type 0 where
  pub entries : (e : Entry) → Mem e a.entries → Nests n (entry_points more n) more e.figure
  pub possible : (fs : List Figure) → Mem fs a.possible → (f : Figure) → Mem f fs
      → (r : Ridge more) × (f ≡ ridge_figure more r) × RidgeOn n more r

-- ---- facets

-- the figure of a facet; nothing where there is no such facet
unfoldable pub facet_figure : Prepared → Facet → Figure
facet_figure p f = get_or (at_orbit possible_facets p.inner f.0) f.1 []

-- its element, and the points that stand in its figure
unfoldable pub facet_element : (more : ℕ) → Prepared → Facet → Nested more
facet_element more p f = read_nested more (facet_figure p f)

abbrev pub facet_points : ℕ → Prepared → Facet → ℕ
facet_points more p f = entry_points more (length (inner_at p.inner f.0).orbit.vertices)

-- all row images of a facet's element
unfoldable pub nested_images : (more : ℕ) → Prepared → Facet → List (Nested more)
nested_images more p f = map (λ (row : Row). move_nested (image row) more (facet_element more p f)) p.rows

-- the facets of a list's figure, ascending
unfoldable pub nested_facets : (more : ℕ) → Prepared → List Facet → Nested (suc more)
nested_facets more p parts = nested_in_order more (flat_map (nested_images more p) parts)

-- an orbit has as many possible facets as the inner answer has entries
pub facets_many : (i : Inner) → length (possible_facets i) ≡ facet_number i
unfolding possible_facets
facets_many i = length-map i.answer.entries (λ (x : Entry). move_ends (λ (v : ℕ). get_or i.orbit.vertices v 0) x.figure)

-- what holds of the answers of one rank less
abbrev pub Below : ℕ → Rules → Type 0
Below more rules =
    (plane : Subspace) (points : List Vec) (rows : List Row) (budget : ℕ) (b : Answer) → Given points rows
    → faceting more rules plane points rows budget ≡ answered b
    → NestedAnswer (length points) more b
