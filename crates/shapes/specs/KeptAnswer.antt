-- The answer of a call of rank 3 or 4 is made of what it keeps of its inner calls and of the lists that its search
-- found. Leans on EntryFigures and KeptSizes.
use Rattle.std.specs.Prelude.{◌≡◌, refl, length, get_or}
use Rattle.std.proofs.Math.Path.{sym}
use Rattle.std.proofs.Common.{ap, ◌∙◌}
use mathlib.Core.List.{List, [], ◌∷◌, map, map-map}
use Prim.Native.Nat.{ℕ, zero, suc, ◌<◌}
use Rattle.definitions.specs.Lists.{Pair}
use Rattle.definitions.specs.Outcome.{answered}
use Rattle.definitions.specs.Figures.{rank_of}
use Rattle.definitions.specs.Search.{Facet, Found}
use Rattle.definitions.specs.Recursion.{Rules, Inner}
use Rattle.definitions.specs.Faceting.{Prepared, possible_facets, at_orbit, search_from}
use Rattle.laws.specs.Lists.{Mem}
use Rattle.shapes.specs.Emitted.{found_facet}
use Rattle.shapes.specs.LowRanks.{inner_at, at_orbit_holds, facet_orbit}
use Rattle.shapes.specs.Polygons.{edge_pairs}
use Rattle.shapes.specs.NestedCalls.{facet_figure}
use Rattle.shapes.specs.Kept.{Kept, kept_of, kept_at}

-- ---- what is kept of a facet

-- what is kept of an orbit that there is
pub kept_of_orbit : {A : Type 0} (says : Kept → List A) (inner : List Inner) (orbit : ℕ) → orbit < length inner
    → get_or (map says (map kept_of inner)) orbit [] ≡ says (kept_of (inner_at inner orbit))
unfolding at_orbit
kept_of_orbit {A} says inner orbit h =
    ap (λ (l : List (List A)). get_or l orbit []) (map-map says kept_of inner)
    ∙ at_orbit_holds (λ (i : Inner). says (kept_of i)) inner orbit h

pub kept_at_holds : {A : Type 0} (says : Kept → List (List A)) (inner : List Inner) (f : Facet) → f.0 < length inner
    → kept_at says (map kept_of inner) f ≡ get_or (says (kept_of (inner_at inner f.0))) f.1 []
unfolding kept_at
kept_at_holds {A} says inner f h = ap (λ (l : List (List A)). get_or l f.1 []) (kept_of_orbit says inner f.0 h)

-- a facet's edges, read off its figure: none where there is no such facet
pub kept_edges : (p : Prepared) (f : Facet)
    → kept_at (λ (k : Kept). k.edges) (map kept_of p.inner) f ≡ edge_pairs (facet_figure p f)
unfolding kept_at facet_figure at_orbit kept_of edge_pairs rank_of
kept_edges p f =
    ap (λ (l : List (List (List Pair))). get_or (get_or l f.0 []) f.1 [])
    (map-map (λ (k : Kept). k.edges) kept_of p.inner ∙ sym (map-map (map edge_pairs) possible_facets p.inner))
    ∙ ap (λ (l : List (List Pair)). get_or l f.1 []) (map_get (map edge_pairs) [] (map possible_facets p.inner) f.0)
    ∙ map_get edge_pairs [] (get_or (map possible_facets p.inner) f.0 []) f.1
  where
    map_get : {A B : Type 0} (g : A → B) (d : A) (l : List A) (i : ℕ) → get_or (map g l) i (g d) ≡ g (get_or l i d)
    map_get g d [] i = refl
    map_get g d (x ∷ l) zero = refl
    map_get g d (x ∷ l) (suc i) = map_get g d l i

-- ---- split lists

-- such are the lists that a search found
pub found_in_orbits : (rules : Rules) (p : Prepared) (found : Found) → search_from rules p ≡ answered found
    → (list : List Facet) → Mem list found.lists → (f : Facet) → Mem f list → f.0 < length p.inner
found_in_orbits rules p found is_found_holds list m f i =
    (facet_orbit p.inner f (found_facet rules p found is_found_holds list m f i)).0
