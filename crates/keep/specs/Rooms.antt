-- Room in the kept areas for the lists of one orbit more (`ListRoom`), in plain numbers. Leans on Adding.
use Rattle.std.specs.Prelude.{◌≡◌, refl, ℕ, suc, ◌+◌, ◌*◌, ◌-◌, ◌≤◌, ◌<◌, length, get_or}
use Rattle.std.proofs.Common.{sym, ◌∙◌, arith, length-append}
use mathlib.Core.List.{List, [], ◌∷◌, map, flat_map}
use Rattle.std.specs.Prelude.{Option}
use Rattle.std.proofs.lemmas.List.{length-map}
use Rattle.definitions.specs.Lists.{Pair, count_from, map_at}
use Rattle.definitions.specs.Figures.{move_ends}
use Rattle.definitions.specs.Search.{Facet}
use Rattle.definitions.specs.Recursion.{Entry, Inner}
use Rattle.definitions.specs.Faceting.{possible_facets}
use Rattle.laws.specs.Lists.{Mem, here, there, count_length}
use Rattle.pool.specs.Pool.{base}
use Rattle.rows.specs.Codes.{pair_code}
use Rattle.shapes.specs.Polygons.{edge_pairs}
use Rattle.shapes.specs.Kept.{Kept, kept_of}
use Rattle.layout.specs.declared.KeptLayout.{KeptLayout}
use Rattle.layout.specs.Keeps.{LayoutFits, joined, facets_in, facets_of, places_of, edges_of, ridge_codes}
use Rattle.keep.specs.Storing.{ListRoom}
use Rattle.keep.specs.AreasHold.{AreasHold}
use Rattle.keep.specs.Adding.{facets_from}

-- room in the kept areas for one orbit more: so many facets, and so many edges, ridges and places in all
pub record RoomFor (layout : KeptLayout) (kept : List Kept) (facets edges ridges places : ℕ) : Type 0 where
  pub orbit_room : layout.orbits < 256
  pub facet_room : layout.facets + facets ≤ 1024
  pub evenly : (k : Kept) → Mem k kept → length k.edges ≡ facets_in k
  pub edge_room : base 1024 + 2 * (length (joined (edges_of kept)) + edges) ≤ layout.labels - layout.edges
  pub ridge_room : base 256 + 4 * (length (joined (map ridge_codes kept)) + ridges) ≤ layout.places - layout.ridges
  pub place_room : base 1024 + 2 * (length (joined (places_of kept)) + places) ≤ layout.end - layout.places
  pub small : layout.end < 4294967296

-- there are as many lists of edges as of places
pub kept_evenly : (i : Inner) → length (kept_of i).edges ≡ facets_in (kept_of i)
unfolding kept_of possible_facets
kept_evenly i =
    length-map (possible_facets i) edge_pairs
    ∙ (length-map i.answer.entries (λ (e : Entry). move_ends (λ (v : ℕ). get_or i.orbit.vertices v 0) e.figure)
    ∙ sym (length-map i.answer.entries (λ (e : Entry). map (λ (place : Pair). place.0) e.list)))

-- ---- how many lists and items there are

facets_sum : (a : ℕ) (kept : List Kept) → length (facets_from a kept) ≡ length (flat_map (λ (k : Kept). k.places) kept)
unfolding facets_from map_at flat_map
facets_sum a [] = refl
facets_sum a (k ∷ kept) =
    let own : List Facet = map (λ (f : ℕ). (a, f)) (count_from 0 (facets_in k)) in
    let n : length own ≡ facets_in k = length-map {B = Facet} (count_from 0 (facets_in k)) (λ (f : ℕ). (a, f))
    ∙ count_length 0 (facets_in k) in
    length-append own (facets_from (suc a) kept)
    ∙ (omega (arith, n, facets_sum (suc a) kept)
    ∙ sym (length-append k.places (flat_map (λ (h : Kept). h.places) kept)))

pub places_number : (kept : List Kept) → length (places_of kept) ≡ length (facets_of kept)
unfolding places_of facets_of facets_from
places_number kept = sym (facets_sum 0 kept)

edges_sum : (kept : List Kept) → ((k : Kept) → Mem k kept → length k.edges ≡ facets_in k)
    → length (flat_map (λ (k : Kept). k.edges) kept) ≡ length (flat_map (λ (k : Kept). k.places) kept)
unfolding flat_map
edges_sum [] h = refl
edges_sum (k ∷ kept) h =
    length-append k.edges (flat_map (λ (g : Kept). g.edges) kept)
    ∙ (omega (arith, h k (here refl), edges_sum kept (λ g m. h g (there m)))
    ∙ sym (length-append k.places (flat_map (λ (g : Kept). g.places) kept)))

pub edges_number : (kept : List Kept) → ((k : Kept) → Mem k kept → length k.edges ≡ facets_in k)
    → length (map (map pair_code) (edges_of kept)) ≡ length (facets_of kept)
unfolding edges_of places_of
edges_number kept h = length-map (edges_of kept) (map pair_code) ∙ (edges_sum kept h ∙ places_number kept)

pub codes_items : (ls : List (List Pair)) → length (joined (map (map pair_code) ls)) ≡ length (joined ls)
unfolding flat_map
codes_items [] = refl
codes_items (l ∷ ls) =
    length-append (map pair_code l) (joined (map (map pair_code) ls))
    ∙ (omega (arith, length-map l pair_code, codes_items ls) ∙ sym (length-append l (joined ls)))

-- ---- room in each pool

module _ {layout : KeptLayout} {edges : List (List ℕ)} {labels : List (Option Pair)} {owners : List ℕ}
    {ridges places : List (List ℕ)} {s : List ℕ} (k : AreasHold layout edges labels owners ridges places s)
    (small : layout.end < 4294967296) where
  abbrev f : LayoutFits layout (length s)
  f = k.fits

  pub room_edges : (items : ℕ) → length edges < 1024 → base 1024 + 2 * (length (joined edges) + items)
      ≤ layout.labels - layout.edges → ListRoom 2 1024 layout.edges (layout.labels - layout.edges) s items
  room_edges items few room = record {
    inside = omega (arith, f.edge_room, f.label_room, f.owner_room, f.ridge_room, f.place_room, f.ends);
    lists = edges;
    holds = k.edges_are;
    few = few;
    most_fits = omega arith;
    fits = room;
    small = omega (arith, f.label_room, f.owner_room, f.ridge_room, f.place_room);
  }

  pub room_ridges : (items : ℕ) → length ridges < 256 → base 256 + 4 * (length (joined ridges) + items)
      ≤ layout.places - layout.ridges → ListRoom 4 256 layout.ridges (layout.places - layout.ridges) s items
  room_ridges items few room = record {
    inside = omega (arith, f.ridge_room, f.place_room, f.ends);
    lists = ridges;
    holds = k.ridges_are;
    few = few;
    most_fits = omega arith;
    fits = room;
    small = omega (arith, f.place_room);
  }

  pub room_places : (items : ℕ) → length places < 1024 → base 1024 + 2 * (length (joined places) + items)
      ≤ layout.end - layout.places → ListRoom 2 1024 layout.places (layout.end - layout.places) s items
  room_places items few room = record {
    inside = omega (arith, f.place_room, f.ends);
    lists = places;
    holds = k.places_are;
    few = few;
    most_fits = omega arith;
    fits = room;
    small = omega arith;
  }
