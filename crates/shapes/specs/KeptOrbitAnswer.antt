-- The answer of a call is made of what it keeps of its inner calls and of the lists that its search found, at every
-- rank from 3 and whatever its ridges are kept as. Leans on KeptOrbits and NestedCalls.
use Rattle.std.specs.Prelude.{◌≡◌, refl, ℕ, zero, suc, ◌<◌}
use Rattle.std.proofs.Math.Path.{sym, ap}
use Rattle.std.proofs.Common.{◌∙◌, arith}
use mathlib.Core.List.{List, [], ◌∷◌, map, flat_map, map-map}
use Rattle.std.proofs.Math.ListN.{length, get_or}
use Rattle.std.proofs.lemmas.List.{length-map}
use Rattle.definitions.specs.Lists.{Pair, keep}
use Rattle.definitions.specs.Vectors.{Vec}
use Rattle.definitions.specs.Subspace.{Subspace}
use Rattle.definitions.specs.Orbits.{Row, image}
use Rattle.definitions.specs.Figures.{Figure, parts_of}
use Rattle.definitions.specs.Search.{Facet}
use Rattle.definitions.specs.Recursion.{Rules, Entry, Inner}
use Rattle.definitions.specs.Faceting.{Prepared, possible_facets, split_in, at_orbit, split, faceting}
use Rattle.laws.specs.Lists.{Mem, map_at_holds, in_flat_map, of_flat_map, flat_map_same}
use Rattle.laws.specs.Ascending.{in_order_ascends, in_in_order, seen_among}
use Rattle.laws.specs.Ranges.{in_order_kept}
use Rattle.shapes.specs.Answered.{Preparation}
use Rattle.shapes.specs.LowRanks.{inner_at, at_orbit_holds, facet_orbit}
use Rattle.shapes.specs.Calls.{Given}
use Rattle.shapes.specs.SplitCalls.{InCall}
use Rattle.shapes.specs.Nested.{Nested, compare_nested, nested_order, nested_in_order, move_nested}
use Rattle.shapes.specs.NestedFigures.{no_element, read_nested}
use Rattle.shapes.specs.NestedCalls.{facet_figure, facet_element, nested_images, nested_facets, facets_many}
use Rattle.shapes.specs.KeptOrbits.{KeptOrbit, number_over, keep_by, orbit_parts, orbit_facet, orbit_images}
use Rattle.shapes.specs.KeptOrbits.{orbit_facets}

module _ {K : Type 0} (send : (ℕ → ℕ) → K → K) (keys : Inner → List (List K)) (more : ℕ) where
  -- ridges by some keys, facets as elements
  abbrev pub keep_elements : Inner → KeptOrbit K (Nested more)
  keep_elements = keep_by send keys (λ (i : Inner). map (read_nested more) (possible_facets i))

  -- what is kept of an orbit that there is
  of_orbit_holds : {A : Type 0} (says : KeptOrbit K (Nested more) → List A) (inner : List Inner) (orbit : ℕ)
      → orbit < length inner
      → get_or (map says (map keep_elements inner)) orbit [] ≡ says (keep_elements (inner_at inner orbit))
  unfolding at_orbit
  of_orbit_holds {A} says inner orbit h =
      ap (λ (l : List (List A)). get_or l orbit []) (map-map says keep_elements inner)
      ∙ at_orbit_holds (λ (i : Inner). says (keep_elements i)) inner orbit h

  -- ---- split lists

  same_items : (number : Pair → ℕ) (entries : List Entry) (facet : ℕ)
      → length (get_or (map (λ (e : Entry). map number e.list) entries) facet [])
      ≡ length (get_or (map (λ (e : Entry). e.list) entries) facet [])
  same_items number [] facet = refl
  same_items number (e ∷ entries) zero = length-map e.list number
  same_items number (e ∷ entries) (suc facet) = same_items number entries facet

  parts_kept : (inner : List Inner) (f : Facet) → f.0 < length inner
      → orbit_parts (map keep_elements inner) f ≡ at_orbit (λ (i : Inner). split_in i f) inner f.0
  unfolding orbit_parts split_in keep_by
  parts_kept inner f h =
      let own = inner_at inner f.0 in
      let compounds : get_or (map (λ (k : KeptOrbit K (Nested more)). k.compounds) (map keep_elements inner)) f.0 []
      ≡ own.answer.compounds = of_orbit_holds (λ k. k.compounds) inner f.0 h in
      let items : length
      (get_or (get_or (map (λ (k : KeptOrbit K (Nested more)). k.places) (map keep_elements inner)) f.0 []) f.1 [])
      ≡ length (get_or (map (λ (e : Entry). e.list) own.answer.entries) f.1 []) =
      ap (λ (l : List (List ℕ)). length (get_or l f.1 [])) (of_orbit_holds (λ k. k.places) inner f.0 h) ∙ same_items
      (λ (place : Pair). number_over (map length (keys own)) place.0 place.1) own.answer.entries f.1 in
      (λ t. map (λ (part : ℕ). (f.0, part)) (parts_of (compounds t) (items t) f.1))
      ∙ sym (at_orbit_holds (λ (i : Inner). split_in i f) inner f.0 h)

  -- a list of facets of the call's orbits
  pub orbit_split : (p : Prepared) (list : List Facet) → ((f : Facet) → Mem f list → f.0 < length p.inner)
      → flat_map (orbit_parts (map keep_elements p.inner)) list ≡ split p list
  unfolding split
  orbit_split p list h =
      flat_map_same (orbit_parts (map keep_elements p.inner))
      (λ (f : Facet). at_orbit (λ (i : Inner). split_in i f) p.inner f.0) list (λ f m. parts_kept p.inner f (h f m))

  -- ---- figures

  pub orbit_facet_holds : (p : Prepared) (f : Facet) → InCall p f
      → orbit_facet more (map keep_elements p.inner) f ≡ facet_element more p f
  unfolding orbit_facet facet_element facet_figure keep_by
  orbit_facet_holds p f inside =
      let r = facet_orbit p.inner f inside in
      let own = inner_at p.inner f.0 in
      let many = facets_many own in
      let k = r.1 in
      ap (λ (l : List (Nested more)). get_or l f.1 (no_element more)) (of_orbit_holds (λ k. k.facets) p.inner f.0 r.0)
      ∙ map_at_holds (read_nested more) (possible_facets own) f.1 (no_element more) [] (omega arith)
      ∙ ap (λ (fs : List Figure). read_nested more (get_or fs f.1 []))
      (sym (at_orbit_holds possible_facets p.inner f.0 r.0))

  module _ (rules : Rules) (plane : Subspace) (points : List Vec) (rows : List Row) (given : Given points rows)
      (p : Prepared) (made : Preparation more rules (faceting more rules) plane points rows p) where
    abbrev kept : List (KeptOrbit K (Nested more))
    kept = map keep_elements p.inner

    -- the facets of a split list's figure
    pub facets_kept_holds : (parts : List Facet) → ((f : Facet) → Mem f parts → InCall p f)
        → nested_facets more p parts ≡ orbit_facets more rows kept parts
    unfolding nested_facets orbit_facets nested_images orbit_images
    facets_kept_holds parts inside =
        ap (nested_in_order more)
        (flat_map_same (nested_images more p) (orbit_images more p.rows kept) parts
        (λ f m. ap (λ (x : Nested more). map (λ (row : Row). move_nested (image row) more x) p.rows)
        (sym (orbit_facet_holds p f (inside f m))))
        ∙ ap (λ (l : List Row). flat_map (orbit_images more l kept) parts) made.rows_are)

-- the facets of a list among those of more: the images that the list has, in their order
pub facets_among : {K : Type 0} (more : ℕ) (rows : List Row) (kept : List (KeptOrbit K (Nested more)))
    (parts all : List Facet) → ((f : Facet) → Mem f parts → Mem f all)
    → orbit_facets more rows kept parts ≡ keep (λ (x : Nested more). seen_among (compare_nested more)
    (nested_order more) x (flat_map (orbit_images more rows kept) parts)) (orbit_facets more rows kept all)
unfolding orbit_facets
facets_among more rows kept parts all within =
    let images = flat_map (orbit_images more rows kept) parts in
    let more-images = flat_map (orbit_images more rows kept) all in
    in_order_kept (compare_nested more) (nested_order more) images (nested_in_order more more-images)
    (in_order_ascends (compare_nested more) (nested_order more) more-images)
    (λ x m.
    let r = of_flat_map (orbit_images more rows kept) x parts m in
    in_in_order (compare_nested more) (nested_order more) x more-images
    (in_flat_map (orbit_images more rows kept) x r.0 all (within r.0 r.1) r.2))
