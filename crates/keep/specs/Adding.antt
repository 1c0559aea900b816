-- What is kept with one orbit more: what the areas must hold then, said as one list behind another. Leans on
-- AreasHold and on the layout.
use Rattle.std.specs.Prelude.{◌≡◌, refl, ℕ, suc, ◌+◌, ◌*◌, ◌≤◌, ◌<◌}
use Rattle.std.proofs.Math.Path.{sym, ap}
use Rattle.std.proofs.Common.{◌∙◌, arith, add-one}
use mathlib.Core.List.{List, [], ◌∷◌, ◌++◌, map, flat_map, map-append, append-nil, append_assoc}
use Rattle.std.specs.Prelude.{Option}
use Rattle.std.proofs.Math.ListN.{length, length-append}
use Rattle.std.proofs.lemmas.List.{length-map}
use Rattle.definitions.specs.Lists.{Pair, map_at, count_from}
use Rattle.definitions.specs.Job.{number_at}
use Rattle.definitions.specs.Figures.{components_of}
use Rattle.definitions.specs.Orbits.{Orbit}
use Rattle.definitions.specs.Search.{Facet}
use Rattle.laws.specs.Lists.{flat_map_append, count_length}
use Rattle.rows.specs.Codes.{pair_code}
use Rattle.orbits.specs.Numbers.{orbit_of}
use Rattle.orbits.specs.Workspace.{orbits_in, orbits_front}
use Rattle.shapes.specs.Kept.{Kept}
use Rattle.layout.specs.declared.KeptLayout.{KeptLayout}
use Rattle.layout.specs.Keeps.{Keeps, Ridges, LayoutFits, joined, facets_in, facets_of, owners_of, places_of, edges_of}
use Rattle.layout.specs.Keeps.{raised, labels_from, ridge_codes}
use Rattle.keep.specs.Storing.{beside_take}
use Rattle.keep.specs.AreasHold.{AreasHold, KeptWritten}

-- the layout with one orbit more, of so many facets
unfoldable pub with_facets : KeptLayout → ℕ → KeptLayout
with_facets layout more = record {
  orbits = layout.orbits + 1;
  facets = layout.facets + more;
  edges = layout.edges;
  labels = layout.labels;
  owners = layout.owners;
  ridges = layout.ridges;
  places = layout.places;
  end = layout.end;
}

-- the orbit at a place of the orbits' area
unfoldable pub orbit_at : List ℕ → ℕ → Pair
orbit_at s i = (number_at s (8 * i) 4, number_at s (8 * i + 4) 4)

-- a facet's components, in an orbit whose first facet has this number
unfoldable pub orbit_labels : ℕ → Kept → List (Option Pair)
orbit_labels first k = map (λ (f : ℕ). raised first (components_of k.compounds f)) (count_from 0 (facets_in k))

-- ---- lists over all facets

-- every facet, by orbit and number, the first orbit having this number
unfoldable pub facets_from : ℕ → List Kept → List Facet
facets_from a kept =
    joined (map_at (λ orbit (k : Kept). map (λ (f : ℕ). (orbit, f)) (count_from 0 (facets_in k))) a kept)

facets_last : (a : ℕ) (kept : List Kept) (k : Kept) → facets_from a (kept ++ (k ∷ []))
    ≡ facets_from a kept ++ map (λ (f : ℕ). (a + length kept, f)) (count_from 0 (facets_in k))
unfolding facets_from map_at flat_map
facets_last a [] k =
    let e : a ≡ a + 0 = omega arith in
    append-nil _ ∙ ap (λ (o : ℕ). map (λ (f : ℕ). (o, f)) (count_from 0 (facets_in k))) e
facets_last a (h ∷ kept) k =
    let e : suc a + length kept ≡ a + suc (length kept) = omega arith in
    let own : List Facet = map (λ (f : ℕ). (a, f)) (count_from 0 (facets_in h)) in
    ap (λ (l : List Facet). own ++ l) (facets_last (suc a) kept k
    ∙ ap (λ (o : ℕ). facets_from (suc a) kept ++ map (λ (f : ℕ). (o, f)) (count_from 0 (facets_in k))) e)
    ∙ sym (append_assoc own (facets_from (suc a) kept)
    (map (λ (f : ℕ). (a + suc (length kept), f)) (count_from 0 (facets_in k))))

pub facets_more : (kept : List Kept) (k : Kept)
    → facets_of (kept ++ (k ∷ [])) ≡ facets_of kept ++ map (λ (f : ℕ). (length kept, f)) (count_from 0 (facets_in k))
unfolding facets_of facets_from
facets_more kept k =
    let e : 0 + length kept ≡ length kept = omega arith in
    facets_last 0 kept k ∙ ap (λ (o : ℕ). facets_of kept ++ map (λ (f : ℕ). (o, f)) (count_from 0 (facets_in k))) e

pub facets_number : (kept : List Kept) (k : Kept)
    → length (facets_of (kept ++ (k ∷ []))) ≡ length (facets_of kept) + facets_in k
facets_number kept k =
    ap length (facets_more kept k)
    ∙ (length-append (facets_of kept) _ ∙ ap (λ (n : ℕ). length (facets_of kept) + n)
    (length-map (count_from 0 (facets_in k)) (λ (f : ℕ). (length kept, f)) ∙ count_length 0 (facets_in k)))

pub owners_more : (kept : List Kept) (k : Kept)
    → owners_of (kept ++ (k ∷ [])) ≡ owners_of kept ++ map (λ (f : ℕ). length kept) (count_from 0 (facets_in k))
unfolding owners_of
owners_more kept k =
    ap (map (λ (f : Facet). f.0)) (facets_more kept k)
    ∙ (map-append (λ (f : Facet). f.0) (facets_of kept) (map (λ (f : ℕ). (length kept, f)) (count_from 0 (facets_in k)))
    ∙ ap (λ (l : List ℕ). owners_of kept ++ l) (firsts (count_from 0 (facets_in k))))
  where
    firsts : (l : List ℕ)
        → map (λ (f : Facet). f.0) (map (λ (f : ℕ). (length kept, f)) l) ≡ map (λ (f : ℕ). length kept) l
    firsts [] = refl
    firsts (x ∷ l) = ap (λ (m : List ℕ). length kept ∷ m) (firsts l)

pub owners_length : (kept : List Kept) → length (owners_of kept) ≡ length (facets_of kept)
unfolding owners_of
owners_length kept = length-map (facets_of kept) (λ (f : Facet). f.0)

labels_length_from : (a first : ℕ) (kept : List Kept) → length (labels_from first kept) ≡ length (facets_from a kept)
unfolding labels_from facets_from map_at flat_map
labels_length_from a first [] = refl
labels_length_from a first (k ∷ kept) =
    let c = count_from 0 (facets_in k) in
    length-append (map (λ (f : ℕ). raised first (components_of k.compounds f)) c)
    (labels_from (first + facets_in k) kept)
    ∙ (omega (
      arith,
      length-map c (λ (f : ℕ). raised first (components_of k.compounds f)),
      length-map {B = Facet} c (λ (f : ℕ). (a, f)),
      labels_length_from (suc a) (first + facets_in k) kept,
    )
    ∙ sym (length-append (map (λ (f : ℕ). (a, f)) c) (facets_from (suc a) kept)))

pub labels_length : (kept : List Kept) → length (labels_from 0 kept) ≡ length (facets_of kept)
unfolding facets_of facets_from
labels_length kept = labels_length_from 0 0 kept

labels_last : (first : ℕ) (kept : List Kept) (k : Kept) → labels_from first (kept ++ (k ∷ []))
    ≡ labels_from first kept ++ orbit_labels (first + length (labels_from first kept)) k
unfolding labels_from orbit_labels
labels_last first [] k =
    let e : first ≡ first + 0 = omega arith in
    append-nil _
    ∙ ap (λ (o : ℕ). map (λ (f : ℕ). raised o (components_of k.compounds f)) (count_from 0 (facets_in k))) e
labels_last first (h ∷ kept) k =
    let own : List (Option Pair) =
    map (λ (f : ℕ). raised first (components_of h.compounds f)) (count_from 0 (facets_in h)) in
    let n : length own ≡ facets_in h = length-map (count_from 0 (facets_in h))
    (λ (f : ℕ). raised first (components_of h.compounds f)) ∙ count_length 0 (facets_in h) in
    let e : first + facets_in h + length (labels_from (first + facets_in h) kept)
    ≡ first + length (own ++ labels_from (first + facets_in h) kept) =
    omega (arith, n, length-append own (labels_from (first + facets_in h) kept)) in
    ap (λ (l : List (Option Pair)). own ++ l) (labels_last (first + facets_in h) kept k
    ∙ ap (λ (o : ℕ). labels_from (first + facets_in h) kept ++ orbit_labels o k) e)
    ∙ sym (append_assoc own (labels_from (first + facets_in h) kept)
    (orbit_labels (first + length (own ++ labels_from (first + facets_in h) kept)) k))

pub labels_more : (kept : List Kept) (k : Kept)
    → labels_from 0 (kept ++ (k ∷ [])) ≡ labels_from 0 kept ++ orbit_labels (length (facets_of kept)) k
labels_more kept k =
    let e : 0 + length (labels_from 0 kept) ≡ length (facets_of kept) = omega (arith, labels_length kept) in
    labels_last 0 kept k ∙ ap (λ (o : ℕ). labels_from 0 kept ++ orbit_labels o k) e

flat_last : {A B : Type 0} (f : A → List B) (l : List A) (x : A) → flat_map f (l ++ (x ∷ [])) ≡ flat_map f l ++ f x
unfolding flat_map
flat_last f l x = flat_map_append f l (x ∷ []) ∙ ap (λ m. flat_map f l ++ m) (append-nil (f x))

pub edges_more : (kept : List Kept) (k : Kept) → map (map pair_code) (edges_of (kept ++ (k ∷ [])))
    ≡ map (map pair_code) (edges_of kept) ++ map (map pair_code) k.edges
unfolding edges_of
edges_more kept k =
    ap (map (map pair_code)) (flat_last (λ (h : Kept). h.edges) kept k)
    ∙ map-append (map pair_code) (edges_of kept) k.edges

pub places_more : (kept : List Kept) (k : Kept) → places_of (kept ++ (k ∷ [])) ≡ places_of kept ++ k.places
unfolding places_of
places_more kept k = flat_last (λ (h : Kept). h.places) kept k

pub ridges_more : (kept : List Kept) (k : Kept)
    → map ridge_codes (kept ++ (k ∷ [])) ≡ map ridge_codes kept ++ (ridge_codes k ∷ [])
ridges_more kept k = map-append ridge_codes kept (k ∷ [])

-- ---- a layout that keeps has areas that hold it, and back

-- the areas hold what is kept of these orbits
abbrev pub AreasHoldKept : KeptLayout → List Kept → List ℕ → Type 0
AreasHoldKept layout kept s =
    AreasHold layout (map (map pair_code) (edges_of kept)) (labels_from 0 kept) (owners_of kept)
    (map ridge_codes kept) (places_of kept) s

pub areas_hold_with : {n : ℕ} {layout : KeptLayout} {kept : List Kept} {s : List ℕ} → Keeps n layout kept s
    → Ridges layout kept s → AreasHoldKept layout kept s
areas_hold_with {n} {layout} {kept} {s} k r =
    let l : length (labels_from 0 kept) ≡ layout.facets = labels_length kept ∙ sym k.facets in
    let o : length (owners_of kept) ≡ layout.facets = owners_length kept ∙ sym k.facets in
    record {
      fits = k.fits;
      edges_are = k.edges;
      labels_are = rw l k.labels;
      owners_are = rw o k.owners;
      ridges_are = r.ridges;
      places_are = r.places;
    }

-- what is added to each area, one list behind another
pub areas_hold_more : {layout : KeptLayout} {s : List ℕ} (kept : List Kept) (k : Kept)
    → AreasHold layout (map (map pair_code) (edges_of kept) ++ map (map pair_code) k.edges)
    (labels_from 0 kept ++ orbit_labels (length (facets_of kept)) k) (owners_of kept
    ++ map (λ (f : ℕ). length kept)
    (count_from 0 (facets_in k))) (map ridge_codes kept ++ (ridge_codes k ∷ [])) (places_of kept ++ k.places) s
    → AreasHoldKept layout (kept ++ (k ∷ [])) s
areas_hold_more kept k areas_held =
    rw (edges_more kept k, labels_more kept k, owners_more kept k, ridges_more kept k, places_more kept k) areas_held

-- the orbits found are as they were
orbits_same : {layout : KeptLayout} {s t : List ℕ} → LayoutFits layout (length s) → KeptWritten layout s t
    → (count : ℕ) → count ≤ 256 → orbits_in t count ≡ orbits_in s count
orbits_same {layout} {s} {t} f w count h =
    sym (orbits_front t 2048 count (omega arith))
    ∙ (ap (λ (r : List ℕ). orbits_in r count) (beside_take w 2048 f.orbit_room)
    ∙ orbits_front s 2048 count (omega arith))

module _ {n : ℕ} {layout : KeptLayout} {kept : List Kept} {s t : List ℕ} (keeps : Keeps n layout kept s)
    (k : Kept) where
  sets_more : KeptWritten layout s t → layout.orbits < 256 → k.orbit ≡ orbit_of n (orbit_at s layout.orbits)
      → map (orbit_of n) (orbits_in t (layout.orbits + 1)) ≡ map (λ (h : Kept). h.orbit) (kept ++ (k ∷ []))
  unfolding orbits_in orbit_at
  sets_more w few e =
      let i = layout.orbits in
      ap (map (orbit_of n)) (orbits_same keeps.fits w (i + 1) (omega arith) ∙ ap (orbits_in s) (add-one i))
      ∙ (map-append (orbit_of n) (orbits_in s i) (orbit_at s i ∷ [])
      ∙ (ap (λ (l : List Orbit). l ++ (orbit_of n (orbit_at s i) ∷ [])) keeps.sets
      ∙ (ap (λ (o : Orbit). map (λ (h : Kept). h.orbit) kept ++ (o ∷ [])) (sym e)
      ∙ sym (map-append (λ (h : Kept). h.orbit) kept (k ∷ [])))))

  -- where the areas hold one orbit more, the layout keeps one more
  pub kept_more : KeptWritten layout s t → layout.orbits < 256 → layout.facets + facets_in k ≤ 1024
      → k.orbit ≡ orbit_of n (orbit_at s layout.orbits) → AreasHoldKept layout (kept ++ (k ∷ [])) t
      → Keeps n (with_facets layout (facets_in k)) (kept ++ (k ∷ [])) t
      × Ridges (with_facets layout (facets_in k)) (kept ++ (k ∷ [])) t
  unfolding with_facets
  kept_more w few room e areas_held =
      let facets : layout.facets + facets_in k
      ≡ length (facets_of (kept ++ (k ∷ []))) = omega (arith, keeps.facets, facets_number kept k) in (
        record {
          fits = areas_hold_fits;
          orbits = omega (arith, keeps.orbits, length-append kept (k ∷ []));
          facets = facets;
          few_orbits = omega arith;
          few_facets = room;
          sets = sets_more w few e;
          edges = areas_held.edges_are;
          labels = rw (facets ∙ sym (labels_length (kept ++ (k ∷ [])))) areas_held.labels_are;
          owners = rw (facets ∙ sym (owners_length (kept ++ (k ∷ [])))) areas_held.owners_are;
        },
        record { ridges = areas_held.ridges_are; places = areas_held.places_are },
      )
    where
      areas_hold_fits : LayoutFits (with_facets layout (facets_in k)) (length t)
      areas_hold_fits = record {
        orbit_room = areas_held.fits.orbit_room;
        edge_room = areas_held.fits.edge_room;
        label_room = areas_held.fits.label_room;
        owner_room = areas_held.fits.owner_room;
        ridge_room = areas_held.fits.ridge_room;
        place_room = areas_held.fits.place_room;
        ends = areas_held.fits.ends;
      }
