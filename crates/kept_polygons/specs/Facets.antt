-- The facets of an orbit of a call of rank 4, stored one after another: what one adds to the areas, what some do, and
-- room for the next. Leans on AreasHold, Rooms and Reading.
use Rattle.std.specs.Prelude.{◌≡◌, refl, Bool, true, false, ℕ, zero, suc, ◌+◌, ◌*◌, ◌-◌, ◌/◌, ◌%◌, ◌≤◌, ◌<◌, get_or}
use Rattle.std.specs.Prelude.{take}
use Rattle.std.proofs.Math.Path.{sym, ap}
use Rattle.std.proofs.Common.{◌∙◌, subst, length-append, take_all, length-take-le}
use mathlib.Core.List.{List, [], ◌∷◌, ◌++◌, map, flat_map, append-nil, append_assoc, map-append}
use Rattle.std.specs.Prelude.{Option, None}
use native.Mathlib.Omega.{arith}
use Rattle.std.proofs.Math.ListN.{length, drop, length-map}
use Rattle.definitions.specs.Lists.{Pair, count_from}
use Rattle.definitions.specs.Job.{number_at}
use Rattle.laws.specs.Lists.{Mem, map_at_holds, member_at, flat_map_append, count_length}
use Rattle.laws.specs.Parts.{take_more}
use Rattle.words.specs.Words.{put, words, words_length, get_d_words, number_at_drop}
use Rattle.pool.specs.Pool.{base}
use Rattle.rows.specs.Rows.{rows_in}
use Rattle.order.specs.Areas.{lists_length}
use Rattle.labels.specs.Labels.{label_of, labels_in}
use Rattle.shapes.specs.Kept.{Kept}
use Rattle.layout.specs.declared.KeptLayout.{KeptLayout}
use Rattle.layout.specs.declared.Level.{Level}
use Rattle.layout.specs.Keeps.{LayoutFits, joined, raised}
use Rattle.layout.specs.Leaves.{lists_left}
use Rattle.keep.specs.Storing.{Stored, ListRoom, beside_drop, beside_self}
use Rattle.keep.specs.AreasHold.{AreasHold, KeptWritten, within_both, edges_within, places_within, areas_hold_edges}
use Rattle.keep.specs.AreasHold.{areas_hold_places, areas_hold_facet, put_within}
use Rattle.keep.specs.Rooms.{room_edges, room_places}
use Rattle.kept_polygons.specs.Labels.{label_some}
use Rattle.left_edges.specs.Marked.{marked_codes}
use Rattle.left_edges.specs.Polygons.{EdgesLeft}
use Rattle.left_edges.specs.Reading.{moved_code, HasVertex, PairHasVertices, marks_of, entry_below, count_append}
use Rattle.left_edges.specs.Reading.{lent_tail}
use Rattle.left_edges.proofs.Reading.{marked_below}

-- ---- what is read

-- a call of rank 3 has left its answer from a place on, and its n points have their vertices in a list
pub record Source (n m : ℕ) (inner : List Kept) (level : Level) (rows : List ℕ) (at : ℕ)
    (vertices s : List ℕ) : Type 0 where
  pub left : EdgesLeft n m inner level rows (drop at s)
  pub inside : at ≤ length s
  pub small : (p : ℕ) → p < n → HasVertex vertices p

-- an entry's facets, and its label
abbrev pub entry_at : Level → ℕ → List ℕ → ℕ → List ℕ
entry_at level at s k = get_or (lists_left level (drop at s)) k []

abbrev pub labels_left : Level → ℕ → List ℕ → List (Option Pair)
labels_left level at s = labels_in (level.bytes + 2048) level.count (drop level.lists (drop at s))

-- an entry's edges, moved, as codes
unfoldable pub codes_of : ℕ → ℕ → List ℕ → List Kept → List ℕ → List ℕ → List ℕ
codes_of n m rows inner vertices numbers =
    map (moved_code vertices) (marked_codes (marks_of (rows_in n m rows) inner numbers))

pub codes_many : (n m : ℕ) (rows : List ℕ) (inner : List Kept) (vertices numbers : List ℕ)
    → length (codes_of n m rows inner vertices numbers)
    ≡ length (marked_codes (marks_of (rows_in n m rows) inner numbers))
unfolding codes_of
codes_many n m rows inner vertices numbers =
    length-map (marked_codes (marks_of (rows_in n m rows) inner numbers)) (moved_code vertices)

-- the answer lies behind what is kept, and stays as the kept areas are written
pub behind_same : (layout : KeptLayout) (at : ℕ) {s t : List ℕ} → layout.edges ≤ layout.end → layout.end ≤ at
    → KeptWritten layout s t → drop at t ≡ drop at s
behind_same layout at o h w = beside_drop w at (omega arith)

-- as it is lent to the end
pub within_lent : (layout : KeptLayout) (at : ℕ) {s t : List ℕ} → layout.edges ≤ layout.end → layout.end ≤ at
    → KeptWritten layout s t → take (length t - at) (drop at t) ≡ drop at s
within_lent layout at {s} {t} o h w = lent_tail at t ∙ behind_same layout at o h w

module _ {n m : ℕ} {inner : List Kept} {level : Level} {rows : List ℕ} {at : ℕ} {vertices s : List ℕ} where
  pub source_kept : (layout : KeptLayout) {t : List ℕ} → layout.edges ≤ layout.end → layout.end ≤ at
      → KeptWritten layout s t → Source n m inner level rows at vertices s → Source n m inner level rows at vertices t
  source_kept layout o h w src = record {
    left = rw (behind_same layout at o h w) src.left;
    inside = omega (arith, src.inside, w.long);
    small = src.small;
  }

  module _ (src : Source n m inner level rows at vertices s) (k : ℕ) (h : k < level.count) where
    -- a marked code is that of two points, whose vertices are small
    pub marked_small : (c : ℕ) → c < 400 → (marks : List Bool)
        → marks ≡ marks_of (rows_in n m rows) inner (entry_at level at s k) → get_or marks c false ≡ true
        → PairHasVertices vertices c
    marked_small c f marks e t =
        let r = marked_below n m rows inner (entry_at level at s k) src.left.rows_fit src.left.each
        (entry_below src.left k h) c f (rw e at t) in
        (src.small (c / 20) r.0, src.small (c % 20) r.1)

    -- the entry's label, read
    pub label_read : (label : ℕ) → label ≡ number_at (drop at s) (level.lists + (level.bytes + 2048 + 4 * k)) 4
        → get_or (labels_left level at s) k None ≡ label_of label
    unfolding labels_in
    label_read label e =
        let from = level.bytes + 2048 in
        let area = drop level.lists (drop at s) in
        let n = words_length 4 (drop from area) level.count in
        map_at_holds label_of (words 4 (drop from area) level.count) k None 0 (omega arith)
        ∙ ap label_of (get_d_words 4 (drop from area) level.count k h
        ∙ (number_at_drop area from (4 * k) 4 ∙ (number_at_drop (drop at s) level.lists (from + 4 * k) 4 ∙ sym e)))

    pub label_room_holds : level.lists + (level.bytes + 2048 + 4 * k) + 4 ≤ length (drop at s)
    label_room_holds = omega (arith, src.left.leaves.room)

    -- and it names entries
    pub label_small : (label : ℕ) → label ≡ number_at (drop at s) (level.lists + (level.bytes + 2048 + 4 * k)) 4
        → level.count ≤ 1024 → 65536 ≤ label → (label / 65536 < 1024) × (label % 65536 < 1024)
    unfolding labels_in
    label_small label e few g =
        let long : length (labels_left level at s) ≡ level.count =
        length-map (words 4 (drop (level.bytes + 2048) (drop level.lists (drop at s))) level.count) label_of
        ∙ words_length 4 (drop (level.bytes + 2048) (drop level.lists (drop at s))) level.count in
        let m = member_at (labels_left level at s) k None (omega arith) in
        let r = src.left.labelled (label % 65536, label / 65536)
        (subst (λ (o : Option Pair). Mem o (labels_left level at s)) (label_read label e ∙ label_some label g) m) in
        let low = r.0 in
        let high = r.1 in
        (omega arith, omega arith)

-- ---- one facet stored

-- t is s with facet k of the orbit: its edges, its label, its places, and its orbit
pub record FacetStored (layout : KeptLayout) (k : ℕ) (codes : List ℕ) (label : Option Pair)
    (list s t : List ℕ) : Type 0 where
  pub within : KeptWritten layout s t
  pub areas_hold : (edges : List (List ℕ)) (labels : List (Option Pair)) (owners : List ℕ)
      (ridges places : List (List ℕ)) → AreasHold layout edges labels owners ridges places s
      → length labels ≡ layout.facets + k → length owners ≡ layout.facets + k
      → AreasHold layout (edges ++ (codes ∷ [])) (labels ++ (label ∷ [])) (owners ++ (layout.orbits ∷ [])) ridges
      (places ++ (list ∷ [])) t

pub facet_stored : (layout : KeptLayout) (k label : ℕ) (codes list s t u v : List ℕ) (is : Option Pair)
    → LayoutFits layout (length s) → layout.orbits < 256 → layout.facets + k < 1024 → label < 4294967296
    → label_of label ≡ is
    → Stored 2 1024 layout.edges (layout.labels - layout.edges) s t codes
    → Stored 2 1024 layout.places (layout.end - layout.places) t u list
    → v ≡ put 2 (put 4 u (layout.labels + 4 * (layout.facets + k)) label)
    (layout.owners + 2 * (layout.facets + k)) layout.orbits
    → FacetStored layout k codes is list s v
facet_stored layout k label codes list s t u v is f o h small e a p q =
    let ft : LayoutFits layout (length t) = rw a.beside.long f in
    let fu : LayoutFits layout (length u) = rw p.beside.long ft in
    rw q
    record {
      within =
          within_both layout (within_both layout (edges_within f a) (places_within ft p))
          (put_within layout u (layout.facets + k) label layout.orbits fu h);
      areas_hold = λ edges labels owners ridges places areas_held many same.
          rw (← e) (areas_hold_facet (areas_hold_places (areas_hold_edges areas_held a) p)
          (layout.facets + k) label layout.orbits many same h small (omega arith));
    }

-- ---- some facets stored

pub record FacetsStored (layout : KeptLayout) (k : ℕ) (codes : List (List ℕ)) (new : List (Option Pair))
    (lists : List (List ℕ)) (s t : List ℕ) : Type 0 where
  pub within : KeptWritten layout s t
  pub areas_hold : (edges : List (List ℕ)) (labels : List (Option Pair)) (owners : List ℕ)
      (ridges places : List (List ℕ)) → AreasHold layout edges labels owners ridges places s
      → length labels ≡ layout.facets → length owners ≡ layout.facets
      → AreasHold layout (edges ++ codes) (labels ++ new)
      (owners ++ map (λ (f : ℕ). layout.orbits) (count_from 0 k)) ridges (places ++ lists) t

pub facets_none : (layout : KeptLayout) (s : List ℕ) → FacetsStored layout 0 [] [] [] s s
unfolding count_from
facets_none layout s = record {
  within = beside_self layout.edges (layout.end - layout.edges) s;
  areas_hold =
      λ edges labels owners ridges places areas_held many same.
      rw (append-nil edges, append-nil labels, append-nil owners, append-nil places) areas_held;
}

one_owner : (x a : ℕ) → map (λ (f : ℕ). x) (count_from a 1) ≡ x ∷ []
unfolding count_from
one_owner x a = refl

owner_more : (layout : KeptLayout) (k : ℕ) → map (λ (f : ℕ). layout.orbits) (count_from 0 (k + 1))
    ≡ map (λ (f : ℕ). layout.orbits) (count_from 0 k) ++ (layout.orbits ∷ [])
owner_more layout k =
    ap (map (λ (f : ℕ). layout.orbits)) (count_append 0 k 1)
    ∙ (map-append (λ (f : ℕ). layout.orbits) (count_from 0 k) (count_from (0 + k) 1)
    ∙ ap (λ (l : List ℕ). map (λ (f : ℕ). layout.orbits) (count_from 0 k) ++ l) (one_owner layout.orbits (0 + k)))

module _ (layout : KeptLayout) (k : ℕ) (codes : List (List ℕ)) (new : List (Option Pair)) (lists : List (List ℕ))
    (s t u : List ℕ) where
  pub facets_next : k < length codes → k < length new → k < length lists
      → FacetsStored layout k (take k codes) (take k new) (take k lists) s t
      → FacetStored layout k (get_or codes k []) (get_or new k None) (get_or lists k []) t u
      → FacetsStored layout (k + 1) (take (k + 1) codes) (take (k + 1) new) (take (k + 1) lists) s u
  facets_next a b c g one = record {
    within = within_both layout g.within one.within;
    areas_hold = λ edges labels owners ridges places areas_held many same.
        let before = g.areas_hold edges labels owners ridges places areas_held many same in
        let m : length (labels ++ take k new) ≡ layout.facets + k =
        omega (arith, length-append labels (take k new), length-take-le k new (omega arith)) in
        let o : length (owners ++ map (λ (f : ℕ). layout.orbits) (count_from 0 k)) ≡ layout.facets + k =
        omega (
          arith,
          length-append owners (map (λ (f : ℕ). layout.orbits) (count_from 0 k)),
          length-map (count_from 0 k) (λ (f : ℕ). layout.orbits),
          count_length 0 k,
        ) in
        rw (
          take_more codes k [] a,
          take_more new k None b,
          take_more lists k [] c,
          owner_more layout k,
          ← (append_assoc edges (take k codes) (get_or codes k [] ∷ [])),
          ← (append_assoc labels (take k new) (get_or new k None ∷ [])),
          ← (append_assoc owners (map (λ (f : ℕ). layout.orbits) (count_from 0 k)) (layout.orbits ∷ [])),
          ← (append_assoc places (take k lists) (get_or lists k [] ∷ [])),
        )
        (one.areas_hold _ _ _ _ _ before m o);
  }

-- ---- room for the next

joined_both : (l m : List (List ℕ)) → length (joined (l ++ m)) ≡ length (joined l) + length (joined m)
joined_both l m = ap length (flat_map_append (λ (x : List ℕ). x) l m) ∙ length-append (joined l) (joined m)

pub joined_some : (l : List (List ℕ)) (k : ℕ) → k < length l
    → length (joined (take k l)) + length (get_or l k []) ≤ length (joined l)
unfolding flat_map
joined_some [] k h = absurd (omega arith)
joined_some (x ∷ l) zero h = omega (arith, length-append x (joined l))
joined_some (x ∷ l) (suc k) h =
    omega (arith, length-append x (joined l), length-append x (joined (take k l)), joined_some l k (omega arith))

module _ {layout : KeptLayout} {edges : List (List ℕ)} {labels : List (Option Pair)} {owners : List ℕ}
    {ridges places : List (List ℕ)} {s t : List ℕ} (areas_held : AreasHold layout edges labels owners ridges places s)
    (small : layout.end < 4294967296)
    (k : ℕ) (codes : List (List ℕ)) (new : List (Option Pair)) (lists : List (List ℕ))
    (many : length labels ≡ layout.facets) (same : length owners ≡ layout.facets)
    (g : FacetsStored layout k (take k codes) (take k new) (take k lists) s t) where
  pub next_edges : k < length codes → length edges + length codes ≤ 1024
      → base 1024 + 2 * (length (joined edges) + length (joined codes)) ≤ layout.labels - layout.edges
      → ListRoom 2 1024 layout.edges (layout.labels - layout.edges) t (length (get_or codes k []))
  next_edges h few room =
      let n = length-take-le k codes (omega arith) in
      let j = joined_some codes k h in
      room_edges (g.areas_hold edges labels owners ridges places areas_held many same) small
      (length (get_or codes k [])) (omega (arith, length-append edges (take k codes)))
      (omega (arith, joined_both edges (take k codes)))

  pub next_places : k < length lists → length places + length lists ≤ 1024
      → base 1024 + 2 * (length (joined places) + length (joined lists)) ≤ layout.end - layout.places
      → ListRoom 2 1024 layout.places (layout.end - layout.places) t (length (get_or lists k []))
  next_places h few room =
      let n = length-take-le k lists (omega arith) in
      let j = joined_some lists k h in
      room_places (g.areas_hold edges labels owners ridges places areas_held many same) small
      (length (get_or lists k [])) (omega (arith, length-append places (take k lists)))
      (omega (arith, joined_both places (take k lists)))

-- ---- the entries of an answer, one after another

module _ (layout : KeptLayout) (n m : ℕ) (inner : List Kept) (level : Level) (rows : List ℕ) (at : ℕ)
    (vertices s : List ℕ) where
  -- each entry's edges and its raised label
  abbrev pub all_codes : List (List ℕ)
  all_codes = map (codes_of n m rows inner vertices) (lists_left level (drop at s))

  abbrev pub all_labels : List (Option Pair)
  all_labels = map (raised layout.facets) (labels_left level at s)

  abbrev pub all_lists : List (List ℕ)
  all_lists = lists_left level (drop at s)

  -- the first k entries are stored
  pub record SoFar (k : ℕ) (t : List ℕ) : Type 0 where
    pub stored : FacetsStored layout k (take k all_codes) (take k all_labels) (take k all_lists) s t

  -- room for all of them
  pub record FacetsRoom : Type 0 where
    pub edges : List (List ℕ)
    pub labels : List (Option Pair)
    pub owners : List ℕ
    pub ridges : List (List ℕ)
    pub places : List (List ℕ)
    pub areas_held : AreasHold layout edges labels owners ridges places s
    pub small : layout.end < 4294967296
    pub labelled : length labels ≡ layout.facets
    pub owned : length owners ≡ layout.facets
    pub few_edges : length edges + level.count ≤ 1024
    pub few_places : length places + level.count ≤ 1024
    pub edge_room : base 1024 + 2 * (length (joined edges) + length (joined all_codes)) ≤ layout.labels - layout.edges
    pub place_room : base 1024 + 2 * (length (joined places) + length (joined all_lists)) ≤ layout.end - layout.places

  lists_long : length all_lists ≡ level.count
  lists_long = lists_length 1024 level.bytes level.count (drop level.lists (drop at s))

  codes_long : length all_codes ≡ level.count
  codes_long = length-map all_lists (codes_of n m rows inner vertices) ∙ lists_long

  pub labels_long : length (labels_left level at s) ≡ level.count
  unfolding labels_in
  labels_long =
      length-map (words 4 (drop (level.bytes + 2048) (drop level.lists (drop at s))) level.count) label_of
      ∙ words_length 4 (drop (level.bytes + 2048) (drop level.lists (drop at s))) level.count

  raised_long : length all_labels ≡ level.count
  raised_long = length-map (labels_left level at s) (raised layout.facets) ∙ labels_long

  pub so_far_none : SoFar 0 s
  so_far_none = record { stored = facets_none layout s }

  module _ {k : ℕ} {t : List ℕ} (g : SoFar k t) (h : k < level.count) (order : layout.edges ≤ layout.end)
      (behind : layout.end ≤ at) where
    -- what is read then is what was there
    same : drop at t ≡ drop at s
    same = behind_same layout at order behind g.stored.within

    codes_there : get_or all_codes k [] ≡ codes_of n m rows inner vertices (entry_at level at t k)
    codes_there =
        map_at_holds (codes_of n m rows inner vertices) all_lists k [] [] (omega (arith, lists_long))
        ∙ ap (λ (r : List ℕ). codes_of n m rows inner vertices (get_or (lists_left level r) k [])) (sym same)

    lists_there : get_or all_lists k [] ≡ entry_at level at t k
    lists_there = ap (λ (r : List ℕ). get_or (lists_left level r) k []) (sym same)

    label_there : get_or all_labels k None ≡ raised layout.facets (get_or (labels_left level at t) k None)
    label_there =
        map_at_holds (raised layout.facets) (labels_left level at s) k None None (omega (arith, labels_long))
        ∙ ap (λ (r : List ℕ). raised layout.facets
        (get_or (labels_in (level.bytes + 2048) level.count (drop level.lists r)) k None)) (sym same)

    pub so_far_next : {u : List ℕ}
        → FacetStored layout k (codes_of n m rows inner vertices (entry_at level at t k))
        (raised layout.facets (get_or (labels_left level at t) k None)) (entry_at level at t k) t u → SoFar (k + 1) u
    so_far_next {u} one =
        let one' : FacetStored layout k (get_or all_codes k []) (get_or all_labels k None)
        (get_or all_lists k []) t u = rw (codes_there, label_there, lists_there) one in
        record {
          stored = facets_next layout k all_codes all_labels all_lists s t u (omega (
            arith,
            codes_long,
          )) (omega (arith, raised_long)) (omega (arith, lists_long)) g.stored one';
        }

    pub so_far_rooms : FacetsRoom
        → ListRoom 2 1024 layout.edges (layout.labels - layout.edges) t
        (length (codes_of n m rows inner vertices (entry_at level at t k)))
        × ListRoom 2 1024 layout.places (layout.end - layout.places) t (length (entry_at level at t k))
    so_far_rooms r =
        let e = next_edges r.areas_held r.small k all_codes all_labels all_lists r.labelled r.owned g.stored
        (omega (arith, codes_long)) (omega (arith, codes_long, r.few_edges)) r.edge_room in
        let p = next_places r.areas_held r.small k all_codes all_labels all_lists r.labelled r.owned g.stored
        (omega (arith, lists_long)) (omega (arith, lists_long, r.few_places)) r.place_room in
        (rw codes_there at e, rw lists_there at p)

  pub so_far_end : {k : ℕ} {t : List ℕ} → SoFar k t → k ≡ level.count
      → FacetsStored layout level.count all_codes all_labels all_lists s t
  so_far_end {k} {t} g e =
      let a = take_all level.count all_codes (omega (arith, codes_long)) in
      let b = take_all level.count all_labels (omega (arith, raised_long)) in
      let c = take_all level.count all_lists (omega (arith, lists_long)) in
      let done : FacetsStored layout level.count (take level.count all_codes) (take level.count all_labels)
      (take level.count all_lists) s t = subst (λ (j : ℕ).
      FacetsStored layout j (take j all_codes) (take j all_labels) (take j all_lists) s t) e g.stored in
      rw (a, b, c) at done
