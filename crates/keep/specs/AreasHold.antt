-- The areas of a layout while they are filled: what each of them holds, and what each step of storing adds. Leans on
-- Storing and on the layout.
use Rattle.std.specs.Prelude.{◌≡◌, ◌⊎◌, ℕ, ◌+◌, ◌*◌, ◌-◌, ◌≤◌, ◌<◌}
use Rattle.std.proofs.Math.Path.{ap}
use Rattle.std.proofs.Common.{◌∙◌, inl, inr, arith}
use mathlib.Core.List.{List, [], ◌∷◌, ◌++◌, map, map-append}
use Rattle.std.specs.Prelude.{Option}
use Rattle.std.proofs.Math.ListN.{length, length-append}
use Rattle.definitions.specs.Lists.{Pair}
use Rattle.laws.specs.Segments.{part, part_length}
use Rattle.words.specs.Words.{words, put, put_length, words_push, part_put_in, part_put_off}
use Rattle.labels.specs.Labels.{label_of, labels_in}
use Rattle.layout.specs.declared.KeptLayout.{KeptLayout}
use Rattle.layout.specs.Keeps.{Lists, LayoutFits, edges_part, labels_part, owners_part, ridges_part, places_part}
use Rattle.keep.specs.Storing.{Beside, beside_both, beside_wider, beside_part, beside_put, Stored}

-- the areas hold these lists of edges, labels, owners, ridges and places
pub record AreasHold (layout : KeptLayout) (edges : List (List ℕ)) (labels : List (Option Pair)) (owners : List ℕ)
    (ridges places : List (List ℕ)) (s : List ℕ) : Type 0 where
  pub fits : LayoutFits layout (length s)
  pub edges_are : Lists 2 1024 (edges_part layout s) edges
  pub labels_are : labels_in 0 (length labels) (labels_part layout s) ≡ labels
  pub owners_are : words 2 (owners_part layout s) (length owners) ≡ owners
  pub ridges_are : Lists 4 256 (ridges_part layout s) ridges
  pub places_are : Lists 2 1024 (places_part layout s) places

-- only the kept areas are written, and not the orbits found
abbrev pub KeptWritten : KeptLayout → List ℕ → List ℕ → Type 0
KeptWritten layout s t = Beside layout.edges (layout.end - layout.edges) s t

module _ {layout : KeptLayout} {edges : List (List ℕ)} {labels : List (Option Pair)} {owners : List ℕ}
    {ridges places : List (List ℕ)} {s : List ℕ} (k : AreasHold layout edges labels owners ridges places s) where
  abbrev f : LayoutFits layout (length s)
  f = k.fits

  -- one list more in a pool
  pub areas_hold_edges : {t l : List ℕ} → Stored 2 1024 layout.edges (layout.labels - layout.edges) s t l
      → AreasHold layout (edges ++ (l ∷ [])) labels owners ridges places t
  areas_hold_edges {t} {l} r =
      let b = r.beside in
      let off : (a e : ℕ) → layout.labels ≤ a → part a (e - a) t
      ≡ part a (e - a) s = λ a e h. beside_part b a (e - a) (inr (omega (arith, f.edge_room))) in
      record {
        fits = rw b.long f;
        edges_are = r.more edges k.edges_are;
        labels_are = rw (off layout.labels layout.owners (omega arith)) k.labels_are;
        owners_are = rw (off layout.owners layout.ridges (omega (arith, f.label_room))) k.owners_are;
        ridges_are = rw (off layout.ridges layout.places (omega (arith, f.label_room, f.owner_room))) k.ridges_are;
        places_are =
            rw (off layout.places layout.end (omega (arith, f.label_room, f.owner_room, f.ridge_room))) k.places_are;
      }

  pub areas_hold_ridges : {t l : List ℕ} → Stored 4 256 layout.ridges (layout.places - layout.ridges) s t l
      → AreasHold layout edges labels owners (ridges ++ (l ∷ [])) places t
  areas_hold_ridges {t} {l} r =
      let b = r.beside in
      let before : (a e : ℕ) → a ≤ e → e ≤ layout.ridges
      → part a (e - a) t ≡ part a (e - a) s = λ a e h g. beside_part b a (e - a) (inl (omega arith)) in
      record {
        fits = rw b.long f;
        edges_are =
            rw (before layout.edges layout.labels (omega (arith, f.edge_room)) (omega (
              arith,
              f.label_room,
              f.owner_room,
            ))) k.edges_are;
        labels_are =
            rw (before layout.labels layout.owners (omega (arith, f.label_room)) (omega (arith, f.owner_room)))
            k.labels_are;
        owners_are = rw (before layout.owners layout.ridges (omega (arith, f.owner_room)) (omega arith)) k.owners_are;
        ridges_are = r.more ridges k.ridges_are;
        places_are =
            rw (beside_part b layout.places (layout.end - layout.places) (inr (omega (arith, f.ridge_room))))
            k.places_are;
      }

  pub areas_hold_places : {t l : List ℕ} → Stored 2 1024 layout.places (layout.end - layout.places) s t l
      → AreasHold layout edges labels owners ridges (places ++ (l ∷ [])) t
  areas_hold_places {t} {l} r =
      let b = r.beside in
      let before : (a e : ℕ) → a ≤ e → e ≤ layout.places
      → part a (e - a) t ≡ part a (e - a) s = λ a e h g. beside_part b a (e - a) (inl (omega arith)) in
      record {
        fits = rw b.long f;
        edges_are =
            rw (before layout.edges layout.labels (omega (arith, f.edge_room)) (omega (
              arith,
              f.label_room,
              f.owner_room,
              f.ridge_room,
            ))) k.edges_are;
        labels_are =
            rw (before layout.labels layout.owners (omega (arith, f.label_room)) (omega (
              arith,
              f.owner_room,
              f.ridge_room,
            ))) k.labels_are;
        owners_are =
            rw (before layout.owners layout.ridges (omega (arith, f.owner_room)) (omega (arith, f.ridge_room)))
            k.owners_are;
        ridges_are = rw (before layout.ridges layout.places (omega (arith, f.ridge_room)) (omega arith)) k.ridges_are;
        places_are = r.more places k.places_are;
      }

  -- a facet's label and its owner
  module _ (x label owner : ℕ) (at-labels : length labels ≡ x) (at-owners : length owners ≡ x) (few : x < 1024)
      (label-fits : label < 4294967296) (owner-fits : owner < 65536) where
    abbrev lab : List ℕ
    lab = put 4 s (layout.labels + 4 * x) label

    abbrev both : List ℕ
    both = put 2 lab (layout.owners + 2 * x) owner

    both_long : length both ≡ length s
    both_long = put_length 2 lab (layout.owners + 2 * x) owner ∙ put_length 4 s (layout.labels + 4 * x) label

    -- an area before the labels or behind the owners
    off : (a n : ℕ) → (a + n ≤ layout.labels) ⊎ (layout.ridges ≤ a) → part a n both ≡ part a n s
    off a n (inl h) =
        part_put_off 2 lab (layout.owners + 2 * x) owner a n (inl (omega (arith, f.label_room)))
        ∙ part_put_off 4 s (layout.labels + 4 * x) label a n (inl (omega arith))
    off a n (inr h) =
        part_put_off 2 lab (layout.owners + 2 * x) owner a n (inr (omega (arith, f.owner_room)))
        ∙ part_put_off 4 s (layout.labels + 4 * x) label a n (inr (omega (arith, f.label_room, f.owner_room)))

    labels_now : labels_in 0 (length (labels ++ (label_of label ∷ []))) (labels_part layout both)
        ≡ labels ++ (label_of label ∷ [])
    unfolding labels_in
    labels_now =
        let room = layout.owners - layout.labels in
        let n : length (labels ++ (label_of label ∷ [])) ≡ x + 1 = length-append labels (label_of label ∷ [])
        ∙ ap (λ (i : ℕ). i + 1) at-labels in
        let p : labels_part layout both ≡ put 4 (labels_part layout s) (4 * x) label =
        part_put_off 2 lab (layout.owners + 2 * x) owner layout.labels room (inl (omega (arith, f.label_room)))
        ∙ part_put_in 4 s layout.labels room (4 * x) label (omega (arith, f.label_room)) in
        let long : length (labels_part layout s) ≡ room = part_length layout.labels room s
        (omega (arith, f.label_room, f.owner_room, f.ridge_room, f.place_room, f.ends)) in
        let old : map label_of (words 4 (labels_part layout s) x) ≡ labels = rw at-labels at k.labels_are in
        rw (n, p, words_push 4 (labels_part layout s) x label (omega (arith, f.label_room, long)) (omega arith))
        (map-append label_of (words 4 (labels_part layout s) x) (label ∷ [])
        ∙ ap (λ (l : List (Option Pair)). l ++ (label_of label ∷ [])) old)

    owners_now : words 2 (owners_part layout both) (length (owners ++ (owner ∷ []))) ≡ owners ++ (owner ∷ [])
    owners_now =
        let room = layout.ridges - layout.owners in
        let n : length (owners ++ (owner ∷ [])) ≡ x + 1 = length-append owners (owner ∷ [])
        ∙ ap (λ (i : ℕ). i + 1) at-owners in
        let p : owners_part layout both ≡ put 2 (owners_part layout s) (2 * x) owner =
        part_put_in 2 lab layout.owners room (2 * x) owner (omega (arith, f.owner_room))
        ∙ ap (λ (r : List ℕ). put 2 r (2 * x) owner)
        (part_put_off 4 s (layout.labels + 4 * x) label layout.owners room (inr (omega (arith, f.label_room)))) in
        let long : length (owners_part layout s) ≡ room =
        part_length layout.owners room s (omega (arith, f.owner_room, f.ridge_room, f.place_room, f.ends)) in
        let old : words 2 (owners_part layout s) x ≡ owners = rw at-owners at k.owners_are in
        rw (n, p) (words_push 2 (owners_part layout s) x owner (omega (arith, f.owner_room, long)) (omega arith)
        ∙ ap (λ (l : List ℕ). l ++ (owner ∷ [])) old)

    pub areas_hold_facet : AreasHold layout edges (labels ++ (label_of label ∷ []))
        (owners ++ (owner ∷ [])) ridges places both
    areas_hold_facet = record {
      fits = rw both_long f;
      edges_are = rw (off layout.edges (layout.labels - layout.edges) (inl (omega (arith, f.edge_room)))) k.edges_are;
      labels_are = labels_now;
      owners_are = owners_now;
      ridges_are = rw (off layout.ridges (layout.places - layout.ridges) (inr (omega arith))) k.ridges_are;
      places_are = rw (off layout.places (layout.end - layout.places) (inr (omega (arith, f.ridge_room)))) k.places_are;
    }

-- a label and an owner are written in the kept areas only
pub put_within : (layout : KeptLayout) (s : List ℕ) (x label owner : ℕ) → LayoutFits layout (length s) → x < 1024
    → KeptWritten layout s (put 2 (put 4 s (layout.labels + 4 * x) label) (layout.owners + 2 * x) owner)
put_within layout s x label owner f h =
    let one : KeptWritten layout s (put 4 s (layout.labels + 4 * x) label) =
    beside_wider (beside_put 4 s (layout.labels + 4 * x) label) (omega (arith, f.edge_room))
    (omega (arith, f.edge_room, f.label_room, f.owner_room, f.ridge_room, f.place_room)) in
    beside_both one (beside_put 2 (put 4 s (layout.labels + 4 * x) label) (layout.owners + 2 * x) owner)
    (omega (arith, f.edge_room, f.label_room))
    (omega (arith, f.edge_room, f.label_room, f.owner_room, f.ridge_room, f.place_room))

-- what is stored in a pool is written in the kept areas only
module _ {layout : KeptLayout} {s t l : List ℕ} (f : LayoutFits layout (length s)) where
  pub edges_within : Stored 2 1024 layout.edges (layout.labels - layout.edges) s t l → KeptWritten layout s t
  edges_within r =
      beside_wider r.beside (omega arith)
      (omega (arith, f.edge_room, f.label_room, f.owner_room, f.ridge_room, f.place_room))

  pub ridges_within : Stored 4 256 layout.ridges (layout.places - layout.ridges) s t l → KeptWritten layout s t
  ridges_within r =
      beside_wider r.beside (omega (arith, f.edge_room, f.label_room, f.owner_room))
      (omega (arith, f.edge_room, f.label_room, f.owner_room, f.ridge_room, f.place_room))

  pub places_within : Stored 2 1024 layout.places (layout.end - layout.places) s t l → KeptWritten layout s t
  places_within r =
      beside_wider r.beside (omega (arith, f.edge_room, f.label_room, f.owner_room, f.ridge_room))
      (omega (arith, f.edge_room, f.label_room, f.owner_room, f.ridge_room, f.place_room))

pub within_both : (layout : KeptLayout) {s t u : List ℕ} → KeptWritten layout s t → KeptWritten layout t u
    → KeptWritten layout s u
within_both layout p q = beside_both p q (omega arith) (omega arith)

-- the areas lie where they lay
pub fits_after : {layout : KeptLayout} {a n : ℕ} {s t : List ℕ} → LayoutFits layout (length s) → Beside a n s t
    → LayoutFits layout (length t)
fits_after f q = rw q.long f
