-- The components of an orbit's facets, raised by the number of facets kept before, and the number of a raised label.
-- Leans on tables of labels.
use Rattle.std.specs.Prelude.{◌≡◌, refl, List, [], ◌∷◌, map, length, get_or}
use Rattle.std.proofs.Common.{sym, ap, ◌∙◌, arith, eq-eqb, ne_eqb}
use Rattle.std.specs.Prelude.{Option, Some, None}
use Prim.Native.Nat.{ℕ, zero, suc, ◌+◌, ◌*◌, ◌/◌, ◌%◌, ◌≤◌, ◌<◌, compare}
use Rattle.definitions.specs.Lists.{Pair, count_from}
use Rattle.definitions.specs.Figures.{Compound, components_of, compound_at, compounds_from, label_from, labels_of}
use Rattle.laws.specs.Ranges.{map_places}
use Rattle.laws.specs.Places.{map_same}
use Rattle.labels.specs.Labels.{label_of, label_range}
use Rattle.shapes.specs.Kept.{Kept}
use Rattle.layout.specs.Keeps.{facets_in, raised}
use Rattle.keep.specs.Adding.{orbit_labels}
use Rattle.laws.specs.Lists.{Mem, of_map}

-- a compound is none of an earlier number
components_before : (b x : ℕ) (labels : List (Option Pair)) → x < b → components_of (compounds_from b labels) x ≡ None
unfolding components_of compounds_from compound_at
components_before b x [] h = refl
components_before b x (None ∷ labels) h = components_before (suc b) x labels (omega arith)
components_before b x (Some p ∷ labels) h =
    rw (ne_eqb x b (λ e. omega arith)) (components_before (suc b) x labels (omega arith))

components_at : (a x : ℕ) (labels : List (Option Pair))
    → components_of (compounds_from a labels) (a + x) ≡ get_or labels x None
unfolding components_of compounds_from compound_at
components_at a x [] = refl
components_at a zero (None ∷ labels) = components_before (suc a) (a + 0) labels (omega arith)
components_at a (suc x) (None ∷ labels) =
    let e : a + suc x ≡ suc a + x = omega arith in
    ap (components_of (compounds_from (suc a) labels)) e ∙ components_at (suc a) x labels
components_at a zero (Some p ∷ labels) = rw (eq-eqb (a + 0) a (omega arith)) refl
components_at a (suc x) (Some p ∷ labels) =
    let e : a + suc x ≡ suc a + x = omega arith in
    rw (ne_eqb (a + suc x) a (λ e. omega arith))
    (ap (components_of (compounds_from (suc a) labels)) e ∙ components_at (suc a) x labels)

-- the labels of an orbit's facets
pub labels_raised : (first : ℕ) (k : Kept) (labels : List (Option Pair)) → k.compounds ≡ compounds_from 0 labels
    → facets_in k ≡ length labels → orbit_labels first k ≡ map (raised first) labels
unfolding orbit_labels
labels_raised first k labels e n =
    ap (λ (cs : List Compound). map (λ (f : ℕ). raised first (components_of cs f)) (count_from 0 (facets_in k))) e
    ∙ (ap (λ (m : ℕ). map (λ (f : ℕ). raised first (components_of (compounds_from 0 labels) f)) (count_from 0 m)) n
    ∙ (map_same (λ (f : ℕ). raised first (components_of (compounds_from 0 labels) f))
    (λ (f : ℕ). raised first (get_or labels f None)) (count_from 0 (length labels))
    (λ f m. let z : 0 + f ≡ f = omega arith in
    ap (raised first) (ap (components_of (compounds_from 0 labels)) (sym z) ∙ components_at 0 f labels))
    ∙ map_places (raised first) None labels))

-- ---- the number of a raised label

pub label_none : (label : ℕ) → label < 65536 → label_of label ≡ None
unfolding label_of
label_none label h = rw (eq-eqb (label / 65536) 0 (omega arith)) refl

pub label_some : (label : ℕ) → 65536 ≤ label → label_of label ≡ Some (label % 65536, label / 65536)
unfolding label_of
label_some label h = rw (ne_eqb (label / 65536) 0 (λ e. let z : label / 65536 ≡ 0 = e in omega arith)) refl

pub raised_none : (first label r : ℕ) → label < 65536 → r ≡ 0 → label_of r ≡ raised first (label_of label)
unfolding raised
raised_none first label r h e = rw (e, label_none label h) (label_none 0 (omega arith))

pub raised_some : (first label r : ℕ) → 65536 ≤ label → label / 65536 + first < 65536 → label % 65536 + first < 65536
    → r ≡ label + 65537 * first → label_of r ≡ raised first (label_of label)
unfolding raised
raised_some first label r h k l e =
    let a : r % 65536 ≡ first + label % 65536 = omega arith in
    let b : r / 65536 ≡ first + label / 65536 = omega arith in
    rw (label_some label h) (label_some r (omega arith) ∙ (λ t. Some (a t, b t)))

-- so are the labels that `label_irc` leaves
pub labels_inside : (lists : List (List ℕ)) (p : Pair) → Mem (Some p) (labels_of compare lists) → (p.0 < p.1)
    × (p.1 < length lists)
unfolding labels_of
labels_inside lists p i =
    let r = of_map (λ (items : List ℕ). label_from compare items lists 0) (Some p) lists i in
    let q = label_range r.0 lists 0 p (sym r.2) in
    let u = q.1 in
    (q.0, omega arith)
