-- A table of labels in bytes: for each list a u32 number, 0 for none, else b in its lower half and c in its upper
-- half. As b < c, no pair has the number 0. Leans on Words and on the walks of the laws. Assumes nothing.
use Rattle.std.specs.Prelude.{◌≡◌, refl, Bool, false, cond, eqb, length, drop}
use Rattle.std.proofs.Common.{sym, ap, ◌∙◌, subst, ⊎_elim, arith, eq-eqb, ne_eqb}
use mathlib.Core.List.{List, [], ◌∷◌, ◌++◌, map, flat_map}
use Rattle.std.specs.Prelude.{Option, Some, None}
use Prim.Native.Nat.{ℕ, suc, ◌+◌, ◌*◌, ◌/◌, ◌%◌, ◌^◌, ◌≤◌, ◌<◌, compare}
use Rattle.std.proofs.Math.Dec.{compare_is_eq}
use Rattle.std.proofs.lemmas.List.{length-map}
use Rattle.std.proofs.lemmas.List.Edits.{sets}
use Rattle.definitions.specs.Lists.{Pair, compare_nats}
use Rattle.definitions.specs.Figures.{walk, first_above, label_from, labels_of}
use Rattle.laws.specs.Lists.{Mem, here, there, of_map}
use Rattle.laws.specs.Orders.{nats}
use Rattle.laws.specs.Segments.{le_or_lt}
use Rattle.laws.specs.Walks.{labelled}
use Rattle.words.specs.Words.{bytes_of, words}
use Rattle.words.specs.Runs.{run, words_sets}

-- whether the walk of b through a passes over or leaves just these items
unfoldable pub leaves : List ℕ → List ℕ → List ℕ → Bool
leaves a b items = elim (walk compare a b) [
  | None ↦ false
  | Some rest ↦ compare_is_eq (compare_nats rest items)
]

-- the place of the first list that does not begin below these items, the lists being those from place b on
unfoldable pub search_from : List ℕ → List (List ℕ) → ℕ → ℕ
search_from a [] b = b
search_from a (l ∷ ls) b = let later = search_from a ls (suc b) in cond (first_above compare a l) later b

unfoldable pub label_code : Option Pair → ℕ
label_code None = 0
label_code (Some p) = p.0 + 65536 * p.1

unfoldable pub label_of : ℕ → Option Pair
label_of n = cond (eqb (n / 65536) 0) None (Some (n % 65536, n / 65536))

unfoldable pub label_bytes : List (Option Pair) → List ℕ
label_bytes = flat_map (λ (o : Option Pair). bytes_of 4 (label_code o))

-- the table of n labels from a place on
unfoldable pub labels_in : ℕ → ℕ → List ℕ → List (Option Pair)
labels_in at n s = map label_of (words 4 (drop at s) n)

-- ---- what a number says

pub label_none : (n : ℕ) → n < 65536 → label_of n ≡ None
unfolding label_of
label_none n h = rw (eq-eqb (n / 65536) 0 (omega arith)) refl

pub label_some : (n : ℕ) → 65536 ≤ n → label_of n ≡ Some (n % 65536, n / 65536)
unfolding label_of
label_some n h = rw (ne_eqb (n / 65536) 0 (λ e. let z : n / 65536 ≡ 0 = e in omega arith)) refl

-- both numbers fit in half a label
abbrev pub Halves : Option Pair → Type 0
Halves o = (p : Pair) → o ≡ Some p → (p.0 < 65536) × (p.1 < 65536)

abbrev lower : Option Pair → ℕ
lower o = elim o [ None ↦ 0 | Some p ↦ p.0 ]

abbrev upper : Option Pair → ℕ
upper o = elim o [ None ↦ 0 | Some p ↦ p.1 ]

pub halves : (n : ℕ) → n < 4294967296 → Halves (label_of n)
halves n h p e =
    let low : lower (label_of n) < 65536 =
    ⊎_elim (λ k. rw (label_some n k) (omega arith)) (λ k. rw (label_none n k) (omega arith)) (le_or_lt 65536 n) in
    let high : upper (label_of n) < 65536 =
    ⊎_elim (λ k. rw (label_some n k) (omega arith)) (λ k. rw (label_none n k) (omega arith)) (le_or_lt 65536 n) in
    (subst (λ (o : Option Pair). lower o < 65536) e low, subst (λ (o : Option Pair). upper o < 65536) e high)

-- ---- what is written is read

pub label_code_holds : (o : Option Pair) → ((p : Pair) → o ≡ Some p → (p.0 < p.1) × (p.1 < 65536))
    → (label_of (label_code o) ≡ o) × (label_code o < 4294967296)
unfolding label_of label_code
label_code_holds None f = (refl, omega arith)
label_code_holds (Some p) f =
    let r = f p refl in
    let l = r.0 in
    let u = r.1 in
    let d : (p.0 + 65536 * p.1) / 65536 ≡ p.1 = omega arith in
    let m : (p.0 + 65536 * p.1) % 65536 ≡ p.0 = omega arith in
    (rw (d, m, ne_eqb p.1 0 (λ e. let z : p.1 ≡ 0 = e in omega arith)) refl, omega arith)

bytes_run : (os : List (Option Pair)) → label_bytes os ≡ run 4 (map label_code os)
unfolding label_bytes run flat_map
bytes_run [] = refl
bytes_run (o ∷ os) = ap (λ (r : List ℕ). bytes_of 4 (label_code o) ++ r) (bytes_run os)

codes_read : (os : List (Option Pair)) → ((o : Option Pair) → Mem o os → label_of (label_code o) ≡ o)
    → map label_of (map label_code os) ≡ os
codes_read [] f = refl
codes_read (o ∷ os) f = rw (f o (here refl), codes_read os (λ q i. f q (there i))) refl

-- c is behind b, and both are places of the lists
pub label_range : (items : List ℕ) (ls : List (List ℕ)) (b : ℕ) (p : Pair) → label_from compare items ls b ≡ Some p
    → (p.0 < p.1) × (p.1 < b + length ls)
label_range items ls b p e =
    let l = labelled compare nats items ls b p e in
    (omega (arith, l.behind, l.first_is, l.second_is), omega (arith, l.below, l.second_is))

-- the table that `label_irc` leaves is read as the labels of the lists
pub labels_read : (s : List ℕ) (at : ℕ) (ls : List (List ℕ)) → at + 4 * length ls ≤ length s → length ls ≤ 65536
    → labels_in at (length ls) (sets s at (label_bytes (labels_of compare ls))) ≡ labels_of compare ls
unfolding labels_in labels_of
labels_read s at ls h few =
    let n : length (labels_of compare ls) ≡ length ls = labels_many in
    let m : length (map label_code (labels_of compare ls))
    ≡ length (labels_of compare ls) = length-map (labels_of compare ls) label_code in
    let w : words 4 (drop at (sets s at (label_bytes (labels_of compare ls)))) (length ls)
    ≡ map label_code (labels_of compare ls) =
    ap (λ (r : List ℕ). words 4 (drop at (sets s at r)) (length ls)) (bytes_run (labels_of compare ls))
    ∙ (ap (words 4 (drop at (sets s at (run 4 (map label_code (labels_of compare ls)))))) (sym (m ∙ n))
    ∙ words_sets 4 s at (map label_code (labels_of compare ls)) (omega arith) small) in
    ap (map label_of) w ∙ codes_read (labels_of compare ls) (λ o i. (label_code_holds o (fits o i)).0)
  where
    labels_many : length (labels_of compare ls) ≡ length ls
    labels_many = length-map ls (λ (items : List ℕ). label_from compare items ls 0)

    fits : (o : Option Pair) → Mem o (labels_of compare ls) → (p : Pair) → o ≡ Some p → (p.0 < p.1) × (p.1 < 65536)
    fits o i p e =
        let r = of_map (λ (items : List ℕ). label_from compare items ls 0) o ls i in
        let q = label_range r.0 ls 0 p (sym r.2 ∙ e) in
        let u = q.1 in
        (q.0, omega arith)

    small : (n : ℕ) → Mem n (map label_code (labels_of compare ls)) → n < 256 ^ 4
    small n i =
        let r = of_map label_code n (labels_of compare ls) i in
        let e = r.2 in
        let u = (label_code_holds r.0 (fits r.0 r.1)).1 in
        omega arith
