-- The turns of the loops over facets, orbits and labels. Leans on Facets and Counts.
use mathlib.Core.Path.{◌≡◌, refl, sym, ap, ◌∙◌}
use mathlib.Core.Bool.{Bool, true, false, cond}
use mathlib.Core.List.{List, [], ◌∷◌, ◌++◌, map, flat_map, append-nil, append_assoc, map-append}
use mathlib.Core.Logic.{⊎_elim}
use Rattle.std.specs.Prelude.{Option, Some, None}
use Rattle.std.specs.Option.{is_some}
use Rattle.std.specs.Int.{from_bool}
use Prim.Native.Nat.{ℕ, zero, suc, ◌+◌, ◌*◌, ◌≤◌, ◌<◌}
use native.Mathlib.Numerals.{add-one}
use native.Mathlib.Decide.{ℕ_discrete}
use native.Mathlib.Omega.{arith}
use borrow.Author.Tests.{eq-eqb, ne_eqb}
use lib.Dec.{eqb}
use lib.ListN.{length, get_or, drop, set, length-append, length-map}
use lib.Seq.{drop-cons, get_or-set_same, get_or-set_other}
use Rattle.std.specs.List.{filter, range_with_len}
use Rattle.std.proofs.lemmas.List.Sums.{length-filter, count_by-le-length}
use Rattle.std.proofs.lemmas.List.FromFn.{length-range_with_len}
use Rattle.definitions.specs.Lists.{Pair, place_of, keep, count_from}
use Rattle.definitions.specs.Figures.{Compound, compound_at, compounds_from}
use Rattle.definitions.specs.Job.{number_at, compound_words}
use Rattle.laws.specs.Lists.{flat_map_append, keep_append}
use Rattle.figure_words.specs.Laws.{range_is, filter_is, count_more}
use Rattle.laws.specs.Segments.{le_or_lt}
use Rattle.words.specs.Words.{words, words_more, words_length, number_at_drop}
use Rattle.orbits.specs.Workspace.{orbits_in, orbits_length}
use Rattle.labels.specs.Labels.{label_of, labels_in}
use Rattle.possible_facets.specs.Facets.{first_one_of, FirstsFrom}
use Rattle.entry_lists.specs.Counts.{count_words}

-- ---- first facets

module _ (owners firsts : List ℕ) where
  pub firsts_none : (x : ℕ) → length owners ≤ x → FirstsFrom owners firsts x
  firsts_none x h = record { at = λ y a b. absurd (omega arith) }

  pub firsts_more : (x : ℕ) → x < length owners → get_or owners x 0 < length firsts → FirstsFrom owners firsts (x + 1)
      → FirstsFrom owners (set firsts (get_or owners x 0) x) x
  unfolding first_one_of place_of
  firsts_more x h small r = record { at = λ y a b. one y a b (ℕ_discrete (get_or owners y 0) (get_or owners x 0)) }
    where
      one : (y : ℕ) → x ≤ y → y < length owners → Dec (get_or owners y 0 ≡ get_or owners x 0)
          → get_or (set firsts (get_or owners x 0) x) (get_or owners y 0) 0
          ≡ x + first_one_of (drop x owners) (get_or owners y 0)
      one y a b (yes e) =
          rw (
            e,
            get_or-set_same firsts (get_or owners x 0) x 0 small,
            drop-cons owners x 0 h,
            eq-eqb (get_or owners x 0) (get_or owners x 0) refl,
          ) (omega arith)
      one y a b (no ne) =
          let later : x + 1 ≤ y = ⊎_elim (λ g. g) (λ g. let q : y ≡ x = omega arith in
          absurd (ne (ap (λ (k : ℕ). get_or owners k 0) q))) (le_or_lt (x + 1) y) in
          let f = r.at y later b in
          get_or-set_other firsts (get_or owners x 0) (get_or owners y 0) x 0 ne
          ∙ (f ∙ (rw (
            drop-cons owners x 0 h,
            ne_eqb (get_or owners y 0) (get_or owners x 0) ne,
            add-one x,
          ) (omega arith)))

-- ---- counts

pub counts_more : (ws : List ℕ) (i : ℕ) → map (λ (p : Pair). p.1) (orbits_in ws i)
    ++ (number_at ws (8 * i + 4) 4 ∷ []) ≡ map (λ (p : Pair). p.1) (orbits_in ws (i + 1))
unfolding orbits_in
counts_more ws i =
    sym (ap (λ (k : ℕ). map (λ (p : Pair). p.1) (orbits_in ws k)) (add-one i)
    ∙ map-append (λ (p : Pair). p.1) (orbits_in ws i) ((number_at ws (8 * i) 4, number_at ws (8 * i + 4) 4) ∷ []))

pub counts_none : (ws : List ℕ) → [] ≡ map (λ (p : Pair). p.1) (orbits_in ws 0)
unfolding orbits_in
counts_none ws = refl

pub counts_are : (ws : List ℕ) (i n : ℕ) → i ≡ n
    → n ∷ map (λ (p : Pair). p.1) (orbits_in ws i) ≡ count_words (orbits_in ws n)
unfolding count_words
counts_are ws i n e = rw (e, orbits_length ws n) refl

-- ---- labels

labels_more : (at i : ℕ) (s : List ℕ)
    → labels_in at (i + 1) s ≡ labels_in at i s ++ (label_of (number_at s (at + 4 * i) 4) ∷ [])
unfolding labels_in
labels_more at i s =
    ap (map label_of) (words_more 4 (drop at s) i)
    ∙ (map-append label_of (words 4 (drop at s) i) (number_at (drop at s) (4 * i) 4 ∷ [])
    ∙ ap (λ (v : ℕ). map label_of (words 4 (drop at s) i) ++ (label_of v ∷ [])) (number_at_drop s at (4 * i) 4))

labels_length : (at i : ℕ) (s : List ℕ) → length (labels_in at i s) ≡ i
unfolding labels_in
labels_length at i s = length-map (words 4 (drop at s) i) label_of ∙ words_length 4 (drop at s) i

compounds_end : (a : ℕ) (os : List (Option Pair)) (o : Option Pair)
    → compounds_from a (os ++ (o ∷ [])) ≡ compounds_from a os ++ compound_at (a + length os) o
unfolding compounds_from
compounds_end a [] o =
    let e : a ≡ a + 0 = omega arith in
    append-nil (compound_at a o) ∙ ap (λ (k : ℕ). compound_at k o) e
compounds_end a (p ∷ os) o =
    let e : suc a + length os ≡ a + suc (length os) = omega arith in
    ap (λ (l : List Compound). compound_at a p ++ l) (compounds_end (suc a) os o
    ∙ ap (λ (k : ℕ). compounds_from (suc a) os ++ compound_at k o) e)
    ∙ sym (append_assoc (compound_at a p) (compounds_from (suc a) os) (compound_at (a + suc (length os)) o))

pub compounds_more : (at i : ℕ) (s : List ℕ) → compounds_from 0 (labels_in at (i + 1) s)
    ≡ compounds_from 0 (labels_in at i s) ++ compound_at i (label_of (number_at s (at + 4 * i) 4))
compounds_more at i s =
    let e : 0 + length (labels_in at i s) ≡ i = omega (arith, labels_length at i s) in
    ap (compounds_from 0) (labels_more at i s)
    ∙ (compounds_end 0 (labels_in at i s) (label_of (number_at s (at + 4 * i) 4)) ∙ ap (λ (k : ℕ).
    compounds_from 0 (labels_in at i s) ++ compound_at k (label_of (number_at s (at + 4 * i) 4))) e)

pub compounds_none : (at : ℕ) (s : List ℕ) → compounds_from 0 (labels_in at 0 s) ≡ []
unfolding compounds_from labels_in words
compounds_none at s = refl

compound_length : (a : ℕ) (o : Option Pair)
    → (length (compound_at a o) ≡ length (compound_at 0 o)) × (length (compound_at 0 o) ≤ 1)
unfolding compound_at
compound_length a None = (refl, omega arith)
compound_length a (Some p) = (refl, omega arith)

pub compounds_count : (at i : ℕ) (s : List ℕ) (many one : ℕ)
    → one ≡ length (compound_at 0 (label_of (number_at s (at + 4 * i) 4)))
    → many ≡ length (compounds_from 0 (labels_in at i s))
    → (many + one ≡ length (compounds_from 0 (labels_in at (i + 1) s))) × (one ≤ 1)
compounds_count at i s many one e f =
    let o = label_of (number_at s (at + 4 * i) 4) in
    let n = length-append (compounds_from 0 (labels_in at i s)) (compound_at i o) in (
      sym (ap length (compounds_more at i s) ∙ (omega (arith, (compound_length i o).0))),
      omega (arith, (compound_length i o).1),
    )

pub compound_words_holds : (at i : ℕ) (s : List ℕ) → flat_map compound_words (compounds_from 0 (labels_in at i s))
    ++ flat_map compound_words (compound_at i (label_of (number_at s (at + 4 * i) 4)))
    ≡ flat_map compound_words (compounds_from 0 (labels_in at (i + 1) s))
compound_words_holds at i s =
    sym (ap (flat_map compound_words) (compounds_more at i s) ∙ flat_map_append compound_words
    (compounds_from 0 (labels_in at i s)) (compound_at i (label_of (number_at s (at + 4 * i) 4))))

pub words_none : (at : ℕ) (s : List ℕ) → [] ≡ flat_map compound_words (compounds_from 0 (labels_in at 0 s))
unfolding flat_map
words_none at s = ap (flat_map compound_words) (sym (compounds_none at s))

-- ---- a label

pub compound_some : (o : Option Pair) → from_bool (is_some o) ≡ length (compound_at 0 o)
unfolding compound_at
compound_some None = refl
compound_some (Some p) = refl

-- whether the label at a place is of a compound, and how many of the first n are
abbrev pub is_compound : ℕ → List ℕ → ℕ → Bool
is_compound at s i = is_some (label_of (number_at s (at + 4 * i) 4))

kept_one : (n : ℕ) (b : Bool) → length (cond b (n ∷ []) []) ≡ from_bool b
kept_one n true = refl
kept_one n false = refl

compounds_kept : (at n : ℕ) (s : List ℕ)
    → length (keep (is_compound at s) (count_from 0 n)) ≡ length (compounds_from 0 (labels_in at n s))
unfolding keep count_from
compounds_kept at zero s = sym (ap length (compounds_none at s))
compounds_kept at (suc n) s =
    let p = is_compound at s in
    let e : suc n ≡ n + 1 = omega arith in
    let one = kept_one n (p n) ∙ compound_some (label_of (number_at s (at + 4 * n) 4)) in
    let more = compounds_count at n s (length (keep p (count_from 0 n))) (length (keep p (n ∷ []))) one
    (compounds_kept at n s) in
    ap (λ (k : ℕ). length (keep p (count_from 0 k))) e
    ∙ (ap length (ap (keep p) (count_more n) ∙ keep_append p (count_from 0 n) (n ∷ []))
    ∙ (length-append (keep p (count_from 0 n)) (keep p (n ∷ []))
    ∙ (more.0 ∙ ap (λ (k : ℕ). length (compounds_from 0 (labels_in at k s))) (sym e))))

pub compounds_counted : (at n : ℕ) (s : List ℕ)
    → length (filter (is_compound at s) (range_with_len 0 n)) ≡ length (compounds_from 0 (labels_in at n s))
compounds_counted at n s =
    let p = is_compound at s in
    ap (λ (l : List ℕ). length (filter p l)) (range_is 0 n)
    ∙ (ap length (filter_is p (count_from 0 n)) ∙ compounds_kept at n s)

pub compounds_few : (at n : ℕ) (s : List ℕ) → length (filter (is_compound at s) (range_with_len 0 n)) ≤ n
compounds_few at n s =
    omega (
      arith,
      length-filter (is_compound at s) (range_with_len 0 n),
      count_by-le-length (is_compound at s) (range_with_len 0 n),
      length-range_with_len 0 n,
    )

pub none_written : (a : ℕ) → [] ≡ flat_map compound_words (compound_at a None)
unfolding compound_at flat_map
none_written a = refl

pub some_written : (a : ℕ) (p : Pair) → a ∷ p.0 ∷ p.1 ∷ [] ≡ flat_map compound_words (compound_at a (Some p))
unfolding compound_at flat_map compound_words
some_written a p = refl

-- ---- the first facet of a facet's orbit is no later than it

place_le : (o : ℕ) (l : List ℕ) (x : ℕ) → x < length l → get_or l x 0 ≡ o → place_of (eqb o) l ≤ x
unfolding place_of
place_le o [] x h e = absurd (omega arith)
place_le o (y ∷ l) zero h e = rw (eq-eqb o y (sym e)) (omega arith)
place_le o (y ∷ l) (suc x) h e = go (eqb o y) (place_le o l x (omega arith) e)
  where
    go : (b : Bool) → place_of (eqb o) l ≤ x → cond b 0 (suc (place_of (eqb o) l)) ≤ suc x
    go true r = omega arith
    go false r = omega arith

pub first_le : (owners : List ℕ) (x : ℕ) → x < length owners → first_one_of owners (get_or owners x 0) ≤ x
unfolding first_one_of
first_le owners x h = place_le (get_or owners x 0) owners x h refl
