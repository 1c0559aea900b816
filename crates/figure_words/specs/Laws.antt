-- The turns of loops that write: the words of one item more. Leans on the lists of the laws.
use Rattle.std.specs.List.{filter, list_any, range_with_len}
use Rattle.std.specs.Prelude.{◌≡◌, Bool, ◌||◌, cond, refl, ℕ, zero, suc, ◌+◌, ◌-◌, ◌/◌, ◌%◌, ◌<◌, length, get_or, take}
use Rattle.std.specs.Prelude.{drop}
use Rattle.std.proofs.Common.{sym, ap, ◌∙◌, add-one, arith, length-drop, take_all}
use mathlib.Core.List.{List, [], ◌∷◌, ◌++◌, map, flat_map, append-nil, map-append}
use Rattle.std.proofs.lemmas.List.{length-map}
use Rattle.definitions.specs.Lists.{Pair, count_from, any_of, keep}
use Rattle.definitions.specs.Job.{figure_words}
use Rattle.laws.specs.Lists as counted
use Rattle.laws.specs.Lists.{flat_map_append}
use Rattle.laws.specs.Parts.{take_more}
use Rattle.rows.specs.Codes.{pair_of}
use Rattle.shapes.specs.Edges.{edge_figure}
use Rattle.shapes.specs.EdgeSets.{polygon}
use Rattle.shapes.specs.FigureWords.{point_words, edge_words, body_words, edge_words_holds, polygon_words_holds}

pub count_more : (n : ℕ) → count_from 0 (n + 1) ≡ count_from 0 n ++ (n ∷ [])
count_more n = let e : 0 + n ≡ n = omega arith in counted.count_more 0 n ∙ ap (λ (k : ℕ). count_from 0 n ++ (k ∷ [])) e

pub points_more : (n : ℕ) → point_words n ++ (1 ∷ 0 ∷ []) ≡ point_words (n + 1)
unfolding point_words
points_more n = grow n ∙ ap point_words (sym (add-one n))
  where
    grow : (n : ℕ) → point_words n ++ (1 ∷ 0 ∷ []) ≡ point_words (suc n)
    grow zero = refl
    grow (suc n) = ap (λ (l : List ℕ). 1 ∷ 0 ∷ l) (grow n)

-- the words of the first items of a list, and of one more
pub flat_more : {A B : Type 0} (f : A → List B) (l : List A) (i : ℕ) (z : A) → i < length l
    → flat_map f (take i l) ++ f (get_or l i z) ≡ flat_map f (take (i + 1) l)
unfolding flat_map
flat_more f l i z h =
    sym (ap (flat_map f) (take_more l i z h) ∙ (flat_map_append f (take i l) (get_or l i z ∷ [])
    ∙ ap (λ r. flat_map f (take i l) ++ r) (append-nil (f (get_or l i z)))))

-- the edges with these codes, and with more
pub edges_append : (codes others : List ℕ)
    → edge_words (map pair_of (codes ++ others)) ≡ edge_words (map pair_of codes) ++ edge_words (map pair_of others)
unfolding edge_words
edges_append codes others =
    let words : Pair → List ℕ = λ e. 2 ∷ e.0 ∷ e.1 ∷ [] in
    ap (flat_map words) (map-append pair_of codes others)
    ∙ flat_map_append words (map pair_of codes) (map pair_of others)

-- one more
pub edges_more : (codes : List ℕ) (i : ℕ) → i < length codes → edge_words (map pair_of (take i codes))
    ++ edge_words (pair_of (get_or codes i 0) ∷ []) ≡ edge_words (map pair_of (take (i + 1) codes))
edges_more codes i h =
    sym (ap (λ (l : List ℕ). edge_words (map pair_of l)) (take_more codes i 0 h)
    ∙ edges_append (take i codes) (get_or codes i 0 ∷ []))

pub edges_none : edge_words [] ≡ []
unfolding edge_words flat_map
edges_none = refl

pub points_none : point_words 0 ≡ []
unfolding point_words
points_none = refl

pub count_none : count_from 0 0 ≡ []
unfolding count_from
count_none = refl

pub edge_alone : (code : ℕ) → 2 ∷ code / 20 ∷ code % 20 ∷ [] ≡ edge_words (pair_of code ∷ [])
unfolding edge_words flat_map pair_of
edge_alone code = refl

pub body_is : (i n : ℕ) → i ≡ n → 1 ∷ n ∷ count_from 0 i ≡ body_words n
unfolding body_words
body_is i n e = rw e refl

-- ---- the library's words for lists, and those of the definitions

pub range_is : (a n : ℕ) → range_with_len a n ≡ count_from a n
unfolding count_from
range_is a zero = refl
range_is a (suc n) = rw (add-one a) (ap (λ (l : List ℕ). a ∷ l) (range_is (suc a) n))

module _ {A : Type 0} (p : A → Bool) where
  pub any_is : (l : List A) → list_any p l ≡ any_of p l
  unfolding any_of
  any_is [] = refl
  any_is (x ∷ l) = ap (λ (b : Bool). p x || b) (any_is l)

  pub filter_is : (l : List A) → filter p l ≡ keep p l
  unfolding keep
  filter_is [] = refl
  filter_is (x ∷ l) = ap (λ (r : List A). cond (p x) (x ∷ r) r) (filter_is l)

-- ---- figures

pub edge_figure_holds : (code : ℕ) → 3 ∷ 1 ∷ 0 ∷ 2 ∷ point_words 2 ++ (1 ∷ edge_words (pair_of code ∷ []))
    ≡ figure_words (edge_figure (pair_of code))
unfolding point_words edge_words flat_map
edge_figure_holds code = sym (edge_words_holds (pair_of code))

pub polygon_is : (n many : ℕ) (codes : List ℕ) → many ≡ length codes
    → 4 ∷ 1 ∷ 0 ∷ n ∷ point_words n ++ (many ∷ edge_words (map pair_of codes) ++ body_words many)
    ≡ figure_words (polygon n (map pair_of codes))
polygon_is n many codes e =
    let l : many ≡ length (map pair_of codes) = e ∙ sym (length-map codes pair_of) in
    rw l (sym (polygon_words_holds n (map pair_of codes)))

-- a part to the end is the rest
pub rest_is : {A : Type 0} (a : ℕ) (s : List A) → take (length s - a) (drop a s) ≡ drop a s
rest_is a s = take_all (length s - a) (drop a s) (omega (arith, length-drop a s))
