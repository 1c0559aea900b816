-- The turns of the loops over images and over the edges of an image, and what comes of an image. Leans on Images.
use mathlib.Core.Path.{◌≡◌, refl, sym, ap, ◌∙◌}
use mathlib.Core.Bool.{Bool, true, false, cond, ◌&&◌}
use mathlib.Core.List.{List, [], ◌∷◌, ◌++◌, map, append-nil, map-append}
use mathlib.Core.Logic.{⊎_elim}
use Prim.Native.Nat.{ℕ, ◌+◌, ◌%◌, ◌≤◌, ◌<◌}
use native.Mathlib.Numerals.{add-one}
use native.Mathlib.Omega.{arith}
use lib.Dec.{leb}
use lib.ListN.{length, get_or, drop, set, replicate, length-set, drop_of_length-le}
use lib.Seq.{drop-cons, get_or-set_same, get_or-set_other}
use Rattle.definitions.specs.Lists.{keep, count_from}
use Rattle.laws.specs.Segments.{le_or_lt}
use Rattle.edge_marks.specs.Marks.{codes_marked}
use Rattle.facet_images.specs.Images.{NumbersOf, facet_words, is_wanted, is_chosen, next_choice, chosen_from}
use Rattle.facet_images.specs.declared.Choice.{Choice}
use Rattle.facet_images.specs.declared.Choice.TheVariants.{Left, Chosen, Repeated}
use Rattle.edge_marks.specs.MarkSteps.{codes_more}

-- ---- edge numbers

pub record NumbersTo (marks : List Bool) (numbers : List ℕ) (code : ℕ) : Type 0 where
  pub long : length numbers ≡ 400
  pub at : (c : ℕ) → c < code → (get_or numbers c 0 ≡ length (codes_marked marks c)) × (get_or numbers c 0 ≤ 400)

pub numbers_more : (marks : List Bool) (numbers : List ℕ) (code many : ℕ) → code < 400
    → many ≡ length (codes_marked marks code) → many ≤ code → NumbersTo marks numbers code
    → NumbersTo marks (set numbers code many) (code + 1)
numbers_more marks numbers code many h e f r = record {
  long = length-set numbers code many ∙ r.long;
  at = λ c l. ⊎_elim (λ (g : code ≤ c). new c (omega arith)) (λ (g : c < code). old c g) (le_or_lt code c);
}
  where
    new : (c : ℕ) → c ≡ code → (get_or (set numbers code many) c 0 ≡ length (codes_marked marks c))
        × (get_or (set numbers code many) c 0 ≤ 400)
    new c q =
        let s : get_or (set numbers code many) code 0
        ≡ many = get_or-set_same numbers code many 0 (omega (arith, r.long)) in
        rw q (s ∙ e, omega (arith, s))

    old : (c : ℕ) → c < code → (get_or (set numbers code many) c 0 ≡ length (codes_marked marks c))
        × (get_or (set numbers code many) c 0 ≤ 400)
    old c g =
        let s : get_or (set numbers code many) c 0 ≡ get_or numbers c 0 =
        get_or-set_other numbers code c many 0 (λ q. let z : c ≡ code = q in omega arith) in
        (s ∙ (r.at c g).0, omega (arith, s, (r.at c g).1))

pub numbers_none : (marks : List Bool) → NumbersTo marks (replicate 400 0) 0
numbers_none marks = record { long = refl; at = λ c l. absurd (omega arith) }

pub numbers_all : (marks : List Bool) (numbers : List ℕ) (code : ℕ) → 400 ≤ code → NumbersTo marks numbers code
    → NumbersOf marks numbers
numbers_all marks numbers code h r = record {
  at = λ c l. (r.at c (omega arith)).0;
  small = record { below = λ c l. (r.at c (omega arith)).1 };
}

-- ---- the edges of an image

module _ (image : List Bool) (numbers : List ℕ) where
  -- a mark that is set adds a number, and one that is not adds none
  numbers_turn : (c : ℕ) → map (λ (code : ℕ). get_or numbers code 0) (codes_marked image c)
      ++ cond (get_or image c false) (get_or numbers c 0 ∷ []) []
      ≡ map (λ (code : ℕ). get_or numbers code 0) (codes_marked image (c + 1))
  unfolding keep
  numbers_turn c =
      go (get_or image c false)
      ∙ sym (ap (map (λ (code : ℕ). get_or numbers code 0)) (codes_more image c)
      ∙ map-append (λ (code : ℕ). get_or numbers code 0) (codes_marked image c)
      (keep (λ (code : ℕ). get_or image code false) (c ∷ [])))
    where
      front : List ℕ
      front = map (λ (code : ℕ). get_or numbers code 0) (codes_marked image c)

      go : (b : Bool) → front ++ cond b (get_or numbers c 0 ∷ []) []
          ≡ front ++ map (λ (code : ℕ). get_or numbers code 0) (cond b (c ∷ []) [])
      go true = refl
      go false = refl

  pub number_more : (c : ℕ) → get_or image c false ≡ true
      → map (λ (code : ℕ). get_or numbers code 0) (codes_marked image c) ++ (get_or numbers c 0 ∷ [])
      ≡ map (λ (code : ℕ). get_or numbers code 0) (codes_marked image (c + 1))
  number_more c e =
      ap (λ (b : Bool). map (λ (code : ℕ). get_or numbers code 0) (codes_marked image c)
      ++ cond b (get_or numbers c 0 ∷ []) []) (sym e) ∙ numbers_turn c

  pub number_passed : (c : ℕ) → get_or image c false ≡ false
      → map (λ (code : ℕ). get_or numbers code 0) (codes_marked image c)
      ≡ map (λ (code : ℕ). get_or numbers code 0) (codes_marked image (c + 1))
  number_passed c e =
      sym (append-nil (map (λ (code : ℕ). get_or numbers code 0) (codes_marked image c)))
      ∙ (ap (λ (b : Bool). map (λ (code : ℕ). get_or numbers code 0) (codes_marked image c)
      ++ cond b (get_or numbers c 0 ∷ []) []) (sym e) ∙ numbers_turn c)

  pub numbers_start : [] ≡ map (λ (code : ℕ). get_or numbers code 0) (codes_marked image 0)
  unfolding codes_marked keep count_from
  numbers_start = refl

  pub facet_is : (many c : ℕ) → many ≡ length (codes_marked image 400) → c ≡ 400
      → many ∷ map (λ (code : ℕ). get_or numbers code 0) (codes_marked image c) ≡ facet_words image numbers
  unfolding facet_words
  facet_is many c e f = rw (e, f) refl

-- ---- choosing

module _ (inside : List Bool) where
  pub choice_repeated : (before : Choice) (id : ℕ) → (leb 131072 id && is_wanted before) ≡ true
      → Repeated ≡ next_choice inside before id
  unfolding next_choice
  choice_repeated before id e = rw e refl

  pub choice_first : (before : Choice) (id : ℕ) → (leb 131072 id && is_wanted before) ≡ false
      → get_or inside (id % 1024) false ≡ true → Chosen ≡ next_choice inside before id
  unfolding next_choice
  choice_first before id e f = rw (e, f) refl

  pub choice_none : (before : Choice) (id : ℕ) → (leb 131072 id && is_wanted before) ≡ false
      → get_or inside (id % 1024) false ≡ false → Left ≡ next_choice inside before id
  unfolding next_choice
  choice_none before id e f = rw (e, f) refl

  module _ (ids : List ℕ) where
    -- what is left from a place on, by what comes of the image there
    pub chosen_next : (i id : ℕ) (before choice : Choice) → i < length ids → id ≡ get_or ids i 0
        → choice ≡ next_choice inside before id
        → chosen_from inside before (drop i ids) ≡ cond (is_chosen choice)
        (id ∷ chosen_from inside choice (drop (i + 1) ids)) (chosen_from inside choice (drop (i + 1) ids))
    unfolding chosen_from
    chosen_next i id before choice h e c = rw (drop-cons ids i 0 h, c, e, add-one i) refl

    pub chosen_end : (i : ℕ) (before : Choice) → length ids ≤ i → chosen_from inside before (drop i ids) ≡ []
    unfolding chosen_from
    chosen_end i before h = rw (drop_of_length-le ids h) refl
