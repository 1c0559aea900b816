-- An array is known from its front and from what stands behind it; and how many numbers a difference or a gain has.
-- Leans on Meaning and on the laws of segments.
use Rattle.std.specs.Prelude.{◌≡◌, refl, List, [], ◌∷◌, ℕ, suc, ◌+◌, ◌≤◌, length, get_or, drop, Float}
use Rattle.std.proofs.Common.{sym, ap, ◌∙◌, arith, take-append-drop, length-take-le, get_or-drop, drop-drop}
use Rattle.std.proofs.lemmas.List.{length-map, length-replicate}
use Rattle.definitions.specs.Vectors.{Vec, minus, plus_times, normalised}
use Rattle.laws.specs.Segments.{onto, take_onto, drop_onto, onto_length}
use Rattle.vectors.specs.Meaning.{vector_of, zeros, five}

-- ---- how long a vector is

pub minus_length : (ps qs : Vec) → length ps ≡ length qs → length (minus ps qs) ≡ length ps
unfolding minus
minus_length [] qs e = refl
minus_length (p ∷ ps) [] e = absurd (omega arith)
minus_length (p ∷ ps) (q ∷ qs) e = ap suc (minus_length ps qs (omega arith))

pub plus_times_length : (qs bs : Vec) (s : Float) → length qs ≡ length bs → length (plus_times qs bs s) ≡ length qs
unfolding plus_times
plus_times_length [] bs s e = refl
plus_times_length (q ∷ qs) [] s e = absurd (omega arith)
plus_times_length (q ∷ qs) (b ∷ bs) s e = ap suc (plus_times_length qs bs s (omega arith))

pub normalised_length : (v : Vec) → length (normalised v) ≡ length v
unfolding normalised
normalised_length v = length-map v _

-- ---- a front, and what stands behind it

-- what is alike from a place on is alike at that place and behind it
pub rest_same : (a b : List Float) (i : ℕ) (z : Float) → drop i a ≡ drop i b
    → (get_or a i z ≡ get_or b i z) × (drop (i + 1) a ≡ drop (i + 1) b)
rest_same a b i z e =
    let here : i + 0 ≡ i = omega arith in
    let at : (l : List Float)
    → get_or (drop i l) 0 z ≡ get_or l i z = λ l. get_or-drop i l 0 z ∙ ap (λ (k : ℕ). get_or l k z) here in (
      sym (at a) ∙ (ap (λ (l : List Float). get_or l 0 z) e ∙ at b),
      sym (drop-drop 1 i a)
          ∙ (ap (drop 1) e ∙ drop-drop 1 i b),
    )

-- the front and the rest are the whole
pub whole : (l s : List Float) (v : Vec) (d : ℕ) → d ≤ length l → vector_of d l ≡ v → drop d l ≡ drop d s → l ≡ onto v s
unfolding onto
whole l s v d fits front rest =
    let long : length v ≡ d = ap length (sym front) ∙ length-take-le d l fits in
    sym (take-append-drop d l) ∙ rw (front, rest, long) refl

pub zeros_length : (n : ℕ) → length (zeros n) ≡ n
unfolding zeros
zeros_length n = length-replicate n _

pub five_length : (v : Vec) → length v ≤ 5 → length (five v) ≡ 5
unfolding five
five_length v few = onto_length v (zeros 5) (omega (arith, zeros_length 5)) ∙ zeros_length 5

-- what an array that holds a vector means, and what stands behind it
module _ (r : List Float) (v : Vec) (d : ℕ) (is : r ≡ five v) (long : length v ≡ d) where
  pub five_means : vector_of d r ≡ v
  unfolding five
  five_means = rw is (take_onto v (zeros 5) d (sym long))

  pub five_rest : drop d r ≡ drop d (zeros 5)
  unfolding five
  five_rest = rw is (drop_onto v (zeros 5) d (sym long))
