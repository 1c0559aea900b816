-- A list of one or two items, and numbers that fit in so many bytes.
use Rattle.std.specs.Prelude.{◌≡◌, refl, Bool, true, false, cond, not, List, [], ◌∷◌, map, ℕ, zero, suc, ◌^◌, ◌≤◌, ◌<◌}
use Rattle.std.specs.Prelude.{length, get_or, take}
use Rattle.std.proofs.Common.{arith}

-- a list of one item, or of two
unfoldable pub one_or_two : Bool → ℕ → ℕ → List ℕ
one_or_two two a b = cond two (a ∷ b ∷ []) (a ∷ [])

-- each of these numbers fits in so many bytes
abbrev pub Fitting : ℕ → List ℕ → Type 0
Fitting w list = (k : ℕ) → k < length list → get_or list k 0 < 256 ^ w

pub one_fitting : (w a : ℕ) → a < 256 ^ w → Fitting w (a ∷ [])
one_fitting w a h zero k = h
one_fitting w a h (suc i) k = absurd (omega arith)

two_fitting : (w a b : ℕ) → a < 256 ^ w → b < 256 ^ w → Fitting w (a ∷ b ∷ [])
two_fitting w a b f g zero k = f
two_fitting w a b f g (suc i) k = one_fitting w b g i (omega arith)

-- the first or both of two numbers
module _ (swapped : Bool) (many a b : ℕ) (e : many ≡ cond swapped 1 2) where
  pub first_or_both : map (λ (v : ℕ). v) (take many (a ∷ b ∷ [])) ≡ one_or_two (not swapped) a b
  unfolding one_or_two
  first_or_both = rw e (go swapped)
    where
      go : (s : Bool) → map (λ (v : ℕ). v) (take (cond s 1 2) (a ∷ b ∷ [])) ≡ cond (not s) (a ∷ b ∷ []) (a ∷ [])
      go true = refl
      go false = refl

  pub first_or_both_few : length (take many (a ∷ b ∷ [])) ≤ 2
  first_or_both_few = rw e (go swapped)
    where
      go : (s : Bool) → length (take (cond s 1 2) (a ∷ b ∷ [])) ≤ 2
      go true = omega arith
      go false = omega arith

  pub first_or_both_fitting : (w : ℕ) → a < 256 ^ w → b < 256 ^ w
      → Fitting w (map (λ (v : ℕ). v) (take many (a ∷ b ∷ [])))
  first_or_both_fitting w f g = rw e (go swapped)
    where
      go : (s : Bool) → Fitting w (map (λ (v : ℕ). v) (take (cond s 1 2) (a ∷ b ∷ [])))
      go true = one_fitting w a f
      go false = two_fitting w a b f g
