-- The definitions at vectors that grow by one number at the end, as the loops build them. Leans on the definitions
-- and on the laws of parts.
use mathlib.Core.Path.{◌≡◌, refl, sym, ap}
use mathlib.Core.List.{List, [], ◌∷◌, ◌++◌}
use Prim.Native.Nat.{ℕ, ◌+◌, ◌<◌}
use native.Mathlib.Omega.{arith}
use lib.ListN.{length, get_or, take}
use lib.Seq.{length-take-le}
use lib.Ieee.{Float, binary64, nan, add, sub, mul}
use Rattle.definitions.specs.Vectors.{Vec, dot_from, dot, zero64, minus, plus_times}
use Rattle.laws.specs.Parts.{take_more}

dot_from_snoc : (sum : Float) (xs ys : Vec) (x y : Float) → length xs ≡ length ys
    → dot_from sum (xs ++ (x ∷ [])) (ys ++ (y ∷ [])) ≡ add binary64 (dot_from sum xs ys) (mul binary64 x y)
unfolding dot_from
dot_from_snoc sum [] [] x y e = refl
dot_from_snoc sum [] (b ∷ ys) x y e = absurd (omega arith)
dot_from_snoc sum (a ∷ xs) [] x y e = absurd (omega arith)
dot_from_snoc sum (a ∷ xs) (b ∷ ys) x y e = dot_from_snoc (add binary64 sum (mul binary64 a b)) xs ys x y (omega arith)

minus_snoc : (ps qs : Vec) (p q : Float) → length ps ≡ length qs
    → minus (ps ++ (p ∷ [])) (qs ++ (q ∷ [])) ≡ minus ps qs ++ (sub binary64 p q ∷ [])
unfolding minus
minus_snoc [] [] p q e = refl
minus_snoc [] (b ∷ qs) p q e = absurd (omega arith)
minus_snoc (a ∷ ps) [] p q e = absurd (omega arith)
minus_snoc (a ∷ ps) (b ∷ qs) p q e = ap (λ (l : Vec). sub binary64 a b ∷ l) (minus_snoc ps qs p q (omega arith))

plus_times_snoc : (qs bs : Vec) (q b s : Float) → length qs ≡ length bs
    → plus_times (qs ++ (q ∷ [])) (bs ++ (b ∷ [])) s ≡ plus_times qs bs s ++ (add binary64 q (mul binary64 b s) ∷ [])
unfolding plus_times
plus_times_snoc [] [] q b s e = refl
plus_times_snoc [] (y ∷ bs) q b s e = absurd (omega arith)
plus_times_snoc (x ∷ qs) [] q b s e = absurd (omega arith)
plus_times_snoc (x ∷ qs) (y ∷ bs) q b s e =
    ap (λ (l : Vec). add binary64 x (mul binary64 y s) ∷ l) (plus_times_snoc qs bs q b s (omega arith))

-- From i numbers to i + 1, in arrays that are long enough.
module _ (a b : List Float) (i : ℕ) (fits-a : i < length a) (fits-b : i < length b) where
  same_length : length (take i a) ≡ length (take i b)
  same_length = omega (arith, length-take-le i a (omega arith), length-take-le i b (omega arith))

  pub dot_more : add binary64 (dot (take i a) (take i b)) (mul binary64 (get_or a i nan) (get_or b i nan))
      ≡ dot (take (i + 1) a) (take (i + 1) b)
  unfolding dot
  dot_more = rw (take_more a i nan fits-a, take_more b i nan fits-b) (sym (dot_from_snoc zero64 _ _ _ _ same_length))

  pub minus_more : minus (take i a) (take i b) ++ (sub binary64 (get_or a i nan) (get_or b i nan) ∷ [])
      ≡ minus (take (i + 1) a) (take (i + 1) b)
  minus_more = rw (take_more a i nan fits-a, take_more b i nan fits-b) (sym (minus_snoc _ _ _ _ same_length))

  pub plus_times_more : (s : Float)
      → plus_times (take i a) (take i b) s ++ (add binary64 (get_or a i nan) (mul binary64 (get_or b i nan) s) ∷ [])
      ≡ plus_times (take (i + 1) a) (take (i + 1) b) s
  plus_times_more s =
      rw (take_more a i nan fits-a, take_more b i nan fits-b) (sym (plus_times_snoc _ _ _ _ s same_length))
