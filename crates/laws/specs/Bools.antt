-- Laws of tests: what a test that holds says of its parts. Leans on the library alone.
use Rattle.std.specs.Prelude.{◌≡◌, refl, ◌⊎◌, Bool, true, false, not, ◌&&◌, ◌||◌, ℕ, T, eqb}
use Rattle.std.proofs.Common.{sym, subst, inl, inr, T_not}
use Rattle.std.proofs.Math.Dec.{eqb_refl}

pub holds→true : (b : Bool) → T b → b ≡ true
holds→true true t = refl
holds→true false t = absurd t

pub true→holds : {b : Bool} → b ≡ true → T b
true→holds e = subst T (sym e) tt

pub false→fails : {b : Bool} → b ≡ false → T (not b)
false→fails e = subst (λ (x : Bool). T (not x)) (sym e) tt

pub fails→false : (b : Bool) → T (not b) → b ≡ false
fails→false true t = absurd t
fails→false false t = refl

pub both : (a b : Bool) → T a → T b → T (a && b)
both true b s t = t
both false b s t = s

pub first : (a b : Bool) → T (a && b) → T a
first true b t = tt
first false b t = t

pub second : (a b : Bool) → T (a && b) → T b
second true b t = t
second false b t = absurd t

pub left_of : (a b : Bool) → T a → T (a || b)
left_of true b t = tt
left_of false b t = absurd t

pub right_of : (a b : Bool) → T b → T (a || b)
right_of true b t = tt
right_of false b t = t

pub either : (a b : Bool) → T (a || b) → T a ⊎ T b
either true b t = inl tt
either false b t = inr t

pub neither : (a b : Bool) → T (not a) → T (not b) → T (not (a || b))
neither true b s t = s
neither false b s t = t

-- a test holds or fails
pub decide : (b : Bool) → T b ⊎ T (not b)
decide true = inl tt
decide false = inr tt

-- two tests that follow from each other are equal
pub same_test : (a b : Bool) → (T a → T b) → (T b → T a) → a ≡ b
same_test true true f g = refl
same_test true false f g = absurd (f tt)
same_test false true f g = absurd (g tt)
same_test false false f g = refl

-- numbers that a test tells apart
pub apart : (a x : ℕ) → eqb a x ≡ false → ¬ (a ≡ x)
apart a x e z = T_not (eqb a x) (false→fails e) (subst (λ (y : ℕ). T (eqb a y)) z (eqb_refl a))

-- a test that holds does not fail
pub not_not : (b : Bool) → T b → T (not (not b))
not_not true t = t
not_not false t = t

pub or_swap : (a b c : Bool) → (a || (b || c)) ≡ (b || (a || c))
or_swap true true c = refl
or_swap true false c = refl
or_swap false true c = refl
or_swap false false c = refl
