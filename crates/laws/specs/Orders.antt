-- Linear orders given by a comparison: numbers, pairs, and lists item by item. One lemma on `then_by` serves pairs
-- and lists alike. Leans on the definitions of lists.
use Rattle.std.specs.Prelude.{◌≡◌, Bool, true, false, not}
use Rattle.std.proofs.Math.Path.{refl, ap, subst}
use Rattle.std.proofs.Common.{sym, ◌∙◌, arith}
use mathlib.Core.List.{List, [], ◌∷◌}
use Prim.Native.Nat.compare
use Prim.Native.Nat.{ℕ, zero, suc, ◌<◌, compare, Ordering}
use Rattle.std.proofs.Math.Dec.{T, compare_is_eq}
use Rattle.definitions.specs.Lists.{is_gt, then_by, compare_list, compare_pair, compare_nats, compare_pairs}

-- the comparison the other way round
abbrev pub turned : Ordering → Ordering
turned Ordering.lt = Ordering.gt
turned Ordering.eq = Ordering.eq
turned Ordering.gt = Ordering.lt

-- ---- the three results are different
abbrev is_lt : Ordering → Bool
is_lt Ordering.lt = true
is_lt Ordering.eq = false
is_lt Ordering.gt = false

pub lt≢eq : Ordering.lt ≡ Ordering.eq → ⊥
lt≢eq e = subst (λ (o : Ordering). T (is_lt o)) e tt

pub lt≢gt : Ordering.lt ≡ Ordering.gt → ⊥
lt≢gt e = subst (λ (o : Ordering). T (is_lt o)) e tt

pub eq≢gt : Ordering.eq ≡ Ordering.gt → ⊥
eq≢gt e = subst (λ (o : Ordering). T (compare_is_eq o)) e tt

pub is_eq : (o : Ordering) → T (compare_is_eq o) → o ≡ Ordering.eq
is_eq Ordering.lt t = absurd t
is_eq Ordering.eq t = refl
is_eq Ordering.gt t = absurd t

-- ---- a linear order
pub record Linear {A : Type 0} (c : A → A → Ordering) : Type 0 where
  pub equal : (x y : A) → c x y ≡ Ordering.eq → x ≡ y
  pub self : (x : A) → c x x ≡ Ordering.eq
  pub mirror : (x y : A) → c y x ≡ turned (c x y)
  pub less : (x y z : A) → c x y ≡ Ordering.lt → c y z ≡ Ordering.lt → c x z ≡ Ordering.lt

-- ---- numbers
compare_self : (n : ℕ) → compare n n ≡ Ordering.eq
compare_self zero = compare.zero-zero
compare_self (suc n) = compare.suc-suc n n ∙ compare_self n

compare_mirror : (m n : ℕ) → compare n m ≡ turned (compare m n)
compare_mirror zero zero = compare.zero-zero ∙ sym (ap turned compare.zero-zero)
compare_mirror zero (suc n) = compare.suc-zero n ∙ sym (ap turned (compare.zero-suc n))
compare_mirror (suc m) zero = compare.zero-suc m ∙ sym (ap turned (compare.suc-zero m))
compare_mirror (suc m) (suc n) = compare.suc-suc n m ∙ compare_mirror m n ∙ sym (ap turned (compare.suc-suc m n))

compare_equal : (m n : ℕ) → compare m n ≡ Ordering.eq → m ≡ n
compare_equal zero zero e = refl
compare_equal zero (suc n) e = absurd (lt≢eq (sym (compare.zero-suc n) ∙ e))
compare_equal (suc m) zero e = absurd (eq≢gt (sym e ∙ compare.suc-zero m))
compare_equal (suc m) (suc n) e = ap suc (compare_equal m n (sym (compare.suc-suc m n) ∙ e))

pub compare_lt : (m n : ℕ) → compare m n ≡ Ordering.lt → m < n
compare_lt zero zero e = absurd (lt≢eq (sym e ∙ compare.zero-zero))
compare_lt zero (suc n) e = omega arith
compare_lt (suc m) zero e = absurd (lt≢gt (sym e ∙ compare.suc-zero m))
compare_lt (suc m) (suc n) e = let k = compare_lt m n (sym (compare.suc-suc m n) ∙ e) in omega arith

pub lt_compare : (m n : ℕ) → m < n → compare m n ≡ Ordering.lt
lt_compare m zero h = absurd (omega arith)
lt_compare zero (suc n) h = compare.zero-suc n
lt_compare (suc m) (suc n) h = compare.suc-suc m n ∙ lt_compare m n (omega arith)

pub nats : Linear compare
nats = record {
  equal = compare_equal;
  self = compare_self;
  mirror = compare_mirror;
  less = λ x y z e f. let a = compare_lt x y e in let b = compare_lt y z f in lt_compare x z (omega arith);
}

-- ---- one order behind another
then_equal : (a b : Ordering) → then_by a b ≡ Ordering.eq → (a ≡ Ordering.eq) × (b ≡ Ordering.eq)
unfolding then_by
then_equal Ordering.lt b e = absurd (lt≢eq e)
then_equal Ordering.eq b e = (refl, e)
then_equal Ordering.gt b e = absurd (eq≢gt (sym e))

pub then_alone : (o : Ordering) → then_by o Ordering.eq ≡ o
unfolding then_by
then_alone Ordering.lt = refl
then_alone Ordering.eq = refl
then_alone Ordering.gt = refl

then_self : (a b : Ordering) → a ≡ Ordering.eq → b ≡ Ordering.eq → then_by a b ≡ Ordering.eq
unfolding then_by
then_self a b e f = ap (λ (o : Ordering). then_by o b) e ∙ f

then_turned : (a b : Ordering) → then_by (turned a) (turned b) ≡ turned (then_by a b)
unfolding then_by
then_turned Ordering.lt b = refl
then_turned Ordering.eq b = refl
then_turned Ordering.gt b = refl

module _ {A : Type 0} (c : A → A → Ordering) (order : Linear c) (x y z : A) (s u w : Ordering)
    (tails : s ≡ Ordering.lt → u ≡ Ordering.lt → w ≡ Ordering.lt) where
  -- the heads decide, or they are equal and the tails do
  abbrev Less : Type 0
  Less = then_by (c x z) w ≡ Ordering.lt

  by_heads : c x z ≡ Ordering.lt → Less
  unfolding then_by
  by_heads e = ap (λ (o : Ordering). then_by o w) e

  by_tails : c x z ≡ Ordering.eq → s ≡ Ordering.lt → u ≡ Ordering.lt → Less
  unfolding then_by
  by_tails e f g = ap (λ (o : Ordering). then_by o w) e ∙ tails f g

  pub then_less : (a b : Ordering) → c x y ≡ a → c y z ≡ b → then_by a s ≡ Ordering.lt → then_by b u ≡ Ordering.lt
      → Less
  unfolding then_by
  then_less Ordering.lt Ordering.lt e f p q = by_heads (order.less x y z e f)
  then_less Ordering.lt Ordering.eq e f p q = by_heads (ap (c x) (sym (order.equal y z f)) ∙ e)
  then_less Ordering.lt Ordering.gt e f p q = absurd (lt≢gt (sym q))
  then_less Ordering.eq Ordering.lt e f p q = by_heads (ap (λ (v : A). c v z) (order.equal x y e) ∙ f)
  then_less Ordering.eq Ordering.eq e f p q = by_tails (ap (λ (v : A). c v z) (order.equal x y e) ∙ f) p q
  then_less Ordering.eq Ordering.gt e f p q = absurd (lt≢gt (sym q))
  then_less Ordering.gt b e f p q = absurd (lt≢gt (sym p))

-- ---- pairs
-- by the first item, then by the second
abbrev pub compare_both : {A B : Type 0} → (A → A → Ordering) → (B → B → Ordering) → A × B → A × B → Ordering
compare_both c d p q = then_by (c p.0 q.0) (d p.1 q.1)

module _ {A B : Type 0} (c : A → A → Ordering) (order : Linear c) (d : B → B → Ordering) (next : Linear d) where
  pub both : Linear (compare_both c d)
  both = record {
    equal = λ p q e.
        let h = then_equal (c p.0 q.0) (d p.1 q.1) e in
        let first = order.equal p.0 q.0 h.0 in
        let second = next.equal p.1 q.1 h.1 in
        λ i. (first i, second i);
    self = λ p. then_self (c p.0 p.0) (d p.1 p.1) (order.self p.0) (next.self p.1);
    mirror = λ p q.
        ap (λ (o : Ordering). then_by o (d q.1 p.1)) (order.mirror p.0 q.0)
        ∙ ap (then_by (turned (c p.0 q.0))) (next.mirror p.1 q.1)
        ∙ then_turned (c p.0 q.0) (d p.1 q.1);
    less = λ p q r e f.
        then_less c order p.0 q.0 r.0 (d p.1 q.1) (d q.1 r.1) (d p.1 r.1) (next.less p.1 q.1 r.1) (c p.0 q.0)
        (c q.0 r.0) refl refl e f;
  }

pub pairs : Linear compare_pair
unfolding compare_pair
pairs = both compare nats compare nats

-- ---- lists
module _ {A : Type 0} (c : A → A → Ordering) (order : Linear c) where
  list_equal : (xs ys : List A) → compare_list c xs ys ≡ Ordering.eq → xs ≡ ys
  unfolding compare_list
  list_equal [] [] e = refl
  list_equal [] (y ∷ ys) e = absurd (lt≢eq e)
  list_equal (x ∷ xs) [] e = absurd (eq≢gt (sym e))
  list_equal (x ∷ xs) (y ∷ ys) e =
      let h = then_equal (c x y) (compare_list c xs ys) e in
      let tail = list_equal xs ys h.1 in
      let head = order.equal x y h.0 in
      λ i. head i ∷ tail i

  list_self : (xs : List A) → compare_list c xs xs ≡ Ordering.eq
  unfolding compare_list
  list_self [] = refl
  list_self (x ∷ xs) = then_self (c x x) (compare_list c xs xs) (order.self x) (list_self xs)

  list_mirror : (xs ys : List A) → compare_list c ys xs ≡ turned (compare_list c xs ys)
  unfolding compare_list
  list_mirror [] [] = refl
  list_mirror [] (y ∷ ys) = refl
  list_mirror (x ∷ xs) [] = refl
  list_mirror (x ∷ xs) (y ∷ ys) =
      ap (λ (o : Ordering). then_by o (compare_list c ys xs)) (order.mirror x y)
      ∙ ap (then_by (turned (c x y))) (list_mirror xs ys)
      ∙ then_turned (c x y) (compare_list c xs ys)

  list_less : (xs ys zs : List A) → compare_list c xs ys ≡ Ordering.lt → compare_list c ys zs ≡ Ordering.lt
      → compare_list c xs zs ≡ Ordering.lt
  unfolding compare_list
  list_less [] [] zs e f = absurd (lt≢eq (sym e))
  list_less [] (y ∷ ys) [] e f = absurd (lt≢gt (sym f))
  list_less [] (y ∷ ys) (z ∷ zs) e f = refl
  list_less (x ∷ xs) [] zs e f = absurd (lt≢gt (sym e))
  list_less (x ∷ xs) (y ∷ ys) [] e f = absurd (lt≢gt (sym f))
  list_less (x ∷ xs) (y ∷ ys) (z ∷ zs) e f =
      then_less c order x y z (compare_list c xs ys) (compare_list c ys zs) (compare_list c xs zs)
      (list_less xs ys zs) (c x y) (c y z) refl refl e f

  pub lists : Linear (compare_list c)
  lists = record { equal = list_equal; self = list_self; mirror = list_mirror; less = list_less }

pub nat_lists : Linear compare_nats
unfolding compare_nats
nat_lists = lists compare nats

pub pair_lists : Linear compare_pairs
unfolding compare_pairs
pair_lists = lists compare_pair pairs

-- ---- not above: what sorting needs
module _ {A : Type 0} (c : A → A → Ordering) (order : Linear c) where
  abbrev pub NotAbove : A → A → Type 0
  NotAbove x y = T (not (is_gt (c x y)))

  pub other_way : (x y : A) → T (is_gt (c x y)) → NotAbove y x
  unfolding is_gt
  other_way x y t = go (c x y) (order.mirror x y) t
    where
      go : (o : Ordering) → c y x ≡ turned o → T (is_gt o) → T (not (is_gt (c y x)))
      go Ordering.lt e u = absurd u
      go Ordering.eq e u = absurd u
      go Ordering.gt e u = subst (λ (o : Ordering). T (not (is_gt o))) (sym e) tt

  pub not_above_trans : (x y z : A) → NotAbove x y → NotAbove y z → NotAbove x z
  unfolding is_gt
  not_above_trans x y z s t = go (c x y) (c y z) refl refl s t
    where
      by : (o : Ordering) → c x z ≡ o → T (not (is_gt o)) → T (not (is_gt (c x z)))
      by o e u = subst (λ (v : Ordering). T (not (is_gt v))) (sym e) u

      go : (a b : Ordering) → c x y ≡ a → c y z ≡ b → T (not (is_gt a)) → T (not (is_gt b)) → T (not (is_gt (c x z)))
      go Ordering.lt Ordering.lt e f u v = by Ordering.lt (order.less x y z e f) tt
      go Ordering.lt Ordering.eq e f u v = by Ordering.lt (ap (c x) (sym (order.equal y z f)) ∙ e) tt
      go Ordering.lt Ordering.gt e f u v = absurd v
      go Ordering.eq b e f u v = by b (ap (λ (w : A). c w z) (order.equal x y e) ∙ f) v
      go Ordering.gt b e f u v = absurd u
