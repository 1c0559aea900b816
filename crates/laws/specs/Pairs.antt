-- A relation between every item of a list and every later one, and how it passes through the words that build lists.
-- Leans on Lists.
use Rattle.std.specs.Prelude.{◌≡◌, refl, ◌⊎◌, Bool, cond, ℕ, zero, suc, ◌<◌, take, replicate}
use Rattle.std.proofs.Common.{sym, subst, inl, inr, arith}
use Rattle.std.proofs.Math.Logic.{∥∥₁_elim}
use Rattle.std.proofs.Math.Bool.{true, false}
use mathlib.Core.List.{List, [], ◌∷◌, ◌++◌, map, flat_map, reverse_aux, Memᴰ, Nodup, Pairwise}
use Rattle.definitions.specs.Lists.{keep, count_from}
use Rattle.laws.specs.Lists.{Mem, here, there, in_append, kept, of_flat_map, of_map, of_count, in_replicate}

module _ {A : Type 0} (R : A → A → Type 0) where
  abbrev pub Pairs : List A → Type 0
  Pairs [] = Unit {0}
  Pairs (x ∷ l) = ((y : A) → Mem y l → R x y) × Pairs l

  pub pairs_append : (l m : List A) → Pairs l → Pairs m → ((x : A) → Mem x l → (y : A) → Mem y m → R x y)
      → Pairs (l ++ m)
  pairs_append [] m h k f = k
  pairs_append (x ∷ l) m h k f = (across, pairs_append l m h.1 k (λ y i. f y (there i)))
    where
      across : (y : A) → Mem y (l ++ m) → R x y
      across y i = go (in_append y l m i)
        where
          go : Mem y l ⊎ Mem y m → R x y
          go (inl j) = h.0 y j
          go (inr j) = f x (here refl) y j

  -- a relation that holds both ways survives reversing
  pub pairs_reversed : ((x y : A) → R x y → R y x) → (l m : List A) → Pairs l → Pairs m
      → ((x : A) → Mem x l → (y : A) → Mem y m → R x y) → Pairs (reverse_aux l m)
  pairs_reversed s [] m h k f = k
  pairs_reversed s (x ∷ l) m h k f = pairs_reversed s l (x ∷ m) h.1 (f x (here refl), k) across
    where
      across : (y : A) → Mem y l → (z : A) → Mem z (x ∷ m) → R y z
      across y i z (Memᴰ.head e) = subst (R y) (sym e) (s x y (h.0 y i))
      across y i z (Memᴰ.tail j) = f y (there i) z j

  pub pairs_keep : (p : A → Bool) (l : List A) → Pairs l → Pairs (keep p l)
  unfolding keep
  pairs_keep p [] h = tt
  pairs_keep p (x ∷ l) h = go (p x) (pairs_keep p l h.1)
    where
      go : (b : Bool) → Pairs (keep p l) → Pairs (cond b (x ∷ keep p l) (keep p l))
      go true k = ((λ y i. h.0 y (kept p y l i).0), k)
      go false k = k

  -- one item often: it is related to itself
  pub pairs_replicate : (n : ℕ) (x : A) → (1 < n → R x x) → Pairs (replicate n x)
  pairs_replicate zero x f = tt
  pairs_replicate (suc zero) x f = ((λ y i. elim i [ ]), tt)
  pairs_replicate (suc (suc n)) x f = (again, pairs_replicate (suc n) x (λ h. f (omega arith)))
    where
      again : (y : A) → Mem y (replicate (suc n) x) → R x y
      again y i = subst (R x) (sym (in_replicate (suc n) y x i)) (f (omega arith))

module _ {A B : Type 0} (S : A → A → Type 0) (R : B → B → Type 0) where
  pub pairs_map : (f : A → B) (l : List A) → ((x : A) → Mem x l → (y : A) → Mem y l → S x y → R (f x) (f y))
      → Pairs S l → Pairs R (map f l)
  pairs_map f [] g h = tt
  pairs_map f (x ∷ l) g h = (across, pairs_map f l (λ y i z j. g y (there i) z (there j)) h.1)
    where
      across : (y : B) → Mem y (map f l) → R (f x) y
      across y i = let r = of_map f y l i in subst (R (f x)) (sym r.2) (g x (here refl) r.0 (there r.1) (h.0 r.0 r.1))

  pub pairs_flat_map : (f : A → List B) (l : List A) → ((x : A) → Mem x l → Pairs R (f x))
      → ((x : A) → Mem x l → (y : A) → Mem y l → S x y → (u : B) → Mem u (f x) → (v : B) → Mem v (f y) → R u v)
      → Pairs S l → Pairs R (flat_map f l)
  unfolding flat_map
  pairs_flat_map f [] within across h = tt
  pairs_flat_map f (x ∷ l) within across h =
      pairs_append R (f x) (flat_map f l) (within x (here refl))
      (pairs_flat_map f l (λ y i. within y (there i)) (λ y i z j. across y (there i) z (there j)) h.1)
      (λ u i v j. let r = of_flat_map f v l j in across x (here refl) r.0 (there r.1) (h.0 r.0 r.1) u i v r.2)

module _ {A : Type 0} where
  -- no item twice, in the library's word
  pub pairs→nodup : (l : List A) → Pairs (λ (x y : A). x ≡ y → ⊥) l → Nodup l
  pairs→nodup [] h = Pairwise.nil
  pairs→nodup (x ∷ l) h = Pairwise.cons (λ y m e. ∥∥₁_elim m (λ a b. elim a [ ]) (λ i. h.0 y i e)) (pairs→nodup l h.1)

  pub in_take : (n : ℕ) (x : A) (l : List A) → Mem x (take n l) → Mem x l
  in_take zero x l h = elim h [ ]
  in_take (suc n) x [] h = h
  in_take (suc n) x (y ∷ l) (Memᴰ.head e) = here e
  in_take (suc n) x (y ∷ l) (Memᴰ.tail h) = there (in_take n x l h)

  pub pairs_take : (R : A → A → Type 0) (n : ℕ) (l : List A) → Pairs R l → Pairs R (take n l)
  pairs_take R zero l h = tt
  pairs_take R (suc n) [] h = tt
  pairs_take R (suc n) (x ∷ l) h = ((λ y i. h.0 y (in_take n y l i)), pairs_take R n l h.1)

-- a, a + 1, .. ascend
pub count_ascends : (a n : ℕ) → Pairs (λ (x y : ℕ). x < y) (count_from a n)
unfolding count_from
count_ascends a zero = tt
count_ascends a (suc n) = ((λ y i. let r = (of_count (suc a) n y i).0 in omega arith), count_ascends (suc a) n)
