-- Laws of the list words of the definitions, over membership. `Mem` is the library's membership with its place.
use Rattle.std.specs.Prelude.{◌≡◌, ◌⊎◌, Bool, not, ◌||◌, eqb, get_or, replicate}
use Rattle.std.proofs.Math.Path.{refl, sym, ap, subst}
use Rattle.std.proofs.Common.{◌∙◌, inl, inr, eqb→eq}
use Rattle.std.proofs.Math.Bool.{true, false, cond, or_assoc}
use mathlib.Core.List.Memᴰ
use mathlib.Core.List.{List, [], ◌∷◌, ◌++◌, map, flat_map, reverse_aux, append_assoc, Memᴰ}
use Prim.Native.Nat.{ℕ, zero, suc, ◌+◌, ◌≤◌, ◌<◌}
use native.Mathlib.Omega.{arith}
use Rattle.std.proofs.Math.Dec.{T}
use Rattle.std.proofs.Math.ListN.{length}
use Rattle.definitions.specs.Lists.{keep, any_of, all_of, place_of, map_at, count_from}
use Rattle.laws.specs.Bools.{true→holds, false→fails, left_of, right_of, either, both, first, second, apart}

abbrev pub Mem : {A : Type 0} → A → List A → Type 0
Mem x l = Memᴰ x l

module _ {A : Type 0} where
  pub here : {x y : A} {l : List A} → x ≡ y → Mem x (y ∷ l)
  here e = Memᴰ.head e

  pub there : {x y : A} {l : List A} → Mem x l → Mem x (y ∷ l)
  there h = Memᴰ.tail h

  -- ---- tests over a list
  pub any_of_holds : (p : A → Bool) (x : A) (l : List A) → Mem x l → T (p x) → T (any_of p l)
  unfolding any_of
  any_of_holds p x [] x3 t = elim x3 [ ]
  any_of_holds p x (y ∷ ys) (Memᴰ.head e) t = left_of (p y) (any_of p ys) (subst (λ (z : A). T (p z)) e t)
  any_of_holds p x (y ∷ ys) (Memᴰ.tail h) t = right_of (p y) (any_of p ys) (any_of_holds p x ys h t)

  pub any_witness : (p : A → Bool) (l : List A) → T (any_of p l) → (x : A) × Mem x l × T (p x)
  unfolding any_of
  any_witness p [] t = absurd t
  any_witness p (y ∷ ys) t = go (either (p y) (any_of p ys) t) (λ u. any_witness p ys u)
    where
      go : T (p y) ⊎ T (any_of p ys) → (T (any_of p ys) → (x : A) × Mem x ys × T (p x))
          → (x : A) × Mem x (y ∷ ys) × T (p x)
      go (inl u) ih = (y, here refl, u)
      go (inr u) ih = let r = ih u in (r.0, there r.1, r.2)

  pub all_of_holds : (p : A → Bool) (l : List A) → T (all_of p l) → (x : A) → Mem x l → T (p x)
  unfolding all_of
  all_of_holds p [] t x x4 = elim x4 [ ]
  all_of_holds p (y ∷ ys) t x (Memᴰ.head e) = subst (λ (z : A). T (p z)) (sym e) (first (p y) (all_of p ys) t)
  all_of_holds p (y ∷ ys) t x (Memᴰ.tail h) = all_of_holds p ys (second (p y) (all_of p ys) t) x h

  pub all_by : (p : A → Bool) (l : List A) → ((x : A) → Mem x l → T (p x)) → T (all_of p l)
  unfolding all_of
  all_by p [] f = tt
  all_by p (y ∷ ys) f = both (p y) (all_of p ys) (f y (here refl)) (all_by p ys (λ x h. f x (there h)))

  -- ---- the items that pass
  pub in_keep : (p : A → Bool) (x : A) (l : List A) → Mem x l → T (p x) → Mem x (keep p l)
  unfolding keep
  in_keep p x [] x3 t = elim x3 [ ]
  in_keep p x (y ∷ ys) (Memᴰ.head e) t = go (p y) (subst (λ (z : A). T (p z)) e t)
    where
      go : (b : Bool) → T b → Mem x (cond b (y ∷ keep p ys) (keep p ys))
      go true u = here e
      go false u = absurd u
  in_keep p x (y ∷ ys) (Memᴰ.tail h) t = go (p y) (in_keep p x ys h t)
    where
      go : (b : Bool) → Mem x (keep p ys) → Mem x (cond b (y ∷ keep p ys) (keep p ys))
      go true k = there k
      go false k = k

  pub kept : (p : A → Bool) (x : A) (l : List A) → Mem x (keep p l) → Mem x l × T (p x)
  unfolding keep
  kept p x [] h = elim h [ ]
  kept p x (y ∷ ys) h = go (p y) refl h (λ k. kept p x ys k)
    where
      later : Mem x ys × T (p x) → Mem x (y ∷ ys) × T (p x)
      later r = (there r.0, r.1)

      go : (b : Bool) → p y ≡ b → Mem x (cond b (y ∷ keep p ys) (keep p ys))
          → (Mem x (keep p ys) → Mem x ys × T (p x)) → Mem x (y ∷ ys) × T (p x)
      go true e (Memᴰ.head q) ih = (here q, subst (λ (z : A). T (p z)) (sym q) (true→holds e))
      go true e (Memᴰ.tail k) ih = later (ih k)
      go false e k ih = later (ih k)

  pub keep_all : (p : A → Bool) (l : List A) → ((x : A) → Mem x l → T (p x)) → keep p l ≡ l
  unfolding keep
  keep_all p [] f = refl
  keep_all p (y ∷ ys) f = go (p y) (f y (here refl)) (keep_all p ys (λ x h. f x (there h)))
    where
      go : (b : Bool) → T b → keep p ys ≡ ys → cond b (y ∷ keep p ys) (keep p ys) ≡ y ∷ ys
      go true t e = ap (λ (l : List A). y ∷ l) e
      go false t e = absurd t

  pub keep_append : (p : A → Bool) (l m : List A) → keep p (l ++ m) ≡ keep p l ++ keep p m
  unfolding keep
  keep_append p [] m = refl
  keep_append p (x ∷ l) m = go (p x) (keep_append p l m)
    where
      go : (b : Bool) → keep p (l ++ m) ≡ keep p l ++ keep p m
          → cond b (x ∷ keep p (l ++ m)) (keep p (l ++ m)) ≡ cond b (x ∷ keep p l) (keep p l) ++ keep p m
      go true e = ap (λ (k : List A). x ∷ k) e
      go false e = e

  pub any_append : (p : A → Bool) (l m : List A) → any_of p (l ++ m) ≡ (any_of p l || any_of p m)
  unfolding any_of
  any_append p [] m = refl
  any_append p (x ∷ l) m =
      ap (λ (b : Bool). p x || b) (any_append p l m) ∙ sym (or_assoc (p x) (any_of p l) (any_of p m))

  pub keep_few : (p : A → Bool) (l : List A) → length (keep p l) ≤ length l
  unfolding keep
  keep_few p [] = omega arith
  keep_few p (y ∷ l) = go (p y) (keep_few p l)
    where
      go : (b : Bool) → length (keep p l) ≤ length l → length (cond b (y ∷ keep p l) (keep p l)) ≤ suc (length l)
      go true h = omega arith
      go false h = omega arith

  -- a stronger test keeps no more, and less where something is lost
  pub keep_fewer : (p q : A → Bool) (l : List A) → ((x : A) → T (q x) → T (p x)) → length (keep q l) ≤ length (keep p l)
  unfolding keep
  keep_fewer p q [] f = omega arith
  keep_fewer p q (y ∷ ys) f = go (p y) (q y) (f y) (keep_fewer p q ys f)
    where
      go : (a b : Bool) → (T b → T a) → length (keep q ys) ≤ length (keep p ys)
          → length (cond b (y ∷ keep q ys) (keep q ys)) ≤ length (cond a (y ∷ keep p ys) (keep p ys))
      go true true g ih = omega arith
      go true false g ih = omega arith
      go false true g ih = absurd (g tt)
      go false false g ih = ih

  pub keep_less : (p q : A → Bool) (x : A) (l : List A) → ((y : A) → T (q y) → T (p y)) → Mem x l → T (p x)
      → T (not (q x)) → length (keep q l) < length (keep p l)
  unfolding keep
  keep_less p q x [] f x5 t n = elim x5 [ ]
  keep_less p q x (y ∷ ys) f (Memᴰ.head e) t n =
      go (p y) (q y) (subst (λ (z : A). T (p z)) e t) (subst (λ (z : A). T (not (q z))) e n) (keep_fewer p q ys f)
    where
      go : (a b : Bool) → T a → T (not b) → length (keep q ys) ≤ length (keep p ys)
          → length (cond b (y ∷ keep q ys) (keep q ys)) < length (cond a (y ∷ keep p ys) (keep p ys))
      go true true u v w = absurd v
      go true false u v w = omega arith
      go false b u v w = absurd u
  keep_less p q x (y ∷ ys) f (Memᴰ.tail h) t n = go (p y) (q y) (f y) (keep_less p q x ys f h t n)
    where
      go : (a b : Bool) → (T b → T a) → length (keep q ys) < length (keep p ys)
          → length (cond b (y ∷ keep q ys) (keep q ys)) < length (cond a (y ∷ keep p ys) (keep p ys))
      go true true g ih = omega arith
      go true false g ih = omega arith
      go false true g ih = absurd (g tt)
      go false false g ih = ih

  -- ---- the first place
  pub place_hit : (p : A → Bool) (d : A) (l : List A) → place_of p l < length l → T (p (get_or l (place_of p l) d))
  unfolding place_of
  place_hit p d [] h = absurd (omega arith)
  place_hit p d (x ∷ xs) h = go (p x) refl h (λ k. place_hit p d xs k)
    where
      go : (b : Bool) → p x ≡ b → cond b 0 (suc (place_of p xs)) < suc (length xs)
          → (place_of p xs < length xs → T (p (get_or xs (place_of p xs) d)))
          → T (p (get_or (x ∷ xs) (cond b 0 (suc (place_of p xs))) d))
      go true e k ih = true→holds e
      go false e k ih = ih (omega arith)

  pub place_miss : (p : A → Bool) (d : A) (l : List A) (i : ℕ) → i < place_of p l → i < length l
      → T (not (p (get_or l i d)))
  unfolding place_of
  place_miss p d [] i h k = absurd (omega arith)
  place_miss p d (x ∷ xs) i h k = go (p x) refl i h k (λ j q z. place_miss p d xs j q z)
    where
      go : (b : Bool) → p x ≡ b → (i : ℕ) → i < cond b 0 (suc (place_of p xs)) → i < suc (length xs) → ((j : ℕ)
          → j < place_of p xs → j < length xs → T (not (p (get_or xs j d)))) → T (not (p (get_or (x ∷ xs) i d)))
      go true e i h k ih = absurd (omega arith)
      go false e zero h k ih = false→fails e
      go false e (suc i) h k ih = ih i (omega arith) (omega arith)

  pub member_at : (l : List A) (i : ℕ) (d : A) → i < length l → Mem (get_or l i d) l
  member_at [] i d h = absurd (omega arith)
  member_at (x ∷ xs) zero d h = here refl
  member_at (x ∷ xs) (suc i) d h = there (member_at xs i d (omega arith))

  pub at_member : (x : A) (l : List A) (d : A) → Mem x l → (i : ℕ) × (i < length l) × (get_or l i d ≡ x)
  at_member x [] d x'' = elim x'' [ ]
  at_member x (y ∷ ys) d (Memᴰ.head e) = (0, omega arith, sym e)
  at_member x (y ∷ ys) d (Memᴰ.tail h) = let r = at_member x ys d h in let k = r.1 in (suc r.0, omega arith, r.2)

  -- ---- appended, reversed, repeated
  pub in_append : (x : A) (l m : List A) → Mem x (l ++ m) → Mem x l ⊎ Mem x m
  in_append x [] m h = inr h
  in_append x (y ∷ l) m (Memᴰ.head e) = inl (here e)
  in_append x (y ∷ l) m (Memᴰ.tail h) = go (in_append x l m h)
    where
      go : Mem x l ⊎ Mem x m → Mem x (y ∷ l) ⊎ Mem x m
      go (inl k) = inl (there k)
      go (inr k) = inr k

  pub in_left : (x : A) (l m : List A) → Mem x l → Mem x (l ++ m)
  in_left x l m h = Memᴰ.append_left m h

  pub in_right : (x : A) (l m : List A) → Mem x m → Mem x (l ++ m)
  in_right x l m h = Memᴰ.append_right l h

  pub in_reversed : (x : A) (l m : List A) → Mem x l ⊎ Mem x m → Mem x (reverse_aux l m)
  in_reversed x [] m (inl h) = elim h [ ]
  in_reversed x [] m (inr h) = h
  in_reversed x (y ∷ l) m (inl (Memᴰ.head e)) = in_reversed x l (y ∷ m) (inr (here e))
  in_reversed x (y ∷ l) m (inl (Memᴰ.tail h)) = in_reversed x l (y ∷ m) (inl h)
  in_reversed x (y ∷ l) m (inr h) = in_reversed x l (y ∷ m) (inr (there h))

  pub of_reversed : (x : A) (l m : List A) → Mem x (reverse_aux l m) → Mem x l ⊎ Mem x m
  of_reversed x [] m h = inr h
  of_reversed x (y ∷ l) m h = go (of_reversed x l (y ∷ m) h)
    where
      go : Mem x l ⊎ Mem x (y ∷ m) → Mem x (y ∷ l) ⊎ Mem x m
      go (inl k) = inl (there k)
      go (inr (Memᴰ.head e)) = inl (here e)
      go (inr (Memᴰ.tail k)) = inr k

  pub reversed_append : (l m : List A) → reverse_aux l m ≡ reverse_aux l [] ++ m
  reversed_append [] m = refl
  reversed_append (x ∷ l) m = rw (reversed_append l (x ∷ m), reversed_append l (x ∷ []), append_assoc)

  pub in_replicate : (n : ℕ) (x y : A) → Mem x (replicate n y) → x ≡ y
  in_replicate zero x y h = elim h [ ]
  in_replicate (suc n) x y (Memᴰ.head e) = e
  in_replicate (suc n) x y (Memᴰ.tail h) = in_replicate n x y h

  pub replicate_some : (n : ℕ) (x y : A) → Mem x (replicate n y) → 0 < n
  replicate_some zero x y h = elim h [ ]
  replicate_some (suc n) x y h = omega arith

  pub replicate_in : (n : ℕ) (x : A) → 0 < n → Mem x (replicate n x)
  replicate_in zero x h = absurd (omega arith)
  replicate_in (suc n) x h = here refl

module _ {A B : Type 0} where
  pub in_map : (f : A → B) (x : A) (l : List A) → Mem x l → Mem (f x) (map f l)
  in_map f x [] x'' = elim x'' [ ]
  in_map f x (y ∷ ys) (Memᴰ.head e) = here (ap f e)
  in_map f x (y ∷ ys) (Memᴰ.tail h) = there (in_map f x ys h)

  pub of_map : (f : A → B) (y : B) (l : List A) → Mem y (map f l) → (x : A) × Mem x l × (y ≡ f x)
  of_map f y [] x' = elim x' [ ]
  of_map f y (x ∷ l) (Memᴰ.head e) = (x, here refl, e)
  of_map f y (x ∷ l) (Memᴰ.tail h) = let r = of_map f y l h in (r.0, there r.1, r.2)

  pub in_flat_map : (f : A → List B) (y : B) (x : A) (l : List A) → Mem x l → Mem y (f x) → Mem y (flat_map f l)
  unfolding flat_map
  in_flat_map f y x [] x3 h = elim x3 [ ]
  in_flat_map f y x (z ∷ l) (Memᴰ.head e) h = in_left y (f z) (flat_map f l) (subst (λ (a : A). Mem y (f a)) e h)
  in_flat_map f y x (z ∷ l) (Memᴰ.tail k) h = in_right y (f z) (flat_map f l) (in_flat_map f y x l k h)

  pub of_flat_map : (f : A → List B) (y : B) (l : List A) → Mem y (flat_map f l) → (x : A) × Mem x l × Mem y (f x)
  unfolding flat_map
  of_flat_map f y [] h = elim h [ ]
  of_flat_map f y (z ∷ l) h = go (in_append y (f z) (flat_map f l) h) (λ k. of_flat_map f y l k)
    where
      go : Mem y (f z) ⊎ Mem y (flat_map f l) → (Mem y (flat_map f l) → (x : A) × Mem x l × Mem y (f x))
          → (x : A) × Mem x (z ∷ l) × Mem y (f x)
      go (inl k) ih = (z, here refl, k)
      go (inr k) ih = let r = ih k in (r.0, there r.1, r.2)

  pub flat_map_append : (f : A → List B) (xs ys : List A) → flat_map f (xs ++ ys) ≡ flat_map f xs ++ flat_map f ys
  unfolding flat_map
  flat_map_append f [] ys = refl
  flat_map_append f (x ∷ xs) ys = rw (flat_map_append f xs ys, append_assoc)

  pub flat_map_same : (f g : A → List B) (xs : List A) → ((x : A) → Mem x xs → f x ≡ g x)
      → flat_map f xs ≡ flat_map g xs
  unfolding flat_map
  flat_map_same f g [] h = refl
  flat_map_same f g (x ∷ xs) h = rw (h x (here refl), flat_map_same f g xs (λ y k. h y (there k)))

  pub map_at_holds : (f : A → B) (l : List A) (i : ℕ) (d : B) (e : A) → i < length l
      → get_or (map f l) i d ≡ f (get_or l i e)
  map_at_holds f [] i d e h = absurd (omega arith)
  map_at_holds f (x ∷ xs) zero d e h = refl
  map_at_holds f (x ∷ xs) (suc i) d e h = map_at_holds f xs i d e (omega arith)

  -- an item of a list that is mapped with places
  pub of_map_at : (f : ℕ → A → B) (d : A) (y : B) (a : ℕ) (l : List A) → Mem y (map_at f a l)
      → (i : ℕ) × (i < length l) × (y ≡ f (a + i) (get_or l i d))
  unfolding map_at
  of_map_at f d y a [] x' = elim x' [ ]
  of_map_at f d y a (x ∷ l) (Memᴰ.head e) = (0, omega arith, e ∙ ap (λ (n : ℕ). f n x) (omega arith))
  of_map_at f d y a (x ∷ l) (Memᴰ.tail h) =
      let r = of_map_at f d y (suc a) l h in
      let k = r.1 in
      (suc r.0, omega arith, r.2 ∙ ap (λ (n : ℕ). f n (get_or l r.0 d)) (omega arith))

  pub in_map_at : (f : ℕ → A → B) (d : A) (a : ℕ) (l : List A) (i : ℕ) → i < length l
      → Mem (f (a + i) (get_or l i d)) (map_at f a l)
  unfolding map_at
  in_map_at f d a [] i h = absurd (omega arith)
  in_map_at f d a (x ∷ l) zero h = here (ap (λ (n : ℕ). f n x) (omega arith))
  in_map_at f d a (x ∷ l) (suc i) h =
      there (subst (λ (n : ℕ). Mem (f n (get_or l i d)) (map_at f (suc a) l)) (omega arith)
      (in_map_at f d (suc a) l i (omega arith)))

-- ---- a, a + 1, ..
pub count_at : (a n i d : ℕ) → i < n → get_or (count_from a n) i d ≡ a + i
unfolding count_from
count_at a zero i d h = absurd (omega arith)
count_at a (suc n) zero d h = omega arith
count_at a (suc n) (suc i) d h = count_at (suc a) n i d (omega arith) ∙ omega arith

pub count_length : (a n : ℕ) → length (count_from a n) ≡ n
unfolding count_from
count_length a zero = refl
count_length a (suc n) = ap suc (count_length (suc a) n)

-- one number more
pub count_more : (a n : ℕ) → count_from a (n + 1) ≡ count_from a n ++ ((a + n) ∷ [])
unfolding count_from
count_more a zero = let e : a ≡ a + 0 = omega arith in ap (λ (k : ℕ). k ∷ []) e
count_more a (suc n) =
    let e : suc a + n ≡ a + suc n = omega arith in
    let f : suc n + 1 ≡ suc (n + 1) = omega arith in
    ap (count_from a) f
    ∙ ap (λ (l : List ℕ). a ∷ l) (count_more (suc a) n ∙ ap (λ (k : ℕ). count_from (suc a) n ++ (k ∷ [])) e)

pub in_count : (a n x : ℕ) → a ≤ x → x < a + n → Mem x (count_from a n)
unfolding count_from
in_count a zero x h k = absurd (omega arith)
in_count a (suc n) x h k = go (eqb a x) refl (λ q. in_count (suc a) n x q (omega arith))
  where
    go : (b : Bool) → eqb a x ≡ b → (suc a ≤ x → Mem x (count_from (suc a) n)) → Mem x (a ∷ count_from (suc a) n)
    go true e ih = here (sym (eqb→eq a x (true→holds e)))
    go false e ih = there (ih (let d = apart a x e in omega arith))

pub of_count : (a n x : ℕ) → Mem x (count_from a n) → (a ≤ x) × (x < a + n)
unfolding count_from
of_count a zero x x3 = elim x3 [ ]
of_count a (suc n) x (Memᴰ.head e) = (omega arith, omega arith)
of_count a (suc n) x (Memᴰ.tail h) =
    let r = of_count (suc a) n x h in
    let k = r.0 in
    let m = r.1 in
    (omega arith, omega arith)

-- ---- items by their places

-- inside a list it does not matter what stands for the end
pub read_inside : {A : Type 0} (l : List A) (i : ℕ) (d e : A) → i < length l → get_or l i d ≡ get_or l i e
read_inside [] i d e h = absurd (omega arith)
read_inside (x ∷ l) zero d e h = refl
read_inside (x ∷ l) (suc i) d e h = read_inside l i d e (omega arith)

-- an item behind the first of two lists, and of equal items
pub append_at : {A : Type 0} (l m : List A) (i : ℕ) (d : A) → get_or (l ++ m) (length l + i) d ≡ get_or m i d
append_at [] m i d = ap (λ (n : ℕ). get_or m n d) (omega arith)
append_at {A} (x ∷ l) m i d = ap (λ (n : ℕ). get_or (x ∷ (l ++ m)) n d) step ∙ append_at l m i d
  where
    step : suc (length l) + i ≡ suc (length l + i)
    step = omega arith

pub replicate_at : {A : Type 0} (n : ℕ) (x : A) (i : ℕ) (d : A) → i < n → get_or (replicate n x) i d ≡ x
replicate_at zero x i d h = absurd (omega arith)
replicate_at (suc n) x zero d h = refl
replicate_at (suc n) x (suc i) d h = replicate_at n x i d (omega arith)
