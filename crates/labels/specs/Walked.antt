-- How far the walk of b through a comes: the items of b that it finds, one after another. It comes to the end of b
-- where it finds all of them (`found_all`); and of two lists that begin alike beyond the first item that is not
-- found, it finds the same items (`found_alike`). Leans on the walk of the definitions. Assumes nothing.
use Rattle.std.specs.Prelude.{◌≡◌, refl, Bool, true, false, List, [], ◌∷◌, eqb, length}
use Rattle.std.proofs.Common.{sym, ap, ◌∙◌, subst, arith, eq-eqb, ne_eqb, eqb→eq}
use Rattle.std.specs.Prelude.{Option, Some, None}
use Prim.Native.Nat.{ℕ, suc, ◌≤◌, ◌<◌, compare, Ordering}
use Rattle.definitions.specs.Figures.{cons_in, walk}
use Rattle.definitions.specs.Plain.{is_found}
use Rattle.laws.specs.Bools.{true→holds, apart}
use Rattle.laws.specs.Orders.{nats}

unfoldable pub items_found : List ℕ → List ℕ → ℕ
items_found [] b = 0
items_found (x ∷ a) [] = 0
items_found (x ∷ a) (y ∷ b) = elim (compare x y) [
  | Ordering.lt ↦ items_found a (y ∷ b)
  | Ordering.eq ↦ suc (items_found a b)
  | Ordering.gt ↦ 0
]

-- how many items two lists have in common, from the first on
unfoldable pub shared : List ℕ → List ℕ → ℕ
shared [] c = 0
shared (y ∷ b) [] = 0
shared (y ∷ b) (z ∷ c) = elim (compare y z) [
  | Ordering.lt ↦ 0
  | Ordering.eq ↦ suc (shared b c)
  | Ordering.gt ↦ 0
]

pub none_found : (a : List ℕ) → items_found a [] ≡ 0
unfolding items_found
none_found [] = refl
none_found (x ∷ a) = refl

pub found_few : (a b : List ℕ) → items_found a b ≤ length b
unfolding items_found
found_few [] b = omega arith
found_few (x ∷ a) [] = omega arith
found_few (x ∷ a) (y ∷ b) = go (compare x y) (found_few a (y ∷ b)) (found_few a b)
  where
    go : (o : Ordering) → items_found a (y ∷ b) ≤ suc (length b) → items_found a b ≤ length b
        → (elim o [ Ordering.lt ↦ items_found a (y ∷ b) | Ordering.eq ↦ suc (items_found a b) | Ordering.gt ↦ 0 ])
        ≤ suc (length b)
    go Ordering.lt h k = h
    go Ordering.eq h k = omega arith
    go Ordering.gt h k = omega arith

pub found_within : (a b : List ℕ) → items_found a b ≤ length a
unfolding items_found
found_within [] b = omega arith
found_within (x ∷ a) [] = omega arith
found_within (x ∷ a) (y ∷ b) = go (compare x y) (found_within a (y ∷ b)) (found_within a b)
  where
    go : (o : Ordering) → items_found a (y ∷ b) ≤ length a → items_found a b ≤ length a
        → (elim o [ Ordering.lt ↦ items_found a (y ∷ b) | Ordering.eq ↦ suc (items_found a b) | Ordering.gt ↦ 0 ])
        ≤ suc (length a)
    go Ordering.lt h k = omega arith
    go Ordering.eq h k = omega arith
    go Ordering.gt h k = omega arith

next_alike : (m n : ℕ) → eqb m n ≡ eqb (suc m) (suc n)
next_alike m n = go (eqb m n) refl
  where
    go : (t : Bool) → eqb m n ≡ t → eqb m n ≡ eqb (suc m) (suc n)
    go true e = e ∙ sym (eq-eqb (suc m) (suc n) (ap suc (eqb→eq m n (true→holds e))))
    go false e = e ∙ sym (ne_eqb (suc m) (suc n) (λ q. apart m n e (omega arith)))

nothing_found : (n : ℕ) → false ≡ eqb 0 (suc n)
nothing_found n = sym (ne_eqb 0 (suc n) (λ e. let z : ◌≡◌ {A = ℕ} 0 (suc n) = e in omega arith))

pub found_all : (a b : List ℕ) → is_found (walk compare a b) ≡ eqb (items_found a b) (length b)
unfolding is_found walk cons_in items_found
found_all [] [] = refl
found_all [] (y ∷ b) = nothing_found (length b)
found_all (x ∷ a) [] = refl
found_all (x ∷ a) (y ∷ b) = go (compare x y) (found_all a (y ∷ b)) (found_all a b)
  where
    passed : (o : Option (List ℕ)) → is_found (cons_in x o) ≡ is_found o
    passed None = refl
    passed (Some rest) = refl

    go : (o : Ordering) → is_found (walk compare a (y ∷ b)) ≡ eqb (items_found a (y ∷ b)) (suc (length b))
        → is_found (walk compare a b) ≡ eqb (items_found a b) (length b)
        → is_found {A = ℕ} (elim o [
          | Ordering.lt ↦ cons_in x (walk compare a (y ∷ b))
          | Ordering.eq ↦
              walk compare a b
          | Ordering.gt ↦ None
        ])
        ≡ eqb (elim o [ Ordering.lt ↦ items_found a (y ∷ b) | Ordering.eq ↦ suc (items_found a b) | Ordering.gt ↦ 0 ])
        (suc (length b))
    go Ordering.lt h k = passed (walk compare a (y ∷ b)) ∙ h
    go Ordering.eq h k = k ∙ next_alike (items_found a b) (length b)
    go Ordering.gt h k = nothing_found (length b)

pub shared_few : (b c : List ℕ) → shared b c ≤ length c
unfolding shared
shared_few [] c = omega arith
shared_few (y ∷ b) [] = omega arith
shared_few (y ∷ b) (z ∷ c) = go (compare y z) (shared_few b c)
  where
    go : (o : Ordering) → shared b c ≤ length c
        → (elim o [ Ordering.lt ↦ 0 | Ordering.eq ↦ suc (shared b c) | Ordering.gt ↦ 0 ]) ≤ suc (length c)
    go Ordering.lt h = omega arith
    go Ordering.eq h = omega arith
    go Ordering.gt h = omega arith

pub found_alike : (a b c : List ℕ) → items_found a b < shared b c → items_found a c ≡ items_found a b
unfolding items_found shared
found_alike [] b c h = refl
found_alike (x ∷ a) [] c h = absurd (omega arith)
found_alike (x ∷ a) (y ∷ b) [] h = absurd (omega arith)
found_alike (x ∷ a) (y ∷ b) (z ∷ c) h =
    go (compare y z) refl h (λ u. found_alike a (y ∷ b) (z ∷ c) u) (found_alike a b c)
  where
    stays : (o : Ordering) → compare x y ≡ o → suc (shared b c) ≡ shared (y ∷ b) (y ∷ c)
        → (elim o [ Ordering.lt ↦ items_found a (y ∷ b) | Ordering.eq ↦ suc (items_found a b) | Ordering.gt ↦ 0 ])
        < suc (shared b c)
        → (items_found a (y ∷ b) < shared (y ∷ b) (y ∷ c) → items_found a (y ∷ c) ≡ items_found a (y ∷ b))
        → (items_found a b < shared b c → items_found a c ≡ items_found a b)
        → items_found (x ∷ a) (y ∷ c)
        ≡ (elim o [ Ordering.lt ↦ items_found a (y ∷ b) | Ordering.eq ↦ suc (items_found a b) | Ordering.gt ↦ 0 ])
    stays Ordering.lt e s u over on = rw (e, items_found) (over (omega arith))
    stays Ordering.eq e s u over on = rw (e, items_found) (ap suc (on (omega arith)))
    stays Ordering.gt e s u over on = rw (e, items_found) refl

    begins : suc (shared b c) ≡ shared (y ∷ b) (y ∷ c)
    begins = rw (nats.self y, shared) refl

    go : (o : Ordering) → compare y z ≡ o → items_found (x ∷ a) (y ∷ b)
        < (elim o [ Ordering.lt ↦ 0 | Ordering.eq ↦ suc (shared b c) | Ordering.gt ↦ 0 ])
        → (items_found a (y ∷ b) < shared (y ∷ b) (z ∷ c) → items_found a (z ∷ c) ≡ items_found a (y ∷ b))
        → (items_found a b < shared b c → items_found a c ≡ items_found a b)
        → items_found (x ∷ a) (z ∷ c) ≡ items_found (x ∷ a) (y ∷ b)
    go Ordering.lt e u over on = absurd (omega arith)
    go Ordering.gt e u over on = absurd (omega arith)
    go Ordering.eq e u over on =
        let same : y ≡ z = nats.equal y z e in
        subst (λ (w : ℕ). (items_found a (y ∷ b) < shared (y ∷ b) (w ∷ c)
        → items_found a (w ∷ c) ≡ items_found a (y ∷ b)) → items_found (x ∷ a) (w ∷ c)
        ≡ items_found (x ∷ a) (y ∷ b)) same (λ f. stays (compare x y) refl begins u f on) over
