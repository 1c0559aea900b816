-- Splitting on numbers is the splitting of facets [8.6], for any numbering whose table says of each facet what its
-- orbit's compounds say. Leans on the definitions and Splitting. Assumes nothing.
use Rattle.std.specs.Prelude.{◌≡◌, ◌⊎◌, get_or}
use Rattle.std.proofs.Math.Path.{refl, sym}
use Rattle.std.proofs.Common.{ap, ◌∙◌, subst, inl, inr}
use mathlib.Core.List.{List, [], ◌∷◌, ◌++◌, map, flat_map, map-append, Memᴰ}
use Rattle.std.specs.Prelude.{Option, Some, None}
use Prim.Native.Nat.{ℕ, zero, suc, ◌<◌}
use Rattle.definitions.specs.Lists.{Pair}
use Rattle.definitions.specs.Figures.{Compound, components_of, split_queue}
use Rattle.laws.specs.Lists.{Mem, here, there, in_append}
use Rattle.order.specs.Numbers.{ItemsBelow}
use Rattle.splitting.specs.Splitting.{split_nats, split_list}

-- ---- numbers and facets of one orbit

-- a pair of numbers as a pair of facets of their orbit
abbrev pub within : (ℕ → Pair) → Option Pair → Option Pair
within to None = None
within to (Some p) = Some ((to p.0).1, (to p.1).1)

-- a number that names a facet of the orbit: `to` names the facet of each number below the bound
abbrev pub Of : (ℕ → Pair) → ℕ → ℕ → ℕ → Type 0
Of to bound orbit a = (a < bound) × ((to a).0 ≡ orbit)

-- Of every number of the orbit the table says what the orbit's compounds say, and components stay in the orbit.
pub record Matches (to : ℕ → Pair) (bound : ℕ) (table : List (Option Pair)) (orbit : ℕ)
    (compounds : List Compound) : Type 0 where
  pub same : (a : ℕ) → Of to bound orbit a → components_of compounds (to a).1 ≡ within to (get_or table a None)
  pub stays : (a : ℕ) → Of to bound orbit a → (p : Pair) → get_or table a None ≡ Some p
      → Of to bound orbit p.0 × Of to bound orbit p.1

module _ (to : ℕ → Pair) (bound : ℕ) (table : List (Option Pair)) (orbit : ℕ) (compounds : List Compound)
    (m : Matches to bound table orbit compounds) where
  abbrev All : List ℕ → Type 0
  All q = (a : ℕ) → Mem a q → Of to bound orbit a

  abbrev number : ℕ → ℕ
  number a = (to a).1

  two_more : (q : List ℕ) (b c : ℕ) → All q → Of to bound orbit b → Of to bound orbit c → All (q ++ (b ∷ c ∷ []))
  two_more [] b c f g h a (mathlib.Core.List.Memᴰ.tail (mathlib.Core.List.Memᴰ.tail x12)) = elim x12 [ ]
  two_more [] b c f g h a (Memᴰ.head e) = subst (Of to bound orbit) (sym e) g
  two_more [] b c f g h a (Memᴰ.tail (Memᴰ.head e)) = subst (Of to bound orbit) (sym e) h
  two_more (x ∷ q) b c f g h a (Memᴰ.head e) = f a (here e)
  two_more (x ∷ q) b c f g h a (Memᴰ.tail i) = two_more q b c (λ y j. f y (there j)) g h a i

  named : (a : ℕ) → (to a).0 ≡ orbit → to a ≡ (orbit, number a)
  named a e = λ i. (e i, (to a).1)

  each : (q : List ℕ) → All q → map to q ≡ map (λ (part : ℕ). (orbit, part)) (map number q)
  each [] f = refl
  each (a ∷ q) f = rw (named a (f a (here refl)).1, each q (λ b i. f b (there i))) refl

  pub queue_numbered : (steps : ℕ) (q : List ℕ) → All q → map to (split_nats steps table q)
      ≡ map (λ (part : ℕ). (orbit, part)) (split_queue steps compounds (map number q))
  unfolding split_nats split_queue
  queue_numbered zero q f = each q f
  queue_numbered (suc steps) [] f = refl
  queue_numbered (suc steps) (a ∷ q) f =
      go (get_or table a None) refl (queue_numbered steps q (λ b i. f b (there i))) (λ r g. queue_numbered steps r g)
      ∙ sym (ap (λ (o : Option Pair). map (λ (part : ℕ). (orbit, part)) (step o)) (m.same a (f a (here refl))))
    where
      step : Option Pair → List ℕ
      step o = elim o [
        | None ↦ number a ∷ split_queue steps compounds (map number q)
        | Some parts ↦ split_queue steps compounds (map number q ++ (parts.0 ∷ parts.1 ∷ []))
      ]

      go : (o : Option Pair) → get_or table a None ≡ o → map to (split_nats steps table q)
          ≡ map (λ (part : ℕ). (orbit, part)) (split_queue steps compounds (map number q))
          → ((r : List ℕ) → All r → map to (split_nats steps table r)
          ≡ map (λ (part : ℕ). (orbit, part)) (split_queue steps compounds (map number r)))
          → map to (elim o [
            | None ↦ a ∷ split_nats steps table q
            | Some parts ↦
                split_nats steps table (q ++ (parts.0 ∷ parts.1 ∷ []))
          ])
          ≡ map (λ (part : ℕ). (orbit, part)) (step (within to o))
      go None e ih rec = rw (named a (f a (here refl)).1, ih) refl
      go (Some p) e ih rec =
          let s = m.stays a (f a (here refl)) p e in
          rec (q ++ (p.0 ∷ p.1 ∷ [])) (two_more q p.0 p.1 (λ b i. f b (there i)) s.0 s.1)
          ∙ ap (λ (r : List ℕ). map (λ (part : ℕ). (orbit, part)) (split_queue steps compounds r))
          (map-append number q (p.0 ∷ p.1 ∷ []))

-- ---- a call's lists

-- [9.3] where every facet's parts are the definition's, so is every list
pub lists_numbered : (to : ℕ → Pair) (table : List (Option Pair)) (steps : ℕ) (parts : Pair → List Pair) (l : List ℕ)
    → ((a : ℕ) → Mem a l → map to (split_nats steps table (a ∷ [])) ≡ parts (to a))
    → map to (split_list steps table l) ≡ flat_map parts (map to l)
unfolding split_list flat_map
lists_numbered to table steps parts [] f = refl
lists_numbered to table steps parts (a ∷ l) f =
    map-append to (split_nats steps table (a ∷ [])) (split_list steps table l)
    ∙ rw (f a (here refl), lists_numbered to table steps parts l (λ b i. f b (there i))) refl

-- ---- what is below a bound stays below it

pub split_nats_below : (bound : ℕ) (table : List (Option Pair))
    → ((a : ℕ) (p : Pair) → get_or table a None ≡ Some p → (p.0 < bound) × (p.1 < bound))
    → (steps : ℕ) (q : List ℕ) → ItemsBelow bound q → ItemsBelow bound (split_nats steps table q)
unfolding split_nats
split_nats_below bound table g zero q f = f
split_nats_below bound table g (suc steps) [] f = f
split_nats_below bound table g (suc steps) (a ∷ q) f =
    go (get_or table a None) refl (λ r h. split_nats_below bound table g steps r h)
  where
    later : ItemsBelow bound q
    later x i = f x (there i)

    both : (p : Pair) → (p.0 < bound) × (p.1 < bound) → (x : ℕ) → Mem x q ⊎ Mem x (p.0 ∷ p.1 ∷ []) → x < bound
    both p h x (inr (mathlib.Core.List.Memᴰ.tail (mathlib.Core.List.Memᴰ.tail x11))) = elim x11 [ ]
    both p h x (inl i) = later x i
    both p h x (inr (Memᴰ.head e)) = subst (λ (y : ℕ). y < bound) (sym e) h.0
    both p h x (inr (Memᴰ.tail (Memᴰ.head e))) = subst (λ (y : ℕ). y < bound) (sym e) h.1

    first_or : (r : List ℕ) → ItemsBelow bound r → ItemsBelow bound (a ∷ r)
    first_or r h x (Memᴰ.head e) = f x (here e)
    first_or r h x (Memᴰ.tail i) = h x i

    go : (o : Option Pair) → get_or table a None ≡ o
        → ((r : List ℕ) → ItemsBelow bound r → ItemsBelow bound (split_nats steps table r))
        → ItemsBelow bound (elim o [
          | None ↦ a ∷ split_nats steps table q
          | Some parts ↦
              split_nats steps table (q ++ (parts.0 ∷ parts.1 ∷ []))
        ])
    go None e rec = first_or (split_nats steps table q) (rec q later)
    go (Some p) e rec = rec (q ++ (p.0 ∷ p.1 ∷ [])) (λ x i. both p (g a p e) x (in_append x q (p.0 ∷ p.1 ∷ []) i))
