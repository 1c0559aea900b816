-- A store from which the latest item put in is taken first walks a forest depth first, brothers from the last put in
-- to the first. Over any items, whatever an item puts in, as long as a measure falls. Leans on the laws of lists.
use Rattle.std.specs.Prelude.{◌≡◌, ◌⊎◌}
use Rattle.std.proofs.Math.Path.{refl, ap}
use Rattle.std.proofs.Common.{sym, ◌∙◌, inl, inr, arith}
use mathlib.Core.List.{List, [], ◌∷◌, ◌++◌, flat_map, reverse_aux, append_assoc, append-nil, Memᴰ}
use Prim.Native.Nat.{ℕ, zero, suc, ◌≤◌, ◌<◌}
use Rattle.laws.specs.Lists.{Mem, of_reversed, reversed_append, flat_map_append, flat_map_same}

module _ {I E : Type 0} (next : I → List I) (own : I → List E) (μ : I → ℕ)
    (falls : (i j : I) → Mem j (next i) → μ j < μ i) where
  -- what an item emits itself, and then what the items that it puts in emit, the latest first; to a depth
  unfoldable pub yield_to : ℕ → I → List E
  yield_to zero i = own i
  yield_to (suc depth) i = own i ++ flat_map (yield_to depth) (reverse_aux (next i) [])

  -- the measure bounds the depth
  unfoldable pub yield : I → List E
  yield i = yield_to (μ i) i

  below : (i j : I) → Mem j (reverse_aux (next i) []) → μ j < μ i
  below i j h = go (of_reversed j (next i) [] h)
    where
      go : Mem j (next i) ⊎ Mem j [] → μ j < μ i
      go (inl k) = falls i j k
      go (inr k) = elim k [ ]

  childless : (i : I) → μ i ≤ 0 → next i ≡ []
  childless i h = go (next i) (falls i)
    where
      go : (l : List I) → ((j : I) → Mem j l → μ j < μ i) → l ≡ []
      go [] f = refl
      go (j ∷ l) f = let k = f j (Memᴰ.head refl) in absurd (omega arith)

  deeper : (d e : ℕ) (i : I) → μ i ≤ d → μ i ≤ e → yield_to d i ≡ yield_to e i
  unfolding yield_to flat_map
  deeper zero zero i h k = refl
  deeper zero (suc e) i h k = rw (childless i h) (sym (append-nil (own i)))
  deeper (suc d) zero i h k = rw (childless i k) (append-nil (own i))
  deeper (suc d) (suc e) i h k =
      ap (λ (l : List E). own i ++ l) (flat_map_same (yield_to d) (yield_to e) (reverse_aux (next i) []) (λ j m.
      let q = below i j m in deeper d e j (omega arith) (omega arith)))

  pub yield_eq : (i : I) → yield i ≡ own i ++ flat_map yield (reverse_aux (next i) [])
  unfolding yield yield_to
  yield_eq i =
      deeper (μ i) (suc (μ i)) i (omega arith) (omega arith)
      ∙ ap (λ (l : List E). own i ++ l) (flat_map_same (yield_to (μ i)) yield (reverse_aux (next i) []) (λ j m.
      let q = below i j m in deeper (μ i) (μ j) j (omega arith) (omega arith)))

  -- taking the latest item and putting in what it puts in
  pub yields_cons : (i : I) (q : List I) → flat_map yield (i ∷ q) ≡ own i ++ flat_map yield (reverse_aux (next i) q)
  unfolding flat_map
  yields_cons i q =
      ap (λ (l : List E). l ++ flat_map yield q) (yield_eq i)
      ∙ append_assoc (own i) (flat_map yield (reverse_aux (next i) [])) (flat_map yield q)
      ∙ ap (λ (l : List E). own i ++ l) (sym (flat_map_append yield (reverse_aux (next i) []) q)
      ∙ ap (flat_map yield) (sym (reversed_append (next i) q)))

  -- what holds of an item when it holds of those that it puts in, holds of all
  induct_to : (P : I → Type 0) → ((i : I) → ((j : I) → Mem j (next i) → P j) → P i) → (d : ℕ) (i : I) → μ i ≤ d → P i
  induct_to P f zero i h = f i (λ j m. let q = falls i j m in absurd (omega arith))
  induct_to P f (suc d) i h = f i (λ j m. induct_to P f d j (let q = falls i j m in omega arith))

  pub induct : (P : I → Type 0) → ((i : I) → ((j : I) → Mem j (next i) → P j) → P i) → (i : I) → P i
  induct P f i = induct_to P f (μ i) i (omega arith)
