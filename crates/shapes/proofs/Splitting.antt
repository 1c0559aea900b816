-- Theorems on the definitions of specs/Splitting.
use Rattle.std.proofs.Math.Path.{◌≡◌, refl, ap, subst}
use Rattle.std.proofs.Common.{◌∙◌, inl, inr}
use Rattle.std.specs.Prelude.{◌⊎◌, get_or}
use Rattle.std.specs.Prelude.{Option, Some, None}
use mathlib.Core.List.Permᴰ
use mathlib.Core.List.{List, [], ◌∷◌, ◌++◌, Memᴰ}
use Prim.Native.Nat.{ℕ, zero, suc, ◌+◌, ◌*◌, ◌≤◌, ◌<◌}
use native.Mathlib.Omega.{arith}
use Rattle.std.proofs.Math.ListN.{length}
use Rattle.definitions.specs.Lists.{Pair}
use Rattle.definitions.specs.Figures.{Compound, components_of, split_queue, parts_of}
use Rattle.laws.specs.Lists.{Mem, here, there, in_append, member_at}
use Rattle.laws.specs.Pairs.{Pairs}
use Rattle.laws.specs.Ascending.{Distinct}
use Rattle.shapes.specs.Compounds.{Composed, parts_shorter}
use Rattle.shapes.specs.Splitting.{Disjoint, parts_disjoint, some_size, step_composed, work}

-- ---- lists joined

module _ (lists : List (List Pair)) (cs : List Compound) (good : (c : Compound) → Mem c cs → Composed lists c)
    (some_items : (l : List Pair) → Mem l lists → 0 < length l) where
  abbrev at : ℕ → List Pair
  at a = get_or lists a []

  abbrev size : ℕ → ℕ
  size a = length (at a)

  -- entries that there are
  abbrev InRange : List ℕ → Type 0
  InRange queue = (a : ℕ) → Mem a queue → a < length lists

  -- ---- one step

  abbrev compound : ℕ → Pair → Compound
  compound a parts = record { whole = a; first = parts.0; second = parts.1 }

  step_range : (queue : List ℕ) (a : ℕ) (parts : Pair) → components_of cs a ≡ Some parts → InRange (a ∷ queue)
      → InRange (queue ++ (parts.0 ∷ parts.1 ∷ []))
  step_range queue a parts e h b m = go (in_append b queue (parts.0 ∷ parts.1 ∷ []) m)
    where
      go : Mem b queue ⊎ Mem b (parts.0 ∷ parts.1 ∷ []) → b < length lists
      go (inl i) = h b (there i)
      go (inr (Memᴰ.head q)) =
          let r = (step_composed lists cs good some_items a parts e).behind in
          let s = (step_composed lists cs good some_items a parts e).second_below in
          omega arith
      go (inr (Memᴰ.tail (Memᴰ.head q))) =
          let s = (step_composed lists cs good some_items a parts e).second_below in
          omega arith
      go (inr (Memᴰ.tail (Memᴰ.tail i))) = elim i [ ]

  -- ---- what is left in the queue has numbers of entries, and the same items

  pub split_range : (steps : ℕ) (queue : List ℕ) → InRange queue → InRange (split_queue steps cs queue)
  unfolding split_queue
  split_range zero queue h = h
  split_range (suc steps) [] h = h
  split_range (suc steps) (a ∷ queue) h =
      go (components_of cs a) refl (split_range steps queue (λ b m. h b (there m)))
      (λ parts e. split_range steps (queue ++ (parts.0 ∷ parts.1 ∷ [])) (step_range queue a parts e h))
    where
      go : (o : Option Pair) → components_of cs a ≡ o → InRange (split_queue steps cs queue)
          → ((parts : Pair) → components_of cs a ≡ Some parts
          → InRange (split_queue steps cs (queue ++ (parts.0 ∷ parts.1 ∷ []))))
          → InRange (elim o [
            | None ↦ a ∷ split_queue steps cs queue
            | Some parts ↦
                split_queue steps cs (queue ++ (parts.0 ∷ parts.1 ∷ []))
          ])
      go None e ih ih' b (Memᴰ.head q) = h b (here q)
      go None e ih ih' b (Memᴰ.tail m) = ih b m
      go (Some parts) e ih ih' b m = ih' parts e b m

  -- ---- how many steps there are

  work_append : (l m : List ℕ)
      → work lists cs good some_items (l ++ m) ≡ work lists cs good some_items l + work lists cs good some_items m
  unfolding work
  work_append [] m = omega arith
  work_append (a ∷ l) m = let e = work_append l m in omega arith

  step_work : (queue : List ℕ) (a : ℕ) (parts : Pair) → components_of cs a ≡ Some parts
      → suc (work lists cs good some_items (queue ++ (parts.0 ∷ parts.1 ∷ [])))
      ≤ work lists cs good some_items (a ∷ queue)
  unfolding work
  step_work queue a parts e =
      let s = parts_shorter lists (compound a parts) (step_composed lists cs good some_items a parts e) some_items in
      let sum = s.0 in
      let one = s.1 in
      let two = s.2 in
      let w = work_append queue (parts.0 ∷ parts.1 ∷ []) in
      omega arith

  some_work : (a : ℕ) (queue : List ℕ) → InRange (a ∷ queue)
      → suc (work lists cs good some_items queue) ≤ work lists cs good some_items (a ∷ queue)
  unfolding work
  some_work a queue h = let s = some_size lists cs good some_items a (h a (here refl)) in omega arith

  -- enough steps leave no compound
  pub split_done : (steps : ℕ) (queue : List ℕ) → InRange queue → work lists cs good some_items queue ≤ steps
      → (b : ℕ) → Mem b (split_queue steps cs queue) → components_of cs b ≡ None
  unfolding split_queue
  split_done zero [] h w b m = elim m [ ]
  split_done zero (a ∷ queue) h w b m = let s = some_work a queue h in absurd (omega arith)
  split_done (suc steps) [] h w b m = elim m [ ]
  split_done (suc steps) (a ∷ queue) h w b m =
      go (components_of cs a) refl m
      (λ i. split_done steps queue (λ c k. h c (there k)) (let s = some_work a queue h in omega arith) b i)
      (λ parts e i. split_done steps (queue ++ (parts.0 ∷ parts.1 ∷ [])) (step_range queue a parts e h) (let s =
      step_work queue a parts e in omega arith) b i)
    where
      go : (o : Option Pair) → components_of cs a ≡ o → Mem b (elim o [
        | None ↦ a
            ∷ split_queue steps cs queue
        | Some parts ↦ split_queue steps cs (queue ++ (parts.0 ∷ parts.1 ∷ []))
      ])
          → (Mem b (split_queue steps cs queue) → components_of cs b ≡ None)
          → ((parts : Pair) → components_of cs a ≡ Some parts
          → Mem b (split_queue steps cs (queue ++ (parts.0 ∷ parts.1 ∷ []))) → components_of cs b ≡ None)
          → components_of cs b ≡ None
      go None e (Memᴰ.head q) ih ih' = ap (components_of cs) q ∙ e
      go None e (Memᴰ.tail i) ih ih' = ih i
      go (Some parts) e i ih ih' = ih' parts e i

  -- and more steps change nothing
  pub split_stable : (steps more : ℕ) (queue : List ℕ) → InRange queue → work lists cs good some_items queue ≤ steps
      → work lists cs good some_items queue ≤ more → split_queue steps cs queue ≡ split_queue more cs queue
  unfolding split_queue
  split_stable zero zero queue h v w = refl
  split_stable zero (suc more) [] h v w = refl
  split_stable zero (suc more) (a ∷ queue) h v w = let s = some_work a queue h in absurd (omega arith)
  split_stable (suc steps) zero [] h v w = refl
  split_stable (suc steps) zero (a ∷ queue) h v w = let s = some_work a queue h in absurd (omega arith)
  split_stable (suc steps) (suc more) [] h v w = refl
  split_stable (suc steps) (suc more) (a ∷ queue) h v w =
      go (components_of cs a) refl (let s = some_work a queue h in
      split_stable steps more queue (λ c k. h c (there k)) (omega arith) (omega arith))
      (λ parts e. let s = step_work queue a parts e in split_stable steps more (queue ++ (parts.0 ∷ parts.1 ∷ []))
      (step_range queue a parts e h) (omega arith) (omega arith))
    where
      go : (o : Option Pair) → components_of cs a ≡ o → split_queue steps cs queue ≡ split_queue more cs queue
          → ((parts : Pair) → components_of cs a ≡ Some parts
          → split_queue steps cs (queue ++ (parts.0 ∷ parts.1 ∷ []))
          ≡ split_queue more cs (queue ++ (parts.0 ∷ parts.1 ∷ [])))
          → ◌≡◌ {A = List ℕ} (elim o [
            | None ↦ a ∷ split_queue steps cs queue
            | Some parts ↦
                split_queue steps cs (queue ++ (parts.0 ∷ parts.1 ∷ []))
          ])
          (elim o [
            | None ↦ a ∷ split_queue more cs queue
            | Some parts ↦
                split_queue more cs (queue ++ (parts.0 ∷ parts.1 ∷ []))
          ])
      go None e ih ih' = ap (λ (q : List ℕ). a ∷ q) ih
      go (Some parts) e ih ih' = ih' parts e

  -- ---- the parts of one facet

  module _ (a : ℕ) (is-entry : a < length lists) where
    abbrev parts : List ℕ
    parts = parts_of cs (size a) a

    alone : InRange (a ∷ [])
    alone b (Memᴰ.head q) = omega arith
    alone b (Memᴰ.tail m) = elim m [ ]

    enough : work lists cs good some_items (a ∷ []) ≤ 2 * size a
    unfolding work
    enough = omega arith

    pub parts_range : InRange parts
    unfolding parts_of
    parts_range = split_range (2 * size a) (a ∷ []) alone

    pub parts_done : (b : ℕ) → Mem b parts → components_of cs b ≡ None
    unfolding parts_of
    parts_done = split_done (2 * size a) (a ∷ []) alone enough

    -- any larger number of steps gives the same
    pub parts_stable : (steps : ℕ) → 2 * size a ≤ steps → split_queue steps cs (a ∷ []) ≡ parts
    unfolding parts_of
    parts_stable steps h = let w = enough in split_stable steps (2 * size a) (a ∷ []) alone (omega arith) w

  -- and no part comes twice
  pub parts_distinct : (a : ℕ) → a < length lists → Distinct (at a) → Distinct (parts_of cs (size a) a)
  parts_distinct a h d = go (parts_of cs (size a) a) (parts_range a h) (parts_disjoint lists cs good some_items a h d)
    where
      go : (q : List ℕ) → InRange q → Pairs (Disjoint lists cs good some_items) q → Distinct q
      go [] r k = tt
      go (b ∷ q) r k = (
        (λ c m e.
            let one = member_at (at b) 0 (0, 0) (some_size lists cs good some_items b (r b (here refl))) in
            k.0 c m (get_or (at b) 0 (0, 0)) one (subst (λ (z : ℕ). Mem (get_or (at b) 0 (0, 0)) (at z)) e one)),
        go q (λ c m. r c (there m)) k.1,
      )
