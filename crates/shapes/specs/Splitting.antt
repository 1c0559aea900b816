-- Splitting ends. A compound's two components have lists that are not empty and together make up its own, so twice as
-- many steps as the facet's list has items leave no compound, and more change nothing; the parts' lists are disjoint
-- and make up the facet's list. Over any lists and compounds of them. Leans on Compounds.
use Rattle.std.proofs.Math.Path.{◌≡◌, refl, ap, subst}
use Rattle.std.proofs.Common.{sym, ◌∙◌}
use Rattle.std.specs.Prelude.{get_or}
use Rattle.std.specs.Prelude.{Option, Some, None}
use mathlib.Core.List.Permᴰ
use mathlib.Core.List.{List, [], ◌∷◌, ◌++◌, flat_map, append-nil, Memᴰ, Permᴰ}
use Prim.Native.Nat.{ℕ, zero, suc, ◌+◌, ◌-◌, ◌*◌, ◌<◌}
use native.Mathlib.Omega.{arith}
use Rattle.std.proofs.Math.ListN.{length}
use Rattle.definitions.specs.Lists.{Pair}
use Rattle.definitions.specs.Figures.{Compound, components_of, split_queue, parts_of}
use Rattle.laws.specs.Lists.{Mem, in_right, in_flat_map, member_at, flat_map_append}
use Rattle.laws.specs.Pairs.{Pairs}
use Rattle.laws.specs.Sorting.{pairs_perm, perm_length}
use Rattle.laws.specs.Ascending.{Differ, Distinct}
use Rattle.shapes.specs.Compounds.{Composed, components_of_holds}

-- ---- lists joined

module _ {A : Type 0} where
  append_turned : (l m : List A) → Permᴰ (l ++ m) (m ++ l)
  append_turned [] m = Permᴰ.symm (Permᴰ.append-nil m)
  append_turned (x ∷ l) m = Permᴰ.trans (Permᴰ.cons refl (append_turned l m)) (Permᴰ.symm (Permᴰ.middle x m l))

  distinct_behind : (l m : List A) → Distinct (l ++ m) → Distinct m
  distinct_behind [] m h = h
  distinct_behind (x ∷ l) m h = distinct_behind l m h.1

  distinct_across : (l m : List A) → Distinct (l ++ m) → (x : A) → Mem x l → Mem x m → ⊥
  distinct_across [] m h x x5 j = elim x5 [ ]
  distinct_across (y ∷ l) m h x (Memᴰ.head e) j = h.0 x (in_right x l m j) (sym e)
  distinct_across (y ∷ l) m h x (Memᴰ.tail i) j = distinct_across l m h.1 x i j

module _ (lists : List (List Pair)) (cs : List Compound) (good : (c : Compound) → Mem c cs → Composed lists c)
    (some_items : (l : List Pair) → Mem l lists → 0 < length l) where
  abbrev at : ℕ → List Pair
  at a = get_or lists a []

  abbrev size : ℕ → ℕ
  size a = length (at a)

  pub some_size : (a : ℕ) → a < length lists → 0 < size a
  some_size a h = some_items (at a) (member_at lists a [] h)

  -- ---- one step

  abbrev compound : ℕ → Pair → Compound
  compound a parts = record { whole = a; first = parts.0; second = parts.1 }

  pub step_composed : (a : ℕ) (parts : Pair) → components_of cs a ≡ Some parts → Composed lists (compound a parts)
  step_composed a parts e = good (compound a parts) (components_of_holds cs a parts e)

  -- ---- what is left in the queue has numbers of entries, and the same items

  step_items : (queue : List ℕ) (a : ℕ) (parts : Pair) → components_of cs a ≡ Some parts
      → Permᴰ (flat_map at (queue ++ (parts.0 ∷ parts.1 ∷ []))) (at a ++ flat_map at queue)
  unfolding flat_map
  step_items queue a parts e =
      let both = at parts.0 ++ at parts.1 in
      let joined : flat_map at (queue ++ (parts.0 ∷ parts.1 ∷ [])) ≡ flat_map at queue ++ both =
      flat_map_append at queue (parts.0 ∷ parts.1 ∷ [])
      ∙ ap (λ (l : List Pair). flat_map at queue ++ (at parts.0 ++ l)) (append-nil (at parts.1)) in
      subst (λ (l : List Pair). Permᴰ l (at a ++ flat_map at queue)) (sym joined)
      (Permᴰ.trans (Permᴰ.append_left (flat_map at queue) (Permᴰ.symm (step_composed a parts e).items))
      (append_turned (flat_map at queue) (at a)))

  pub split_items : (steps : ℕ) (queue : List ℕ) → Permᴰ (flat_map at (split_queue steps cs queue)) (flat_map at queue)
  unfolding split_queue flat_map
  split_items zero queue = Permᴰ.refl (flat_map at queue)
  split_items (suc steps) [] = Permᴰ.nil
  split_items (suc steps) (a ∷ queue) =
      go (components_of cs a) refl (split_items steps queue)
      (λ parts. split_items steps (queue ++ (parts.0 ∷ parts.1 ∷ [])))
    where
      go : (o : Option Pair) → components_of cs a ≡ o
          → Permᴰ (flat_map at (split_queue steps cs queue)) (flat_map at queue)
          → ((parts : Pair) → Permᴰ (flat_map at (split_queue steps cs (queue ++ (parts.0 ∷ parts.1 ∷ []))))
          (flat_map at (queue ++ (parts.0 ∷ parts.1 ∷ []))))
          → Permᴰ (flat_map at (elim o [
            | None ↦ a ∷ split_queue steps cs queue
            | Some parts ↦
                split_queue steps cs (queue ++ (parts.0 ∷ parts.1 ∷ []))
          ])) (at a ++ flat_map at queue)
      go None e ih ih' = Permᴰ.append_left (at a) ih
      go (Some parts) e ih ih' = Permᴰ.trans (ih' parts) (step_items queue a parts e)

  -- ---- how many steps there are

  -- the steps that a queue takes at most: a facet of so many items has at most twice as many less one
  unfoldable pub work : List ℕ → ℕ
  work [] = 0
  work (a ∷ queue) = (2 * size a - 1) + work queue

  -- ---- the parts of one facet

  module _ (a : ℕ) (is-entry : a < length lists) where
    abbrev parts : List ℕ
    parts = parts_of cs (size a) a

    -- the parts' lists make up the facet's list
    pub parts_items : Permᴰ (flat_map at parts) (at a)
    unfolding parts_of flat_map
    parts_items = Permᴰ.trans (split_items (2 * size a) (a ∷ [])) (Permᴰ.append-nil (at a))

    pub parts_some : 0 < length parts
    unfolding flat_map
    parts_some = go parts parts_items
      where
        go : (q : List ℕ) → Permᴰ (flat_map at q) (at a) → 0 < length q
        go [] p = let e = perm_length p in let s = some_size a is-entry in absurd (omega arith)
        go (b ∷ q) p = omega arith

  -- lists without a common item
  abbrev pub Disjoint : ℕ → ℕ → Type 0
  Disjoint b c = (x : Pair) → Mem x (at b) → Mem x (at c) → ⊥

  disjoint_lists : (q : List ℕ) → Distinct (flat_map at q) → Pairs Disjoint q
  unfolding flat_map
  disjoint_lists [] h = tt
  disjoint_lists (b ∷ q) h = (
    (λ c m x i j. distinct_across (at b) (flat_map at q) h x i (in_flat_map at x c q m j)),
    disjoint_lists q (distinct_behind (at b) (flat_map at q) h),
  )

  -- where the facet's list names nothing twice, the parts' lists are disjoint
  pub parts_disjoint : (a : ℕ) → a < length lists → Distinct (at a) → Pairs Disjoint (parts_of cs (size a) a)
  parts_disjoint a h d =
      disjoint_lists (parts_of cs (size a) a)
      (pairs_perm Differ (λ x y n e. n (sym e)) (Permᴰ.symm (parts_items a h)) d)
