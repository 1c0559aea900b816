-- Splitting on numbered facets, and pools that are pushed to. The table has for each facet of the call none, or the
-- numbers of its two components. Leans on Pool and Labels. Assumes nothing.
use Rattle.std.specs.Prelude.{◌≡◌, ℕ, zero, suc, ◌+◌, ◌-◌, ◌*◌, ◌≤◌, ◌<◌, length, get_or, take, drop}
use Rattle.std.proofs.Math.Path.{refl, sym, ap}
use Rattle.std.proofs.Common.{◌∙◌, arith}
use mathlib.Core.List.{List, [], ◌∷◌, ◌++◌, flat_map, append_assoc, append-nil}
use Rattle.std.specs.Prelude.{Option, Some, None}
use Rattle.std.proofs.Math.ListN.{length-append}
use Rattle.definitions.specs.Lists.{Pair}
use Rattle.laws.specs.Lists.{Mem, here, there}
use Rattle.pool.specs.Pool.{count, used, base, closed_lists, opened, pushed, ended, Sound, pushed_length, pushed_count}
use Rattle.pool.specs.Pool.{pushed_used, pushed_sound, pushed_closed, pushed_opened, ended_length, ended_count}
use Rattle.pool.specs.Pool.{ended_used, ended_sound, ended_closed, ended_opened}
use Rattle.splitting.specs.declared.SplitLayout.{SplitLayout}
use Rattle.labels.specs.Labels.{labels_in}

-- [8.6] a queue of numbers is split. The first number bounds the steps.
unfoldable pub split_nats : ℕ → List (Option Pair) → List ℕ → List ℕ
split_nats zero table queue = queue
split_nats (suc steps) table [] = []
split_nats (suc steps) table (a ∷ queue) = elim (get_or table a None) [
  | None ↦ a ∷ split_nats steps table queue
  | Some parts ↦ split_nats steps table (queue ++ (parts.0 ∷ parts.1 ∷ []))
]

-- each facet of a list at its own place
unfoldable pub split_list : ℕ → List (Option Pair) → List ℕ → List ℕ
split_list steps table = flat_map (λ (a : ℕ). split_nats steps table (a ∷ []))

-- ---- a pool that is pushed to

unfoldable pub push_all : ℕ → List ℕ → List ℕ → List ℕ
push_all most s [] = s
push_all most s (v ∷ vs) = push_all most (pushed 2 most s v) vs

unfoldable pub fill_all : ℕ → List ℕ → List (List ℕ) → List ℕ
fill_all most s [] = s
fill_all most s (l ∷ ls) = fill_all most (ended (push_all most s l)) ls

-- room for so many items more
pub record PoolRoom (most : ℕ) (s : List ℕ) (items : ℕ) : Type 0 where
  pub sound : Sound 2 most s
  pub fits : base most + 2 * (used s + items) ≤ length s
  pub small : used s + items < 4294967296

-- t is s with so many items and so many lists more
pub record PoolGrown (most : ℕ) (s t : List ℕ) (items lists : ℕ) : Type 0 where
  pub sound : Sound 2 most t
  pub used : used t ≡ used s + items
  pub count : count t ≡ count s + lists
  pub long : length t ≡ length s

-- ---- what splitting reads

abbrev pub facet_labels : SplitLayout → List ℕ → List (Option Pair)
facet_labels layout s = labels_in 0 layout.facets s

-- the pool of lists
abbrev pub pool_of : SplitLayout → List ℕ → List ℕ
pool_of layout s = take (layout.to - layout.from) (drop layout.from s)

-- the pool of split lists
abbrev pub rest_of : SplitLayout → List ℕ → List ℕ
rest_of layout s = drop layout.to s

abbrev pub parts_in : SplitLayout → List ℕ → List ℕ → List ℕ
parts_in layout s = split_list layout.steps (facet_labels layout s)

pub record SplittingRoom (layout : SplitLayout) (s : List ℕ) : Type 0 where
  pub table : 4 * layout.facets ≤ layout.from
  pub order : layout.from ≤ layout.to
  pub inside : layout.to ≤ length s
  pub short : layout.steps < 512
  pub few : layout.most < 4294967296
  pub sound : Sound 2 layout.most (pool_of layout s)

-- ---- what a pool holds after it was pushed to

module _ (most : ℕ) (few : most < 4294967296) where
  push_room : (s : List ℕ) (v n : ℕ) → PoolRoom most s (suc n)
      → (base most + 2 * (used s + 1) ≤ length s) × (used s + 1 < 4294967296)
  push_room s v n r = (omega (arith, r.fits), omega (arith, r.small))

  pushed_room : (s : List ℕ) (v n : ℕ) → v < 65536 → PoolRoom most s (suc n) → PoolRoom most (pushed 2 most s v) n
  pushed_room s v n small r =
      let p = push_room s v n r in
      let u = pushed_used 2 most s v r.sound p.0 p.1 (omega arith) in
      let l = pushed_length 2 most s v r.sound p.0 p.1 (omega arith) in
      record {
        sound = pushed_sound 2 most s v r.sound p.0 p.1 (omega arith);
        fits = omega (arith, r.fits);
        small = omega (arith, r.small);
      }

  pub push_all_grown : (s vs : List ℕ) → ((v : ℕ) → Mem v vs → v < 65536) → PoolRoom most s (length vs)
      → PoolGrown most s (push_all most s vs) (length vs) 0
  unfolding push_all
  push_all_grown s [] f r = record { sound = r.sound; used = omega arith; count = omega arith; long = refl }
  push_all_grown s (v ∷ vs) f r =
      let small = f v (here refl) in
      let p = push_room s v (length vs) r in
      let g = push_all_grown (pushed 2 most s v) vs (λ w i. f w (there i)) (pushed_room s v (length vs) small r) in
      let u = pushed_used 2 most s v r.sound p.0 p.1 (omega arith) in
      let l = pushed_length 2 most s v r.sound p.0 p.1 (omega arith) in
      let c = pushed_count 2 most s v r.sound p.0 p.1 (omega arith) in
      record { sound = g.sound; used = omega (arith, g.used); count = omega (arith, g.count); long = g.long ∙ l }

  pub push_all_closed : (s vs : List ℕ) → ((v : ℕ) → Mem v vs → v < 65536) → PoolRoom most s (length vs)
      → closed_lists 2 most (push_all most s vs) ≡ closed_lists 2 most s
  unfolding push_all
  push_all_closed s [] f r = refl
  push_all_closed s (v ∷ vs) f r =
      let small = f v (here refl) in
      let p = push_room s v (length vs) r in
      push_all_closed (pushed 2 most s v) vs (λ w i. f w (there i)) (pushed_room s v (length vs) small r)
      ∙ pushed_closed 2 most s v r.sound p.0 p.1 (omega arith)

  pub push_all_opened : (s vs : List ℕ) → ((v : ℕ) → Mem v vs → v < 65536) → PoolRoom most s (length vs)
      → opened 2 most (push_all most s vs) ≡ opened 2 most s ++ vs
  unfolding push_all
  push_all_opened s [] f r = sym (append-nil (opened 2 most s))
  push_all_opened s (v ∷ vs) f r =
      let small = f v (here refl) in
      let p = push_room s v (length vs) r in
      push_all_opened (pushed 2 most s v) vs (λ w i. f w (there i)) (pushed_room s v (length vs) small r)
      ∙ (ap (λ (o : List ℕ). o ++ vs) (pushed_opened 2 most s v r.sound p.0 p.1 (omega arith))
      ∙ append_assoc (opened 2 most s) (v ∷ []) vs)

  -- lists pushed and closed one behind another, where the open list is empty
  pub record Filled (s t : List ℕ) (ls : List (List ℕ)) : Type 0 where
    pub sound : Sound 2 most t
    pub lists : closed_lists 2 most t ≡ closed_lists 2 most s ++ ls
    pub open_list : opened 2 most t ≡ []

  abbrev flat : List (List ℕ) → List ℕ
  flat = flat_map (λ (l : List ℕ). l)

  pub fill_all_filled : (s : List ℕ) (ls : List (List ℕ)) → ((l : List ℕ) → Mem l ls → (v : ℕ) → Mem v l → v < 65536)
      → opened 2 most s ≡ [] → PoolRoom most s (length (flat ls)) → count s + length ls ≤ most
      → Filled s (fill_all most s ls) ls
  unfolding fill_all flat_map
  fill_all_filled s [] f o r c = record {
    sound = r.sound;
    lists = sym (append-nil (closed_lists 2 most s));
    open_list = o;
  }
  fill_all_filled s (l ∷ ls) f o r c =
      let n = length-append l (flat ls) in
      let r1 : PoolRoom most s (length l) = record {
        sound = r.sound;
        fits = omega (arith, r.fits);
        small = omega (arith, r.small);
      } in
      let t = push_all most s l in
      let g = push_all_grown s l (f l (here refl)) r1 in
      let free : count t < most = omega (arith, g.count) in
      let el = ended_length 2 most t g.sound free few in
      let eu = ended_used 2 most t g.sound free few in
      let ec = ended_count 2 most t g.sound free few in
      let r2 : PoolRoom most (ended t) (length (flat ls)) = record {
        sound = ended_sound 2 most t g.sound free few;
        fits = omega (arith, r.fits, g.used, g.long);
        small = omega (arith, r.small, g.used);
      } in
      let ih = fill_all_filled (ended t) ls (λ m i. f m (there i)) (ended_opened 2 most t g.sound free few) r2
      (omega (arith, g.count)) in
      let this : opened 2 most t ≡ l = push_all_opened s l (f l (here refl)) r1 ∙ ap (λ (q : List ℕ). q ++ l) o in
      let one : closed_lists 2 most (ended t) ≡ closed_lists 2 most s ++ (l ∷ []) =
      ended_closed 2 most t g.sound free few
      ∙ (ap (λ (q : List (List ℕ)). q ++ (opened 2 most t ∷ [])) (push_all_closed s l (f l (here refl)) r1)
      ∙ ap (λ (q : List ℕ). closed_lists 2 most s ++ (q ∷ [])) this) in
      record {
        sound = ih.sound;
        lists =
            ih.lists
            ∙ (ap (λ (q : List (List ℕ)). q ++ ls) one ∙ append_assoc (closed_lists 2 most s) (l ∷ []) ls);
        open_list = ih.open_list;
      }
