-- Items of levels that stand for others. Sent so that no two become one, and put in order at every level:
-- `element_sort_strong` of the ranks with their lowest items sent gives the ranks of the item sent. Sent in order:
-- the ranks are the same, so that numbers which order as the items do may stand for them. And the ranks of an item
-- tell it. Leans on LevelFigures.
use Rattle.std.specs.Prelude.{◌≡◌, length, get_or, drop}
use Rattle.std.proofs.Math.Path.{refl, sym, ap, subst}
use Rattle.std.proofs.Common.{◌∙◌}
use mathlib.Core.List.{List, [], ◌∷◌, map, flat_map, map-map}
use Prim.Native.Nat.{ℕ, zero, suc}
use Rattle.std.proofs.Math.ListN.{length-map}
use Rattle.definitions.specs.Figures.{Elements}
use Rattle.laws.specs.Lists.{Mem, in_map, of_map, in_flat_map, of_flat_map, flat_map_same}
use Rattle.laws.specs.Ascending.{alone_in_order, in_in_order, of_in_order, in_order_same}
use Rattle.laws.specs.Places.{place_in, at_place, place_map, in_order_map, map_same, map_self, map_flat_map}
use Rattle.laws.specs.Places.{flat_map_map}
use Rattle.shapes.specs.Levels.{Levels, Sets, over, over_sets, items_in_order, AllGood, under, lowest, lowest_in}
use Rattle.shapes.specs.Levels.{places_in, upper_ranks, body_of, ranks_on, ranks_of, under_good, lowest_in_over}
use Rattle.shapes.specs.Levels.{ranks_of_over}
use Rattle.shapes.specs.LevelFigures.{lowest_of_ranks}

-- ---- items sent and put in order

-- no two good items become one, and the subs of what an item becomes are what its subs become, in order
pub record Sending (T : Levels) (G : Sets T) (U : Levels) (H : Sets U) : Type 0 where
  pub to : (k : ℕ) → T.Item k → U.Item k
  pub subs : (k : ℕ) (x : T.Item (suc k)) → G.Good (suc k) x
      → U.subs k (to (suc k) x) ≡ items_in_order U k (map (to k) (T.subs k x))
  pub good : (k : ℕ) (x : T.Item k) → G.Good k x → H.Good k (to k x)
  pub apart : (k : ℕ) (x y : T.Item k) → G.Good k x → G.Good k y → to k x ≡ to k y → x ≡ y

abbrev pub over_sending : (T : Levels) (G : Sets T) (U : Levels) (H : Sets U) → Sending T G U H
    → Sending (over T) (over_sets T G) (over U) (over_sets U H)
over_sending T G U H h = record {
  to = λ k. h.to (suc k);
  subs = λ k. h.subs (suc k);
  good = λ k. h.good (suc k);
  apart = λ k. h.apart (suc k);
}

module _ (T : Levels) (G : Sets T) (U : Levels) (H : Sets U) (h : Sending T G U H) where
  under_sent : (k : ℕ) (xs : List (T.Item (suc k))) → AllGood T G (suc k) xs
      → items_in_order U k (map (h.to k) (under T k xs))
      ≡ under U k (items_in_order U (suc k) (map (h.to (suc k)) xs))
  unfolding under
  under_sent k xs g =
      let all = flat_map (T.subs k) xs in
      let sent = map (h.to (suc k)) xs in
      in_order_same (U.order k) (U.linear k) (map (h.to k) (items_in_order T k all))
      (flat_map (U.subs k) (items_in_order U (suc k) sent))
      (record {
        into = λ y m.
            let r = of_map (h.to k) y (items_in_order T k all) m in
            let q = of_flat_map (T.subs k) r.0 xs (of_in_order (T.order k) (T.linear k) r.0 all r.1) in
            let images = map (h.to k) (T.subs k q.0) in
            let own : Mem y images =
            subst (λ (z : U.Item k). Mem z images) (sym r.2) (in_map (h.to k) r.0 (T.subs k q.0) q.2) in
            in_flat_map (U.subs k) y (h.to (suc k) q.0) (items_in_order U (suc k) sent)
            (in_in_order (U.order (suc k)) (U.linear (suc k)) (h.to (suc k) q.0) sent
            (in_map (h.to (suc k)) q.0 xs q.1))
            (subst (λ (l : List (U.Item k)). Mem y l) (sym (h.subs k q.0 (g q.0 q.1)))
            (in_in_order (U.order k) (U.linear k) y images own));
        back = λ y m.
            let r = of_flat_map (U.subs k) y (items_in_order U (suc k) sent) m in
            let q = of_map (h.to (suc k)) r.0 xs (of_in_order (U.order (suc k)) (U.linear (suc k)) r.0 sent r.1) in
            let images = map (h.to k) (T.subs k q.0) in
            let i : Mem y (items_in_order U k images) =
            subst (λ (l : List (U.Item k)). Mem y l) (h.subs k q.0 (g q.0 q.1))
            (subst (λ (x : U.Item (suc k)). Mem y (U.subs k x)) q.2 r.2) in
            let s = of_map (h.to k) y (T.subs k q.0) (of_in_order (U.order k) (U.linear k) y images i) in
            subst (λ (z : U.Item k). Mem z (map (h.to k) (items_in_order T k all))) (sym s.2)
            (in_map (h.to k) s.0 (items_in_order T k all)
            (in_in_order (T.order k) (T.linear k) s.0 all (in_flat_map (T.subs k) s.0 q.0 xs q.1 s.1)));
      })

  lowest_sent : (k : ℕ) (xs : List (T.Item k)) → AllGood T G k xs
      → items_in_order U zero (map (h.to zero) (lowest T k xs)) ≡ lowest U k (items_in_order U k (map (h.to k) xs))
  unfolding lowest
  lowest_sent zero xs g = refl
  lowest_sent (suc k) xs g = lowest_sent k (under T k xs) (under_good T G k xs g) ∙ ap (lowest U k) (under_sent k xs g)

  -- what is lowest under the item sent: what is lowest under the item, sent
  pub lowest_in_sent : (k : ℕ) (x : T.Item k) → G.Good k x
      → items_in_order U zero (map (h.to zero) (lowest_in T k x)) ≡ lowest_in U k (h.to k x)
  unfolding lowest_in
  lowest_in_sent zero x g = alone_in_order (U.order zero) (U.linear zero) (h.to zero x)
  lowest_in_sent (suc k) x g = lowest_sent k (T.subs k x) (G.good k x g) ∙ ap (lowest U k) (sym (h.subs k x g))

-- ---- items that stand for others in the same order

pub record Keeping (T : Levels) (G : Sets T) (U : Levels) : Type 0 where
  pub to : (k : ℕ) → T.Item k → U.Item k
  pub subs : (k : ℕ) (x : T.Item (suc k)) → G.Good (suc k) x → U.subs k (to (suc k) x) ≡ map (to k) (T.subs k x)
  pub keeps : (k : ℕ) (x y : T.Item k) → G.Good k x → G.Good k y → U.order k (to k x) (to k y) ≡ T.order k x y

module _ (T : Levels) (G : Sets T) (U : Levels) (h : Keeping T G U) where
  pub kept_apart : (k : ℕ) (x y : T.Item k) → G.Good k x → G.Good k y → h.to k x ≡ h.to k y → x ≡ y
  kept_apart k x y g j e =
      (T.linear k).equal x y
      (sym (h.keeps k x y g j) ∙ ap (U.order k (h.to k x)) (sym e) ∙ (U.linear k).self (h.to k x))

  pub order_kept : (k : ℕ) (l : List (T.Item k)) → AllGood T G k l
      → items_in_order U k (map (h.to k) l) ≡ map (h.to k) (items_in_order T k l)
  order_kept k l g =
      in_order_map (T.order k) (T.linear k) (U.order k) (U.linear k) (h.to k) (G.Good k)
      (λ x y i j e. h.keeps k x y i j ∙ e) l g

  pub under_kept : (k : ℕ) (xs : List (T.Item (suc k))) → AllGood T G (suc k) xs
      → under U k (map (h.to (suc k)) xs) ≡ map (h.to k) (under T k xs)
  unfolding under
  under_kept k xs g =
      ap (items_in_order U k)
      (flat_map_map (U.subs k) (h.to (suc k)) xs
      ∙ flat_map_same (λ (x : T.Item (suc k)). U.subs k (h.to (suc k) x))
      (λ (x : T.Item (suc k)). map (h.to k) (T.subs k x)) xs (λ x m. h.subs k x (g x m))
      ∙ sym (map_flat_map (h.to k) (T.subs k) xs))
      ∙ order_kept k (flat_map (T.subs k) xs)
      (λ y m. let r = of_flat_map (T.subs k) y xs m in G.good k r.0 (g r.0 r.1) y r.2)

  pub lowest_kept : (k : ℕ) (xs : List (T.Item k)) → AllGood T G k xs
      → lowest U k (map (h.to k) xs) ≡ map (h.to zero) (lowest T k xs)
  unfolding lowest
  lowest_kept zero xs g = refl
  lowest_kept (suc k) xs g = ap (lowest U k) (under_kept k xs g) ∙ lowest_kept k (under T k xs) (under_good T G k xs g)

  pub places_kept : (k : ℕ) (all : List (T.Item k)) → AllGood T G k all → (x : T.Item (suc k)) → G.Good (suc k) x
      → places_in U k (map (h.to k) all) (h.to (suc k) x) ≡ places_in T k all x
  places_kept k all g x j =
      let place : U.Item k → ℕ = place_in (U.order k) (U.linear k) (map (h.to k) all) in
      ap (map place) (h.subs k x j)
      ∙ map-map place (h.to k) (T.subs k x)
      ∙ map_same (λ (y : T.Item k). place (h.to k y)) (place_in (T.order k) (T.linear k) all) (T.subs k x)
      (λ y m. place_map (T.order k) (T.linear k) (U.order k) (U.linear k) (h.to k) y all
      (λ z i e. kept_apart k y z (G.good k x j y m) (g z i) e))

  upper_kept : (k : ℕ) (xs : List (T.Item k)) → AllGood T G k xs → (last : List Elements)
      → upper_ranks U k (map (h.to k) xs) last ≡ upper_ranks T k xs last
  unfolding upper_ranks
  upper_kept zero xs g last = refl
  upper_kept (suc k) xs g last =
      let all = under T k xs in
      let good = under_good T G k xs g in
      let each : map (places_in U k (map (h.to k) all)) (map (h.to (suc k)) xs) ≡ map (places_in T k all) xs =
      map-map (places_in U k (map (h.to k) all)) (h.to (suc k)) xs
      ∙ map_same (λ (x : T.Item (suc k)). places_in U k (map (h.to k) all) (h.to (suc k) x)) (places_in T k all) xs
      (λ x m. places_kept k all good x (g x m)) in
      ap (λ (l : List (U.Item k)). upper_ranks U k l (map (places_in U k l) (map (h.to (suc k)) xs) ∷ last))
      (under_kept k xs g)
      ∙ ap (λ (es : Elements). upper_ranks U k (map (h.to k) all) (es ∷ last)) each
      ∙ upper_kept k all good (map (places_in T k all) xs ∷ last)

  -- the ranks with these facets, from what stands for them
  pub ranks_on_kept : (write : U.Item zero → List ℕ) (k : ℕ) (xs : List (T.Item k)) → AllGood T G k xs
      → ranks_on U write k (map (h.to k) xs) ≡ ranks_on T (λ (z : T.Item zero). write (h.to zero z)) k xs
  unfolding ranks_on
  ranks_on_kept write k xs g =
      let lowest_rank = ap (map write) (lowest_kept k xs g) ∙ map-map write (h.to zero) (lowest T k xs) in
      let many = length-map xs (h.to k) in
      (λ t. lowest_rank t ∷ upper_ranks U k (map (h.to k) xs) (body_of (many t)))
      ∙ ap (λ (ranks : List Elements). map (λ (z : T.Item zero). write (h.to zero z)) (lowest T k xs) ∷ ranks)
      (upper_kept k xs g (body_of (length xs)))

  -- the ranks of an item, from what stands for it
  pub ranks_kept : (write : U.Item zero → List ℕ) (k : ℕ) (x : T.Item k) → G.Good k x
      → ranks_of U write k (h.to k x) ≡ ranks_of T (λ (z : T.Item zero). write (h.to zero z)) k x
  unfolding ranks_of
  ranks_kept write zero x g = refl
  ranks_kept write (suc k) x g =
      ap (ranks_on U write k) (h.subs k x g) ∙ ranks_on_kept write k (T.subs k x) (G.good k x g)

-- ---- an item read off its ranks

-- items made of their subs, and one to stand for none
pub record Building (T : Levels) : Type 0 where
  pub none : (k : ℕ) → T.Item k
  pub build : (k : ℕ) → List (T.Item k) → T.Item (suc k)
  pub built : (k : ℕ) (x : T.Item (suc k)) → build k (T.subs k x) ≡ x

abbrev pub over_building : (T : Levels) → Building T → Building (over T)
over_building T B = record { none = λ k. B.none (suc k); build = λ k. B.build (suc k); built = λ k. B.built (suc k) }

-- the subs that an element names
abbrev pub named_by : (T : Levels) → Building T → List (T.Item zero) → List ℕ → T.Item (suc zero)
named_by T B all e = B.build zero (map (λ (i : ℕ). get_or all i (B.none zero)) e)

-- from the lowest items and the ranks above: each rank's elements made of the items that they name, up to the body
unfoldable pub read_item : (k : ℕ) (T : Levels) → Building T → List (T.Item zero) → List Elements → T.Item k
read_item zero T B all ranks = get_or all 0 (B.none zero)
read_item (suc k) T B all ranks =
    read_item k (over T) (over_building T B) (map (named_by T B all) (get_or ranks 0 [])) (drop 1 ranks)

pub ranks_read : (k : ℕ) (T : Levels) (G : Sets T) (B : Building T) (write : T.Item zero → List ℕ) (x : T.Item k)
    → G.Good k x → read_item k T B (lowest_in T k x) (drop 1 (ranks_of T write k x)) ≡ x
unfolding read_item lowest_in
ranks_read zero T G B write x h = refl
ranks_read (suc k) T G B write x h =
    let own = lowest_in T (suc k) x in
    let next = lowest_in (over T) k x in
    let place : T.Item zero → ℕ = place_in (T.order zero) (T.linear zero) own in
    let rest = ranks_of (over T) (places_in T zero own) k x in
    let named : (y : T.Item (suc zero)) → Mem y next → named_by T B own (places_in T zero own y) ≡ y = λ y m.
    ap (B.build zero)
    (map-map (λ (i : ℕ). get_or own i (B.none zero)) place (T.subs zero y)
    ∙ map_self (λ (z : T.Item zero). get_or own (place z) (B.none zero)) (T.subs zero y)
    (λ z i. at_place (T.order zero) (T.linear zero) (B.none zero) z own (lowest_in_over T k x y m z i)))
    ∙ B.built zero y in
    let items : map (named_by T B own) (get_or rest 0 []) ≡ next =
    ap (map (named_by T B own)) (lowest_of_ranks (over T) (places_in T zero own) k x)
    ∙ map-map (named_by T B own) (places_in T zero own) next
    ∙ map_self (λ (y : T.Item (suc zero)). named_by T B own (places_in T zero own y)) next named in
    ap (λ (ranks : List Elements). read_item (suc k) T B own (drop 1 ranks)) (ranks_of_over T G write k x h)
    ∙ ap (λ (l : List (T.Item (suc zero))). read_item k (over T) (over_building T B) l (drop 1 rest)) items
    ∙ ranks_read k (over T) (over_sets T G) (over_building T B) (places_in T zero own) x h
