-- Theorems on the definitions of specs/LevelFigures.
use Rattle.std.specs.Prelude.{◌≡◌, get_or}
use Rattle.std.proofs.Math.Path.{refl, sym, ap, subst}
use Rattle.std.proofs.Common.{◌∙◌}
use mathlib.Core.List.{List, [], ◌∷◌, map, map-map}
use Prim.Native.Nat.{ℕ, zero, suc, compare}
use Rattle.std.proofs.Math.ListN.{length}
use Rattle.std.proofs.lemmas.List.{length-map}
use Rattle.definitions.specs.Lists.{sort_nats, count_from}
use Rattle.definitions.specs.Figures.{Elements, number_in, without_lowest}
use Rattle.laws.specs.Lists.{Mem}
use Rattle.laws.specs.Orders.{nats}
use Rattle.laws.specs.Ascending.{Ascends, in_order_ascends, in_in_order, of_in_order}
use Rattle.laws.proofs.Ascending.{sort_ascending}
use Rattle.laws.specs.Places.{place_in, map_same}
use Rattle.shapes.specs.Shape.{Stack}
use Rattle.shapes.specs.Assemble.{lowest_by}
use Rattle.shapes.specs.Gathered.{elements_of, gathered}
use Rattle.shapes.specs.Levels.{Levels, Sets, over, over_sets, items_in_order, AllGood, lowest, lowest_in, places_in}
use Rattle.shapes.specs.Levels.{upper_ranks, body_of, ranks_on, ranks_of, lowest_items, lowest_ascends}
use Rattle.shapes.specs.Levels.{lowest_in_ascends, ranks_over, ranks_of_over, ranks_of_sent}
use Rattle.shapes.specs.LevelFigures.{Within, Written, elements_of_items, order, over_within, places_written}
use Rattle.shapes.specs.LevelFigures.{written_at, written_number, written_rank}

-- ---- their ranks stand one upon the other

pub ranks_stack : (k : ℕ) (T : Levels) (G : Sets T) (bound : ℕ) (P : T.Item zero → Type 0)
    (write : T.Item zero → List ℕ) → Written T bound P write → (x : T.Item k) → G.Good k x
    → ((z : T.Item zero) → Mem z (lowest_in T k x) → P z) → Stack bound (ranks_of T write k x)
unfolding lowest_in ranks_of
ranks_stack zero T G bound P write written x h p =
    (written_rank T bound P write written (x ∷ []) p ((λ y i. elim i [ ]), tt), tt)
ranks_stack (suc k) T G bound P write written x h p =
    let own = lowest_in T (suc k) x in
    let up = lowest_in_ascends T G (suc k) x h in
    let rest = ranks_stack k (over T) (over_sets T G) (length own) (Within T G own) (places_in T zero own)
    (places_written T G own up) x h (over_within T G k x h own (λ z m. m)) in
    subst (Stack bound) (sym (ranks_of_over T G write k x h)) (
      written_rank T bound P write written own p up,
      subst (λ (n : ℕ). Stack n (ranks_of (over T) (places_in T zero own) k x)) (sym (length-map own write)) rest,
    )

-- ---- one rank taken off

without_by : (all x : Elements) (ranks : List Elements)
    → without_lowest all (x ∷ ranks) ≡ lowest_by (λ (i : ℕ). number_in all (get_or x i [])) ranks
unfolding without_lowest lowest_by
without_by all x [] = refl
without_by all x (r ∷ ranks) = refl

module _ (T : Levels) (bound : ℕ) (P : T.Item zero → Type 0) (write : T.Item zero → List ℕ)
    (written : Written T bound P write) where
  abbrev place : List (T.Item zero) → T.Item zero → ℕ
  place = place_in (T.order zero) (T.linear zero)

  -- an item above, without its lowest rank, named by the numbers in a larger rank
  pub ranks_without : (G : Sets T) (k : ℕ) (x : T.Item (suc k)) → G.Good (suc k) x → (all : List (T.Item zero))
      → Ascends (T.order zero) all → ((z : T.Item zero) → Mem z all → P z)
      → ((z : T.Item zero) → Mem z (lowest_in T (suc k) x) → Mem z all)
      → without_lowest (map write all) (ranks_of T write (suc k) x) ≡ ranks_of (over T) (places_in T zero all) k x
  unfolding sort_nats
  ranks_without G k x h all up p within =
      let own = lowest_in T (suc k) x in
      let number : ℕ → ℕ = λ i. number_in (map write all) (get_or (map write own) i []) in
      let one : (y : T.Item (suc zero)) → Mem y (lowest_in (over T) k x)
      → sort_nats (map number (places_in T zero own y)) ≡ places_in T zero all y = λ y m.
      let own-subs = (over_within T G k x h own (λ z i. i) y m).1 in
      ap sort_nats
      (map-map number (place own) (T.subs zero y)
      ∙ map_same (λ (z : T.Item zero). number (place own z)) (place all) (T.subs zero y)
      (λ z i. ap (number_in (map write all)) (written_at T write own z (own-subs z i))
      ∙ written_number T bound P write written all p z (p z (within z (own-subs z i)))))
      ∙ sort_ascending compare nats (places_in T zero all y)
      ((places_written T G all up).element y (over_within T G k x h all within y m)).ascends in
      ap (without_lowest (map write all)) (ranks_of_over T G write k x h)
      ∙ without_by (map write all) (map write own) (ranks_of (over T) (places_in T zero own) k x)
      ∙ ranks_of_sent (over T) (places_in T zero own) (places_in T zero all) number k x one

-- ---- the figure of a list of items

pub gathered_items : (k : ℕ) (T : Levels) (G : Sets T) (bound : ℕ) (P : T.Item zero → Type 0)
    (write : T.Item zero → List ℕ) → Written T bound P write → (xs : List (T.Item k)) → AllGood T G k xs
    → ((x : T.Item k) → Mem x xs → (z : T.Item zero) → Mem z (lowest_in T k x) → P z)
    → gathered k (map (ranks_of T write k) xs) ≡ ranks_on T write k (items_in_order T k xs)
unfolding gathered ranks_on upper_ranks lowest body_of
gathered_items zero T G bound P write written xs h p =
    let es = elements_of_items T bound P write written zero xs p in
    let many : length (elements_of (map (ranks_of T write zero) xs))
    ≡ length (items_in_order T zero xs) = ap length es ∙ length-map (items_in_order T zero xs) write in
    λ t. es t ∷ (count_from 0 (many t) ∷ []) ∷ []
gathered_items (suc k) T G bound P write written xs h p =
    let facets = map (ranks_of T write (suc k)) xs in
    let sorted = items_in_order T (suc k) xs in
    let all = lowest T (suc k) sorted in
    let up = lowest_ascends T (suc k) sorted (in_order_ascends (T.order (suc k)) (T.linear (suc k)) xs) in
    let inside : (z : T.Item zero) → Mem z all → P z = λ z m.
    let r = (lowest_items T (suc k) sorted).back z m in
    p r.0 (of_in_order (T.order (suc k)) (T.linear (suc k)) r.0 xs r.1) z r.2 in
    let within : (x : T.Item (suc k)) → Mem x xs → (z : T.Item zero) → Mem z (lowest_in T (suc k) x)
    → Mem z all = λ x m z i.
    (lowest_items T (suc k) sorted).into x (in_in_order (T.order (suc k)) (T.linear (suc k)) x xs m) z i in
    let upper : map (without_lowest (map write all)) facets ≡ map (ranks_of (over T) (places_in T zero all) k) xs =
    map-map (without_lowest (map write all)) (ranks_of T write (suc k)) xs
    ∙ map_same (λ (x : T.Item (suc k)). without_lowest (map write all) (ranks_of T write (suc k) x))
    (ranks_of (over T) (places_in T zero all) k) xs
    (λ x m. ranks_without T bound P write written G k x (h x m) all up inside (within x m)) in
    ap (λ (es : Elements). es ∷ gathered k (map (without_lowest es) facets))
    (elements_of_items T bound P write written (suc k) xs p)
    ∙ ap (λ (fs : List (List Elements)). map write all ∷ gathered k fs) upper
    ∙ ap (λ (ranks : List Elements). map write all ∷ ranks)
    (gathered_items k (over T) (over_sets T G) (length all) (Within T G all) (places_in T zero all)
    (places_written T G all up) xs h (λ x m. over_within T G k x (h x m) all (within x m)))
    ∙ sym (ranks_over T write k sorted)
