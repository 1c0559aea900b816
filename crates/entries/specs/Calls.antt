-- What splitting asks of the inner calls' answers holds in every call on at most 20 points. An orbit of a rank 3 call
-- is opened by a pair of vertices, so that there are at most 190; its inner calls have one entry each and no
-- compounds; so its own entries' lists have at most 190 items. Leans on Parts and on the laws of answered calls.
use Rattle.std.specs.Prelude.{◌≡◌, refl, List, [], ◌∷◌, map, length}
use Rattle.std.proofs.Common.{sym, ◌∙◌, subst, arith}
use Rattle.std.proofs.Math.Path.{ap}
use Prim.Native.Nat.{ℕ, ◌≤◌, compare}
use Rattle.std.proofs.lemmas.List.{length-map}
use Rattle.definitions.specs.Lists.{Pair}
use Rattle.definitions.specs.Outcome.{answered}
use Rattle.definitions.specs.Vectors.{Vec}
use Rattle.definitions.specs.Subspace.{Subspace, flatten}
use Rattle.definitions.specs.Orbits.{Row, point_at}
use Rattle.definitions.specs.Recursion.{Rules, Entry, Answer, Inner}
use Rattle.definitions.specs.Faceting.{Prepared, split, entry_of, entries_of, finish, faceting}
use Rattle.laws.specs.Lists.{Mem, here, there, of_map}
use Rattle.laws.specs.Orders.{nats}
use Rattle.laws.specs.Ascending.{ascends_distinct}
use Rattle.laws.specs.Ranges.{distinct_below}
use Rattle.shapes.specs.Answered.{facet_number, facet_sum, Preparation, answered_call, made_few}
use Rattle.shapes.specs.Calls.{inner_set}
use Rattle.shapes.proofs.CallOrbits.{call_orbits_most}
use Rattle.shapes.specs.Emitted.{entry_of_list}
use Rattle.shapes.specs.LowRanks.{rank_two}
use Rattle.shapes.proofs.Sizes.{split_length}
use Rattle.shapes.specs.SplitCalls.{lists_of}
use Rattle.shapes.proofs.SplitCalls.{split_answer}
use Rattle.shapes.specs.Kept.{Kept, kept_of}
use Rattle.entries.specs.Parts.{Splittable, inner_splittable}

-- ---- the lists of its entries

one_each : (is : List Inner) → ((i : Inner) → Mem i is → facet_number i ≡ 1) → facet_sum is ≡ length is
unfolding facet_sum
one_each [] h = refl
one_each (i ∷ is) h = let a = h i (here refl) in let b = one_each is (λ j m. h j (there m)) in omega arith

pub few_items_holds : (rules : Rules) (plane : Subspace) (points : List Vec) (rows : List Row) (budget : ℕ)
    (a : Answer) → faceting 1 rules plane points rows budget ≡ answered a → length points ≤ 20
    → (l : List Pair) → Mem l (lists_of a) → length l ≤ 190
unfolding finish entry_of
few_items_holds rules plane points rows budget a e h l m =
    let c = answered_call 0 rules plane points rows budget a e in
    let p = c.before in
    let each = c.prepared.inner.each in
    let sum =
    one_each p.inner (λ i j. ap length (rank_two rules _ _ _ (each i j).budget i.answer (each i j).is).entries) in
    let many = made_few c.prepared in
    let few = call_orbits_most rules plane points rows h in
    let r = of_map (λ (x : Entry). x.list) l (entries_of p c.found.lists)
    (subst (λ (b : Answer). Mem l (lists_of b)) c.is m) in
    let q = entry_of_list rules p c.found c.is_found_holds r.0 r.1 in
    let size = split_length rules p c.found c.is_found_holds
    (λ i j. split_answer 0 rules _ _ _ (each i j).budget i.answer (each i j).is) q.0 q.1 in
    let is : length l ≡ length (split p q.0) = ap length (r.2 ∙ ap (λ (x : Entry). x.list) q.2) in
    omega arith

-- ---- what the entries' laws ask of what is kept

module _ (rules : Rules) (plane : Subspace) (points : List Vec) (rows : List Row) (p : Prepared) where
  -- the inner calls of a rank 3 call have no compounds
  pub three_plain : Preparation 0 rules (faceting 0 rules) plane points rows p → (k : Kept)
      → Mem k (map kept_of p.inner) → k.compounds ≡ []
  unfolding kept_of
  three_plain made k m =
      let r = of_map kept_of k p.inner m in
      let e = made.inner.each r.0 r.1 in
      ap (λ (j : Kept). j.compounds) r.2 ∙ (rank_two rules _ _ _ e.budget r.0.answer e.is).compounds

  -- those of a rank 4 call can be split
  pub four_splittable : Preparation 1 rules (faceting 1 rules) plane points rows p → length points ≤ 20 → (k : Kept)
      → Mem k (map kept_of p.inner) → Splittable k
  four_splittable made h k m =
      let r = of_map kept_of k p.inner m in
      let i = r.0 in
      let e = made.inner.each i r.1 in
      let set = inner_set 1 rules (faceting 1 rules) plane points rows p made i r.1 in
      let few = distinct_below (length points) i.orbit.vertices
      (ascends_distinct compare nats i.orbit.vertices set.ascends) set.below in
      let size = length-map i.orbit.vertices (point_at (map (flatten plane) points)) in
      subst Splittable (sym r.2)
      (inner_splittable i (split_answer 1 rules _ _ _ e.budget i.answer e.is)
      (few_items_holds rules _ _ _ e.budget i.answer e.is (omega arith)))
