-- Theorems on the definitions of specs/KeptSizes.
use Rattle.std.specs.Prelude.{◌≡◌, get_or}
use Rattle.std.proofs.Math.Path.{sym, ap, subst}
use Rattle.std.proofs.Common.{◌∙◌}
use mathlib.Core.List.{List, [], ◌∷◌, map, Memᴰ}
use Prim.Native.Nat.{ℕ, zero, suc, ◌+◌, ◌*◌, ◌≤◌, ◌<◌, compare}
use native.Mathlib.Omega.{arith}
use Rattle.std.proofs.Math.ListN.{length, length-map}
use Rattle.definitions.specs.Lists.{Pair, count_from}
use Rattle.definitions.specs.Outcome.{answered}
use Rattle.definitions.specs.Vectors.{Vec}
use Rattle.definitions.specs.Subspace.{Subspace}
use Rattle.definitions.specs.Orbits.{Row, Orbit}
use Rattle.definitions.specs.Figures.{Figure, rank_of, dyad}
use Rattle.definitions.specs.Recursion.{Rules, Entry, Answer, Inner, vertex_ridge, rows_within}
use Rattle.definitions.specs.Faceting.{Prepared, orbits_of, possible_facets, finish, faceting}
use Rattle.laws.specs.Lists.{Mem, in_map, of_map, in_count, of_count, count_length, member_at}
use Rattle.laws.specs.Orders.{nats}
use Rattle.laws.specs.Pairs.{pairs_map}
use Rattle.laws.specs.Ascending.{Differ, Distinct, ascends_distinct}
use Rattle.laws.specs.Ranges.{distinct_below}
use Rattle.shapes.specs.Answered.{Preparation, AnsweredCall, answered_call, made_few}
use Rattle.shapes.specs.Edges.{edge_figure}
use Rattle.shapes.specs.AnswerSizes.{two_counted, two_counts, within_few}
use Rattle.shapes.proofs.AnswerSizes.{call_counted}
use Rattle.shapes.specs.LowRanks.{RankTwo, rank_two, edge_of, inner_rank_two, one_edge, possible_edges, entry_list}
use Rattle.shapes.specs.LowRanks.{entry_places}
use Rattle.shapes.specs.Move.{raised_into}
use Rattle.shapes.specs.Sets.{set_rising}
use Rattle.shapes.specs.Calls.{Given, inner_points, inner_set, inner_size, inner_enough}
use Rattle.shapes.proofs.Calls.{inner_given}
use Rattle.shapes.specs.EdgeSets.{Proper, EdgeSet}
use Rattle.shapes.specs.AllPairs.{all_pairs, in_all_pairs, of_all_pairs}
use Rattle.shapes.specs.Polygons.{edge_via, via_proper, edge_pairs, polygon_edges}
use Rattle.shapes.specs.SplitCalls.{lists_of}
use Rattle.shapes.specs.Sizes.{edges_few, found_length, Counted}
use Rattle.shapes.proofs.CallOrbits.{call_orbits_few}
use Rattle.shapes.specs.FewOrbits.{pairs_few}
use Rattle.shapes.specs.EntryFigures.{facets_many}
use Rattle.shapes.proofs.EntryFigures.{edge_proper, possible_polygon}
use Rattle.shapes.proofs.NestedCalls.{call_split}
use Rattle.shapes.specs.Ridges.{twice, twice_moved}
use Rattle.shapes.specs.Kept.{Kept, ends_of, kept_of}
use Rattle.shapes.specs.KeptTable.{inner_one_ridge}
use Rattle.shapes.specs.KeptSizes.{AnswerSized, KeptSized, edge_alone, ridge_keys, two_few}

-- ---- orbits

-- the orbits of a call of rank 3 are no more than its pairs of points
pub rank_three_orbits : (rules : Rules) (plane : Subspace) (points : List Vec) (rows : List Row) (p : Prepared)
    → Preparation 0 rules (faceting 0 rules) plane points rows p
    → 2 * length p.inner + length points ≤ length points * length points
rank_three_orbits rules plane points rows p made =
    let k = call_orbits_few rules plane points rows in
    fewer (length points) (length p.inner) (length (orbits_of 0 rules plane points rows)) (made_few made) k
  where
    fewer : (n m k : ℕ) → m ≤ k → 2 * k + n ≤ n * n → 2 * m + n ≤ n * n
    fewer n m k h e = omega arith

-- ---- answers of rank 2 and 3

two_sized : (rows : List Row) (budget : ℕ) (a : Answer) → RankTwo budget a
    → ((c : ℕ) → Mem c a.counts → Counted rows c) → AnswerSized rows a
two_sized rows budget a r counted = record {
  possible_many =
      ap length r.possible ∙ length-map {B = List Figure} (count_from 0 r.ends) (λ (v : ℕ). vertex_ridge v ∷ [])
      ∙ count_length 0 r.ends ∙ sym (two_counts budget a r);
  counted = counted;
  below = λ e m place i. below e (subst (λ (l : List Entry). Mem e l) r.entries m) place i;
  few = λ e m. few e (subst (λ (l : List Entry). Mem e l) r.entries m);
}
  where
    places : List Pair
    places = map (λ (v : ℕ). (v, 0)) (count_from 0 r.ends)

    below : (e : Entry) → Mem e (record { list = places; before = places; figure = dyad } ∷ []) → (place : Pair)
        → Mem place e.list → place.0 < length a.counts
    below e (Memᴰ.head q) place i =
        let s = of_map (λ (v : ℕ). (v, 0)) place (count_from 0 r.ends) (subst (λ (x : Entry). Mem place x.list) q i) in
        let k = (of_count 0 r.ends s.0 s.1).1 in
        let f = ap (λ (x : Pair). x.0) s.2 in
        let n = two_counts budget a r in
        omega arith
    below e (Memᴰ.tail m) place i = elim m [ ]

    few : (e : Entry) → Mem e (record { list = places; before = places; figure = dyad } ∷ [])
        → length e.list ≤ length a.counts
    few e (Memᴰ.head q) =
        let s = ap (λ (x : Entry). length x.list) q in
        let k = length-map {B = Pair} (count_from 0 r.ends) (λ (v : ℕ). (v, 0)) in
        let c = count_length 0 r.ends in
        let n = two_counts budget a r in
        omega arith
    few e (Memᴰ.tail m) = elim m [ ]

-- an answer of rank 3 has as many counts as orbits
three_counts : (rules : Rules) (plane : Subspace) (points : List Vec) (rows : List Row) (a : Answer)
    (c : AnsweredCall 0 rules plane points rows a) → length a.counts ≡ length c.before.inner
unfolding finish
three_counts rules plane points rows a c =
    ap (λ (x : Answer). length x.counts) c.is ∙ length-map c.before.inner (λ (i : Inner). i.orbit.count)

three_sized : (rules : Rules) (plane : Subspace) (points : List Vec) (rows : List Row) (a : Answer)
    → Given points rows → AnsweredCall 0 rules plane points rows a → AnswerSized rows a
unfolding finish
three_sized rules plane points rows a given c =
    let p = c.before in
    let counts : length a.counts ≡ length p.inner = three_counts rules plane points rows a c in
    record {
      possible_many = ap (λ (x : Answer). length x.possible) c.is ∙ length-map p.inner possible_facets ∙ sym counts;
      counted = λ n m.
          let r = of_map (λ (i : Inner). i.orbit.count) n p.inner (subst (λ (x : Answer). Mem n x.counts) c.is m) in
          subst (Counted rows) (sym r.2) (call_counted 0 rules plane points rows p c.prepared given r.0 r.1);
      below = λ e m place i. let k = (entry_places rules plane points rows a c e m place i).0 in omega arith;
      few =
          λ e m. let r = entry_list rules plane points rows a c e m in
          let k = found_length rules p c.found c.is_found_holds r.0 r.1 in let s = ap length r.3 in omega arith;
    }

pub answer_sized : (more : ℕ) (rules : Rules) (plane : Subspace) (points : List Vec) (rows : List Row) (budget : ℕ)
    (a : Answer) → more ≤ 1 → Given points rows
    → faceting more rules plane points rows budget ≡ answered a → AnswerSized rows a
answer_sized zero rules plane points rows budget a few given e =
    two_sized rows budget a (rank_two rules plane points rows budget a e)
    (two_counted rules plane points rows budget a given e)
answer_sized (suc zero) rules plane points rows budget a few given e =
    three_sized rules plane points rows a given (answered_call 0 rules plane points rows budget a e)
answer_sized (suc (suc more)) rules plane points rows budget a few given e = absurd (omega arith)

-- the orbits of an answer of rank 2 or 3 on 20 points at most
pub few_counts : (more : ℕ) (rules : Rules) (plane : Subspace) (points : List Vec) (rows : List Row) (budget : ℕ)
    (a : Answer) → more ≤ 1 → length points ≤ 20
    → faceting more rules plane points rows budget ≡ answered a → length a.counts ≤ 190
few_counts zero rules plane points rows budget a few small e =
    let k = (two_few budget a (rank_two rules plane points rows budget a e)).1 in
    omega arith
few_counts (suc zero) rules plane points rows budget a few small e =
    let c = answered_call 0 rules plane points rows budget a e in
    let n = three_counts rules plane points rows a c in
    let k = pairs_few (length points) (length c.before.inner) small
    (rank_three_orbits rules plane points rows c.before c.prepared) in
    omega arith
few_counts (suc (suc more)) rules plane points rows budget a few small e = absurd (omega arith)

-- ---- what is kept of an orbit

pub keys_below : (more n : ℕ) (e : Pair) → Mem e (ridge_keys more n) → (e.0 ≤ e.1) × (e.1 < n)
unfolding ridge_keys twice
keys_below zero n e m =
    let r = of_map twice e (count_from 0 n) m in
    let k = (of_count 0 n r.0 r.1).1 in
    let a = ap (λ (x : Pair). x.0) r.2 in
    let b = ap (λ (x : Pair). x.1) r.2 in
    (omega arith, omega arith)
keys_below (suc more) n e m = let r = of_all_pairs n e m in let a = r.rises in let b = r.below in (omega arith, b)

module _ (more : ℕ) (rules : Rules) (plane : Subspace) (points : List Vec) (rows : List Row) (p : Prepared)
    (few : more ≤ 1) (given : Given points rows)
    (made : Preparation more rules (faceting more rules) plane points rows p) where
  abbrev n : ℕ
  n = length points

  abbrev to_call : Inner → ℕ → ℕ
  to_call i v = get_or i.orbit.vertices v 0

  inner_sized : (i : Inner) → Mem i p.inner → AnswerSized (rows_within i.orbit.vertices rows) i.answer
  inner_sized i m =
      let inner = made.inner.each i m in
      answer_sized more rules _ (inner_points plane points i)
      (rows_within i.orbit.vertices rows) inner.budget i.answer few
      (inner_given more rules (faceting more rules) plane points rows p made given.rows_good i m) inner.is

  vertices_few : (i : Inner) → Mem i p.inner → length i.orbit.vertices ≤ n
  vertices_few i m =
      let s = inner_set more rules (faceting more rules) plane points rows p made i m in
      distinct_below n i.orbit.vertices (ascends_distinct compare nats i.orbit.vertices s.ascends) s.below

  -- the ends of ridges
  ends_of_holds : (i : Inner) → Mem i p.inner → (e : Pair) → Mem e (kept_of i).ends → Mem e (ridge_keys more n)
  unfolding kept_of ridge_keys ends_of rank_of vertex_ridge edge_figure twice
  ends_of_holds i m e j =
      let r = of_map
      (λ (ridges : List Figure). edge_via (to_call i) (ends_of (get_or ridges 0 []))) e i.answer.possible j in
      subst (λ (x : Pair). Mem x (ridge_keys more n)) (sym r.2) (at_rank more few made r.0 r.1)
    where
      at_rank : (more : ℕ) → more ≤ 1 → Preparation more rules (faceting more rules) plane points rows p
          → (fs : List Figure) → Mem fs i.answer.possible
          → Mem (edge_via (to_call i) (ends_of (get_or fs 0 []))) (ridge_keys more n)
      at_rank zero few made fs k =
          let two = inner_rank_two rules plane points rows p made i m in
          let q = of_map (λ (v : ℕ). vertex_ridge v ∷ []) fs (count_from 0 two.1.ends)
          (subst (λ (l : List (List Figure)). Mem fs l) two.1.possible k) in
          let v = q.0 in
          let a = (of_count 0 two.1.ends v q.1).1 in
          let b = (two_few two.0 i.answer two.1).1 in
          let c = two_counts two.0 i.answer two.1 in
          let d = inner_enough 0 rules (faceting 0 rules) plane points rows p made i m in
          let s = inner_set 0 rules (faceting 0 rules) plane points rows p made i m in
          let inside : to_call i v < n = s.below (to_call i v) (member_at i.orbit.vertices v 0 (omega arith)) in
          subst (λ (x : Pair). Mem x (map twice (count_from 0 n)))
          (sym (ap (λ (l : List Figure). edge_via (to_call i) (ends_of (get_or l 0 []))) q.2
          ∙ twice_moved (to_call i) v))
          (in_map twice (to_call i v) (count_from 0 n) (in_count 0 n (to_call i v) (omega arith) (omega arith)))
      at_rank (suc zero) few made fs k =
          let inner = made.inner.each i m in
          let its = inner_points plane points i in
          let within = rows_within i.orbit.vertices rows in
          let size = inner_size 1 rules (faceting 1 rules) plane points rows p made i in
          let c = answered_call 0 rules _ its within inner.budget i.answer inner.is in
          let q =
          of_map (λ (o : Orbit). edge_figure (edge_of o) ∷ []) fs (map (λ (j : Inner). j.orbit) c.before.inner)
          (subst (λ (l : List (List Figure)). Mem fs l) (possible_edges rules _ its within i.answer c) k) in
          let o = of_map (λ (j : Inner). j.orbit) q.0 c.before.inner q.1 in
          let own : Proper c.before.points (edge_of o.0.orbit) =
          edge_proper 0 rules _ its within c.before (inner_given 1 rules
          (faceting 1 rules) plane points rows p made given.rows_good i m) c.prepared o.0 o.1 in
          let proper : Proper (length i.orbit.vertices) (edge_of q.0) =
          subst (λ (k : ℕ). Proper k (edge_of q.0)) (c.prepared.points_are ∙ size)
          (subst (λ (x : Orbit). Proper c.before.points (edge_of x)) (sym o.2) own) in
          let s = inner_set 1 rules (faceting 1 rules) plane points rows p made i m in
          subst (λ (x : Pair). Mem x (all_pairs n))
          (sym (ap (λ (l : List Figure). edge_via (to_call i) (ends_of (get_or l 0 []))) q.2))
          (in_all_pairs n (edge_via (to_call i) (edge_of q.0))
          (via_proper (length i.orbit.vertices) n (to_call i) (raised_into (length i.orbit.vertices) n (to_call i)
          (set_rising n i.orbit.vertices s)) (edge_of q.0) proper))
      at_rank (suc (suc more)) few made fs k = absurd (omega arith)

  -- the edges of facets
  edges_of_holds : (i : Inner) → Mem i p.inner → (l : List Pair) → Mem l (kept_of i).edges → EdgeSet n l
  unfolding kept_of
  edges_of_holds i m l j =
      let r = of_map edge_pairs l (possible_facets i) j in
      subst (EdgeSet n) (sym r.2)
      (subst (λ (k : ℕ). EdgeSet k (edge_pairs r.0)) made.points_are (at_rank more few made r.0 r.1))
    where
      at_rank : (more : ℕ) → more ≤ 1 → Preparation more rules (faceting more rules) plane points rows p
          → (f : Figure) → Mem f (possible_facets i) → EdgeSet p.points (edge_pairs f)
      at_rank zero few made f k =
          only f (subst (λ (fs : List Figure). Mem f fs) (one_edge rules plane points rows p made i m) k)
        where
          only : (f : Figure) → Mem f (edge_figure (edge_of i.orbit) ∷ []) → EdgeSet p.points (edge_pairs f)
          only f (Memᴰ.head q) =
              subst (EdgeSet p.points) (sym (ap edge_pairs q ∙ edge_alone (edge_of i.orbit)))
              (one_set (edge_proper 0 rules plane points rows p given made i m))
            where
              one_set : {e : Pair} → Proper p.points e → EdgeSet p.points (e ∷ [])
              one_set {e} h = record { ascends = ((λ y z. elim z [ ]), tt); proper = λ d z. it d z }
                where
                  it : (d : Pair) → Mem d (e ∷ []) → Proper p.points d
                  it d (Memᴰ.head q) = subst (Proper p.points) (sym q) h
                  it d (Memᴰ.tail z) = elim z [ ]
          only f (Memᴰ.tail z) = elim z [ ]
      at_rank (suc zero) few made f k =
          let q = possible_polygon rules plane points rows p given made i m f k in
          subst (EdgeSet p.points) (sym (ap edge_pairs q.1 ∙ polygon_edges (length i.orbit.vertices) q.0)) q.2
      at_rank (suc (suc more)) few made f k = absurd (omega arith)

  inner_kept_sized : (i : Inner) → Mem i p.inner → KeptSized more n rows (kept_of i)
  unfolding kept_of possible_facets
  inner_kept_sized i m =
      let set = inner_set more rules (faceting more rules) plane points rows p made i m in
      let sized = inner_sized i m in
      let splits = call_split more rules plane points rows p given made i m in
      let size = inner_size more rules (faceting more rules) plane points rows p made i in
      let inner = made.inner.each i m in
      let fewer = vertices_few i m in
      let within = within_few i.orbit.vertices rows in
      let ends_many : length (kept_of i).ends ≡ length i.answer.counts =
      length-map i.answer.possible (λ (ridges : List Figure). edge_via (to_call i) (ends_of (get_or ridges 0 [])))
      ∙ sized.possible_many in
      let entries_many : length (kept_of i).places ≡ length i.answer.entries =
      length-map i.answer.entries (λ (e : Entry). map (λ (place : Pair). place.0) e.list) in
      let lists_many : length (lists_of i.answer)
      ≡ length i.answer.entries = length-map i.answer.entries (λ (e : Entry). e.list) in
      record {
        vertices = set;
        few_vertices = fewer;
        some_vertices = inner_enough more rules (faceting more rules) plane points rows p made i m;
        counted = call_counted more rules plane points rows p made given i m;
        ends_keys = ends_of_holds i m;
        ends_below =
            λ e j. let r = keys_below more n e (ends_of_holds i m e j) in let a = r.0 in let b = r.1 in
            (omega arith, b);
        ends_many = ends_many;
        few_ends = λ small.
            let k = few_counts more rules _ (inner_points plane points i)
            (rows_within i.orbit.vertices rows) inner.budget i.answer few (omega arith) inner.is in
            omega arith;
        inner_counted =
            λ c j. let r = sized.counted c j in let b = r.few in record { some_set = r.some_set; few = omega arith };
        places_below = λ l j a k.
            let r = of_map (λ (e : Entry). map (λ (place : Pair). place.0) e.list) l i.answer.entries j in
            let q = of_map (λ (place : Pair). place.0) a r.0.list (subst (λ (x : List ℕ). Mem a x) r.2 k) in
            let b = sized.below r.0 r.1 q.0 q.1 in
            let s = q.2 in
            omega arith;
        places_few = λ l j.
            let r = of_map (λ (e : Entry). map (λ (place : Pair). place.0) e.list) l i.answer.entries j in
            let s = ap length r.2 ∙ length-map r.0.list (λ (place : Pair). place.0) in
            let b = sized.few r.0 r.1 in
            omega arith;
        places_some = λ l j.
            let r = of_map (λ (e : Entry). map (λ (place : Pair). place.0) e.list) l i.answer.entries j in
            let s = ap length r.2 ∙ length-map r.0.list (λ (place : Pair). place.0) in
            let b = splits.some_items r.0.list (in_map (λ (e : Entry). e.list) r.0 i.answer.entries r.1) in
            omega arith;
        places_distinct = λ l j.
            let r = of_map (λ (e : Entry). map (λ (place : Pair). place.0) e.list) l i.answer.entries j in
            let first = (inner_one_ridge more rules plane points rows p few made i m).first r.0 r.1 in
            subst Distinct (sym r.2)
            (pairs_map Differ Differ (λ (place : Pair). place.0) r.0.list
            (λ x u y v d e. d (λ t. (e t, (first x u ∙ sym (first y v)) t)))
            (splits.distinct r.0.list (in_map (λ (e : Entry). e.list) r.0 i.answer.entries r.1)));
        edges_many = length-map (possible_facets i) edge_pairs ∙ facets_many i ∙ sym entries_many;
        edges_set = edges_of_holds i m;
        few_edges_holds = λ small l j. pairs_few n (length l) small (edges_few n l (edges_of_holds i m l j));
        compounds_below = λ c j.
            let r = splits.compounds c j in
            let a = r.whole_below in
            let b = r.second_below in
            (omega arith, r.behind, omega arith);
      }

  pub kept_sized : (k : Kept) → Mem k (map kept_of p.inner) → KeptSized more (length points) rows k
  kept_sized k m =
      let r = of_map kept_of k p.inner m in
      subst (KeptSized more n rows) (sym r.2) (inner_kept_sized r.0 r.1)

-- ---- all facets

-- at rank 3 on 20 points at most
pub few_orbits_three : (rules : Rules) (plane : Subspace) (points : List Vec) (rows : List Row) (p : Prepared)
    → Preparation 0 rules (faceting 0 rules) plane points rows p → length points ≤ 20
    → length (map kept_of p.inner) ≤ 190
few_orbits_three rules plane points rows p made small =
    let e = length-map p.inner kept_of in
    let k = pairs_few (length points) (length p.inner) small (rank_three_orbits rules plane points rows p made) in
    omega arith
