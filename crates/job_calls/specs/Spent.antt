-- A call never has more of the budget left than it was given: so the number of lists examined in all calls [12.3] is
-- a number. About the definitions alone, for every rank and any rules.
use Rattle.std.proofs.Math.Path.{◌≡◌, subst}
use Rattle.std.proofs.Common.{ap, arith}
use Rattle.std.specs.Prelude.{Bool, cond, not, leb, ltb, eqb, length}
use Rattle.std.proofs.Math.Bool.{true, false}
use mathlib.Core.List.{List, [], ◌∷◌, ◌++◌, map, reverse_aux}
use Prim.Native.Nat.{ℕ, zero, suc, ◌+◌, ◌≤◌}
use Rattle.definitions.specs.Lists.{any_of}
use Rattle.definitions.specs.Outcome.{Outcome, answered, and_then, refuse_if}
use Rattle.definitions.specs.Vectors.{Vec}
use Rattle.definitions.specs.Subspace.{Subspace, flatten, from_points}
use Rattle.definitions.specs.Orbits.{Row, Orbit, image, point_at}
use Rattle.definitions.specs.Search.{Facet, Table, Item, Verdict, over, closed, open_at, EntryLimits, Found}
use Rattle.definitions.specs.Search.{limit_reached, emit, emit_if, judge, totals, put_in, examine, search, starts}
use Rattle.definitions.specs.Recursion.{Rules, Answer, Inner, InnerCalls, inner_call, inner_calls, before_these}
use Rattle.definitions.specs.Recursion.{rows_within, edge_call, swapped_ends, separate_ends, call_on_set}
use Rattle.definitions.specs.Faceting.{Way, plain_way, Prepared, orbits_of, prepare_with, prepare, search_from}
use Rattle.definitions.specs.Faceting.{table_for, entry_limits, finish, faceting, faceting_with, prepare_from}
use Rattle.definitions.specs.Faceting.{answer_from}
use Rattle.laws.specs.Outcomes.{answered_before, not_refused_if}
use Rattle.shapes.specs.Answered.{answers_equal}

-- ---- the search

module _ (t : Table) (limits : EntryLimits) where
  emit_spends : (v : Verdict) (list : List Facet) (left budget : ℕ) (emitted : List (List Facet)) (found : Found)
      (next : List (List Facet) → Outcome Found) → left ≤ budget
      → ((lists : List (List Facet)) → next lists ≡ answered found → found.left ≤ budget)
      → emit_if v limits list left emitted next ≡ answered found → found.left ≤ budget
  unfolding emit_if emit
  emit_spends over list left budget emitted found next h rest e = rest emitted e
  emit_spends (open_at ridge) list left budget emitted found next h rest e = rest emitted e
  emit_spends closed list left budget emitted found next h rest e =
      let lists = emitted ++ (list ∷ []) in
      let stop : Found = record { lists = lists; left = left } in
      let after : Outcome Found =
      elim (limit_reached limits.limit (length lists)) [ true ↦ answered stop | false ↦ next lists ] in
      go (limit_reached limits.limit (length lists))
      (not_refused_if (leb limits.bound (length emitted)) 15 (λ u. after) found e).1
    where
      go : (b : Bool) → elim b [
        | true ↦ answered (record {
          lists = emitted ++ (list ∷ []);
          left = left;
        })
        | false ↦ next (emitted ++ (list ∷ []))
      ] ≡ answered found → found.left ≤ budget
      go true q =
          subst (λ (f : Found). f.left ≤ budget) (answers_equal (record {
            lists = emitted ++ (list ∷ []);
            left = left;
          }) found q) h
      go false q = rest (emitted ++ (list ∷ [])) q

  examine_spends : (left : ℕ) (pending : List Item) (emitted : List (List Facet)) (found : Found)
      → examine t limits left pending emitted ≡ answered found → found.left ≤ left
  unfolding examine
  examine_spends zero [] emitted found e =
      subst (λ (f : Found). f.left ≤ 0) (answers_equal (record { lists = emitted; left = 0 }) found e) (omega arith)
  examine_spends zero (item ∷ pending) emitted found e = let z : ◌≡◌ {A = ℕ} 0 1 = cc in absurd (omega arith)
  examine_spends (suc left) [] emitted found e =
      subst (λ (f : Found). f.left ≤ suc left) (answers_equal (record {
        lists = emitted;
        left = suc left;
      }) found e) (omega arith)
  examine_spends (suc left) (item ∷ pending) emitted found e =
      emit_spends (judge (totals t item.list)) item.list left (suc left) emitted found
      (examine t limits left (reverse_aux (put_in limits.extended t item (judge (totals t item.list))) pending))
      (omega arith)
      (λ lists q. let k = examine_spends left
      (reverse_aux (put_in limits.extended t item (judge (totals t item.list))) pending) lists found q in
      omega arith) e

search_spends : (rules : Rules) (p : Prepared) (found : Found) → search_from rules p ≡ answered found
    → found.left ≤ p.left
unfolding search_from search
search_spends rules p found e =
    examine_spends (table_for p) (entry_limits rules p.extended) p.left
    (reverse_aux (starts (table_for p)) []) [] found e

-- ---- the inner calls

-- a step from a budget to an answer that leaves no more
abbrev Spends : (Orbit → ℕ → Outcome Inner) → Type 0
Spends inner = (orbit : Orbit) (budget : ℕ) (i : Inner) → inner orbit budget ≡ answered i → i.answer.left ≤ budget

inner_spends : (inner : Orbit → ℕ → Outcome Inner) (bound : ℕ) → Spends inner
    → (orbits : List Orbit) (facets left : ℕ) (done : InnerCalls)
    → inner_calls inner bound orbits facets left ≡ answered done
    → done.left ≤ left
unfolding inner_calls before_these
inner_spends inner bound spends [] facets left done e =
    subst (λ (d : InnerCalls). d.left ≤ left) (answers_equal (record {
      calls = [];
      left = left;
    }) done e) (omega arith)
inner_spends inner bound spends (orbit ∷ orbits) facets left done e =
    let stored : Inner → ℕ = λ i. facets + length i.answer.entries in
    let later : Inner → Outcome InnerCalls = λ i. inner_calls inner bound orbits (stored i) i.answer.left in
    let rest : Inner → Outcome InnerCalls = λ i. and_then (later i) (λ (l : InnerCalls). answered (before_these i l)) in
    let a = answered_before (inner orbit left)
    (λ (i : Inner). refuse_if (ltb bound (stored i)) 15 (λ u. rest i)) done e in
    let b = not_refused_if (ltb bound (stored a.0)) 15 (λ u. rest a.0) done a.2 in
    let c = answered_before (later a.0) (λ (l : InnerCalls). answered (before_these a.0 l)) done b.1 in
    let same : before_these a.0 c.0 ≡ done = answers_equal (before_these a.0 c.0) done c.2 in
    let left_is : c.0.left ≡ done.left = ap (λ (d : InnerCalls). d.left) same in
    let first = spends orbit left a.0 a.1 in
    let behind = inner_spends inner bound spends orbits (stored a.0) a.0.answer.left c.0 c.1 in
    omega arith

-- ---- the call

edge_spends : (plane : Subspace) (points : List Vec) (rows : List Row) (budget : ℕ) (a : Answer)
    → edge_call plane points rows budget ≡ answered a → a.left ≤ budget
unfolding edge_call swapped_ends separate_ends
edge_spends plane points rows budget a e =
    go (any_of (λ (row : Row). eqb 1 (image row 0)) rows) (answers_equal
    (cond (any_of (λ (row : Row). eqb 1 (image row 0)) rows) (swapped_ends budget) (separate_ends budget)) a e)
  where
    go : (b : Bool) → cond b (swapped_ends budget) (separate_ends budget) ≡ a → a.left ≤ budget
    go true q = let k = ap (λ (x : Answer). x.left) q in omega arith
    go false q = let k = ap (λ (x : Answer). x.left) q in omega arith

-- the call on an orbit's set, where the call that it makes leaves no more than it was given
one_spends : (more : ℕ) (rules : Rules) (flat : List Vec) (rows : List Row)
    → ((plane : Subspace) (points : List Vec) (rows : List Row) (budget : ℕ) (a : Answer)
    → faceting more rules plane points rows budget ≡ answered a → a.left ≤ budget)
    → Spends (inner_call (suc more) rules (faceting more rules) flat rows)
unfolding call_on_set inner_call
one_spends more rules flat rows spends orbit budget i e =
    let points = map (point_at flat) orbit.vertices in
    let plane = from_points rules.tolerance points in
    let called = faceting more rules plane points (rows_within orbit.vertices rows) budget in
    let a = not_refused_if (not (eqb (length plane.basis) (suc more))) 14
    (λ u. and_then called (λ (x : Answer). answered (record { orbit = orbit; answer = x }))) i e in
    let b = answered_before called (λ (x : Answer). answered (record { orbit = orbit; answer = x })) i a.1 in
    let same : b.0.left ≡ i.answer.left =
    ap (λ (x : Inner). x.answer.left) (answers_equal (record { orbit = orbit; answer = b.0 }) i b.2) in
    let k = spends plane points (rows_within orbit.vertices rows) budget b.0 b.1 in
    omega arith

-- a call in any way, whose inner calls leave no more than they were given
way_spends : (way : Way) (more : ℕ) (rules : Rules)
    → ((plane : Subspace) (points : List Vec) (rows : List Row) (budget : ℕ) (a : Answer)
    → faceting more rules plane points rows budget ≡ answered a → a.left ≤ budget)
    → (plane : Subspace) (points : List Vec) (rows : List Row) (budget : ℕ) (a : Answer)
    → faceting_with way (suc more) rules plane points rows budget ≡ answered a → a.left ≤ budget
unfolding answer_from faceting_with prepare_from prepare_with finish
way_spends way more rules spends plane points rows budget a e =
    let flat = map (flatten plane) points in
    let all = orbits_of more rules plane points rows in
    let orbits = way.keeps all in
    let inner = inner_call (suc more) rules (faceting more rules) flat rows in
    let calls = inner_calls inner rules.bounds.facets orbits 0 budget in
    let next : InnerCalls → Outcome Prepared = λ done. answered (record {
      more = more;
      points = length points;
      rows = rows;
      inner = done.calls;
      left = done.left;
      extended = way.extended;
    }) in
    let p = answered_before (prepare_with way more rules (faceting more rules) plane points rows budget)
    (λ (x : Prepared). and_then (search_from rules x) (λ (f : Found). answered (finish x f))) a e in
    let f = answered_before (search_from rules p.0) (λ (x : Found). answered (finish p.0 x)) a p.2 in
    let b = not_refused_if (ltb rules.bounds.orbits (length all)) 13 (λ u. and_then calls next) p.0 p.1 in
    let c = answered_before calls next p.0 b.1 in
    let left_is : c.0.left
    ≡ p.0.left = ap (λ (x : Prepared). x.left) (answers_equal (record {
      more = more;
      points = length points;
      rows = rows;
      inner = c.0.calls;
      left = c.0.left;
      extended = way.extended;
    }) p.0 c.2) in
    let rest_is : f.0.left ≡ a.left = ap (λ (x : Answer). x.left) (answers_equal (finish p.0 f.0) a f.2) in
    let before =
    inner_spends inner rules.bounds.facets (one_spends more rules flat rows spends) orbits 0 budget c.0 c.1 in
    let searched = search_spends rules p.0 f.0 f.1 in
    omega arith

pub call_spends : (n : ℕ) (rules : Rules) (plane : Subspace) (points : List Vec) (rows : List Row) (budget : ℕ)
    (a : Answer) → faceting n rules plane points rows budget ≡ answered a → a.left ≤ budget
unfolding faceting faceting_with prepare
call_spends zero rules plane points rows budget a e = edge_spends plane points rows budget a e
call_spends (suc more) rules plane points rows budget a e =
    way_spends plain_way more rules (call_spends more rules) plane points rows budget a e

pub call_spends_with : (way : Way) (n : ℕ) (rules : Rules) (plane : Subspace) (points : List Vec) (rows : List Row)
    (budget : ℕ) (a : Answer) → faceting_with way n rules plane points rows budget ≡ answered a → a.left ≤ budget
unfolding faceting_with
call_spends_with way zero rules plane points rows budget a e = edge_spends plane points rows budget a e
call_spends_with way (suc more) rules plane points rows budget a e =
    way_spends way more rules (call_spends more rules) plane points rows budget a e
