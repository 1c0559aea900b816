-- What an answered call says of its parts: how it was prepared, that every inner call was answered, what its search
-- found, and that the bounds hold. For every rank from 3, any rules, with a package or without. Leans on the
-- definitions and on completeness.
use Rattle.std.specs.Prelude.{◌≡◌, leb, ltb, eqb}
use Rattle.std.proofs.Math.Path.{refl, sym, subst}
use Rattle.std.proofs.Common.{ap, ◌∙◌}
use Rattle.std.proofs.Math.Bool.{Bool, true, false, not}
use mathlib.Core.List.{List, [], ◌∷◌, ◌++◌, map, reverse_aux, Memᴰ}
use Prim.Native.Nat.{ℕ, zero, suc, ◌+◌, ◌≤◌}
use native.Mathlib.Omega.{arith}
use Rattle.std.proofs.Math.Dec.{T, eqb→eq, nltb→le, nleb→lt}
use Rattle.std.proofs.Math.ListN.{length, length-append}
use Rattle.std.proofs.lemmas.List.{length-map}
use Rattle.definitions.specs.Outcome.{Outcome, refused, answered, and_then, refuse_if}
use Rattle.definitions.specs.Vectors.{Vec}
use Rattle.definitions.specs.Subspace.{Subspace, flatten, from_points}
use Rattle.definitions.specs.Orbits.{Row, Orbit, point_at}
use Rattle.definitions.specs.Search.{Facet, Table, Item, Verdict, over, closed, open_at, EntryLimits, Found}
use Rattle.definitions.specs.Search.{limit_reached, emit, emit_if, judge, totals, put_in, examine, search, starts}
use Rattle.definitions.specs.Recursion.{Rules, Answer, Call, Inner, InnerCalls, inner_call, inner_calls, before_these}
use Rattle.definitions.specs.Recursion.{rows_within, call_on_set}
use Rattle.definitions.specs.Faceting.{Way, plain_way, Prepared, orbits_of, prepare_with, prepare, search_from, finish}
use Rattle.definitions.specs.Faceting.{faceting, faceting_with, prepare_from, answer_from}
use Rattle.definitions.specs.Noble.{Package, kept_by}
use Rattle.definitions.specs.NobleCalls.{noble_way}
use Rattle.laws.specs.Bools.{false→fails}
use Rattle.laws.specs.Lists.{Mem, in_map, kept, keep_few}
use Rattle.laws.specs.Outcomes.{answered_before, not_refused_if}

contents : {A : Type 0} → A → Outcome A → A
contents otherwise (refused number) = otherwise
contents otherwise (answered a) = a

pub answers_equal : {A : Type 0} (a b : A) → answered a ≡ answered b → a ≡ b
unfolding contents
answers_equal a b e = ap (contents a) e

-- ---- inner calls

-- the call on an orbit's first set was answered: its refit has the wanted basis, and this was left of the budget
-- before it
pub record InnerAnswer (wanted : ℕ) (rules : Rules) (call : Call) (flat : List Vec) (rows : List Row)
    (i : Inner) : Type 0 where
  pub budget : ℕ
  pub basis : length (from_points rules.tolerance (map (point_at flat) i.orbit.vertices)).basis ≡ wanted
  pub is : call (from_points rules.tolerance (map (point_at flat) i.orbit.vertices))
      (map (point_at flat) i.orbit.vertices) (rows_within i.orbit.vertices rows) budget ≡ answered i.answer

-- how many possible facets an orbit has, and all orbits together
abbrev pub facet_number : Inner → ℕ
facet_number i = length i.answer.entries

unfoldable pub facet_sum : List Inner → ℕ
facet_sum [] = 0
facet_sum (i ∷ is) = facet_number i + facet_sum is

module _ (wanted : ℕ) (rules : Rules) (call : Call) (flat : List Vec) (rows : List Row) where
  abbrev Good : Inner → Type 0
  Good i = InnerAnswer wanted rules call flat rows i

  inner_answer_holds : (orbit : Orbit) (budget : ℕ) (i : Inner)
      → inner_call wanted rules call flat rows orbit budget ≡ answered i → Good i × (i.orbit ≡ orbit)
  unfolding call_on_set inner_call
  inner_answer_holds orbit budget i e =
      let points = map (point_at flat) orbit.vertices in
      let plane = from_points rules.tolerance points in
      let called = call plane points (rows_within orbit.vertices rows) budget in
      let a = not_refused_if (not (eqb (length plane.basis) wanted)) 14
      (λ u. and_then called (λ (x : Answer). answered (record { orbit = orbit; answer = x }))) i e in
      let b = answered_before called (λ (x : Answer). answered (record { orbit = orbit; answer = x })) i a.1 in
      let made : Inner = record { orbit = orbit; answer = b.0 } in
      let q : made ≡ i = answers_equal made i b.2 in
      let good : Good made = record {
        budget = budget;
        basis = eqb→eq (length plane.basis) wanted (passes (eqb (length plane.basis) wanted) a.0);
        is = b.1;
      } in
      (subst Good q good, sym (ap (λ (j : Inner). j.orbit) q))
    where
      passes : (b : Bool) → not b ≡ false → T b
      passes true e = tt
      passes false e = subst T e tt

  -- the inner calls that were made, orbit by orbit
  pub record AllInner (orbits : List Orbit) (calls : List Inner) : Type 0 where
    pub each : (i : Inner) → Mem i calls → Good i
    pub of_orbits : map (λ (i : Inner). i.orbit) calls ≡ orbits

  pub all_inner : (bound : ℕ) (orbits : List Orbit) (facets left : ℕ) (done : InnerCalls) → facets ≤ bound
      → inner_calls (inner_call wanted rules call flat rows) bound orbits facets left ≡ answered done
      → AllInner orbits done.calls × (facets + facet_sum done.calls ≤ bound)
  unfolding inner_calls facet_sum before_these
  all_inner bound [] facets left done h e =
      subst (λ (d : InnerCalls). AllInner [] d.calls × (facets + facet_sum d.calls ≤ bound))
      (answers_equal (record { calls = []; left = left }) done e)
      (record { each = λ i m. elim m [ ]; of_orbits = refl }, omega arith)
  all_inner bound (orbit ∷ orbits) facets left done h e =
      let inner = inner_call wanted rules call flat rows in
      let stored : Inner → ℕ = λ i. facets + length i.answer.entries in
      let later : Inner → Outcome InnerCalls = λ i. inner_calls inner bound orbits (stored i) i.answer.left in
      let rest : Inner
      → Outcome InnerCalls = λ i. and_then (later i) (λ (l : InnerCalls). answered (before_these i l)) in
      let a = answered_before (inner orbit left)
      (λ (i : Inner). refuse_if (ltb bound (stored i)) 15 (λ u. rest i)) done e in
      let b = not_refused_if (ltb bound (stored a.0)) 15 (λ u. rest a.0) done a.2 in
      let c = answered_before (later a.0) (λ (l : InnerCalls). answered (before_these a.0 l)) done b.1 in
      let k : stored a.0 ≤ bound = nltb→le bound (stored a.0) (false→fails b.0) in
      joined orbit orbits facets a.0 c.0 done (inner_answer_holds orbit left a.0 a.1)
      (answers_equal (before_these a.0 c.0) done c.2)
      (all_inner bound orbits (stored a.0) a.0.answer.left c.0 k c.1)
    where
      joined : (orbit : Orbit) (orbits : List Orbit) (facets : ℕ) (i : Inner) (l done : InnerCalls)
          → Good i × (i.orbit ≡ orbit) → before_these i l ≡ done
          → AllInner orbits l.calls × (facets + length i.answer.entries + facet_sum l.calls ≤ bound)
          → AllInner (orbit ∷ orbits) done.calls × (facets + facet_sum done.calls ≤ bound)
      joined orbit orbits facets i l done good e ih =
          let m = ih.1 in
          subst (λ (d : InnerCalls). AllInner (orbit ∷ orbits) d.calls × (facets + facet_sum d.calls ≤ bound)) e (
            record {
              each = each_of;
              of_orbits = λ t. good.1 t ∷ ih.0.of_orbits t;
            },
            omega arith,
          )
        where
          each_of : (j : Inner) → Mem j (i ∷ l.calls) → Good j
          each_of j (Memᴰ.head q) = subst Good (sym q) good.0
          each_of j (Memᴰ.tail m) = ih.0.each j m

-- ---- what a call has before its search

-- the orbits that are kept are some of the call's
pub record TakesSome (way : Way) : Type 0 where
  pub among : (orbits : List Orbit) (o : Orbit) → Mem o (way.keeps orbits) → Mem o orbits
  pub no_more : (orbits : List Orbit) → length (way.keeps orbits) ≤ length orbits

pub plain_takes : TakesSome plain_way
unfolding plain_way
plain_takes = record { among = λ orbits o m. m; no_more = λ orbits. omega arith }

pub noble_takes : (pack : Package) → TakesSome (noble_way pack)
unfolding noble_way kept_by
noble_takes pack = record { among = λ orbits o m. (kept _ o orbits m).0; no_more = λ orbits. keep_few _ orbits }

pub record Preparation (more : ℕ) (rules : Rules) (call : Call) (plane : Subspace) (points : List Vec)
    (rows : List Row) (p : Prepared) : Type 0 where
  pub more_is : p.more ≡ more
  pub points_are : p.points ≡ length points
  pub rows_are : p.rows ≡ rows
  pub orbits : List Orbit
  pub inner : AllInner (suc more) rules call (map (flatten plane) points) rows orbits p.inner
  pub among : (o : Orbit) → Mem o orbits → Mem o (orbits_of more rules plane points rows)
  pub no_more : length orbits ≤ length (orbits_of more rules plane points rows)
  pub few_orbits_holds : length p.inner ≤ rules.bounds.orbits
  pub few_facets_holds : facet_sum p.inner ≤ rules.bounds.facets

pub preparation_with : (way : Way) → TakesSome way → (more : ℕ) (rules : Rules) (call : Call) (plane : Subspace)
    (points : List Vec) (rows : List Row) (budget : ℕ) (p : Prepared)
    → prepare_with way more rules call plane points rows budget ≡ answered p
    → Preparation more rules call plane points rows p
unfolding prepare_from prepare_with
preparation_with way takes more rules call plane points rows budget p e =
    let flat = map (flatten plane) points in
    let all = orbits_of more rules plane points rows in
    let orbits = way.keeps all in
    let calls = inner_calls (inner_call (suc more) rules call flat rows) rules.bounds.facets orbits 0 budget in
    let next : InnerCalls → Outcome Prepared = λ done. answered (record {
      more = more;
      points = length points;
      rows = rows;
      inner = done.calls;
      left = done.left;
      extended = way.extended;
    }) in
    let a = not_refused_if (ltb rules.bounds.orbits (length all)) 13 (λ u. and_then calls next) p e in
    let b = answered_before calls next p a.1 in
    let made : Prepared = record {
      more = more;
      points = length points;
      rows = rows;
      inner = b.0.calls;
      left = b.0.left;
      extended = way.extended;
    } in
    let r = all_inner (suc more) rules call flat rows rules.bounds.facets orbits 0 budget b.0 (omega arith) b.1 in
    let k : length all ≤ rules.bounds.orbits = nltb→le rules.bounds.orbits (length all) (false→fails a.0) in
    let fewer : length orbits ≤ length all = takes.no_more all in
    let m : length b.0.calls ≡ length orbits = sym (length-map b.0.calls (λ (i : Inner). i.orbit))
    ∙ ap length r.0.of_orbits in
    let s = r.1 in
    let whole : Preparation more rules call plane points rows made = record {
      more_is = refl;
      points_are = refl;
      rows_are = refl;
      orbits = orbits;
      inner = r.0;
      among = takes.among all;
      no_more = fewer;
      few_orbits_holds = omega arith;
      few_facets_holds = omega arith;
    } in
    subst (Preparation more rules call plane points rows) (answers_equal made p b.2) whole

pub preparation : (more : ℕ) (rules : Rules) (call : Call) (plane : Subspace) (points : List Vec) (rows : List Row)
    (budget : ℕ) (p : Prepared)
    → prepare more rules call plane points rows budget ≡ answered p → Preparation more rules call plane points rows p
unfolding prepare
preparation = preparation_with plain_way plain_takes

module _ {more : ℕ} {rules : Rules} {call : Call} {plane : Subspace} {points : List Vec} {rows : List Row}
    {p : Prepared} (made : Preparation more rules call plane points rows p) where
  -- an inner call is on an orbit of the call
  pub made_orbit : (i : Inner) → Mem i p.inner → Mem i.orbit (orbits_of more rules plane points rows)
  made_orbit i m =
      made.among i.orbit
      (subst (λ (os : List Orbit). Mem i.orbit os) made.inner.of_orbits (in_map (λ (j : Inner). j.orbit) i p.inner m))

  -- and there are no more of them
  pub made_few : length p.inner ≤ length (orbits_of more rules plane points rows)
  made_few =
      let e : length p.inner ≡ length made.orbits = sym (length-map p.inner (λ (i : Inner). i.orbit))
      ∙ ap length made.inner.of_orbits in
      omega (arith, made.no_more)

-- ---- the whole call

pub record AnsweredCall (more : ℕ) (rules : Rules) (plane : Subspace) (points : List Vec) (rows : List Row)
    (a : Answer) : Type 0 where
  pub before : Prepared
  pub prepared : Preparation more rules (faceting more rules) plane points rows before
  pub found : Found
  pub is_found_holds : search_from rules before ≡ answered found
  pub is : a ≡ finish before found

pub answered_with : (way : Way) → TakesSome way
    → (more : ℕ) (rules : Rules) (plane : Subspace) (points : List Vec) (rows : List Row) (budget : ℕ) (a : Answer)
    → faceting_with way (suc more) rules plane points rows budget ≡ answered a
    → AnsweredCall more rules plane points rows a
unfolding answer_from faceting_with
answered_with way takes more rules plane points rows budget a e =
    let first = prepare_with way more rules (faceting more rules) plane points rows budget in
    let p = answered_before first
    (λ (x : Prepared). and_then (search_from rules x) (λ (f : Found). answered (finish x f))) a e in
    let f = answered_before (search_from rules p.0) (λ (x : Found). answered (finish p.0 x)) a p.2 in
    record {
      before = p.0;
      prepared = preparation_with way takes more rules (faceting more rules) plane points rows budget p.0 p.1;
      found = f.0;
      is_found_holds = f.1;
      is = sym (answers_equal (finish p.0 f.0) a f.2);
    }

pub answered_call : (more : ℕ) (rules : Rules) (plane : Subspace) (points : List Vec) (rows : List Row) (budget : ℕ)
    (a : Answer)
    → faceting (suc more) rules plane points rows budget ≡ answered a → AnsweredCall more rules plane points rows a
unfolding faceting faceting_with prepare
answered_call = answered_with plain_way plain_takes

-- ---- what the search found

-- no more lists than the bound on entries
module _ (t : Table) (limits : EntryLimits) where
  emit_few : (v : Verdict) (list : List Facet) (left : ℕ) (emitted : List (List Facet)) (found : Found)
      (next : List (List Facet) → Outcome Found) → length emitted ≤ limits.bound
      → ((lists : List (List Facet)) → length lists ≤ limits.bound → next lists ≡ answered found
      → length found.lists ≤ limits.bound)
      → emit_if v limits list left emitted next ≡ answered found → length found.lists ≤ limits.bound
  unfolding emit_if emit
  emit_few over list left emitted found next h ih e = ih emitted h e
  emit_few (open_at ridge) list left emitted found next h ih e = ih emitted h e
  emit_few closed list left emitted found next h ih e =
      let lists = emitted ++ (list ∷ []) in
      let stop : Found = record { lists = lists; left = left } in
      let rest : Outcome Found =
      elim (limit_reached limits.limit (length lists)) [ true ↦ answered stop | false ↦ next lists ] in
      let a = not_refused_if (leb limits.bound (length emitted)) 15 (λ u. rest) found e in
      let k = nleb→lt limits.bound (length emitted) (false→fails a.0) in
      let m = length-append emitted (list ∷ []) in
      let n : length (list ∷ []) ≡ 1 = refl in
      let one_more : length lists ≤ limits.bound = omega arith in
      go (limit_reached limits.limit (length lists)) one_more a.1
    where
      go : (b : Bool) → length (emitted ++ (list ∷ [])) ≤ limits.bound
          → elim b [
            | true ↦ answered (record { lists = emitted ++ (list ∷ []); left = left })
            | false ↦
                next (emitted ++ (list ∷ []))
          ] ≡ answered found → length found.lists ≤ limits.bound
      go true k q =
          subst (λ (f : Found). length f.lists ≤ limits.bound)
          (answers_equal (record { lists = emitted ++ (list ∷ []); left = left }) found q) k
      go false k q = ih (emitted ++ (list ∷ [])) k q

  examine_few : (left : ℕ) (pending : List Item) (emitted : List (List Facet)) (found : Found)
      → length emitted ≤ limits.bound
      → examine t limits left pending emitted ≡ answered found → length found.lists ≤ limits.bound
  unfolding examine
  examine_few zero [] emitted found h e =
      subst (λ (f : Found). length f.lists ≤ limits.bound) (answers_equal (record {
        lists = emitted;
        left = 0;
      }) found e) h
  examine_few zero (item ∷ pending) emitted found h e = absurd (never found e)
    where
      never : (f : Found) → refused 16 ≡ answered f → ⊥
      never f q = subst (λ (o : Outcome Found). T (is_refused o)) q tt
        where
          is_refused : Outcome Found → Bool
          is_refused (refused number) = true
          is_refused (answered x) = false
  examine_few (suc left) [] emitted found h e =
      subst (λ (f : Found). length f.lists ≤ limits.bound) (answers_equal (record {
        lists = emitted;
        left = suc left;
      }) found e) h
  examine_few (suc left) (item ∷ pending) emitted found h e =
      emit_few (judge (totals t item.list)) item.list left emitted found
      (examine t limits left (reverse_aux (put_in limits.extended t item (judge (totals t item.list))) pending)) h
      (λ lists k q. examine_few left
      (reverse_aux (put_in limits.extended t item (judge (totals t item.list))) pending) lists found k q) e

  pub search_few : (budget : ℕ) (found : Found) → search t limits budget ≡ answered found
      → length found.lists ≤ limits.bound
  unfolding search
  search_few budget found e = examine_few budget (reverse_aux (starts t) []) [] found (omega arith) e
