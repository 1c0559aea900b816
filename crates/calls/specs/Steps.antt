-- The steps of a call, as code takes them: the orbits, then the inner calls one by one, then the search. Each law
-- says what one more step, or a refusal met on the way, says of the definition's whole call. For every rank from 3
-- and any rules. Leans on the definitions alone.
use Rattle.std.specs.Prelude.{◌≡◌, Bool, true, false, not, ℕ, suc, ◌+◌, ◌≤◌, ◌<◌, ltb, eqb, length}
use Rattle.std.proofs.Math.Path.{refl, ap}
use Rattle.std.proofs.Common.{sym, ◌∙◌, subst, lt→ltb, ltb→lt}
use mathlib.Core.List.{List, [], ◌∷◌, ◌++◌, map, append-nil, append_assoc}
use native.Mathlib.Omega.{arith}
use Rattle.std.proofs.Math.Dec.{T}
use Rattle.definitions.specs.Outcome.{Outcome, refused, answered, and_then, refuse_if}
use Rattle.definitions.specs.Vectors.{Vec}
use Rattle.definitions.specs.Subspace.{Subspace, flatten, from_points}
use Rattle.definitions.specs.Orbits.{Row, Orbit, point_at}
use Rattle.definitions.specs.Search.{Found}
use Rattle.definitions.specs.Recursion.{Rules, Answer, Call, Inner, InnerCalls, inner_call, inner_calls, before_these}
use Rattle.definitions.specs.Recursion.{rows_within, call_on_set}
use Rattle.definitions.specs.Faceting.{Way, Prepared, orbits_of, prepare_with, search_from, finish, faceting}
use Rattle.definitions.specs.Faceting.{faceting_with, prepare_from, answer_from}
use Rattle.shapes.specs.Answered.{facet_number, facet_sum}

-- ---- tests

-- a refusal where the test holds, and none where it does not
refused_where : {A : Type 0} (b : Bool) (number : ℕ) (next : Unit {0} → Outcome A) → T b
    → refuse_if b number next ≡ refused number
unfolding refuse_if
refused_where true number next t = refl
refused_where false number next t = absurd t

passed_where : {A : Type 0} (b : Bool) (number : ℕ) (next : Unit {0} → Outcome A) → T (not b)
    → refuse_if b number next ≡ next tt
unfolding refuse_if
passed_where true number next t = absurd t
passed_where false number next t = refl

not_above : (a b : ℕ) → b ≤ a → T (not (ltb a b))
not_above a b h = go (ltb a b) refl
  where
    go : (c : Bool) → ltb a b ≡ c → T (not c)
    go true e = let k = ltb→lt a b (subst T (sym e) tt) in absurd (omega arith)
    go false e = tt

-- ---- one orbit

module _ (wanted : ℕ) (rules : Rules) (call : Call) (flat : List Vec) (rows : List Row) (orbit : Orbit)
    (budget : ℕ) where
  abbrev points : List Vec
  points = map (point_at flat) orbit.vertices

  abbrev plane : Subspace
  plane = from_points rules.tolerance points

  abbrev called : Outcome Answer
  called = call plane points (rows_within orbit.vertices rows) budget

  -- refusal 14
  pub inner_refit : (eqb (length plane.basis) wanted ≡ false)
      → inner_call wanted rules call flat rows orbit budget ≡ refused 14
  unfolding call_on_set inner_call
  inner_refit e =
      refused_where (not (eqb (length plane.basis) wanted)) 14 _ (subst (λ (b : Bool). T (not b)) (sym e) tt)

  fitted : eqb (length plane.basis) wanted ≡ true → inner_call wanted rules call flat rows orbit budget
      ≡ and_then called (λ (a : Answer). answered (record { orbit = orbit; answer = a }))
  unfolding call_on_set inner_call
  fitted e =
      passed_where (not (eqb (length plane.basis) wanted)) 14 _ (subst (λ (b : Bool). T (not (not b))) (sym e) tt)

  -- a refusal of the call is one of the orbit
  pub inner_refused : eqb (length plane.basis) wanted ≡ true → (number : ℕ) → called ≡ refused number
      → inner_call wanted rules call flat rows orbit budget ≡ refused number
  unfolding and_then
  inner_refused e number q =
      fitted e
      ∙ ap (λ (o : Outcome Answer). and_then o (λ (a : Answer). answered (record { orbit = orbit; answer = a }))) q

  pub inner_answered : eqb (length plane.basis) wanted ≡ true → (a : Answer) → called ≡ answered a
      → inner_call wanted rules call flat rows orbit budget ≡ answered (record { orbit = orbit; answer = a })
  unfolding and_then
  inner_answered e a q =
      fitted e
      ∙ ap (λ (o : Outcome Answer). and_then o (λ (x : Answer). answered (record { orbit = orbit; answer = x }))) q

-- ---- orbit by orbit

-- the calls made so far in front of the later ones
unfoldable pub behind : List Inner → InnerCalls → InnerCalls
behind done later = record { calls = done ++ later.calls; left = later.left }

module _ (inner : Orbit → ℕ → Outcome Inner) (bound : ℕ) where
  abbrev rest : List Orbit → List Inner → ℕ → Outcome InnerCalls
  rest orbits done left = inner_calls inner bound orbits (facet_sum done) left

  -- how far the inner calls have come: those made, the orbits still to come, and what is left of the budget. The
  -- whole is what the rest gives, behind those made.
  pub record Reached (orbits : List Orbit) (budget : ℕ) (done : List Inner) (coming : List Orbit)
      (left : ℕ) : Type 0 where
    pub whole : inner_calls inner bound orbits 0 budget
        ≡ and_then (rest coming done left) (λ (later : InnerCalls). answered (behind done later))

  behind_none : (o : Outcome InnerCalls) → o ≡ and_then o (λ (later : InnerCalls). answered (behind [] later))
  unfolding and_then behind
  behind_none (refused number) = refl
  behind_none (answered later) = refl

  pub reached_first : (orbits : List Orbit) (budget : ℕ) → Reached orbits budget [] orbits budget
  unfolding facet_sum
  reached_first orbits budget = record { whole = behind_none (inner_calls inner bound orbits 0 budget) }

  sum_more : (done : List Inner) (i : Inner) → facet_sum (done ++ (i ∷ [])) ≡ facet_sum done + facet_number i
  unfolding facet_sum
  sum_more [] i = omega arith
  sum_more (d ∷ done) i = let e = sum_more done i in omega arith

  module _ {orbits : List Orbit} {budget : ℕ} {done : List Inner} {orbit : Orbit} {coming : List Orbit} {left : ℕ}
      (r : Reached orbits budget done (orbit ∷ coming) left) where
    -- what follows the orbit's call
    abbrev next : Inner → Outcome InnerCalls
    next i =
        let stored = facet_sum done + facet_number i in
        refuse_if (ltb bound stored) 15 (λ u. and_then (inner_calls inner bound coming stored i.answer.left)
        (λ (later : InnerCalls). answered (before_these i later)))

    -- the first orbit to come is refused
    pub reached_refused : (number : ℕ) → inner orbit left ≡ refused number
        → inner_calls inner bound orbits 0 budget ≡ refused number
    unfolding inner_calls and_then
    reached_refused number e =
        r.whole ∙ ap (λ (o : Outcome Inner).
        and_then (and_then o next) (λ (later : InnerCalls). answered (behind done later))) e

    -- its facets are too many
    pub reached_full : (i : Inner) → inner orbit left ≡ answered i → bound < facet_sum done + facet_number i
        → inner_calls inner bound orbits 0 budget ≡ refused 15
    unfolding inner_calls and_then
    reached_full i e h =
        r.whole
        ∙ (ap (λ (o : Outcome Inner).
        and_then (and_then o next) (λ (later : InnerCalls). answered (behind done later))) e
        ∙ ap (λ (o : Outcome InnerCalls). and_then o (λ (later : InnerCalls). answered (behind done later)))
        (refused_where (ltb bound (facet_sum done + facet_number i)) 15 _
        (lt→ltb bound (facet_sum done + facet_number i) h)))

    one_more : (i : Inner) (o : Outcome InnerCalls)
        → and_then (and_then o (λ (later : InnerCalls). answered (before_these i later)))
        (λ (later : InnerCalls). answered (behind done later))
        ≡ and_then o (λ (later : InnerCalls). answered (behind (done ++ (i ∷ [])) later))
    unfolding and_then behind before_these
    one_more i (refused number) = refl
    one_more i (answered later) =
        ap (λ (l : List Inner). answered (record {
          calls = l;
          left = later.left;
        })) (sym (append_assoc done (i ∷ []) later.calls))

    -- its call is made
    pub reached_next : (i : Inner) → inner orbit left ≡ answered i → facet_sum done + facet_number i ≤ bound
        → Reached orbits budget (done ++ (i ∷ [])) coming i.answer.left
    unfolding inner_calls and_then
    reached_next i e h = record {
      whole =
          r.whole
          ∙ (ap (λ (o : Outcome Inner).
          and_then (and_then o next) (λ (later : InnerCalls). answered (behind done later))) e
          ∙ (ap (λ (o : Outcome InnerCalls). and_then o (λ (later : InnerCalls). answered (behind done later)))
          (passed_where (ltb bound (facet_sum done + facet_number i)) 15 _
          (not_above bound (facet_sum done + facet_number i) h))
          ∙ (one_more i (inner_calls inner bound coming (facet_sum done + facet_number i) i.answer.left)
          ∙ ap (λ (k : ℕ). and_then (inner_calls inner bound coming k i.answer.left)
          (λ (later : InnerCalls). answered (behind (done ++ (i ∷ [])) later))) (sym (sum_more done i)))));
    }

  -- no orbit is left
  pub reached_all : {orbits : List Orbit} {budget : ℕ} {done : List Inner} {left : ℕ}
      → Reached orbits budget done [] left
      → inner_calls inner bound orbits 0 budget ≡ answered (record { calls = done; left = left })
  unfolding inner_calls and_then behind
  reached_all {orbits} {budget} {done} {left} r =
      r.whole ∙ ap (λ (l : List Inner). answered (record { calls = l; left = left })) (append-nil done)

-- ---- the whole call, in any way

module _ (way : Way) (more : ℕ) (rules : Rules) (plane : Subspace) (points : List Vec) (rows : List Row)
    (budget : ℕ) where
  abbrev flat : List Vec
  flat = map (flatten plane) points

  abbrev all : List Orbit
  all = orbits_of more rules plane points rows

  -- the orbits that are kept
  abbrev pub kept_orbits : List Orbit
  kept_orbits = way.keeps all

  -- one orbit's inner call
  abbrev pub inner_of : Orbit → ℕ → Outcome Inner
  inner_of = inner_call (suc more) rules (faceting more rules) flat rows

  abbrev whole : Outcome InnerCalls
  whole = inner_calls inner_of rules.bounds.facets kept_orbits 0 budget

  abbrev prepared_by : InnerCalls → Prepared
  prepared_by done = record {
    more = more;
    points = length points;
    rows = rows;
    inner = done.calls;
    left = done.left;
    extended = way.extended;
  }

  -- refusal 13, of all orbits
  pub call_thirteen : rules.bounds.orbits < length all
      → faceting_with way (suc more) rules plane points rows budget ≡ refused 13
  unfolding answer_from faceting_with prepare_from prepare_with and_then
  call_thirteen h =
      ap (answer_from rules)
      (refused_where (ltb rules.bounds.orbits (length all)) 13 (λ u. and_then whole (λ (done : InnerCalls).
      answered (prepared_by done))) (lt→ltb rules.bounds.orbits (length all) h))

  module _ (few : length all ≤ rules.bounds.orbits) where
    to_inner : prepare_with way more rules (faceting more rules) plane points rows budget
        ≡ and_then whole (λ (done : InnerCalls). answered (prepared_by done))
    unfolding prepare_from prepare_with
    to_inner =
        passed_where (ltb rules.bounds.orbits (length all)) 13
        (λ u. and_then whole (λ (done : InnerCalls). answered (prepared_by done)))
        (not_above rules.bounds.orbits (length all) few)

    -- an inner call is refused
    pub call_inner_refused : (number : ℕ) → whole ≡ refused number
        → faceting_with way (suc more) rules plane points rows budget ≡ refused number
    unfolding answer_from faceting_with and_then
    call_inner_refused number e =
        ap (answer_from rules)
        (to_inner ∙ ap (λ (o : Outcome InnerCalls). and_then o (λ (done : InnerCalls). answered (prepared_by done))) e)

    -- all are made
    pub call_prepared : (done : InnerCalls) → whole ≡ answered done
        → prepare_with way more rules (faceting more rules) plane points rows budget ≡ answered (prepared_by done)
    unfolding and_then
    call_prepared done e =
        to_inner ∙ ap (λ (o : Outcome InnerCalls). and_then o (λ (d : InnerCalls). answered (prepared_by d))) e

  -- what the search says is what the call says
  pub call_searched : (p : Prepared)
      → prepare_with way more rules (faceting more rules) plane points rows budget ≡ answered p
      → faceting_with way (suc more) rules plane points rows budget
      ≡ and_then (search_from rules p) (λ (found : Found). answered (finish p found))
  unfolding answer_from faceting_with and_then
  call_searched p e = ap (answer_from rules) e
