-- Theorems on the definitions of specs/AnswerSizes.
use Rattle.std.specs.Prelude.{◌≡◌, ℕ, zero, suc, length}
use Rattle.std.proofs.Common.{sym, ap, ◌∙◌, subst}
use mathlib.Core.List.{List, [], ◌∷◌}
use Rattle.std.proofs.lemmas.List.{length-map}
use Rattle.definitions.specs.Lists.{count_from}
use Rattle.definitions.specs.Outcome.{answered}
use Rattle.definitions.specs.Vectors.{Vec}
use Rattle.definitions.specs.Subspace.{Subspace}
use Rattle.definitions.specs.Orbits.{Row}
use Rattle.definitions.specs.Figures.{Figure}
use Rattle.definitions.specs.Recursion.{Rules, Answer, Inner, vertex_ridge}
use Rattle.definitions.specs.Faceting.{Prepared, possible_facets, finish, faceting}
use Rattle.laws.specs.Lists.{Mem, of_map, count_length}
use Rattle.shapes.specs.Answered.{Preparation, answered_call, made_orbit}
use Rattle.shapes.specs.LowRanks.{rank_two}
use Rattle.shapes.specs.Calls.{Given}
use Rattle.shapes.specs.Sizes.{Counted}
use Rattle.shapes.proofs.CallOrbits.{call_orbit_counted}
use Rattle.shapes.specs.AnswerSizes.{AnswerCounted, two_counted, two_counts}

-- ---- orbits

module _ (more : ℕ) (rules : Rules) (plane : Subspace) (points : List Vec) (rows : List Row) (p : Prepared)
    (made : Preparation more rules (faceting more rules) plane points rows p) where
  -- every orbit of a call has a set, and no more than rows
  pub call_counted : Given points rows → (i : Inner) → Mem i p.inner → Counted rows i.orbit.count
  call_counted given i m =
      call_orbit_counted more rules plane points rows given.rows_good i.orbit (made_orbit made i m)

-- ---- every rank

pub answer_counted : (more : ℕ) (rules : Rules) (plane : Subspace) (points : List Vec) (rows : List Row) (budget : ℕ)
    (a : Answer) → Given points rows
    → faceting more rules plane points rows budget ≡ answered a → AnswerCounted rows a
unfolding finish
answer_counted zero rules plane points rows budget a given e =
    let r = rank_two rules plane points rows budget a e in
    record {
      possible_many =
          ap length r.possible ∙ length-map {B = List Figure} (count_from 0 r.ends) (λ (v : ℕ). vertex_ridge v ∷ [])
          ∙ count_length 0 r.ends ∙ sym (two_counts budget a r);
      counted = two_counted rules plane points rows budget a given e;
    }
answer_counted (suc more) rules plane points rows budget a given e =
    let c = answered_call more rules plane points rows budget a e in
    let inner = c.before.inner in
    let counts : length a.counts ≡ length inner = ap (λ (x : Answer). length x.counts) c.is
    ∙ length-map inner (λ (i : Inner). i.orbit.count) in
    record {
      possible_many = ap (λ (x : Answer). length x.possible) c.is ∙ length-map inner possible_facets ∙ sym counts;
      counted = λ n m.
          let r = of_map (λ (i : Inner). i.orbit.count) n inner (subst (λ (x : Answer). Mem n x.counts) c.is m) in
          subst (Counted rows) (sym r.2) (call_counted more rules plane points rows c.before c.prepared given r.0 r.1);
    }
