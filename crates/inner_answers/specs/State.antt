-- How far a call's loop over its orbits has come: the inner calls made, what is kept of them, and what is left to do.
-- Each turn of the loop is one law. For calls of rank 3 and 4. Leans on the steps of a call, on the layout and on
-- Amounts.
use Rattle.std.specs.Prelude.{◌≡◌, refl, List, [], ◌∷◌, ◌++◌, map, ℕ, zero, suc, ◌+◌, ◌≤◌, ◌<◌, length, get_or, take}
use Rattle.std.specs.Prelude.{drop}
use Rattle.std.proofs.Common.{sym, ap, ◌∙◌, subst, add-one, arith, ⊎_elim, length-append, drop-cons}
use Rattle.std.proofs.lemmas.List.{map-append}
use Rattle.std.proofs.Math.ListN.{get_or-append}
use Rattle.std.proofs.Math.Seq.{get_or-append_seam}
use Rattle.laws.specs.Segments.{le_or_lt}
use Rattle.definitions.specs.Outcome.{Outcome, answered}
use Rattle.definitions.specs.Vectors.{Vec}
use Rattle.definitions.specs.Subspace.{Subspace}
use Rattle.definitions.specs.Orbits.{Row, Orbit}
use Rattle.definitions.specs.Recursion.{Rules, Inner}
use Rattle.definitions.specs.Faceting.{Way}
use Rattle.laws.specs.Lists.{map_at_holds}
use Rattle.orbits.specs.Numbers.{orbit_of}
use Rattle.orbits.specs.Workspace.{orbits_in, orbits_length, orbits_front}
use Rattle.shapes.specs.Answered.{facet_number, facet_sum}
use Rattle.shapes.specs.Kept.{Kept, kept_of}
use Rattle.layout.specs.Keeps.{Keeps, Ridges}
use Rattle.layout.specs.declared.KeptLayout.{KeptLayout}
use Rattle.calls.specs.Steps.{kept_orbits, inner_of, Reached, reached_first, reached_next}
use Rattle.keep.specs.Adding.{orbit_at}
use Rattle.inner_answers.specs.Amounts.{Amounts, OrbitAmounts, most_at, amounts_none, amounts_more}

-- the orbit at a place of the orbits' area
pub orbit_at_holds : (s : List ℕ) (k o : ℕ) → o < k → get_or (orbits_in s k) o (0, 0) ≡ orbit_at s o
unfolding orbits_in orbit_at
orbit_at_holds s zero o h = absurd (omega arith)
orbit_at_holds s (suc k) o h = ⊎_elim
    (λ l.
    let n = orbits_length s k in
    let e : o ≡ k = omega arith in
    let f : o ≡ length (orbits_in s k) = omega arith in
    ap (λ (j : ℕ). get_or (orbits_in s k ++ (orbit_at s k ∷ [])) j (0, 0)) f
    ∙ (get_or-append_seam (orbits_in s k) (orbit_at s k) [] (0, 0) ∙ ap (orbit_at s) (sym e)))
    (λ l. let n = orbits_length s k in
    get_or-append (orbits_in s k) (orbit_at s k ∷ []) (0, 0) o (omega arith) ∙ orbit_at_holds s k o l)
    (le_or_lt k o)

module _ (way : Way) (more : ℕ) (rules : Rules) (plane : Subspace) (points : List Vec) (rows : List Row)
    (budget n : ℕ) where
  abbrev pub inner : Orbit → ℕ → Outcome Inner
  inner = inner_of way more rules plane points rows budget

  pub record State (layout : KeptLayout) (left i : ℕ) (s : List ℕ) : Type 0 where
    pub done : List Inner
    pub many : length done ≡ i
    pub few : i ≤ length (kept_orbits way more rules plane points rows budget)
    pub reached : Reached inner rules.bounds.facets (kept_orbits way more rules plane points rows budget) budget done
        (drop i (kept_orbits way more rules plane points rows budget)) left
    pub keeps : Keeps n layout (map kept_of done) s
    pub ridges : Ridges layout (map kept_of done) s
    pub found : map (orbit_of n) (orbits_in s (length (kept_orbits way more rules plane points rows budget)))
        ≡ kept_orbits way more rules plane points rows budget
    pub amounts : Amounts (most_at more) (map kept_of done)

  -- before the first inner call
  pub state_first : (layout : KeptLayout) (s : List ℕ) → Keeps n layout [] s → Ridges layout [] s
      → map (orbit_of n) (orbits_in s (length (kept_orbits way more rules plane points rows budget)))
      ≡ kept_orbits way more rules plane points rows budget → State layout budget 0 s
  state_first layout s keeps ridges found = record {
    done = [];
    many = refl;
    few = omega arith;
    reached = reached_first inner rules.bounds.facets (kept_orbits way more rules plane points rows budget) budget;
    keeps = keeps;
    ridges = ridges;
    found = found;
    amounts = amounts_none (most_at more);
  }

  module _ (layout : KeptLayout) (left i : ℕ) (s : List ℕ) (state : State layout left i s) (h : i
      < length (kept_orbits way more rules plane points rows budget)) where
    -- the next orbit, as the definition has it and as it stands in the workspace
    abbrev pub next : Orbit
    next = orbit_of n (orbit_at s i)

    pub next_is : get_or (kept_orbits way more rules plane points rows budget) i next ≡ next
    next_is =
        ap (λ (os : List Orbit). get_or os i next) (sym state.found)
        ∙ (map_at_holds (orbit_of n) (orbits_in s (length (kept_orbits way more rules plane points rows budget))) i
        next (0, 0) (omega (arith, orbits_length s (length (kept_orbits way more rules plane points rows budget))))
        ∙ ap (orbit_of n) (orbit_at_holds s (length (kept_orbits way more rules plane points rows budget)) i h))

    pub coming : Reached inner rules.bounds.facets (kept_orbits way more rules plane points rows budget) budget
        state.done (next ∷ drop (i + 1) (kept_orbits way more rules plane points rows budget)) left
    coming =
        subst (λ (os : List Orbit). Reached inner rules.bounds.facets
        (kept_orbits way more rules plane points rows budget) budget state.done os left)
        (drop-cons (kept_orbits way more rules plane points rows budget) i next h
        ∙ ((λ t. next_is t ∷ drop (suc i) (kept_orbits way more rules plane points rows budget)) ∙ ap (λ (k : ℕ).
        next ∷ drop k (kept_orbits way more rules plane points rows budget)) (sym (add-one i)))) state.reached

    -- one inner call more is made and kept
    pub state_next : (made : Inner) → inner next left ≡ answered made
        → facet_sum state.done + facet_number made ≤ rules.bounds.facets → (r : KeptLayout) (t : List ℕ)
        → Keeps n r (map kept_of state.done ++ (kept_of made ∷ [])) t
        → Ridges r (map kept_of state.done ++ (kept_of made ∷ [])) t → take 2048 t ≡ take 2048 s
        → length (kept_orbits way more rules plane points rows budget) ≤ 256
        → OrbitAmounts (most_at more) (kept_of made) → State r made.answer.left (i + 1) t
    state_next made is room r t keeps ridges front small amounts =
        let kept : map kept_of (state.done ++ (made ∷ []))
        ≡ map kept_of state.done ++ (kept_of made ∷ []) = map-append kept_of state.done (made ∷ []) in
        record {
          done = state.done ++ (made ∷ []);
          many = length-append state.done (made ∷ []) ∙ (omega (arith, state.many));
          few = omega arith;
          reached = reached_next inner rules.bounds.facets coming made is room;
          keeps = subst (λ (k : List Kept). Keeps n r k t) (sym kept) keeps;
          ridges = subst (λ (k : List Kept). Ridges r k t) (sym kept) ridges;
          found =
              ap (map (orbit_of n))
              (sym (orbits_front t 2048 (length (kept_orbits way more rules plane points rows budget)) (omega arith))
              ∙ (ap (λ (l : List ℕ).
              orbits_in l (length (kept_orbits way more rules plane points rows budget))) front
              ∙ orbits_front s 2048 (length (kept_orbits way more rules plane points rows budget)) (omega arith)))
              ∙ state.found;
          amounts =
              subst (Amounts (most_at more)) (sym kept)
              (amounts_more (most_at more) (map kept_of state.done) (kept_of made) state.amounts amounts);
        }
