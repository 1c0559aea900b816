-- The turns of the search: what follows an examined list, and that each turn of the loop is one step of the
-- definition, or none. Leans on Frames, Steps and Emission.
use Rattle.std.specs.Prelude.{◌≡◌, true, false, List, [], ◌∷◌, ◌++◌, length, take, Result, Ok, Err}
use Rattle.std.proofs.Math.Path.{refl, sym, ap}
use Rattle.std.proofs.Common.{◌∙◌, add-one}
use Rattle.std.specs.Prelude.{Option, Some, None}
use Prim.Native.Nat.{ℕ, zero, suc, ◌+◌, ◌-◌, ◌*◌, ◌≤◌, ◌<◌}
use native.Mathlib.Omega.{arith}
use Rattle.definitions.specs.Outcome.{refused, answered}
use Rattle.definitions.specs.Search as def
use Rattle.definitions.specs.Search.{Table, Facet, Item, judge, over, open_at, closed, examine, search, limit_reached}
use Rattle.laws.specs.Segments.{part_length}
use Rattle.pool.specs.Pool.{count}
use Rattle.facets.specs.declared.Areas.{Areas}
use Rattle.search.specs.declared.Course.{Course}
use Rattle.refusals.specs.declared.Refusal.{Refusal}
use Rattle.refusals.specs.Refused.{number_of}
use Rattle.facets.specs.declared.Verdict.{Verdict}
use Rattle.facets.specs.Frames.{Frame, waiting, pending, moved, child, pending_none, pending_latest, examine_none}
use Rattle.facets.specs.Frames.{examine_spent, examine_over, examine_fifteen, examine_stop, examine_kept}
use Rattle.facets.proofs.Frames.{search_starts, examine_open, examine_closed}
use Rattle.facets.specs.Sums.{judge_sums}
use Rattle.facets.specs.Judged.{NotOver, judge_light, judge_inside}
use Rattle.facets.specs.Layout.{verdict, Inputs, AreasFit, holds_kept, totals_part, frames_part, lists_part}
use Rattle.frames.specs.Paths.{list_to, frame_at, frames_to, item_at, PathHeld, Emitted, emitted_in}
use Rattle.search.specs.Outcomes.{entry_limits_of}
use Rattle.frames.specs.Steps.{Light, NextAt, CandidateDue, Visited, Withdrawn, Entered, path_short, candidate_of}
use Rattle.emission.specs.Emission.{Started, emitted_count}

-- the list that is examined, and the lists that are due behind it
unfoldable pub due : Table → List ℕ → ℕ → List Item
due t p d = item_at t p d ∷ pending t (frames_to t p d)

-- a list of d facets with its verdict
pub record Judged (t : Table) (a : Areas) (s : List ℕ) (d : ℕ) (v : def.Verdict) : Type 0 where
  pub stands : PathHeld t a s d d
  pub deep : 0 < d
  pub emitted : Emitted a (lists_part a s)
  pub is : v ≡ judge (totals_part a s)

-- the search goes on with d' frames and one list less to examine
pub record Goes (t : Table) (a : Areas) (course : Course) (s s' : List ℕ) (d d' : ℕ) : Type 0 where
  pub stands : PathHeld t a s' d' (d' - 1)
  pub emitted : Emitted a (lists_part a s')
  pub same : (left : ℕ)
      → examine t (entry_limits_of a course) (suc left) (due t (frames_part a s) d) (emitted_in t a (lists_part a s))
      ≡ examine t (entry_limits_of a course) left (pending t (frames_to t (frames_part a s') d'))
      (emitted_in t a (lists_part a s'))
  pub tables : take a.frames s' ≡ take a.frames s

-- the limit is reached
pub record Stops (t : Table) (a : Areas) (course : Course) (s s' : List ℕ) (d : ℕ) : Type 0 where
  pub inputs : Inputs t a s'
  pub emitted : Emitted a (lists_part a s')
  pub same : (left : ℕ)
      → examine t (entry_limits_of a course) (suc left) (due t (frames_part a s) d) (emitted_in t a (lists_part a s))
      ≡ answered (record { lists = emitted_in t a (lists_part a s'); left = left })
  pub tables : take a.frames s' ≡ take a.frames s

-- an entry is past the bound: the refusal's number
pub record Fills (t : Table) (a : Areas) (course : Course) (s s' : List ℕ) (d number : ℕ) : Type 0 where
  pub same : (left : ℕ)
      → examine t (entry_limits_of a course) (suc left) (due t (frames_part a s) d) (emitted_in t a (lists_part a s))
      ≡ refused number
  pub tables : take a.frames s' ≡ take a.frames s

unfoldable pub Followed : Table → Areas → Course → List ℕ → List ℕ → ℕ → Result (Option ℕ) Refusal → Type 0
Followed t a course s s' d (Ok (Some deep)) = Goes t a course s s' d deep
Followed t a course s s' d (Ok None) = Stops t a course s s' d
Followed t a course s s' d (Err e) = Fills t a course s s' d (number_of e)

-- ---- what the verdict says

module _ (t : Table) (a : Areas) (s : List ℕ) (d : ℕ) (v : def.Verdict) (j : Judged t a s d v) where
  totals_length : length (totals_part a s) ≡ a.ridges
  totals_length = let f = j.stands.inputs.fits in part_length a.totals (a.used - a.totals) s (omega arith) ∙ omega arith

  pub judged_is : judge (def.totals t (list_to t (frames_part a s) d)) ≡ v
  judged_is =
      let e = j.stands.inputs.holds.ridges in
      judge_sums t (list_to t (frames_part a s) d) (totals_part a s) (totals_length ∙ e)
      (λ ridge r. j.stands.totals ridge (omega arith)) ∙ sym j.is

  pub judged_light : NotOver v → Light t a (list_to t (frames_part a s) d)
  judged_light w ridge r =
      let l = judge_light (totals_part a s) (rw j.is at w) ridge (omega (arith, totals_length)) in
      let e = j.stands.totals ridge r in
      omega arith

  pub judged_inside : (ridge : ℕ) → v ≡ open_at ridge → ridge < a.ridges
  judged_inside ridge e = let l = judge_inside (totals_part a s) ridge (sym e ∙ j.is) in omega (arith, totals_length)

-- ---- what follows

pub follow_over : (t : Table) (a : Areas) (course : Course) (s s' : List ℕ) (d : ℕ) → Judged t a s d over
    → Withdrawn t a s s' d → Goes t a course s s' d d
unfolding due item_at
follow_over t a course s s' d j w = record {
  stands = w.stands;
  emitted = rw w.lists j.emitted;
  same =
      λ left. rw (w.frames, w.lists) (examine_over t (entry_limits_of a course) left (item_at t (frames_part a s) d)
      (frames_to t (frames_part a s) d) (emitted_in t a (lists_part a s)) (judged_is t a s d over j));
  tables = w.tables;
}

entered_depth : (t : Table) (a : Areas) (s' : List ℕ) (d : ℕ) → PathHeld t a s' (d + 1) d
    → PathHeld t a s' (d + 1) (d + 1 - 1)
entered_depth t a s' d st = let e : d + 1 - 1 ≡ d = omega arith in rw e st

pub follow_open : (t : Table) (a : Areas) (course : Course) (s s' : List ℕ) (d ridge : ℕ)
    → Judged t a s d (open_at ridge) → Entered t a s s' d (Some ridge) → Goes t a course s s' d (d + 1)
unfolding due item_at
follow_open t a course s s' d ridge j w =
    record {
      stands = entered_depth t a s' d w.stands;
      emitted = rw w.lists j.emitted;
      same = λ left.
          examine_open t (entry_limits_of a course) left (item_at t (frames_part a s) d) ridge
          (frames_to t (frames_part a s) d) (emitted_in t a (lists_part a s))
          (judged_is t a s d (open_at ridge) j)
          ∙ sym (rw (w.frames, w.lists) refl);
      tables = w.tables;
    }

-- a closed list, with the emitted lists counted
module _ (t : Table) (a : Areas) (course : Course) (s : List ℕ) (d : ℕ) (j : Judged t a s d closed) where
  abbrev limits : def.EntryLimits
  limits = entry_limits_of a course

  abbrev emitted : List (List Facet)
  emitted = emitted_in t a (lists_part a s)

  many : length emitted ≡ count (lists_part a s)
  many = emitted_count t a (lists_part a s)

  pub follow_full : a.bound ≤ count (lists_part a s) → Fills t a course s s d 15
  unfolding due item_at entry_limits_of
  follow_full h = record {
    same =
        λ left. examine_fifteen t limits left (item_at t (frames_part a s) d)
        (pending t (frames_to t (frames_part a s) d)) emitted (judged_is t a s d closed j) (omega (arith, many));
    tables = refl;
  }

  module _ (h : count (lists_part a s) < a.bound) (s1 : List ℕ) (st : PathHeld t a s1 d d)
      (fr : frames_part a s1 ≡ frames_part a s)
      (ls : emitted_in t a (lists_part a s1) ≡ emitted ++ (list_to t (frames_part a s) d ∷ []))
      (tb : take a.frames s1 ≡ take a.frames s) (em : Emitted a (lists_part a s1)) where
    pub follow_stop : limit_reached course.limit (count (lists_part a s) + 1) ≡ true → Stops t a course s s1 d
    unfolding due item_at entry_limits_of
    follow_stop r = record {
      inputs = st.inputs;
      emitted = em;
      same = λ left.
          rw ls (examine_stop t limits left (item_at t (frames_part a s) d)
          (pending t (frames_to t (frames_part a s) d)) emitted (judged_is t a s d closed j) (omega (arith, many))
          (ap (limit_reached course.limit) (omega (arith, many)) ∙ r));
      tables = tb;
    }

    pub follow_closed : limit_reached course.limit (count (lists_part a s) + 1) ≡ false → course.extended ≡ true
        → (s' : List ℕ) → Entered t a s1 s' d None → Goes t a course s s' d (d + 1)
    unfolding due item_at entry_limits_of
    follow_closed r x s' w =
        record {
          stands = entered_depth t a s' d w.stands;
          emitted = rw w.lists em;
          same = λ left.
              examine_closed t limits left (item_at t (frames_part a s) d) (frames_to t (frames_part a s) d) emitted
              (judged_is t a s d closed j) (omega (arith, many))
              (ap (limit_reached course.limit) (omega (arith, many)) ∙ r) x
              ∙ sym (rw (w.frames, w.lists, ls, fr) refl);
          tables = w.tables ∙ tb;
        }

    -- a closed list that is not extended goes as one that is over does
    pub follow_kept : limit_reached course.limit (count (lists_part a s) + 1) ≡ false → course.extended ≡ false
        → (s' : List ℕ) → Withdrawn t a s1 s' d → Goes t a course s s' d d
    unfolding due item_at entry_limits_of
    follow_kept r x s' w = record {
      stands = w.stands;
      emitted = rw w.lists em;
      same = λ left.
          examine_kept t limits left (item_at t (frames_part a s) d) (frames_to t (frames_part a s) d) emitted
          (judged_is t a s d closed j) (omega (arith, many))
          (ap (limit_reached course.limit) (omega (arith, many)) ∙ r) x
          ∙ sym (rw (w.frames, w.lists, ls, fr) refl);
      tables = w.tables ∙ tb;
    }

-- ---- the turns

pub record Step (t : Table) (a : Areas) (course : Course) (budget : ℕ) (s : List ℕ) (d left : ℕ) : Type 0 where
  pub stands : PathHeld t a s d (d - 1)
  pub emitted : Emitted a (lists_part a s)
  pub same : examine t (entry_limits_of a course) left (pending t (frames_to t (frames_part a s) d))
      (emitted_in t a (lists_part a s)) ≡ search t (entry_limits_of a course) budget

pub step_start : (t : Table) (a : Areas) (course : Course) (budget : ℕ) (s₀ s : List ℕ) → Started t a s₀ s
    → Step t a course budget s 1 budget
step_start t a course budget s₀ s st =
    let e : 1 - 1 ≡ 0 = refl in
    record {
      stands = st.stands;
      emitted = st.emitted;
      same = rw (st.frames, st.none) (sym (search_starts t (entry_limits_of a course) budget));
    }

-- a frame goes
pub held_drop : (t : Table) (a : Areas) (s : List ℕ) (d : ℕ) → PathHeld t a s d (d - 1) → 0 < d
    → PathHeld t a s (d - 1) (d - 1)
held_drop t a s d st h = record {
  inputs = st.inputs;
  frames = record {
    kinds = λ k l. st.frames.kinds k (omega arith);
    places = λ k l. st.frames.places k (omega arith);
    taken = st.frames.taken;
    fresh = st.frames.fresh;
    light = λ k l. st.frames.light k (omega arith);
    inside = omega arith;
    near = omega arith;
  };
  totals = st.totals;
  uses = st.uses;
}

module _ (t : Table) (a : Areas) (course : Course) (budget : ℕ) (s : List ℕ) (d left : ℕ)
    (turn : Step t a course budget s d left) (h : 0 < d) where
  abbrev fr : Frame
  fr = frame_at t (frames_part a s) (d - 1)

  top : frames_to t (frames_part a s) d ≡ frame_at t (frames_part a s) (d - 1) ∷ frames_to t (frames_part a s) (d - 1)
  unfolding frames_to
  top = let e : d ≡ suc (d - 1) = omega arith in ap (frames_to t (frames_part a s)) e

  pub step_back : (s' : List ℕ) → waiting t fr.list fr.ridge fr.low fr.place ≡ [] → Withdrawn t a s s' (d - 1)
      → Step t a course budget s' (d - 1) left
  step_back s' n w =
      record {
        stands = w.stands;
        emitted = rw w.lists turn.emitted;
        same =
            rw (w.frames, w.lists)
            (ap (λ (l : List Item). examine t (entry_limits_of a course) left l (emitted_in t a (lists_part a s)))
            (sym (ap (pending t) top
            ∙ pending_none t (frame_at t (frames_part a s) (d - 1)) (frames_to t (frames_part a s) (d - 1)) n))
            ∙ turn.same);
      }

  module _ (r : ℕ) (n : NextAt t (frame_at t (frames_part a s) (d - 1)) r) where
    pub step_ready : CandidateDue t a s d r
    unfolding frame_at
    step_ready = record { stands = turn.stands; deep = h; inside = n.inside; free = n.free }

    latest_first : pending t (frames_to t (frames_part a s) d) ≡ child fr.list fr.mark fr.ridge (candidate_of t fr r)
        ∷ pending t (moved fr r ∷ frames_to t (frames_part a s) (d - 1))
    latest_first =
        ap (pending t) top
        ∙ pending_latest t fr (frames_to t (frames_part a s) (d - 1)) r (candidate_of t fr r) (n.found)

    -- the budget is used up
    pub step_spent : left ≡ 0 → refused 16 ≡ search t (entry_limits_of a course) budget
    step_spent e =
        sym (ap (λ (l : List Item).
        examine t (entry_limits_of a course) left l (emitted_in t a (lists_part a s))) latest_first
        ∙ (ap (λ (k : ℕ). examine t (entry_limits_of a course) k (child fr.list fr.mark fr.ridge (candidate_of t fr r)
        ∷ pending t (moved fr r ∷ frames_to t (frames_part a s) (d - 1))) (emitted_in t a (lists_part a s))) e
        ∙ examine_spent t (entry_limits_of a course) (child fr.list fr.mark fr.ridge (candidate_of t fr r))
        (pending t (moved fr r ∷ frames_to t (frames_part a s) (d - 1))) (emitted_in t a (lists_part a s))))
        ∙ turn.same

    module _ (s1 : List ℕ) (v : Verdict) (w : Visited t a s s1 d r v) (some_left : 0 < left) where
      pub step_judged : Judged t a s1 d (verdict v)
      step_judged = record { stands = w.stands; deep = h; emitted = rw w.lists turn.emitted; is = w.judged }

      due_is : pending t (frames_to t (frames_part a s) d) ≡ due t (frames_part a s1) d
      unfolding due frame_at
      due_is = latest_first ∙ rw (w.frames, w.item) refl

      examined : examine t (entry_limits_of a course) (suc (left - 1)) (due t (frames_part a s1) d)
          (emitted_in t a (lists_part a s1)) ≡ search t (entry_limits_of a course) budget
      examined =
          let e : suc (left - 1) ≡ left = omega arith in
          rw (w.lists, e) (ap (λ (l : List Item).
          examine t (entry_limits_of a course) left l (emitted_in t a (lists_part a s))) (sym due_is) ∙ turn.same)

      pub step_on : (s2 : List ℕ) (deep : ℕ) → Goes t a course s1 s2 d deep → Step t a course budget s2 deep (left - 1)
      step_on s2 deep g = record { stands = g.stands; emitted = g.emitted; same = sym (g.same (left - 1)) ∙ examined }

      pub step_stopped : (s2 : List ℕ) → Stops t a course s1 s2 d
          → answered (record {
            lists = emitted_in t a (lists_part a s2);
            left = left - 1;
          }) ≡ search t (entry_limits_of a course) budget
      step_stopped s2 g = sym (g.same (left - 1)) ∙ examined

      pub step_full : (s2 : List ℕ) (number : ℕ) → Fills t a course s1 s2 d number
          → refused number ≡ search t (entry_limits_of a course) budget
      step_full s2 number g = sym (g.same (left - 1)) ∙ examined

-- no frame is left
pub step_end : (t : Table) (a : Areas) (course : Course) (budget : ℕ) (s : List ℕ) (d left : ℕ)
    → Step t a course budget s d left → d ≡ 0
    → answered (record {
      lists = emitted_in t a (lists_part a s);
      left = left;
    }) ≡ search t (entry_limits_of a course) budget
unfolding frames_to pending
step_end t a course budget s d left turn e =
    sym (examine_none t (entry_limits_of a course) left (emitted_in t a (lists_part a s))) ∙ rw e at turn.same

-- ---- the loop ends: a turn takes one from the budget or from the depth, and the depth is bounded

pub step_depth : (t : Table) (a : Areas) (course : Course) (budget : ℕ) (s : List ℕ) (d left : ℕ)
    → Step t a course budget s d left → d < a.orbits + 2
step_depth t a course budget s d left turn =
    let n = path_short t a s turn.stands.inputs (frames_part a s) d (d - 1) turn.stands.frames in omega arith

pub budget_falls : (left n deep d : ℕ) → 0 < left → deep < n → (left - 1) * n + deep < left * n + d
budget_falls zero n deep d h k = absurd (omega arith)
budget_falls (suc left) n deep d h k = let e : suc left - 1 ≡ left = omega arith in rw e (omega arith)

-- a table that the workspace holds after a turn was held before
pub inputs_before : (t : Table) (a : Areas) (s s' : List ℕ) → AreasFit a (length s)
    → take a.frames s' ≡ take a.frames s → Inputs t a s' → Inputs t a s
inputs_before t a s s' f e h = record { fits = f; holds = holds_kept t a s' s h.fits (sym e) h.holds }
