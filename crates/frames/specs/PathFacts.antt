-- The workspace holds a path (`PathHeld`) when a facet has joined the list, and when the last one has left it; and
-- what the totals say of the list. Leans on Layout, Change and Paths.
use Rattle.std.specs.Prelude.{◌≡◌, refl, Bool, true, false, ◌||◌, eqb, length, get_or, set}
use Rattle.std.proofs.Common.{sym, ◌∙◌, eqb→eq, get_or-set_same, get_or-set_other}
use Rattle.std.proofs.Math.Path.{ap}
use Rattle.std.proofs.Math.Logic.{⊎_elim}
use Rattle.std.proofs.Math.Bool.{or-true, or-false, or_assoc}
use mathlib.Core.List.{List, [], ◌∷◌, ◌++◌}
use Prim.Native.Nat.{ℕ, suc, ◌+◌, ◌-◌, ◌/◌, ◌≤◌, ◌<◌}
use native.Mathlib.Omega.{arith}
use Rattle.std.proofs.Math.Dec.{T, eqb_refl}
use Rattle.definitions.specs.Lists.{any_of}
use Rattle.definitions.specs.Search.{Table, Facet, uses_orbit}
use Rattle.laws.specs.Bools.{true→holds, holds→true, fails→false, apart}
use Rattle.laws.specs.Segments.{part_length, le_or_lt}
use Rattle.facets.specs.declared.Areas.{Areas}
use Rattle.facets.specs.Kept.{map_last}
use Rattle.facets.specs.Frames.{unused}
use Rattle.facets.specs.Sums.{sum_at, sum_joined}
use Rattle.facets.specs.Layout.{Inputs, holds_kept, facet_of, amount_in, codes, touched_part, totals_part, used_part}
use Rattle.facets.specs.Layout.{frames_part, with_totals, with_use, with_facet, without_facet, Uses, flag}
use Rattle.frames.specs.Paths.{path, list_to, taken_at, PathHeld}
use Rattle.facets.specs.Numbers.{orbit_is, facet_small}
use Rattle.totals.specs.Change.{added_at, taken_at_holds, change_length, change_tables, change_frames, change_totals}
use Rattle.totals.specs.Change.{change_used}

-- the list of one facet more
pub list_last : (t : Table) (p : List ℕ) (k : ℕ)
    → list_to t p (suc k) ≡ list_to t p k ++ (facet_of t (taken_at p k) ∷ [])
unfolding list_to path
list_last t p k = map_last (facet_of t) (path p k) (taken_at p k)

-- ---- orbits in use

any_last : {A : Type 0} (q : A → Bool) (l : List A) (x : A) → any_of q (l ++ (x ∷ [])) ≡ any_of q l || q x
unfolding any_of
any_last q [] x = or-false (q x)
any_last q (y ∷ l) x = ap (λ (b : Bool). q y || b) (any_last q l x) ∙ sym (or_assoc (q y) (any_of q l) (q x))

uses_last : (orbit : ℕ) (l : List Facet) (f : Facet)
    → uses_orbit orbit (l ++ (f ∷ [])) ≡ uses_orbit orbit l || eqb orbit f.0
unfolding uses_orbit
uses_last orbit l f = any_last (λ (g : Facet). eqb orbit g.0) l f

-- the orbit of the last facet is in use, and of another orbit the last facet says nothing
own_use : (l : List Facet) (f : Facet) → flag (uses_orbit f.0 (l ++ (f ∷ []))) ≡ 1
unfolding flag
own_use l f = rw (uses_last f.0 l f, holds→true (eqb f.0 f.0) (eqb_refl f.0), or-true (uses_orbit f.0 l)) refl

other_use : (orbit : ℕ) (l : List Facet) (f : Facet) → eqb orbit f.0 ≡ false
    → uses_orbit orbit (l ++ (f ∷ [])) ≡ uses_orbit orbit l
other_use orbit l f e =
    uses_last orbit l f ∙ (ap (λ (b : Bool). uses_orbit orbit l || b) e ∙ or-false (uses_orbit orbit l))

uses_join : (a : Areas) (l : List Facet) (f : Facet) (us : List ℕ) → a.orbits ≤ length us → f.0 < a.orbits
    → Uses a l us → Uses a (l ++ (f ∷ [])) (set us f.0 1)
uses_join a l f us n h u orbit k = go (eqb orbit f.0) refl
  where
    go : (b : Bool) → eqb orbit f.0 ≡ b → get_or (set us f.0 1) orbit 0 ≡ flag (uses_orbit orbit (l ++ (f ∷ [])))
    go true e =
        let z = eqb→eq orbit f.0 (true→holds e) in
        rw z (get_or-set_same us f.0 1 0 (omega arith) ∙ sym (own_use l f))
    go false e =
        get_or-set_other us f.0 orbit 1 0 (apart orbit f.0 e) ∙ (u orbit k ∙ ap flag (sym (other_use orbit l f e)))

uses_leave : (a : Areas) (l : List Facet) (f : Facet) (us : List ℕ) → a.orbits ≤ length us → f.0 < a.orbits
    → T (unused l f) → Uses a (l ++ (f ∷ [])) us → Uses a l (set us f.0 0)
unfolding unused flag
uses_leave a l f us n h free u orbit k = go (eqb orbit f.0) refl
  where
    go : (b : Bool) → eqb orbit f.0 ≡ b → get_or (set us f.0 0) orbit 0 ≡ flag (uses_orbit orbit l)
    go true e =
        let z = eqb→eq orbit f.0 (true→holds e) in
        rw z (get_or-set_same us f.0 0 0 (omega arith) ∙ sym (rw (fails→false (uses_orbit f.0 l) free) refl))
    go false e = get_or-set_other us f.0 orbit 0 0 (apart orbit f.0 e) ∙ (u orbit k ∙ ap flag (other_use orbit l f e))

-- ---- a facet joins

module _ (t : Table) (a : Areas) (s : List ℕ) (d m : ℕ) where
  pub last_inside : (x : ℕ) → Inputs t a s → x < a.facets → (i : ℕ) → i < length (codes a (touched_part a s) x)
      → get_or (codes a (touched_part a s) x) i 0 / 4 < length (totals_part a s)
  last_inside x h k i l =
      let w = h.holds.within x k i l in
      let f = h.fits in
      let e = part_length a.totals (a.used - a.totals) s (omega arith) in
      omega arith

  -- the tables and sizes are as they were
  inputs_kept : (by : ℕ → ℕ → ℕ) (x v : ℕ) → x < a.facets → Inputs t a s
      → Inputs t a (with_use a (with_totals by a s x) x v)
  inputs_kept by x v k h = record {
    fits = rw (change_length by a s h.fits x v k) h.fits;
    holds = holds_kept t a s (with_use a (with_totals by a s x) x v) h.fits (change_tables by a s h.fits x v k) h.holds;
  }

  pub held_join : (x : ℕ) → PathHeld t a s d m → m < d → taken_at (frames_part a s) m ≡ x → x < a.facets
      → T (unused (list_to t (frames_part a s) m) (facet_of t x)) → PathHeld t a (with_facet a s x) d (suc m)
  unfolding with_facet
  held_join x st h e k free =
      let p = frames_part a s in
      let f = st.inputs.fits in
      let same = change_frames ◌+◌ a s f x 1 k in
      record {
        inputs = inputs_kept ◌+◌ x 1 k st.inputs;
        frames = rw same (record {
          kinds = st.frames.kinds;
          places = st.frames.places;
          taken =
              λ i l. ⊎_elim (λ q. st.frames.taken i q) (λ q. let z : i ≡ m = omega arith in rw (z, e) k)
              (le_or_lt (suc i) m);
          fresh =
              λ i l. ⊎_elim (λ q. st.frames.fresh i q) (λ q. let z : i ≡ m = omega arith in rw (z, e) free)
              (le_or_lt (suc i) m);
          light = st.frames.light;
          inside = omega arith;
          near = let z = st.frames.near in omega arith;
        });
        totals = λ ridge r.
            rw (
              same,
              change_totals ◌+◌ a s f x 1 k,
              list_last t p m,
              e,
              sum_joined t (list_to t p m) (facet_of t x) ridge,
            )
            (added_at (totals_part a s) (codes a (touched_part a s) x) ridge (last_inside x st.inputs k)
            ∙ (rw (st.totals ridge r, st.inputs.holds.amounts x k ridge r) refl));
        uses =
            rw (same, change_used ◌+◌ a s f x 1 k, list_last t p m, e, orbit_is t a s st.inputs x k)
            (uses_join a (list_to t p m) (facet_of t x) (used_part a s) (let l = part_length a.used
            (a.lists - a.used) s (omega arith) in omega arith) (facet_small t a s x st.inputs k) st.uses);
      }

  -- ---- the last facet leaves

  pub held_leave : (x : ℕ) → PathHeld t a s d (suc m) → d ≤ suc m → taken_at (frames_part a s) m ≡ x
      → PathHeld t a (without_facet a s x) d m
  unfolding without_facet
  held_leave x st h e =
      let p = frames_part a s in
      let f = st.inputs.fits in
      let k : x < a.facets = rw e at (st.frames.taken m (omega arith)) in
      let free : T (unused (list_to t p m) (facet_of t x)) = rw e at (st.frames.fresh m (omega arith)) in
      let same = change_frames ◌-◌ a s f x 0 k in
      let z = st.frames.inside in
      record {
        inputs = inputs_kept ◌-◌ x 0 k st.inputs;
        frames = rw same (record {
          kinds = st.frames.kinds;
          places = st.frames.places;
          taken = λ i l. st.frames.taken i (omega arith);
          fresh = λ i l. st.frames.fresh i (omega arith);
          light = st.frames.light;
          inside = omega arith;
          near = omega arith;
        });
        totals = λ ridge r.
            rw (same, change_totals ◌-◌ a s f x 0 k)
            (let w = st.totals ridge r in
            let y = ap (λ (l : List Facet). sum_at t l ridge)
            (list_last t p m ∙ ap (λ (n : ℕ). list_to t p m ++ (facet_of t n ∷ [])) e)
            ∙ sum_joined t (list_to t p m) (facet_of t x) ridge in
            let v = st.inputs.holds.amounts x k ridge r in
            taken_at_holds (totals_part a s) (codes a (touched_part a s) x) ridge (last_inside x st.inputs k)
            ∙ omega arith);
        uses =
            rw (same, change_used ◌-◌ a s f x 0 k, orbit_is t a s st.inputs x k)
            (uses_leave a (list_to t p m) (facet_of t x) (used_part a s) (let l = part_length a.used
            (a.lists - a.used) s (omega arith) in omega arith) (facet_small t a s x st.inputs k) free
            (rw (list_last t p m, e) at st.uses));
      }

  -- what the last facet added is in the totals
  pub last_counted : PathHeld t a s d (suc m) → (ridge : ℕ) → ridge < a.ridges
      → amount_in ridge (codes a (touched_part a s) (taken_at (frames_part a s) m)) ≤ get_or (totals_part a s) ridge 0
  last_counted st ridge r =
      let p = frames_part a s in
      let w = st.totals ridge r in
      let y = ap (λ (l : List Facet). sum_at t l ridge) (list_last t p m)
      ∙ sum_joined t (list_to t p m) (facet_of t (taken_at p m)) ridge in
      let v = st.inputs.holds.amounts (taken_at p m) (st.frames.taken m (omega arith)) ridge r in
      omega arith

  -- the list of the deepest frame is not over
  pub totals_light : PathHeld t a s d m → m < d → (ridge : ℕ) → ridge < a.ridges → get_or (totals_part a s) ridge 0 ≤ 2
  totals_light st h ridge r = let w = st.totals ridge r in let l = st.frames.light m h ridge r in omega arith
