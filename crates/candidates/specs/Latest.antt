-- The next candidate of a frame: the first place above the mark, and the last place whose orbit is not in use. Leans
-- on Frames and Numbers.
use Rattle.std.specs.Prelude.{◌≡◌, Bool, true, false, cond, not, List, [], ◌∷◌, ◌++◌, T, ltb, length, get_or, drop}
use Rattle.std.proofs.Math.Path.{refl}
use Rattle.std.proofs.Common.{sym, ap, ◌∙◌, ⊎_elim, arith, ltb→lt, lt→ltb, get_or-take, get_or-drop}
use Rattle.std.specs.Prelude.{Option, Some, None}
use Prim.Native.Nat.{ℕ, zero, suc, ◌+◌, ◌-◌, ◌≤◌, ◌<◌}
use Rattle.std.proofs.Math.Dec.{not_T}
use Rattle.definitions.specs.Search.{Table, Facet, all_facets, uses_orbit}
use Rattle.laws.specs.Merging.{place_is, place_le}
use Rattle.laws.specs.Bools.{holds→true, fails→false, decide}
use Rattle.laws.specs.Segments.{le_or_lt}
use Rattle.laws.specs.Lists.{member_at}
use Rattle.completeness.specs.Facets.{orbit_below}
use Rattle.facets.specs.declared.Areas.{Areas}
use Rattle.facets.specs.Frames.{Ascends, candidates, candidates_ascend, above, low_of, unused, waiting, pass_used}
use Rattle.facets.specs.Frames.{take_unused, none_waits}
use Rattle.facets.specs.Layout.{Inputs, numbers, facet_of, Uses, flag, used_part}
use Rattle.facets.proofs.Numbers.{numbers_length, numbers_small, candidate_at}

-- ---- the first place above the mark

ascends_at : (l : List Facet) (d : Facet) (i j : ℕ) → Ascends l → i ≤ j → j < length l
    → (get_or l i d).0 ≤ (get_or l j d).0
ascends_at [] d i j h k m = absurd (omega arith)
ascends_at (x ∷ l) d zero zero h k m = omega arith
ascends_at (x ∷ l) d zero (suc j) h k m = h.0 (get_or l j d) (member_at l j d (omega arith))
ascends_at (x ∷ l) d (suc i) zero h k m = absurd (omega arith)
ascends_at (x ∷ l) d (suc i) (suc j) h k m = ascends_at l d i j h.1 (omega arith) (omega arith)

-- the item before a place is not above the mark, the one at it is
pub low_is : (t : Table) (mark : ℕ) (kind : Option ℕ) (i : ℕ) → i ≤ length (numbers t kind)
    → (0 < i → (get_or (candidates t kind) (i - 1) (0, 0)).0 ≤ mark)
    → (i < length (numbers t kind) → mark < (get_or (candidates t kind) i (0, 0)).0)
    → i ≡ low_of t mark kind
unfolding low_of above
low_is t mark kind i h before at =
    let n = numbers_length t kind in
    place_is (λ (f : Facet). ltb mark f.0) (0, 0) (candidates t kind) i (omega arith)
    (λ j k. not_T (ltb mark (get_or (candidates t kind) j (0, 0)).0)
    (λ z.
    let x = ltb→lt mark (get_or (candidates t kind) j (0, 0)).0 z in
    let b = before (omega arith) in
    let y = ascends_at (candidates t kind) (0, 0) j (i - 1) (candidates_ascend t kind) (omega arith) (omega arith) in
    omega arith))
    (λ k. lt→ltb mark (get_or (candidates t kind) i (0, 0)).0 (at (omega arith)))

pub low_inside : (t : Table) (mark : ℕ) (kind : Option ℕ) → low_of t mark kind ≤ length (numbers t kind)
unfolding low_of
low_inside t mark kind = omega (arith, place_le (above mark) (candidates t kind), numbers_length t kind)

-- ---- orbits in use

pub orbit_small : (t : Table) (a : Areas) (s : List ℕ) (kind : Option ℕ) (i : ℕ) → Inputs t a s
    → i < length (numbers t kind) → (get_or (candidates t kind) i (0, 0)).0 < a.orbits
unfolding facet_of
orbit_small t a s kind i h k =
    let e = ap (λ (f : Facet). f.0) (candidate_at t kind i k) in
    let m = numbers_small t kind i k in
    let b = orbit_below t (facet_of t (get_or (numbers t kind) i 0))
    (member_at (all_facets t) (get_or (numbers t kind) i 0) (0, 0) m) in
    let o = h.holds.orbits in
    omega arith

pub used_at : (a : Areas) (s : List ℕ) (orbit : ℕ) → orbit < a.lists - a.used
    → get_or s (a.used + orbit) 0 ≡ get_or (used_part a s) orbit 0
used_at a s orbit h = sym (get_or-take (a.lists - a.used) (drop a.used s) orbit 0 h ∙ get_or-drop a.used s orbit 0)

flag_free : (b : Bool) → flag b ≡ 0 → T (not b)
unfolding flag
flag_free true e = absurd (omega arith)
flag_free false e = tt

flag_taken : (b : Bool) → (flag b ≡ 0 → ⊥) → T (not (not b))
unfolding flag
flag_taken true n = tt
flag_taken false n = n refl

pub is_unused : (a : Areas) (list : List Facet) (us : List ℕ) (f : Facet) → Uses a list us → f.0 < a.orbits
    → get_or us f.0 0 ≡ 0 → T (unused list f)
unfolding unused
is_unused a list us f u h e = flag_free (uses_orbit f.0 list) (sym (u f.0 h) ∙ e)

pub is_used : (a : Areas) (list : List Facet) (us : List ℕ) (f : Facet) → Uses a list us → f.0 < a.orbits
    → (get_or us f.0 0 ≡ 0 → ⊥) → T (not (unused list f))
unfolding unused
is_used a list us f u h n = flag_taken (uses_orbit f.0 list) (λ e. n (u f.0 h ∙ e))

-- the flag of a candidate's orbit
module _ (t : Table) (a : Areas) (s : List ℕ) (kind : Option ℕ) (i orbit : ℕ) (h : Inputs t a s)
    (k : i < length (numbers t kind)) (e : orbit ≡ (get_or (candidates t kind) i (0, 0)).0) where
  small : orbit < a.orbits
  small = rw e (orbit_small t a s kind i h k)

  pub flag_inside : a.used + orbit < length s
  flag_inside = let o = small in let f = h.fits in omega arith

  is_flag : (list : List Facet) → Uses a list (used_part a s)
      → get_or s (a.used + orbit) 0 ≡ flag (uses_orbit (get_or (candidates t kind) i (0, 0)).0 list)
  is_flag list u =
      used_at a s orbit (let o = small in let f = h.fits in omega arith)
      ∙ (u orbit small ∙ ap (λ (o : ℕ). flag (uses_orbit o list)) e)

  pub candidate_unused : (list : List Facet) → Uses a list (used_part a s) → get_or s (a.used + orbit) 0 ≡ 0
      → T (unused list (get_or (candidates t kind) i (0, 0)))
  unfolding unused
  candidate_unused list u z =
      flag_free (uses_orbit (get_or (candidates t kind) i (0, 0)).0 list) (sym (is_flag list u) ∙ z)

  pub candidate_used : (list : List Facet) → Uses a list (used_part a s) → (get_or s (a.used + orbit) 0 ≡ 0 → ⊥)
      → T (not (unused list (get_or (candidates t kind) i (0, 0))))
  unfolding unused
  candidate_used list u n =
      flag_taken (uses_orbit (get_or (candidates t kind) i (0, 0)).0 list) (λ z. n (is_flag list u ∙ z))

-- ---- the last unused place

-- the facet at a place is the last one that waits
pub record LatestAt (t : Table) (list : List Facet) (ridge : Option ℕ) (low place i : ℕ) : Type 0 where
  pub below : i < place
  pub free : T (unused list (get_or (candidates t ridge) i (0, 0)))
  pub last : waiting t list ridge low place ≡ waiting t list ridge low i ++ (get_or (candidates t ridge) i (0, 0) ∷ [])

-- what is found, or that none waits
unfoldable pub Latest : Table → List Facet → Option ℕ → ℕ → ℕ → Option ℕ → Type 0
Latest t list ridge low place None = waiting t list ridge low place ≡ []
Latest t list ridge low place (Some i) = LatestAt t list ridge low place i

-- the last place from `low` to below `place` whose facet has an orbit that is not in use, if any
unfoldable pub last_free : Table → List Facet → Option ℕ → ℕ → ℕ → Option ℕ
last_free t list ridge low zero = None
last_free t list ridge low (suc i) =
    cond (ltb i low) None
    (cond (unused list (get_or (candidates t ridge) i (0, 0))) (Some i) (last_free t list ridge low i))

pub latest_none : (t : Table) (list : List Facet) (ridge : Option ℕ) (low place : ℕ)
    → Latest t list ridge low place None → waiting t list ridge low place ≡ []
unfolding Latest
latest_none t list ridge low place l = l

pub latest_found : (t : Table) (list : List Facet) (ridge : Option ℕ) (low place i : ℕ)
    → Latest t list ridge low place (Some i)
    → waiting t list ridge low place ≡ waiting t list ridge low i ++ (get_or (candidates t ridge) i (0, 0) ∷ [])
unfolding Latest
latest_found t list ridge low place i l = l.last

pub not_below_holds : (low i : ℕ) → i ≤ low → ltb low i ≡ false
not_below_holds low i h = fails→false (ltb low i) (not_T (ltb low i) (λ z. let k = ltb→lt low i z in omega arith))

not_below : (i low : ℕ) → low ≤ i → ltb i low ≡ false
not_below i low h = not_below_holds i low h

module _ (t : Table) (list : List Facet) (ridge : Option ℕ) (low : ℕ) where
  pub free_stop : (i : ℕ) → i ≤ low → last_free t list ridge low i ≡ None
  unfolding last_free
  free_stop zero h = refl
  free_stop (suc i) h = rw (holds→true (ltb i low) (lt→ltb i low h)) refl

  free_here : (i : ℕ) → low ≤ i → T (unused list (get_or (candidates t ridge) i (0, 0)))
      → last_free t list ridge low (suc i) ≡ Some i
  unfolding last_free
  free_here i h u = rw (not_below i low h, holds→true (unused list (get_or (candidates t ridge) i (0, 0))) u) refl

  free_before : (i : ℕ) → low ≤ i → T (not (unused list (get_or (candidates t ridge) i (0, 0))))
      → last_free t list ridge low (suc i) ≡ last_free t list ridge low i
  unfolding last_free
  free_before i h u = rw (not_below i low h, fails→false (unused list (get_or (candidates t ridge) i (0, 0))) u) refl

  pub free_found : (i : ℕ) → low < i → T (unused list (get_or (candidates t ridge) (i - 1) (0, 0)))
      → last_free t list ridge low i ≡ Some (i - 1)
  free_found i h u = let e : suc (i - 1) ≡ i = omega arith in rw e at (free_here (i - 1) (omega arith) u)

  pub free_pass : (i : ℕ) → low < i → T (not (unused list (get_or (candidates t ridge) (i - 1) (0, 0))))
      → last_free t list ridge low i ≡ last_free t list ridge low (i - 1)
  free_pass i h u =
      let e : suc (i - 1) ≡ i = omega arith in
      ap (last_free t list ridge low) (sym e) ∙ free_before (i - 1) (omega arith) u

  -- what is found below a place is found below the next one, where the facet between has an orbit in use
  latest_passed : (i : ℕ) (r : Option ℕ) → waiting t list ridge low (suc i) ≡ waiting t list ridge low i
      → Latest t list ridge low i r → Latest t list ridge low (suc i) r
  unfolding Latest
  latest_passed i None same w = same ∙ w
  latest_passed i (Some j) same w =
      let b = w.below in
      record { below = omega arith; free = w.free; last = same ∙ w.last }

  pub latest_is : (place : ℕ) → place ≤ length (candidates t ridge)
      → Latest t list ridge low place (last_free t list ridge low place)
  unfolding Latest
  latest_is zero k = rw (free_stop 0 (omega arith)) (none_waits t list ridge low 0 (omega arith))
  latest_is (suc i) k = ⊎_elim stop (go (latest_is i (omega arith))) (le_or_lt (suc i) low)
    where
      stop : suc i ≤ low → Latest t list ridge low (suc i) (last_free t list ridge low (suc i))
      stop h = rw (free_stop (suc i) h) (none_waits t list ridge low (suc i) h)

      found : low < suc i → T (unused list (get_or (candidates t ridge) i (0, 0)))
          → Latest t list ridge low (suc i) (last_free t list ridge low (suc i))
      found h u =
          rw (free_here i (omega arith) u) (record {
            below = omega arith;
            free = u;
            last = take_unused t list ridge low i (0, 0) (omega arith) (omega arith) u;
          })

      pass : Latest t list ridge low i (last_free t list ridge low i) → low < suc i
          → T (not (unused list (get_or (candidates t ridge) i (0, 0))))
          → Latest t list ridge low (suc i) (last_free t list ridge low (suc i))
      pass before h u =
          rw (free_before i (omega arith) u) (latest_passed i (last_free t list ridge low i)
          (pass_used t list ridge low i (0, 0) (omega arith) (omega arith) u) before)

      go : Latest t list ridge low i (last_free t list ridge low i) → low < suc i
          → Latest t list ridge low (suc i) (last_free t list ridge low (suc i))
      go before h = ⊎_elim (found h) (pass before h) (decide (unused list (get_or (candidates t ridge) i (0, 0))))
