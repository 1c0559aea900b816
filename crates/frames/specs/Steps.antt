-- The steps of the search on the workspace: the next candidate, a list examined, the last facet withdrawn, a list
-- entered. Leans on PathFacts and Places.
use Rattle.std.specs.Prelude.{◌≡◌, refl, ◌⊎◌, Bool, ◌||◌, ltb, length, get_or, take}
use Rattle.std.proofs.Common.{sym, ◌∙◌, inl, inr, ⊎_elim, add-one}
use Rattle.std.proofs.Math.Path.{ap}
use Rattle.std.proofs.Math.Bool.{not}
use mathlib.Core.List.{List, [], ◌∷◌, ◌++◌}
use Rattle.std.specs.Prelude.{Option, Some, None}
use Prim.Native.Nat.{ℕ, zero, suc, ◌+◌, ◌-◌, ◌*◌, ◌≤◌, ◌<◌}
use native.Mathlib.Omega.{arith}
use Rattle.std.proofs.Math.Dec.{T}
use Rattle.definitions.specs.Lists.{any_of, keep, count_from}
use Rattle.definitions.specs.Search.{Table, Facet, uses_orbit, judge}
use Rattle.laws.specs.Bools.{not_not}
use Rattle.laws.specs.Lists.{keep_less, in_count, count_length, keep_few}
use Rattle.laws.specs.Segments.{placed, part_length, placed_length, part_placed, take_placed, part_placed_off, le_or_lt}
use Rattle.completeness.specs.Walk.{unused_before, uses_last}
use Rattle.facets.specs.declared.Areas.{Areas}
use Rattle.facets.specs.declared.Verdict.{Verdict}
use Rattle.facets.specs.Frames.{Frame, candidates, unused, waiting, mark_of, child, moved, entered, low_of}
use Rattle.facets.specs.Sums.{sum_at}
use Rattle.facets.specs.Layout.{verdict, Inputs, AreasFit, holds_kept, facet_of, KindIn, numbers, code_of, codes}
use Rattle.facets.specs.Layout.{touched_part, totals_part, used_part, frames_part, lists_part, lifted, with_facet}
use Rattle.facets.specs.Layout.{without_facet}
use Rattle.frames.specs.Paths.{list_to, frame_at, frames_to, place_at, low_at, mark_at, kind_at, taken_at, mark_after}
use Rattle.frames.specs.Paths.{item_at, with_place, with_frame, Path, PathHeld}
use Rattle.facets.specs.Numbers.{numbers_few, facet_small}
use Rattle.facets.proofs.Numbers.{numbers_length, numbers_small, candidate_at}
use Rattle.candidates.specs.Latest.{Latest, LatestAt, latest_is, last_free}
use Rattle.facets.specs.Judged.{none_over}
use Rattle.totals.specs.Change.{over_after, change_frames, change_tables, change_totals, change_lists}
use Rattle.frames.specs.PathFacts.{list_last, last_inside, totals_light, held_join, held_leave}
use Rattle.frames.specs.Places.{SameFrames, same_kind, same_places, same_taken, same_list, place_length, place_below}
use Rattle.frames.specs.Places.{place_is, place_taken, place_kind, place_mark, place_frames, frame_length, frame_below}
use Rattle.frames.specs.Places.{frame_place, frame_kind, frame_frames}

-- ---- how deep a path can be: its orbits differ

free : Table → List Facet → ℕ
free t list = length (keep (λ (o : ℕ). not (uses_orbit o list)) (count_from 0 (length t.shares)))

free_less : (t : Table) (l : List Facet) (f : Facet) → f.0 < length t.shares → T (unused l f)
    → free t (l ++ (f ∷ [])) < free t l
unfolding free unused
free_less t l f h n =
    keep_less (λ (o : ℕ). not (uses_orbit o l)) (λ (o : ℕ). not (uses_orbit o (l ++ (f ∷ [])))) f.0
    (count_from 0 (length t.shares))
    (λ o q. (unused_before o l f q).0) (in_count 0 (length t.shares) f.0 (omega arith) (omega arith)) n
    (not_not (uses_orbit f.0 (l ++ (f ∷ []))) (uses_last l f))

module _ (t : Table) (a : Areas) (s : List ℕ) (h : Inputs t a s) (p : List ℕ) (d m : ℕ) (ok : Path t a p d m) where
  short_to : (k : ℕ) → k ≤ m → k + free t (list_to t p k) ≤ a.orbits
  unfolding free
  short_to zero l =
      let e = h.holds.orbits in
      let c = count_length 0 (length t.shares) in
      let q = keep_few (λ (o : ℕ). not (uses_orbit o (list_to t p 0))) (count_from 0 (length t.shares)) in
      omega arith
  short_to (suc k) l =
      let e = h.holds.orbits in
      let n = short_to k (omega arith) in
      let q = facet_small t a s (taken_at p k) h (ok.taken k l) in
      let w = free_less t (list_to t p k) (facet_of t (taken_at p k)) (omega arith) (ok.fresh k l) in
      let z = ap (free t) (list_last t p k) in
      omega arith

  pub path_short : m ≤ a.orbits
  path_short = let n = short_to m (omega arith) in omega arith

-- ---- the next candidate

-- the candidate at a place of a frame
unfoldable pub candidate_of : Table → Frame → ℕ → Facet
candidate_of t fr place = get_or (candidates t fr.ridge) place (0, 0)

-- the candidate at a place is the next one
pub record NextAt (t : Table) (fr : Frame) (place : ℕ) : Type 0 where
  pub inside : place < fr.place
  pub free : T (unused fr.list (candidate_of t fr place))
  pub found : waiting t fr.list fr.ridge fr.low fr.place
      ≡ waiting t fr.list fr.ridge fr.low place ++ (candidate_of t fr place ∷ [])

-- the next candidate, or that none is left
pub record Next (t : Table) (fr : Frame) (r : Option ℕ) : Type 0 where
  pub none : r ≡ None → waiting t fr.list fr.ridge fr.low fr.place ≡ []
  pub at : (place : ℕ) → r ≡ Some place → NextAt t fr place

-- the place of the next candidate, if any is left
unfoldable pub next_place : Table → Frame → Option ℕ
next_place t fr = last_free t fr.list fr.ridge fr.low fr.place

-- it is the last free place of the frame, where there is one
pub next_found : (t : Table) (fr : Frame) (place : ℕ) → Some place ≡ last_free t fr.list fr.ridge fr.low fr.place
    → Some place ≡ next_place t fr
unfolding next_place
next_found t fr place e = e

pub next_none : (t : Table) (fr : Frame) → None ≡ last_free t fr.list fr.ridge fr.low fr.place → None ≡ next_place t fr
unfolding next_place
next_none t fr e = e

-- a next candidate is there
pub record CandidateDue (t : Table) (a : Areas) (s : List ℕ) (d place : ℕ) : Type 0 where
  pub stands : PathHeld t a s d (d - 1)
  pub deep : 0 < d
  pub inside : place < place_at (frames_part a s) (d - 1)
  pub free : T
      (unused (list_to t (frames_part a s) (d - 1)) (candidate_of t (frame_at t (frames_part a s) (d - 1)) place))

-- no total above 2
abbrev pub Light : Table → Areas → List Facet → Type 0
Light t a list = (ridge : ℕ) → ridge < a.ridges → sum_at t list ridge ≤ 2

-- The totals say whether a list is light, whichever table they were counted by.
pub same_light : (t u : Table) (a : Areas) (s : List ℕ) (d : ℕ) → PathHeld t a s d d → PathHeld u a s d d
    → Light t a (list_to t (frames_part a s) d) → Light u a (list_to u (frames_part a s) d)
same_light t u a s d at au light ridge below =
    omega (arith, light ridge below, at.totals ridge below, au.totals ridge below)

-- a list was examined
pub record Visited (t : Table) (a : Areas) (s s' : List ℕ) (d place : ℕ) (v : Verdict) : Type 0 where
  pub stands : PathHeld t a s' d d
  pub frames : frames_to t (frames_part a s') d
      ≡ moved (frame_at t (frames_part a s) (d - 1)) place ∷ frames_to t (frames_part a s) (d - 1)
  pub item : child (list_to t (frames_part a s) (d - 1)) (mark_at (frames_part a s) (d - 1))
      (kind_at (frames_part a s) (d - 1)) (candidate_of t (frame_at t (frames_part a s) (d - 1)) place)
      ≡ item_at t (frames_part a s') d
  pub judged : verdict v ≡ judge (totals_part a s')
  pub lists : lists_part a s' ≡ lists_part a s
  pub tables : take a.frames s' ≡ take a.frames s

pub record Withdrawn (t : Table) (a : Areas) (s s' : List ℕ) (d : ℕ) : Type 0 where
  pub stands : PathHeld t a s' d (d - 1)
  pub frames : frames_part a s' ≡ frames_part a s
  pub lists : lists_part a s' ≡ lists_part a s
  pub tables : take a.frames s' ≡ take a.frames s

pub record Entered (t : Table) (a : Areas) (s s' : List ℕ) (d : ℕ) (kind : Option ℕ) : Type 0 where
  pub stands : PathHeld t a s' (d + 1) d
  pub frames : frames_to t (frames_part a s') (d + 1) ≡ entered t (list_to t (frames_part a s) d)
      (mark_after t (frames_part a s) (d - 1)) kind ∷ frames_to t (frames_part a s) d
  pub lists : lists_part a s' ≡ lists_part a s
  pub tables : take a.frames s' ≡ take a.frames s

-- ---- room for the frames

module _ (t : Table) (a : Areas) (s : List ℕ) (d m : ℕ) (st : PathHeld t a s d m) where
  pub frames_length : length (frames_part a s) ≡ a.totals - a.frames
  frames_length = let f = st.inputs.fits in part_length a.frames (a.totals - a.frames) s (omega arith)

  pub frame_room_holds : (k : ℕ) → k ≤ m → 16 * k + 16 ≤ length (frames_part a s)
  frame_room_holds k h =
      let f = st.inputs.fits in
      let n = path_short t a s st.inputs (frames_part a s) d m st.frames in
      omega (arith, frames_length)

-- the room of one frame, for tactics that find the rest
pub frame_room_at : {t : Table} {a : Areas} {s : List ℕ} {d m : ℕ} → PathHeld t a s d m → (k : ℕ) → k ≤ m
    → 16 * k + 16 ≤ length (frames_part a s)
frame_room_at {t} {a} {s} {d} {m} st k h = frame_room_holds t a s d m st k h

-- ---- the frames replaced

module _ (a : Areas) (s q : List ℕ) (f : AreasFit a (length s)) (l : length q ≡ a.totals - a.frames) where
  abbrev after : List ℕ
  after = placed a.frames (a.totals - a.frames) s q

  pub put_length : length after ≡ length s
  put_length = placed_length a.frames (a.totals - a.frames) s q (omega arith) l

  pub put_tables : take a.frames after ≡ take a.frames s
  put_tables = take_placed a.frames (a.totals - a.frames) s q a.frames (omega arith) (omega arith)

  pub put_frames : frames_part a after ≡ q
  put_frames = part_placed a.frames (a.totals - a.frames) s q (omega arith) l

  pub put_totals : totals_part a after ≡ totals_part a s
  put_totals =
      part_placed_off a.frames (a.totals - a.frames) s q a.totals (a.used - a.totals) (omega arith) l
      (inr (omega arith))

  pub put_used : used_part a after ≡ used_part a s
  put_used =
      part_placed_off a.frames (a.totals - a.frames) s q a.used (a.lists - a.used) (omega arith) l (inr (omega arith))

  pub put_lists : lists_part a after ≡ lists_part a s
  put_lists =
      part_placed_off a.frames (a.totals - a.frames) s q a.lists (a.end - a.lists) (omega arith) l (inr (omega arith))

  pub put_inputs : (t : Table) → Inputs t a s → Inputs t a after
  put_inputs t h = record { fits = rw put_length f; holds = holds_kept t a s after f put_tables h.holds }

-- ---- the next candidate

module _ (t : Table) (a : Areas) (s : List ℕ) (d : ℕ) (st : PathHeld t a s d (d - 1)) (deep : 0 < d) where
  abbrev deepest : Frame
  deepest = frame_at t (frames_part a s) (d - 1)

  latest : Latest t deepest.list deepest.ridge deepest.low deepest.place (next_place t deepest)
  unfolding frame_at next_place
  latest =
      let p = frames_part a s in
      let n = numbers_length t (kind_at p (d - 1)) in
      let q = st.frames.places (d - 1) (omega arith) in
      latest_is t (list_to t p (d - 1)) (kind_at p (d - 1)) (low_at p (d - 1)) (place_at p (d - 1)) (omega arith)

  pub none_due : (r : Option ℕ) → r ≡ next_place t (frame_at t (frames_part a s) (d - 1)) → r ≡ None
      → waiting t deepest.list deepest.ridge deepest.low deepest.place ≡ []
  unfolding Latest
  none_due r e f = rw (sym e ∙ f) at latest

  pub next_due : (r : Option ℕ) (place : ℕ) → r ≡ next_place t (frame_at t (frames_part a s) (d - 1)) → r ≡ Some place
      → NextAt t (frame_at t (frames_part a s) (d - 1)) place
  unfolding Latest candidate_of
  next_due r place e f =
      let w : LatestAt t deepest.list deepest.ridge deepest.low deepest.place place = rw (sym e ∙ f) at latest in
      record { inside = w.below; free = w.free; found = w.last }

  pub next_holds : (r : Option ℕ) → r ≡ next_place t (frame_at t (frames_part a s) (d - 1))
      → Next t (frame_at t (frames_part a s) (d - 1)) r
  next_holds r e = record { none = none_due r e; at = λ place f. next_due r place e f }

-- ---- a place taken

module _ (t : Table) (a : Areas) (s : List ℕ) (d place x : ℕ) (ok : CandidateDue t a s d place) (is : x
    ≡ get_or (numbers t (kind_at (frames_part a s) (d - 1))) place 0) where
  abbrev p : List ℕ
  p = frames_part a s

  abbrev k : ℕ
  k = d - 1

  abbrev q : List ℕ
  q = with_place p k place x

  abbrev s1 : List ℕ
  s1 = placed a.frames (a.totals - a.frames) s q

  again : suc k ≡ d
  again = let h = ok.deep in omega arith

  pub place_inside : place < length (numbers t (kind_at p k))
  place_inside = let h = ok.deep in let j = ok.inside in let n = ok.stands.frames.places k (omega arith) in omega arith

  pub kind_inside : KindIn a (kind_at p k)
  kind_inside = let h = ok.deep in ok.stands.frames.kinds k (omega arith)

  pub taken_small : x < a.facets
  taken_small =
      let n = numbers_small t (kind_at p k) place place_inside in
      let e = ok.stands.inputs.holds.facets in
      omega (arith, is)

  pub place_small : place < 4294967296
  place_small = let n = numbers_few t a s ok.stands.inputs (kind_at p k) kind_inside in omega (arith, place_inside)

  pub number_small : x < 65536
  number_small = let f = ok.stands.inputs.fits in omega (arith, taken_small)

  pub room : 16 * k + 16 ≤ length p
  room = frame_room_holds t a s d k ok.stands k (omega arith)

  pub candidate_is : candidate_of t (frame_at t p k) place ≡ facet_of t x
  unfolding candidate_of frame_at
  candidate_is = candidate_at t (kind_at p k) place place_inside ∙ ap (facet_of t) (sym is)

  pub long : length q ≡ a.totals - a.frames
  long = place_length p k place x room place_small number_small ∙ frames_length t a s d k ok.stands

  frames_are : frames_part a s1 ≡ q
  frames_are = put_frames a s q ok.stands.inputs.fits long

  below : SameFrames p q k
  below = place_below p k place x room place_small number_small

  taken_is : taken_at q k ≡ x
  taken_is = place_taken p k place x room place_small number_small

  at_or_below : (j : ℕ) → j < d → (j < k) ⊎ (j ≡ k)
  at_or_below j h = ⊎_elim (λ l. inl l) (λ l. inr (let e = again in omega arith)) (le_or_lt (suc j) k)

  path_placed : Path t a q d k
  path_placed =
      let fr = ok.stands.frames in
      record {
        kinds =
            λ j h. ⊎_elim (λ l. rw (same_kind p q k below j l) (fr.kinds j h)) (λ (e : j ≡ k).
            rw (e, place_kind p k place x room place_small number_small) kind_inside) (at_or_below j h);
        places = λ j h. ⊎_elim
            (λ l. rw (same_kind p q k below j l, same_places p q k below j l) (fr.places j h))
            (λ (e : j ≡ k). rw (
              e,
              place_kind p k place x room place_small number_small,
              place_is p k place x room place_small number_small,
            ) (let n = place_inside in omega arith)) (at_or_below j h);
        taken = λ j h. rw (same_taken p q k below j h) (fr.taken j h);
        fresh = λ j h. rw (same_taken p q k below j h, same_list p q k below t j (omega arith)) (fr.fresh j h);
        light = λ j h ridge r. rw (same_list p q k below t j (let e = again in omega arith)) (fr.light j h ridge r);
        inside = fr.inside;
        near = fr.near;
      }

  pub held_placed : PathHeld t a s1 d k
  held_placed =
      let st = ok.stands in
      let f = st.inputs.fits in
      record {
        inputs = put_inputs a s q f long t st.inputs;
        frames = rw frames_are path_placed;
        totals = rw (frames_are, put_totals a s q f long, same_list p q k below t k (omega arith)) st.totals;
        uses = rw (frames_are, put_used a s q f long, same_list p q k below t k (omega arith)) st.uses;
      }

  -- the list before is not over
  pub placed_light : (ridge : ℕ) → ridge < a.ridges → get_or (totals_part a s1) ridge 0 ≤ 2
  placed_light = totals_light t a s1 d k held_placed (let e = again in omega arith)

  abbrev s2 : List ℕ
  s2 = with_facet a s1 x

  same_frames_2 : frames_part a s2 ≡ q
  unfolding with_facet
  same_frames_2 = change_frames ◌+◌ a s1 held_placed.inputs.fits x 1 taken_small ∙ frames_are

  -- so a total above 2 is one that the facet lifted
  pub over_lifted : lifted (totals_part a s1) (codes a (touched_part a s1) x) ≡ any_of (ltb 2) (totals_part a s2)
  unfolding with_facet
  over_lifted =
      let st = held_placed in
      let f = st.inputs.fits in
      let l = part_length a.totals (a.used - a.totals) s1 (omega arith) in
      let ts = totals_part a s1 in
      let cs = codes a (touched_part a s1) x in
      ap (λ (b : Bool). b || lifted ts cs) (sym (none_over ts (λ ridge r. placed_light ridge (omega arith))))
      ∙ (sym (over_after ts cs (last_inside t a s1 d k x st.inputs taken_small))
      ∙ ap (any_of (ltb 2)) (sym (change_totals ◌+◌ a s1 f x 1 taken_small)))

  pub visited : (v : Verdict) → verdict v ≡ judge (totals_part a s2) → Visited t a s s2 d place v
  unfolding with_facet child item_at mark_after
  visited v e =
      let free : T (unused (list_to t (frames_part a s1) k) (facet_of t x)) =
      rw (frames_are, same_list p q k below t k (omega arith)) (rw candidate_is at ok.free) in
      let z = again in
      record {
        stands =
            rw again at (held_join t a s1 d k x held_placed (omega arith) (rw frames_are taken_is) taken_small free);
        frames =
            rw same_frames_2
            (ap (frames_to t q) (sym again) ∙ place_frames p k place x room place_small number_small t);
        item =
            rw (same_frames_2, candidate_is)
            (rw (
              place_kind p k place x room place_small number_small,
              place_mark p k place x room place_small number_small,
              taken_is,
            )
            (ap (λ (l : List Facet). record { list = l; mark = mark_of (kind_at p k) (mark_at p k) (facet_of t x) })
            (sym (ap (list_to t q) (sym again)
            ∙ (list_last t q k ∙ rw (taken_is, same_list p q k below t k (omega arith)) refl)))));
        judged = e;
        lists =
            change_lists ◌+◌ a s1 held_placed.inputs.fits x 1 taken_small
            ∙ put_lists a s q ok.stands.inputs.fits long;
        tables =
            change_tables ◌+◌ a s1 held_placed.inputs.fits x 1 taken_small
            ∙ put_tables a s q ok.stands.inputs.fits long;
      }

-- ---- the last facet withdrawn

pub withdrawn : (t : Table) (a : Areas) (s : List ℕ) (d x : ℕ) → PathHeld t a s d d → 0 < d
    → x ≡ taken_at (frames_part a s) (d - 1) → Withdrawn t a s (without_facet a s x) d
unfolding without_facet
withdrawn t a s d x st h e =
    let z : suc (d - 1) ≡ d = omega arith in
    let k : x < a.facets = rw e (st.frames.taken (d - 1) (omega arith)) in
    record {
      stands = held_leave t a s d (d - 1) x (rw z st) (omega arith) (sym e);
      frames = change_frames ◌-◌ a s st.inputs.fits x 0 k;
      lists = change_lists ◌-◌ a s st.inputs.fits x 0 k;
      tables = change_tables ◌-◌ a s st.inputs.fits x 0 k;
    }

-- ---- a list entered

module _ (t : Table) (a : Areas) (s : List ℕ) (d place low mark : ℕ) (kind : Option ℕ) (st : PathHeld t a s d d)
    (light : Light t a (list_to t (frames_part a s) d)) (deep : 0 < d) (inside : KindIn a kind)
    (places : place ≡ length (numbers t kind)) (lows : low ≡ low_of t mark kind)
    (marks : mark ≡ mark_after t (frames_part a s) (d - 1)) (a1 : place < 4294967296) (a2 : low < 4294967296)
    (a3 : mark < 65536) (a4 : code_of kind < 65536) where
  abbrev p' : List ℕ
  p' = frames_part a s

  abbrev q' : List ℕ
  q' = with_frame p' d place low mark kind

  abbrev s' : List ℕ
  s' = placed a.frames (a.totals - a.frames) s q'

  room' : 16 * d + 16 ≤ length p'
  room' = frame_room_holds t a s d d st d (omega arith)

  long' : length q' ≡ a.totals - a.frames
  long' = frame_length p' d place low mark kind room' a1 a2 a3 a4 ∙ frames_length t a s d d st

  frames_are' : frames_part a s' ≡ q'
  frames_are' = put_frames a s q' st.inputs.fits long'

  below' : SameFrames p' q' d
  below' = frame_below p' d place low mark kind room' a1 a2 a3 a4

  at_or_below' : (j : ℕ) → j < d + 1 → (j < d) ⊎ (j ≡ d)
  at_or_below' j h = ⊎_elim (λ l. inl l) (λ l. inr (omega arith)) (le_or_lt (suc j) d)

  path_entered : Path t a q' (d + 1) d
  path_entered =
      let fr = st.frames in
      record {
        kinds =
            λ j h. ⊎_elim (λ l. rw (same_kind p' q' d below' j l) (fr.kinds j l))
            (λ (e : j ≡ d). rw (e, frame_kind p' d place low mark kind room' a1 a2 a3 a4) inside) (at_or_below' j h);
        places = λ j h. ⊎_elim
            (λ l. rw (same_kind p' q' d below' j l, same_places p' q' d below' j l) (fr.places j l))
            (λ (e : j ≡ d). rw (
              e,
              frame_kind p' d place low mark kind room' a1 a2 a3 a4,
              frame_place p' d place low mark kind room' a1 a2 a3 a4,
            ) (omega arith)) (at_or_below' j h);
        taken = λ j h. rw (same_taken p' q' d below' j h) (fr.taken j h);
        fresh = λ j h. rw (same_taken p' q' d below' j h, same_list p' q' d below' t j (omega arith)) (fr.fresh j h);
        light =
            λ j h ridge r. rw (same_list p' q' d below' t j (omega arith))
            (⊎_elim (λ l. fr.light j l ridge r) (λ (e : j ≡ d). rw e (light ridge r)) (at_or_below' j h));
        inside = omega arith;
        near = omega arith;
      }

  pub entered_is : Entered t a s s' d kind
  unfolding entered
  entered_is =
      let f = st.inputs.fits in
      record {
        stands = record {
          inputs = put_inputs a s q' f long' t st.inputs;
          frames = rw frames_are' path_entered;
          totals = rw (frames_are', put_totals a s q' f long', same_list p' q' d below' t d (omega arith)) st.totals;
          uses = rw (frames_are', put_used a s q' f long', same_list p' q' d below' t d (omega arith)) st.uses;
        };
        frames =
            rw (frames_are', add-one)
            (frame_frames p' d place low mark kind room' a1 a2 a3 a4 t
            ∙ ap (λ (fr : Frame). fr ∷ frames_to t p' d) (rw (places, lows, marks, numbers_length t kind) refl));
        lists = put_lists a s q' f long';
        tables = put_tables a s q' f long';
      }

-- ---- the mark, by the kind of the frame

pub mark_closed : (t : Table) (p : List ℕ) (k : ℕ) → kind_at p k ≡ None
    → mark_after t p k ≡ (facet_of t (taken_at p k)).0
unfolding mark_after mark_of
mark_closed t p k e = rw e refl

pub mark_open : (t : Table) (p : List ℕ) (k ridge : ℕ) → kind_at p k ≡ Some ridge → mark_after t p k ≡ mark_at p k
unfolding mark_after mark_of
mark_open t p k ridge e = rw e refl
