-- The lists put in and not yet examined, as frames: for each depth the list that put them in and a place among its
-- candidates. Examining the latest of the pending lists is to take the last candidate below the place of the deepest
-- frame. Over any table. Leans on the definition of the search and on Kept.
use Rattle.std.specs.Prelude.{◌≡◌, Bool, not, T, leb, ltb, get_or, take, drop, replicate}
use Rattle.std.proofs.Math.Path.{refl, ap}
use Rattle.std.proofs.Common.{sym, ◌∙◌, subst, arith, le→leb, leb→le}
use Rattle.std.proofs.Math.Bool.{true, false}
use mathlib.Core.List.{List, [], ◌∷◌, ◌++◌, map, flat_map, reverse_aux, append-nil}
use Rattle.std.specs.Prelude.{Option, Some, None}
use Prim.Native.Nat.{ℕ, zero, suc, ◌+◌, ◌≤◌, ◌<◌}
use Rattle.std.proofs.Math.ListN.{length, length-append}
use Rattle.std.proofs.Math.Seq.{take-length}
use Rattle.definitions.specs.Lists.{any_of, keep, place_of, map_at, count_from}
use Rattle.definitions.specs.Outcome.{Outcome, refused, answered, refuse_if}
use Rattle.definitions.specs.Search.{Table, Facet, Share, Item, Verdict, over, closed, totals, judge, all_facets}
use Rattle.definitions.specs.Search.{starts, uses_orbit, may_join, joined, ones_at, open_next, closed_next, put_in}
use Rattle.definitions.specs.Search.{Found, EntryLimits, limit_reached, emit, emit_if, examine}
use Rattle.laws.specs.Bools.{holds→true}
use Rattle.laws.specs.Lists.{Mem, of_map, of_map_at, in_replicate, keep_append}
use Rattle.laws.specs.Pairs.{Pairs, pairs_flat_map, pairs_replicate}
use Rattle.facets.specs.Kept.{reverse_last, keep_one, keep_none, keep_and, keep_repeated, keep_above, stretch_last}
use Rattle.facets.specs.Kept.{stretch_none, map_last}

-- the facets that a list may be joined by, whatever its mark and its orbits: those with a share 1 at a ridge orbit,
-- once per such share, or all
unfoldable pub candidates : Table → Option ℕ → List Facet
candidates t None = all_facets t
candidates t (Some ridge) = flat_map (λ (f : Facet). replicate (ones_at t ridge f) f) (all_facets t)

unfoldable pub above : ℕ → Facet → Bool
above mark f = ltb mark f.0

unfoldable pub unused : List Facet → Facet → Bool
unused list f = not (uses_orbit f.0 list)

-- a list with its mark, the ridge orbit at which it is open, if any, and the places from `low` to below `place` among
-- its candidates
pub record Frame : Type 0 where
  pub list : List Facet
  pub mark : ℕ
  pub ridge : Option ℕ
  pub low : ℕ
  pub place : ℕ

-- at an open list the mark stays, at a closed one it moves
unfoldable pub mark_of : Option ℕ → ℕ → Facet → ℕ
mark_of None mark f = f.0
mark_of (Some ridge) mark f = mark

unfoldable pub child : List Facet → ℕ → Option ℕ → Facet → Item
child list mark ridge f = record { list = list ++ (f ∷ []); mark = mark_of ridge mark f }

-- the candidates of a frame that are still to be taken
unfoldable pub waiting : Table → List Facet → Option ℕ → ℕ → ℕ → List Facet
waiting t list ridge low place = keep (unused list) (drop low (take place (candidates t ridge)))

unfoldable pub put_by : Table → Frame → List Item
put_by t fr = map (child fr.list fr.mark fr.ridge) (waiting t fr.list fr.ridge fr.low fr.place)

-- the pending lists of frames, the deepest frame first
unfoldable pub pending : Table → List Frame → List Item
pending t [] = []
pending t (fr ∷ frames) = reverse_aux (put_by t fr) (pending t frames)

-- the frame with which a list is entered
unfoldable pub low_of : Table → ℕ → Option ℕ → ℕ
low_of t mark ridge = place_of (above mark) (candidates t ridge)

unfoldable pub entered : Table → List Facet → ℕ → Option ℕ → Frame
entered t list mark ridge = record {
  list = list;
  mark = mark;
  ridge = ridge;
  low = low_of t mark ridge;
  place = length (candidates t ridge);
}

-- the frame of the starts: an empty list, which any facet may join
unfoldable pub root : Table → Frame
root t = record { list = []; mark = 0; ridge = None; low = 0; place = length (candidates t None) }

-- the frame with another place
unfoldable pub moved : Frame → ℕ → Frame
moved fr place = record { list = fr.list; mark = fr.mark; ridge = fr.ridge; low = fr.low; place = place }

-- ---- candidates ascend by orbit

abbrev pub Ascends : List Facet → Type 0
Ascends = Pairs (λ (f g : Facet). f.0 ≤ g.0)

abbrev orbit_facets : ℕ → List (List Share) → List Facet
orbit_facets orbit facets = map (λ (f : ℕ). (orbit, f)) (count_from 0 (length facets))

-- the facets of one orbit have that orbit
one_orbit : (orbit : ℕ) (l : List ℕ) → Ascends (map (λ (f : ℕ). (orbit, f)) l)
one_orbit orbit [] = tt
one_orbit orbit (x ∷ l) = (
  (λ g m. let r = of_map (λ (n : ℕ). (orbit, n)) g l m in let e = ap (λ (h : Facet). h.0) r.2 in omega arith),
  one_orbit orbit l,
)

in_orbit : (orbit : ℕ) (facets : List (List Share)) (f : Facet) → Mem f (orbit_facets orbit facets) → f.0 ≡ orbit
in_orbit orbit facets f m =
    ap (λ (h : Facet). h.0) (of_map (λ (n : ℕ). (orbit, n)) f (count_from 0 (length facets)) m).2

abbrev Before : List Facet → List Facet → Type 0
Before fs gs = (f : Facet) → Mem f fs → (g : Facet) → Mem g gs → f.0 ≤ g.0

orbits_ascend_holds : (a : ℕ) (l : List (List (List Share))) → Pairs Before (map_at orbit_facets a l)
unfolding map_at
orbits_ascend_holds a [] = tt
orbits_ascend_holds a (x ∷ l) = (later, orbits_ascend_holds (suc a) l)
  where
    later : (gs : List Facet) → Mem gs (map_at orbit_facets (suc a) l) → Before (orbit_facets a x) gs
    later gs m f h g k =
        let p = of_map_at orbit_facets [] gs (suc a) l m in
        let q = in_orbit (suc a + p.0) (get_or l p.0 []) g (subst (λ (s : List Facet). Mem g s) p.2 k) in
        let r = in_orbit a x f h in
        omega arith

pub facets_ascend : (t : Table) → Ascends (all_facets t)
unfolding all_facets
facets_ascend t =
    pairs_flat_map Before (λ (f g : Facet). f.0 ≤ g.0) (λ (fs : List Facet). fs) (map_at orbit_facets 0 t.shares)
    within (λ fs i gs j before f h g k. before f h g k) (orbits_ascend_holds 0 t.shares)
  where
    within : (fs : List Facet) → Mem fs (map_at orbit_facets 0 t.shares) → Ascends fs
    within fs m =
        let p = of_map_at orbit_facets [] fs 0 t.shares m in
        subst Ascends (sym p.2) (one_orbit (0 + p.0) (count_from 0 (length (get_or t.shares p.0 []))))

pub candidates_ascend : (t : Table) (ridge : Option ℕ) → Ascends (candidates t ridge)
unfolding candidates
candidates_ascend t None = facets_ascend t
candidates_ascend t (Some ridge) =
    pairs_flat_map (λ (f g : Facet). f.0 ≤ g.0) (λ (f g : Facet). f.0 ≤ g.0)
    (λ (f : Facet). replicate (ones_at t ridge f) f) (all_facets t)
    (λ f m. pairs_replicate (λ (x y : Facet). x.0 ≤ y.0) (ones_at t ridge f) f (λ h. omega arith))
    (λ f i g j less u m v n. let a = ap (λ (x : Facet). x.0) (in_replicate (ones_at t ridge f) u f m) in
    let b = ap (λ (x : Facet). x.0) (in_replicate (ones_at t ridge g) v g n) in omega arith)
    (facets_ascend t)

-- ---- entering a list is to put in what it puts in

may_join_holds : (item : Item) (l : List Facet) → Ascends l
    → keep (may_join item) l ≡ keep (unused item.list) (drop (place_of (above item.mark) l) l)
unfolding may_join above unused
may_join_holds item l h =
    keep_and (λ (f : Facet). ltb item.mark f.0) (λ (f : Facet). not (uses_orbit f.0 item.list)) l
    ∙ ap (keep (λ (f : Facet). not (uses_orbit f.0 item.list))) (keep_above (λ (f : Facet). f.0) item.mark l h)

pub enter_open : (t : Table) (item : Item) (ridge : ℕ)
    → open_next t item ridge ≡ put_by t (entered t item.list item.mark (Some ridge))
unfolding open_next put_by entered waiting child mark_of candidates low_of joined
enter_open t item ridge =
    ap (map (joined item item.mark))
    (keep_repeated (may_join item) (ones_at t ridge) (all_facets t)
    ∙ (may_join_holds item (candidates t (Some ridge)) (candidates_ascend t (Some ridge))
    ∙ ap (λ (l : List Facet). keep (unused item.list) (drop (low_of t item.mark (Some ridge)) l))
    (sym (take-length (candidates t (Some ridge))))))

pub enter_closed : (t : Table) (item : Item) → closed_next t item ≡ put_by t (entered t item.list item.mark None)
unfolding closed_next put_by entered waiting child mark_of candidates low_of joined
enter_closed t item =
    ap (map (λ (f : Facet). joined item f.0 f))
    (may_join_holds item (candidates t None) (candidates_ascend t None)
    ∙ ap (λ (l : List Facet). keep (unused item.list) (drop (low_of t item.mark None) l))
    (sym (take-length (candidates t None))))

-- an empty list uses no orbit, so that every facet waits
all_wait : (l : List Facet) → keep (unused []) l ≡ l
unfolding keep unused uses_orbit any_of
all_wait [] = refl
all_wait (f ∷ l) = ap (λ (r : List Facet). f ∷ r) (all_wait l)

pub enter_root : (t : Table) → starts t ≡ put_by t (root t)
unfolding starts put_by root waiting child mark_of candidates
enter_root t =
    ap (map (λ (f : Facet). child [] 0 None f))
    (sym (all_wait (all_facets t)) ∙ ap (keep (unused [])) (sym (take-length (all_facets t))))

-- ---- the next candidate

-- a candidate whose orbit is used is passed over
pub pass_used : (t : Table) (list : List Facet) (ridge : Option ℕ) (low i : ℕ) (d : Facet) → low ≤ i
    → i < length (candidates t ridge)
    → T (not (unused list (get_or (candidates t ridge) i d)))
    → waiting t list ridge low (suc i) ≡ waiting t list ridge low i
unfolding waiting
pass_used t list ridge low i d h k n =
    ap (keep (unused list)) (stretch_last (candidates t ridge) low i d h k)
    ∙ (keep_append (unused list) (drop low (take i (candidates t ridge))) (get_or (candidates t ridge) i d ∷ [])
    ∙ (ap (λ (l : List Facet). keep (unused list) (drop low (take i (candidates t ridge)))
    ++ l) (keep_none (unused list) (get_or (candidates t ridge) i d) n)
    ∙ append-nil (keep (unused list) (drop low (take i (candidates t ridge))))))

-- another is the latest
pub take_unused : (t : Table) (list : List Facet) (ridge : Option ℕ) (low i : ℕ) (d : Facet) → low ≤ i
    → i < length (candidates t ridge)
    → T (unused list (get_or (candidates t ridge) i d))
    → waiting t list ridge low (suc i) ≡ waiting t list ridge low i ++ (get_or (candidates t ridge) i d ∷ [])
unfolding waiting
take_unused t list ridge low i d h k n =
    ap (keep (unused list)) (stretch_last (candidates t ridge) low i d h k)
    ∙ (keep_append (unused list) (drop low (take i (candidates t ridge))) (get_or (candidates t ridge) i d ∷ [])
    ∙ ap (λ (l : List Facet). keep (unused list) (drop low (take i (candidates t ridge))) ++ l)
    (keep_one (unused list) (get_or (candidates t ridge) i d) n))

-- below the lowest place none waits
pub none_waits : (t : Table) (list : List Facet) (ridge : Option ℕ) (low i : ℕ) → i ≤ low
    → waiting t list ridge low i ≡ []
unfolding waiting keep
none_waits t list ridge low i h = ap (keep (unused list)) (stretch_none (candidates t ridge) low i h)

-- ---- the pending lists of frames

-- a frame with no candidate left goes
pub pending_none : (t : Table) (fr : Frame) (frames : List Frame) → waiting t fr.list fr.ridge fr.low fr.place ≡ []
    → pending t (fr ∷ frames) ≡ pending t frames
unfolding pending put_by
pending_none t fr frames e =
    ap (λ (l : List Facet). reverse_aux (map (child fr.list fr.mark fr.ridge) l) (pending t frames)) e

-- the latest candidate of the deepest frame makes the latest list
pub pending_latest : (t : Table) (fr : Frame) (frames : List Frame) (place : ℕ) (f : Facet)
    → waiting t fr.list fr.ridge fr.low fr.place ≡ waiting t fr.list fr.ridge fr.low place ++ (f ∷ [])
    → pending t (fr ∷ frames) ≡ child fr.list fr.mark fr.ridge f ∷ pending t (moved fr place ∷ frames)
unfolding pending put_by moved
pending_latest t fr frames place f e =
    ap (λ (l : List Facet). reverse_aux (map (child fr.list fr.mark fr.ridge) l) (pending t frames)) e
    ∙ (ap (λ (l : List Item). reverse_aux l (pending t frames))
    (map_last (child fr.list fr.mark fr.ridge) (waiting t fr.list fr.ridge fr.low place) f)
    ∙ reverse_last (map (child fr.list fr.mark fr.ridge) (waiting t fr.list fr.ridge fr.low place))
    (child fr.list fr.mark fr.ridge f) (pending t frames))

-- ---- the search, step by step

module _ (t : Table) (limits : EntryLimits) where
  pub examine_none : (left : ℕ) (emitted : List (List Facet))
      → examine t limits left [] emitted ≡ answered (record { lists = emitted; left = left })
  unfolding examine
  examine_none zero emitted = refl
  examine_none (suc left) emitted = refl

  pub examine_spent : (item : Item) (later : List Item) (emitted : List (List Facet))
      → examine t limits 0 (item ∷ later) emitted ≡ refused 16
  unfolding examine
  examine_spent item later emitted = refl

  -- a list judged, by its verdict
  pub judged : (left : ℕ) (item : Item) (later : List Item) (emitted : List (List Facet)) (v : Verdict)
      → judge (totals t item.list) ≡ v
      → examine t limits (suc left) (item ∷ later) emitted ≡ emit_if v limits item.list left emitted
      (examine t limits left (reverse_aux (put_in limits.extended t item v) later))
  unfolding examine
  judged left item later emitted v e = rw e refl

  pub examine_over : (left : ℕ) (item : Item) (frames : List Frame) (emitted : List (List Facet))
      → judge (totals t item.list) ≡ over
      → examine t limits (suc left) (item ∷ pending t frames) emitted ≡ examine t limits left (pending t frames) emitted
  unfolding emit_if put_in
  examine_over left item frames emitted e = judged left item (pending t frames) emitted over e

  -- an entry past the bound
  pub examine_fifteen : (left : ℕ) (item : Item) (later : List Item) (emitted : List (List Facet))
      → judge (totals t item.list) ≡ closed → limits.bound ≤ length emitted
      → examine t limits (suc left) (item ∷ later) emitted ≡ refused 15
  unfolding emit_if emit refuse_if
  examine_fifteen left item later emitted e h =
      judged left item later emitted closed e
      ∙ rw (holds→true (leb limits.bound (length emitted)) (le→leb limits.bound (length emitted) h)) refl

  within : (emitted : List (List Facet)) → length emitted < limits.bound → leb limits.bound (length emitted) ≡ false
  within emitted h = go (leb limits.bound (length emitted)) refl
    where
      go : (b : Bool) → leb limits.bound (length emitted) ≡ b → b ≡ false
      go true e = absurd (let k = leb→le limits.bound (length emitted) (subst T (sym e) tt) in omega arith)
      go false e = refl

  pub emit_one : (list : List Facet) (left : ℕ) (emitted : List (List Facet))
      (next : List (List Facet) → Outcome Found) (b : Bool) → length emitted < limits.bound
      → limit_reached limits.limit (suc (length emitted)) ≡ b
      → emit limits list left emitted next ≡ elim b as (λ (x : Bool). Outcome Found) [
        | true ↦
            answered (record { lists = emitted ++ (list ∷ []); left = left })
        | false ↦ next (emitted ++ (list ∷ []))
      ]
  unfolding emit refuse_if
  emit_one list left emitted next b h e =
      let k : length (emitted ++ (list ∷ []))
      ≡ suc (length emitted) = (let q = length-append emitted (list ∷ []) in omega arith) in
      rw (within emitted h, k, e) refl

  -- the limit is tested behind the emission
  pub examine_stop : (left : ℕ) (item : Item) (later : List Item) (emitted : List (List Facet))
      → judge (totals t item.list) ≡ closed → length emitted < limits.bound
      → limit_reached limits.limit (suc (length emitted)) ≡ true
      → examine t limits (suc left) (item ∷ later) emitted ≡ answered (record {
        lists = emitted ++ (item.list ∷ []);
        left = left;
      })
  unfolding emit_if
  examine_stop left item later emitted e h r =
      judged left item later emitted closed e ∙ emit_one item.list left emitted
      (examine t limits left (reverse_aux (put_in limits.extended t item closed) later)) true h r

  -- or not
  pub examine_kept : (left : ℕ) (item : Item) (frames : List Frame) (emitted : List (List Facet))
      → judge (totals t item.list) ≡ closed → length emitted < limits.bound
      → limit_reached limits.limit (suc (length emitted)) ≡ false → limits.extended ≡ false
      → examine t limits (suc left) (item ∷ pending t frames) emitted
      ≡ examine t limits left (pending t frames) (emitted ++ (item.list ∷ []))
  unfolding emit_if put_in
  examine_kept left item frames emitted e h r x =
      judged left item (pending t frames) emitted closed e
      ∙ (emit_one item.list left emitted
      (examine t limits left (reverse_aux (put_in limits.extended t item closed) (pending t frames))) false h r
      ∙ ap (λ (b : Bool). examine t limits left (reverse_aux (put_in b t item closed) (pending t frames))
      (emitted ++ (item.list ∷ []))) x)
