-- The emitted lists: one more, and none at the start. Leans on Steps and Pool.
use Rattle.std.specs.Prelude.{◌≡◌, None, take, replicate}
use Rattle.std.proofs.Math.Path.{refl, sym, ap}
use Rattle.std.proofs.Common.{◌∙◌, inl, mul-le-mul_right, add-one}
use Rattle.std.proofs.Math.Logic.{⊎_elim}
use mathlib.Core.List.{List, [], ◌∷◌, ◌++◌, map, append-nil, append_assoc}
use Prim.Native.Nat.{ℕ, zero, suc, ◌+◌, ◌-◌, ◌*◌, ◌^◌, ◌≤◌, ◌<◌}
use native.Mathlib.Omega.{arith}
use Rattle.std.proofs.Math.ListN.{length, get_or, length-append, get_or-replicate, get_or-append}
use Rattle.std.proofs.lemmas.List.{length-map, length-replicate}
use Rattle.std.proofs.Math.Seq.{get_or-append_seam}
use borrow.Rule.Slice.PartMut.{put_same}
use Rattle.definitions.specs.Search.{Table, uses_orbit}
use Rattle.laws.specs.Options.{none_is_not_some}
use Rattle.laws.specs.Segments.{placed, part_length, placed_length, part_placed, take_placed, part_placed_off, le_or_lt}
use Rattle.pool.specs.Pool.{Sound, count, used, base, closed_lists, opened, emptied, pushed, ended, closed_length}
use Rattle.pool.specs.Pool.{emptied_sound, emptied_closed, emptied_opened, pushed_length, pushed_count, pushed_used}
use Rattle.pool.specs.Pool.{pushed_sound, pushed_closed, pushed_opened, ended_length, ended_count, ended_used}
use Rattle.pool.specs.Pool.{ended_sound, ended_closed, ended_opened}
use Rattle.facets.specs.declared.Areas.{Areas}
use Rattle.facets.specs.Kept.{map_last}
use Rattle.facets.specs.Frames.{root}
use Rattle.facets.specs.Layout.{Inputs, AreasFit, holds_kept, facet_of, numbers, code_of, totals_part, used_part}
use Rattle.facets.specs.Layout.{frames_part, lists_part, Totals, Uses, flag}
use Rattle.frames.specs.Paths.{kind_at, place_at, path, list_to, frames_to, taken_at, Path, PathHeld, Numbered, Emitted}
use Rattle.frames.specs.Paths.{emitted_in, pushed_all, with_frame}
use Rattle.totals.specs.Change.{placed_placed}
use Rattle.facets.specs.Sums.{sum_at}
use Rattle.facets.specs.Numbers.{numbers_all_length}
use Rattle.facets.proofs.Numbers.{numbers_length}
use Rattle.frames.specs.Places.{frame_length, frame_kind, frame_place, frame_frames}
use Rattle.frames.specs.Steps.{path_short, put_tables, put_frames, put_totals, put_used, put_lists, put_inputs}
use Rattle.words.specs.Words.{put, put_length, number_at_put, number_at_put_off}
use Rattle.definitions.specs.Lists.{any_of}

-- ---- items pushed one after another

pub pushed_last : (most : ℕ) (l vs : List ℕ) (v : ℕ)
    → pushed_all most l (vs ++ (v ∷ [])) ≡ pushed 2 most (pushed_all most l vs) v
unfolding pushed_all
pushed_last most l [] v = refl
pushed_last most l (w ∷ vs) v = pushed_last most (pushed 2 most l w) vs v

pub record Pushed (most : ℕ) (l vs r : List ℕ) : Type 0 where
  pub sound : Sound 2 most r
  pub long : length r ≡ length l
  pub items : used r ≡ used l + length vs
  pub lists : count r ≡ count l
  pub shut : closed_lists 2 most r ≡ closed_lists 2 most l
  pub rest : opened 2 most r ≡ opened 2 most l ++ vs

pub pushed_all_holds : (most : ℕ) (l vs : List ℕ) → Sound 2 most l → base most + 2 * (used l + length vs) ≤ length l
    → used l + length vs < 4294967296 → ((i : ℕ) → i < length vs → get_or vs i 0 < 65536)
    → Pushed most l vs (pushed_all most l vs)
unfolding pushed_all
pushed_all_holds most l [] ok room few small = record {
  sound = ok;
  long = refl;
  items = omega arith;
  lists = refl;
  shut = refl;
  rest = sym (append-nil (opened 2 most l));
}
pushed_all_holds most l (v ∷ vs) ok room few small =
    let r : base most + 2 * (used l + 1) ≤ length l = omega arith in
    let f : used l + 1 < 4294967296 = omega arith in
    let s : v < 256 ^ 2 = small 0 (omega arith) in
    let u = pushed_used 2 most l v ok r f s in
    let n = pushed_length 2 most l v ok r f s in
    let rest = pushed_all_holds most (pushed 2 most l v) vs (pushed_sound 2 most l v ok r f s) (omega arith)
    (omega arith) (λ i h. small (suc i) (omega arith)) in
    let i = rest.items in
    record {
      sound = rest.sound;
      long = rest.long ∙ n;
      items = omega arith;
      lists = rest.lists ∙ pushed_count 2 most l v ok r f s;
      shut = rest.shut ∙ pushed_closed 2 most l v ok r f s;
      rest =
          rest.rest ∙ (ap (λ (o : List ℕ). o ++ vs) (pushed_opened 2 most l v ok r f s)
          ∙ append_assoc (opened 2 most l) (v ∷ []) vs);
    }

-- ---- the path's facets

pub path_length : (p : List ℕ) (k : ℕ) → length (path p k) ≡ k
unfolding path
path_length p zero = refl
path_length p (suc k) = let e = path_length p k in length-append (path p k) (taken_at p k ∷ []) ∙ omega arith

-- ---- the lists' area replaced

module _ (a : Areas) (s q : List ℕ) (f : AreasFit a (length s)) (l : length q ≡ a.end - a.lists) where
  abbrev after : List ℕ
  after = placed a.lists (a.end - a.lists) s q

  pub lists_length : length after ≡ length s
  lists_length = placed_length a.lists (a.end - a.lists) s q (omega arith) l

  pub lists_tables : take a.frames after ≡ take a.frames s
  lists_tables = take_placed a.lists (a.end - a.lists) s q a.frames (omega arith) (omega arith)

  pub lists_frames : frames_part a after ≡ frames_part a s
  lists_frames =
      part_placed_off a.lists (a.end - a.lists) s q a.frames (a.totals - a.frames) (omega arith) l (inl (omega arith))

  pub lists_totals : totals_part a after ≡ totals_part a s
  lists_totals =
      part_placed_off a.lists (a.end - a.lists) s q a.totals (a.used - a.totals) (omega arith) l (inl (omega arith))

  pub lists_used : used_part a after ≡ used_part a s
  lists_used =
      part_placed_off a.lists (a.end - a.lists) s q a.used (a.lists - a.used) (omega arith) l (inl (omega arith))

  pub lists_are : lists_part a after ≡ q
  lists_are = part_placed a.lists (a.end - a.lists) s q (omega arith) l

  pub lists_inputs : (t : Table) → Inputs t a s → Inputs t a after
  lists_inputs t h = record { fits = rw lists_length f; holds = holds_kept t a s after f lists_tables h.holds }

  pub lists_held : (t : Table) (d m : ℕ) → PathHeld t a s d m → PathHeld t a after d m
  lists_held t d m st = record {
    inputs = lists_inputs t st.inputs;
    frames = rw lists_frames st.frames;
    totals = rw (lists_frames, lists_totals) st.totals;
    uses = rw (lists_frames, lists_used) st.uses;
  }

-- ---- one list more

numbered_last : (facets : ℕ) (lists : List (List ℕ)) (l : List ℕ) → Numbered facets lists
    → ((i : ℕ) → i < length l → get_or l i 0 < facets) → Numbered facets (lists ++ (l ∷ []))
numbered_last facets lists l h f k i m j =
    ⊎_elim before last (le_or_lt (suc k) (length lists))
  where
    before : suc k ≤ length lists → get_or (get_or (lists ++ (l ∷ [])) k []) i 0 < facets
    before q =
        let e = get_or-append lists (l ∷ []) [] k q in
        rw e (h k i q (rw e at j))

    last : length lists < suc k → get_or (get_or (lists ++ (l ∷ [])) k []) i 0 < facets
    last q =
        let n = length-append lists (l ∷ []) in
        let z : k ≡ length lists = omega arith in
        let e : get_or (lists ++ (l ∷ [])) k [] ≡ l = ap (λ (o : ℕ). get_or (lists ++ (l ∷ [])) o []) z
        ∙ get_or-append_seam lists l [] [] in
        rw e (f i (rw e at j))

unfoldable pub after_pushes : Areas → List ℕ → ℕ → List ℕ
after_pushes a s k = placed a.lists (a.end - a.lists) s (pushed_all a.bound (lists_part a s) (path (frames_part a s) k))

module _ (t : Table) (a : Areas) (s : List ℕ) (d : ℕ) (st : PathHeld t a s d d) (em : Emitted a (lists_part a s))
    (h : count (lists_part a s) < a.bound) where
  abbrev l : List ℕ
  l = lists_part a s

  abbrev p : List ℕ
  p = frames_part a s

  long : length l ≡ a.end - a.lists
  long = let f = st.inputs.fits in part_length a.lists (a.end - a.lists) s (omega arith)

  short : d ≤ a.orbits
  short = path_short t a s st.inputs p d d st.frames

  -- there is room for one list more
  product : count l * a.orbits + a.orbits ≤ a.bound * a.orbits
  product =
      let e : (count l + 1) * a.orbits ≤ a.bound * a.orbits = mul-le-mul_right a.orbits (let q = h in omega arith) in
      omega arith

  room : (k : ℕ) → k ≤ d → base a.bound + 2 * (used l + k) ≤ length l
  room k i = let f = st.inputs.fits in let r = em.room in omega (arith, long, short, product)

  few : (k : ℕ) → k ≤ d → used l + k < 4294967296
  few k i = let f = st.inputs.fits in let r = em.room in omega (arith, short, product)

  few_taken : (k : ℕ) → k ≤ d → (i : ℕ) → i < length (path p k) → get_or (path p k) i 0 < a.facets
  unfolding path
  few_taken zero h i j = absurd (omega arith)
  few_taken (suc k) h i j =
      let e = path_length p k in
      let n = length-append (path p k) (taken_at p k ∷ []) in
      ⊎_elim
      (λ q. rw (get_or-append (path p k) (taken_at p k ∷ []) 0 i q) (few_taken k (omega arith) i q))
      (λ q. let z : i ≡ length (path p k) = omega arith in let v = st.frames.taken k h in
      let w = ap (λ (o : ℕ). get_or (path p k ++ (taken_at p k ∷ [])) o 0) z
      ∙ get_or-append_seam (path p k) (taken_at p k) [] 0 in omega arith)
      (le_or_lt (suc i) (length (path p k)))

  small : (k : ℕ) → k ≤ d → (i : ℕ) → i < length (path p k) → get_or (path p k) i 0 < 65536
  small k h i j = let f = st.inputs.fits in let n = few_taken k h i j in omega arith

  pub all_pushed : (k : ℕ) → k ≤ d → Pushed a.bound l (path p k) (pushed_all a.bound l (path p k))
  all_pushed k i =
      let e = path_length p k in
      let r = room k i in
      let f = few k i in
      pushed_all_holds a.bound l (path p k) em.sound (rw e r) (rw e f) (small k i)

  pushed_long : (k : ℕ) → k ≤ d → length (pushed_all a.bound l (path p k)) ≡ a.end - a.lists
  pushed_long k i = (all_pushed k i).long ∙ long

  -- the loop over the path, k facets pushed
  pub pushes_none : s ≡ after_pushes a s 0
  unfolding after_pushes path pushed_all
  pushes_none = sym (put_same a.lists (a.end - a.lists) s)

  pub pushes_length : (k : ℕ) → k ≤ d → length (after_pushes a s k) ≡ length s
  unfolding after_pushes
  pushes_length k i = lists_length a s (pushed_all a.bound l (path p k)) st.inputs.fits (pushed_long k i)

  pub pushes_frames : (k : ℕ) → k ≤ d → frames_part a (after_pushes a s k) ≡ p
  unfolding after_pushes
  pushes_frames k i = lists_frames a s (pushed_all a.bound l (path p k)) st.inputs.fits (pushed_long k i)

  pub pushes_lists : (k : ℕ) → k ≤ d → lists_part a (after_pushes a s k) ≡ pushed_all a.bound l (path p k)
  unfolding after_pushes
  pushes_lists k i = lists_are a s (pushed_all a.bound l (path p k)) st.inputs.fits (pushed_long k i)

  pub pushes_room : (k : ℕ) → k < d → (base a.bound + 2 * (used (lists_part a (after_pushes a s k)) + 1)
      ≤ length (lists_part a (after_pushes a s k))) × (used (lists_part a (after_pushes a s k)) + 1 < 4294967296)
  pushes_room k i =
      let q = all_pushed k (omega arith) in
      let u = q.items in
      let n = q.long in
      let e = path_length p k in
      let r = room (suc k) i in
      let f = few (suc k) i in
      rw (pushes_lists k (omega arith)) (omega arith, omega arith)

  pub pushes_next : (k x : ℕ) (r : List ℕ) → k < d → x ≡ taken_at p k
      → r ≡ pushed 2 a.bound (lists_part a (after_pushes a s k)) x
      → placed a.lists (a.end - a.lists) (after_pushes a s k) r ≡ after_pushes a s (k + 1)
  unfolding after_pushes path
  pushes_next k x r i e q =
      let f = st.inputs.fits in
      placed_placed a.lists (a.end - a.lists) s (pushed_all a.bound l (path p k)) r (omega arith)
      (pushed_long k (omega arith))
      ∙ ap (placed a.lists (a.end - a.lists) s)
      (q ∙ (ap (λ (w : List ℕ). pushed 2 a.bound w x) (pushes_lists k (omega arith))
      ∙ (ap (pushed 2 a.bound (pushed_all a.bound l (path p k))) e
      ∙ (sym (pushed_last a.bound l (path p k) (taken_at p k))
      ∙ ap (λ (o : ℕ). pushed_all a.bound l (path p o)) (sym (add-one k))))))

  pub pushes_ready : (16 + 4 * count (lists_part a (after_pushes a s d)) ≤ length (lists_part a (after_pushes a s d)))
      × (count (lists_part a (after_pushes a s d)) + 1 < 4294967296)
  pushes_ready =
      let q = all_pushed d (omega arith) in
      let f = st.inputs.fits in
      let c = q.lists in
      let n = q.long in
      rw (pushes_lists d (omega arith)) (omega (arith, long), omega arith)

  pub pushes_end : (r : List ℕ) → r ≡ ended (lists_part a (after_pushes a s d))
      → placed a.lists (a.end - a.lists) (after_pushes a s d) r
      ≡ placed a.lists (a.end - a.lists) s (ended (pushed_all a.bound l (path p d)))
  unfolding after_pushes
  pushes_end r q =
      let f = st.inputs.fits in
      placed_placed a.lists (a.end - a.lists) s (pushed_all a.bound l (path p d)) r (omega arith)
      (pushed_long d (omega arith))
      ∙ ap (placed a.lists (a.end - a.lists) s) (q ∙ ap ended (pushes_lists d (omega arith)))

  -- ---- what the areas hold then

  abbrev new : List ℕ
  new = ended (pushed_all a.bound l (path p d))

  abbrev then : List ℕ
  then = placed a.lists (a.end - a.lists) s new

  more : count (pushed_all a.bound l (path p d)) < a.bound
  more = let c = (all_pushed d (omega arith)).lists in omega (arith, h)

  bounded : a.bound < 4294967296
  bounded = let f = st.inputs.fits in omega arith

  new_long : length new ≡ a.end - a.lists
  new_long =
      ended_length 2 a.bound (pushed_all a.bound l (path p d)) (all_pushed d (omega arith)).sound more bounded
      ∙ pushed_long d (omega arith)

  pub emit_held : PathHeld t a then d d
  emit_held = lists_held a s new st.inputs.fits new_long t d d st

  pub emit_tables : take a.frames then ≡ take a.frames s
  emit_tables = lists_tables a s new st.inputs.fits new_long

  pub emit_frames : frames_part a then ≡ p
  emit_frames = lists_frames a s new st.inputs.fits new_long

  pub emit_emitted : Emitted a (lists_part a then)
  emit_emitted =
      let q = all_pushed d (omega arith) in
      let c = ended_count 2 a.bound (pushed_all a.bound l (path p d)) q.sound more bounded in
      let u = ended_used 2 a.bound (pushed_all a.bound l (path p d)) q.sound more bounded in
      let i = q.items in
      let n = q.lists in
      let e = path_length p d in
      let r = em.room in
      let z : count new ≡ count l + 1 = c ∙ ap (λ (o : ℕ). o + 1) n in
      rw (lists_are a s new st.inputs.fits new_long)
      (record {
        sound = ended_sound 2 a.bound (pushed_all a.bound l (path p d)) q.sound more bounded;
        none = ended_opened 2 a.bound (pushed_all a.bound l (path p d)) q.sound more bounded;
        numbered =
            rw (
              ended_closed 2 a.bound (pushed_all a.bound l (path p d)) q.sound more bounded,
              q.shut,
              q.rest,
              em.none,
            )
            (numbered_last a.facets (closed_lists 2 a.bound l) (path p d) em.numbered (few_taken d (omega arith)));
        room = rw (z, u) (omega (arith, short));
      })

  pub emit_lists : emitted_in t a (lists_part a then) ≡ emitted_in t a l ++ (list_to t p d ∷ [])
  unfolding emitted_in list_to
  emit_lists =
      let q = all_pushed d (omega arith) in
      let e : closed_lists 2 a.bound (pushed_all a.bound l (path p d))
      ++ (opened 2 a.bound (pushed_all a.bound l (path p d)) ∷ []) ≡ closed_lists 2 a.bound l ++ (path p d ∷ []) =
      rw (q.shut, q.rest, em.none) refl in
      rw (lists_are a s new st.inputs.fits new_long)
      (ap (map (map (facet_of t))) (ended_closed 2 a.bound (pushed_all a.bound l (path p d)) q.sound more bounded ∙ e)
      ∙ map_last (map (facet_of t)) (closed_lists 2 a.bound l) (path p d))

-- while the path is pushed the sizes and the frames are as they were
module _ {t : Table} {a : Areas} {s : List ℕ} {d : ℕ} (st : PathHeld t a s d d) (em : Emitted a (lists_part a s))
    (h : count (lists_part a s) < a.bound) {k : ℕ} (w : List ℕ) (i : k ≤ d) (e : w ≡ after_pushes a s k) where
  pub pushing_fits : AreasFit a (length w)
  pushing_fits = rw (e, pushes_length t a s d st em h k i) st.inputs.fits

  pub pushing_frames : frames_part a w ≡ frames_part a s
  pushing_frames = ap (frames_part a) e ∙ pushes_frames t a s d st em h k i

-- as many as the area says
pub emitted_count : (t : Table) (a : Areas) (l : List ℕ) → length (emitted_in t a l) ≡ count l
unfolding emitted_in
emitted_count t a l = length-map (closed_lists 2 a.bound l) (map (facet_of t)) ∙ closed_length 2 a.bound l

-- ---- the start

pub record Started (t : Table) (a : Areas) (s₀ s : List ℕ) : Type 0 where
  pub stands : PathHeld t a s 1 0
  pub frames : frames_to t (frames_part a s) 1 ≡ root t ∷ []
  pub emitted : Emitted a (lists_part a s)
  pub none : emitted_in t a (lists_part a s) ≡ []
  pub tables : take a.frames s ≡ take a.frames s₀

-- no item in an empty region
emptied_used : (l : List ℕ) → 12 ≤ length l → used (emptied l) ≡ 0
unfolding used emptied
emptied_used l h =
    let n = put_length 4 l 0 0 in
    number_at_put_off 4 (put 4 (put 4 l 0 0) 4 0) 8 0 4 4 (inl (omega arith))
    ∙ number_at_put 4 (put 4 l 0 0) 4 0 (omega arith) (omega arith)

emptied_length : (l : List ℕ) → length (emptied l) ≡ length l
unfolding emptied
emptied_length l = simp put_length

module _ (t : Table) (a : Areas) (s r1 r2 r3 r4 : List ℕ) (h : Inputs t a s) where
  abbrev s1 : List ℕ
  s1 = placed a.totals (a.used - a.totals) s r1

  abbrev s2 : List ℕ
  s2 = placed a.used (a.lists - a.used) s1 r2

  abbrev s3 : List ℕ
  s3 = placed a.lists (a.end - a.lists) s2 r3

  abbrev s4 : List ℕ
  s4 = placed a.frames (a.totals - a.frames) s3 r4

  module _ (e1 : r1 ≡ replicate (length (totals_part a s)) 0) (e2 : r2 ≡ replicate (length (used_part a s1)) 0)
      (e3 : r3 ≡ emptied (lists_part a s2)) (e4 : r4 ≡ with_frame (frames_part a s3) 0 a.facets 0 0 None) where
    long_1 : length r1 ≡ a.used - a.totals
    long_1 =
        let f = h.fits in
        ap length e1
        ∙ (length-replicate (length (totals_part a s)) 0 ∙ part_length a.totals (a.used - a.totals) s (omega arith))

    size_1 : length s1 ≡ length s
    size_1 = let f = h.fits in placed_length a.totals (a.used - a.totals) s r1 (omega arith) long_1

    long_2 : length r2 ≡ a.lists - a.used
    long_2 =
        let f = h.fits in
        ap length e2 ∙ (length-replicate (length (used_part a s1)) 0
        ∙ part_length a.used (a.lists - a.used) s1 (omega (arith, size_1)))

    size_2 : length s2 ≡ length s
    size_2 = let f = h.fits in placed_length a.used (a.lists - a.used) s1 r2 (omega (arith, size_1)) long_2 ∙ size_1

    fits_2 : AreasFit a (length s2)
    fits_2 = rw size_2 h.fits

    tables_2 : take a.frames s2 ≡ take a.frames s
    tables_2 =
        let f = h.fits in
        take_placed a.used (a.lists - a.used) s1 r2 a.frames (omega (arith, size_1)) (omega arith)
        ∙ take_placed a.totals (a.used - a.totals) s r1 a.frames (omega arith) (omega arith)

    inputs_2 : Inputs t a s2
    inputs_2 = record { fits = fits_2; holds = holds_kept t a s s2 h.fits tables_2 h.holds }

    totals_2 : totals_part a s2 ≡ r1
    totals_2 =
        let f = h.fits in
        part_placed_off a.used (a.lists - a.used) s1 r2 a.totals (a.used - a.totals) (omega (arith, size_1)) long_2
        (inl (omega arith))
        ∙ part_placed a.totals (a.used - a.totals) s r1 (omega arith) long_1

    used_2 : used_part a s2 ≡ r2
    used_2 = let f = h.fits in part_placed a.used (a.lists - a.used) s1 r2 (omega (arith, size_1)) long_2

    lists_long : length (lists_part a s2) ≡ a.end - a.lists
    lists_long = let f = fits_2 in part_length a.lists (a.end - a.lists) s2 (omega arith)

    long_3 : length r3 ≡ a.end - a.lists
    long_3 = ap length e3 ∙ (emptied_length (lists_part a s2) ∙ lists_long)

    inputs_3 : Inputs t a s3
    inputs_3 = lists_inputs a s2 r3 fits_2 long_3 t inputs_2

    frames_long : length (frames_part a s3) ≡ a.totals - a.frames
    frames_long = let f = inputs_3.fits in part_length a.frames (a.totals - a.frames) s3 (omega arith)

    pub first_room : 16 * 0 + 16 ≤ length (frames_part a s3)
    first_room = let f = h.fits in omega (arith, frames_long)

    few_facets_holds : a.facets < 4294967296
    few_facets_holds = let f = h.fits in omega arith

    zero_small : 0 < 4294967296
    zero_small = omega arith

    zero_mark : 0 < 65536
    zero_mark = omega arith

    no_code : code_of None < 65536
    unfolding code_of
    no_code = omega arith

    long_4 : length r4 ≡ a.totals - a.frames
    long_4 =
        ap length e4 ∙ (frame_length (frames_part a s3) 0 a.facets 0 0 None first_room few_facets_holds zero_small
        zero_mark no_code ∙ frames_long)

    kind_0 : kind_at r4 0 ≡ None
    kind_0 =
        ap (λ (r : List ℕ). kind_at r 0) e4
        ∙ frame_kind (frames_part a s3) 0 a.facets 0 0 None first_room few_facets_holds zero_small zero_mark no_code

    place_0 : place_at r4 0 ≡ a.facets
    place_0 =
        ap (λ (r : List ℕ). place_at r 0) e4
        ∙ frame_place (frames_part a s3) 0 a.facets 0 0 None first_room few_facets_holds zero_small zero_mark no_code

    all_facets_holds : a.facets ≡ length (numbers t None)
    all_facets_holds = h.holds.facets ∙ sym (numbers_all_length t)

    first_path : Path t a r4 1 0
    unfolding sum_at list_to path
    first_path = record {
      kinds = λ k l. let z : k ≡ 0 = omega arith in rw (z, kind_0) (λ ridge e. absurd (none_is_not_some ridge e));
      places = λ k l. let z : k ≡ 0 = omega arith in rw (z, kind_0, place_0) (omega (arith, all_facets_holds));
      taken = λ k l. absurd (omega arith);
      fresh = λ k l. absurd (omega arith);
      light = λ k l ridge r. let z : k ≡ 0 = omega arith in rw z (omega arith);
      inside = omega arith;
      near = omega arith;
    }

    no_totals : Totals t a [] r1
    unfolding sum_at
    no_totals ridge r =
        let f = h.fits in
        ap (λ (l : List ℕ). get_or l ridge 0) e1 ∙ get_or-replicate (length (totals_part a s)) ridge 0 0 (let n =
        part_length a.totals (a.used - a.totals) s (omega arith) in omega arith)

    no_uses : Uses a [] r2
    unfolding uses_orbit any_of flag
    no_uses orbit o =
        let f = h.fits in
        ap (λ (l : List ℕ). get_or l orbit 0) e2 ∙ get_or-replicate (length (used_part a s1)) orbit 0 0 (let n =
        part_length a.used (a.lists - a.used) s1 (omega (arith, size_1)) in omega arith)

    first_is : record {
      list = list_to t (frames_part a s3) 0;
      mark = 0;
      ridge = None;
      low = 0;
      place = a.facets;
    } ∷ frames_to t (frames_part a s3) 0 ≡ root t ∷ []
    unfolding root list_to path frames_to
    first_is = rw (all_facets_holds ∙ sym (numbers_length t None)) refl

    none_emitted : lists_part a s4 ≡ emptied (lists_part a s2) → base a.bound ≤ length (lists_part a s2)
        → emitted_in t a (lists_part a s4) ≡ []
    unfolding emitted_in
    none_emitted e b = rw (e, emptied_closed 2 a.bound (lists_part a s2) b) refl

    pub started : Started t a s s4
    unfolding root list_to path frames_to
    started =
        let f3 = inputs_3.fits in
        let lists-4 : lists_part a s4 ≡ emptied (lists_part a s2) = put_lists a s3 r4 f3 long_4
        ∙ (lists_are a s2 r3 fits_2 long_3 ∙ e3) in
        let b : base a.bound ≤ length (lists_part a s2) = (let f = h.fits in omega (arith, lists_long)) in
        record {
          stands = record {
            inputs = put_inputs a s3 r4 f3 long_4 t inputs_3;
            frames = rw (put_frames a s3 r4 f3 long_4) first_path;
            totals = rw (put_totals a s3 r4 f3 long_4, lists_totals a s2 r3 fits_2 long_3, totals_2) no_totals;
            uses = rw (put_used a s3 r4 f3 long_4, lists_used a s2 r3 fits_2 long_3, used_2) no_uses;
          };
          frames =
              rw (put_frames a s3 r4 f3 long_4, e4)
              (frame_frames (frames_part a s3) 0 a.facets 0 0 None first_room few_facets_holds zero_small zero_mark
              no_code t ∙ first_is);
          emitted = rw lists-4 (record {
            sound = emptied_sound 2 a.bound (lists_part a s2) b;
            none = emptied_opened 2 a.bound (lists_part a s2) b;
            numbered = rw (emptied_closed 2 a.bound (lists_part a s2) b) (λ k i m j. absurd (omega arith));
            room = let u = emptied_used (lists_part a s2) (omega arith) in omega arith;
          });
          none = none_emitted lists-4 b;
          tables = put_tables a s3 r4 f3 long_4 ∙ (lists_tables a s2 r3 fits_2 long_3 ∙ tables_2);
        }
