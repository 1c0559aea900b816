-- `faceting::faceting` meets its contract: at rank 2 by the rows alone, and above by the laws of Loops. A turn keeps
-- one orbit more, a refusal in a turn is the call's, and at the end what the search says is what the call says.
use borrow.Author.Rules.{rules}
use mathlib.Core.Path.{◌≡◌, refl, sym, ap, ◌∙◌}
use mathlib.Core.Bool.{true, false}
use mathlib.Core.List.{List, ◌++◌}
use Prim.Native.Nat.{ℕ, ◌*◌, ◌-◌, ◌%◌, ◌^◌, ◌≤◌}
use native.Mathlib.Omega.{arith}
use lib.ListN.{length, take, drop, length-drop}
use Rattle.definitions.specs.Job.{number_at}
use Rattle.definitions.specs.Vectors.{Vec}
use Rattle.definitions.specs.Subspace.{Subspace}
use Rattle.rows.specs.Rows.{rows_in}
use Rattle.words.specs.Lent.{lent_tail, back_front, back_tail, back_length}
use Rattle.space.specs.Meaning.{subspace_of, points_of}
use Rattle.space.specs.Counts.{points_length}
use Rattle.orbits.specs.Answers.{CallFits}
use Rattle.stabilizers.specs.Permutations.{rows_fit_holds}
use Rattle.inner_answers.specs.Spaces.{laid_same, laid_as}
use Rattle.inner_answers.specs.Stored.{Storing}
use Rattle.refusals.specs.Refused.{handed_on}
use Rattle.refusals.specs.declared.Refusal.TheVariants.{Plane}
use Rattle.std.specs.Prelude.{Result, Ok, Err}
use Rattle.std.specs.Result.{MatchResult, is_ok}
use Rattle.layout.specs.declared.KeptLayout.{KeptLayout}
use Rattle.inner_answers.specs.AnswerMatches.{Step}
use Rattle.faceting.specs.Starts.{layout_empty}
use Rattle.faceting.specs.Ways.{way_of, way_extended}
use Rattle.faceting.specs.Loops as loops
use Rattle.faceting.proofs.Loops as loops_proved
use Rattle.faceting.specs.Loops.{Loop, outer_in}
use Rattle.faceting.proofs.+faceting.Goals as goal
use Rattle.faceting.proofs.+faceting.Goals.{After-flatten_all-flat, After-layout_for, After-faceting-called}

-- the loop of this call has begun for the call's own plane and points
begun : (t : ℕ) (c : After-layout_for t) → Loop (way_of c.flatten_all-flat.result.n c.args.way)
    (subspace_of c.args.plane) (points_of c.args.points) c.args.rank c.flatten_all-flat.result c.args.rows.bytes.now
    c.args.rows.count c.args.rules c.args.budget c.in_ok-count.count c.start_call.new.ws
begun t c =
    let a = c.args in
    let asked = c.requires in
    let start = c.start_call in
    let flat = c.flatten_all-flat in
    let above : 3 ≤ a.rank = omega (arith, c.if-rank-eq2.false, asked.rank_least) in
    loops_proved.begun a.rank a.plane a.points a.rows.bytes.now a.rows.count a.rules a.budget a.ws.now a.way asked
    above flat.result flat.ensures.0 flat.ensures.1 start.result start.new.ws start.ensures.0 _ c.in_ok-count.was
    start.ensures.1 start.auto.ws

-- ---- in a turn

-- a plane that is wanted stays as it is where the error is made a refusal
wanted_stays : {A E F : Type 0} (r : Result A E) (m : Result A F) (Q : E → Type 0) (a : A) → is_ok m ≡ is_ok r
    → MatchResult r (λ x. m ≡ Ok x) Q → m ≡ Ok a → r ≡ Ok a
wanted_stays (Ok x) m Q a same cases is = let e : Ok x ≡ Ok a = sym cases ∙ is in let f : x ≡ a = cc in ap Ok f
wanted_stays (Err e) m Q a same cases is = let no : false ≡ true = sym same ∙ ap is_ok is in cc

-- and a refusal stands for a plane that is not
unwanted_was : {A E F : Type 0} (r : Result A E) (m : Result A F) (d : F) → is_ok m ≡ is_ok r → m ≡ Err d
    → (e : E) × (r ≡ Err e)
unwanted_was (Ok x) m d same is = let no : true ≡ false = sym same ∙ ap is_ok is in absurd cc
unwanted_was (Err e) m d same is = (e, refl)

-- the set of the orbit that the layout has come to
set_here : (j k : ℕ) (s : List ℕ) (n set : ℕ) → j ≡ k → set ≡ number_at s (8 * k) 4 % 2 ^ n
    → set ≡ number_at s (8 * j) 4 % 2 ^ n
set_here j k s n set e is = rw e is

-- the workspace, with what it wrote behind what is kept
abbrev behind : KeptLayout → List ℕ → List ℕ → List ℕ
behind layout ws tail = take layout.end ws ++ (tail ++ drop (length ws - layout.end) (drop layout.end ws))

module _ (t : ℕ) (c : After-faceting-called t) {plane : Subspace} {points : List Vec}
    (b : Loop (way_of c.flatten_all-flat.result.n c.args.way) plane points c.args.rank c.flatten_all-flat.result
    c.args.rows.bytes.now c.args.rows.count c.args.rules c.args.budget c.in_ok-count.count c.start_call.new.ws) where
  step_at : Step
      (outer_in (way_of c.flatten_all-flat.result.n c.args.way) plane points c.args.rank c.flatten_all-flat.result
      c.args.rows.bytes.now c.args.rows.count c.args.rules c.args.budget) c.loop-k.done.layout c.loop-k.done.left
      c.loop-k.done.layout.orbits c.faceting-called.result c.next_call-next.new.inner c.next_call-next.result.m
      (behind c.loop-k.done.layout c.loop-k.ws c.faceting-called.new.ws)
  unfolding way_of
  step_at =
      let l = c.loop-k in
      let next = c.next_call-next in
      let inner = c.faceting-called in
      let tail = inner.new.ws in
      let st = l.invariant.2 plane points b in
      let end : l.done.layout.end ≤ length l.ws = st.keeps.fits.ends in
      let tail_long = inner.auto.ws ∙ ap length (lent_tail l.done.layout.end l.ws) in
      loops.turned b l.done.layout l.done.left l.ws st (omega (arith, l.invariant.3, c.loop-k-test.true))
      c.set_at-set.result (set_here l.done.layout.orbits l.k l.ws c.flatten_all-flat.result.n c.set_at-set.result
      l.invariant.3 c.set_at-set.ensures.0) next.result _ next.new.inner (search rules)
      next.ensures.points next.ensures.plane next.ensures.count next.ensures.rows _
      (wanted_stays next.result.plane c.map_err.result _ _ c.map_err.ensures.variant c.map_err.ensures.cases
      c.in_ok-inner_plane.was) inner.result (behind l.done.layout l.ws tail) l.invariant.1
      (back_front l.done.layout.end l.ws tail end tail_long)
      (back_length l.done.layout.end l.ws tail end tail_long)
      (rw (back_tail l.done.layout.end l.ws tail end tail_long) inner.ensures)

  behind_long : length (behind c.loop-k.done.layout c.loop-k.ws c.faceting-called.new.ws) ≡ length c.start_call.new.ws
  behind_long =
      let l = c.loop-k in
      let inner = c.faceting-called in
      back_length l.done.layout.end l.ws inner.new.ws (l.invariant.2 plane points b).keeps.fits.ends
      (inner.auto.ws ∙ ap length (lent_tail l.done.layout.end l.ws)) ∙ l.invariant.0

-- ---- the goals

-- src/lib.rt:169:9
pub returns-then-rank-eq2 : goal.returns-then-rank-eq2
returns-then-rank-eq2 t c =
    let a = c.args in
    let asked = c.requires in
    loops.says_ends (way_of a.points.n a.way) a.rank a.rules (subspace_of a.plane) (points_of a.points)
    (rows_in a.points.n a.rows.count a.rows.bytes.now) a.budget c.swaps_ends.result a.ws.now c.if-rank-eq2.true
    (c.swaps_ends.ensures a.points.n (omega (arith, asked.given.two, points_length a.points)) (omega (
      arith,
      a.points.fits.n_fits,
    )))

-- the rows fit the call's points, as passed and flattened
fits : (t : ℕ) (c : After-flatten_all-flat t)
    → CallFits c.args.points c.flatten_all-flat.result c.args.rows.count c.args.rows.bytes.now
fits t c =
    let a = c.args in
    let flat = c.flatten_all-flat in
    loops.call_fits a.rank a.plane a.points a.rows.bytes.now a.rows.count a.rules a.budget a.ws.now a.way c.requires
    (omega (arith, c.if-rank-eq2.false, c.requires.rank_least)) flat.result flat.ensures.0 flat.ensures.1

pub invariant_of-full : goal.invariant_of-full
invariant_of-full t c = record { permute = (fits t (goal.at.invariant_of-full t c).After-flatten_all-flat).permute }

pub invariant_of-pairs : goal.invariant_of-pairs
invariant_of-pairs t c = record { fit = rows_fit_holds c.requires.permute }

pub invariant_of-search : goal.invariant_of-search
invariant_of-search t c = record { fits = fits t (goal.at.invariant_of-search t c).After-flatten_all-flat }

pub start_call-requires : goal.start_call-requires
start_call-requires t c =
    let a = c.args in
    let flat = c.flatten_all-flat in
    loops.start_asks a.rank a.plane a.points a.rows.bytes.now a.rows.count a.rules a.budget a.ws.now a.way c.requires
    (omega (arith, c.if-rank-eq2.false, c.requires.rank_least)) flat.result flat.ensures.0 flat.ensures.1

pub returns-in_err-count : goal.returns-in_err-count
returns-in_err-count t c =
    let a = c.args in
    let flat = c.flatten_all-flat in
    let start = c.start_call in
    rw (handed_on _ _ c.from_residual.ensures.1) (loops_proved.start_refused a.rank a.plane a.points a.rows.bytes.now
    a.rows.count a.rules a.budget a.ws.now a.way c.requires (omega (
      arith,
      c.if-rank-eq2.false,
      c.requires.rank_least,
    )) flat.result flat.ensures.0 flat.ensures.1
    start.result start.new.ws start.ensures.0 _ c.in_err-count.was)

pub loop-k-init : goal.loop-k-init
loop-k-init t c =
    let is = c.layout_for.ensures in (
      refl,
      rw is laid_same,
      λ plane points l.
          loops.loop_first l c.layout_for.result is,
      rw is (layout_empty c.args.rank).0,
    )

pub set_at-set-requires : goal.set_at-set-requires
set_at-set-requires t c =
    let l = c.loop-k in
    let b = begun t (goal.at.set_at-set-requires t c).After-layout_for in
    let st = l.invariant.2 _ _ b in (
      omega (
        arith,
        st.keeps.fits.orbit_room,
        st.keeps.fits.edge_room,
        st.keeps.fits.label_room,
        st.keeps.fits.owner_room,
        st.keeps.fits.ridge_room,
        st.keeps.fits.place_room,
        st.keeps.fits.ends,
        st.keeps.few_orbits,
      ),
      c.flatten_all-flat.result.fits.n_fits,
    )

pub overflow_sub-rank : goal.overflow_sub-rank
overflow_sub-rank t c = c.requires.rank_least

pub next_call-next-requires : goal.next_call-next-requires
next_call-next-requires t c =
    let b = begun t (goal.at.next_call-next-requires t c).After-layout_for in
    (c.set_at-set.ensures.1, refl, omega (arith, b.rows_few))

pub shape_of-ws-in_err-inner_plane : goal.shape_of-ws-in_err-inner_plane
shape_of-ws-in_err-inner_plane t c = c.loop-k.invariant.0 ∙ c.start_call.auto.ws

pub returns-in_err-inner_plane : goal.returns-in_err-inner_plane
returns-in_err-inner_plane t c =
    let a = c.args in
    let b = begun t (goal.at.returns-in_err-inner_plane t c).After-layout_for in
    let l = c.loop-k in
    let next = c.next_call-next in
    let unwanted = unwanted_was next.result.plane c.map_err.result c.in_err-inner_plane.field-0.0
    c.map_err.ensures.variant c.in_err-inner_plane.was in
    let is : c.in_err-inner_plane.field-0.0 ≡ Plane = search rules in
    let whole = loops.refit_refused b l.done.layout l.done.left l.ws (l.invariant.2 _ _ b)
    (omega (arith, l.invariant.3, c.loop-k-test.true)) c.set_at-set.result (set_here l.done.layout.orbits l.k l.ws
    c.flatten_all-flat.result.n c.set_at-set.result l.invariant.3 c.set_at-set.ensures.0)
    next.result _ next.new.inner (search rules) next.ensures.points next.ensures.plane next.ensures.count
    next.ensures.rows unwanted.0 unwanted.1 in
    rw (handed_on _ _ c.from_residual-in_err-inner_plane.ensures.1, is)
    (loops.says_rank a.way a.rank b.rank_least c.flatten_all-flat.result.n a.points.n c.flatten_all-flat.ensures.1
    a.rules (subspace_of a.plane) (points_of a.points) a.rows.bytes.now a.rows.count a.budget (Err Plane) l.ws
    (loops.loop_refused b Plane l.ws whole))

pub invariant_of-inner_rows : goal.invariant_of-inner_rows
invariant_of-inner_rows t c =
    let b = begun t (goal.at.invariant_of-inner_rows t c).After-layout_for in
    let l = c.loop-k in
    let next = c.next_call-next in
    record {
      room =
          loops.inner_room b l.done.layout l.done.left l.ws (l.invariant.2 _ _ b)
          (omega (arith, l.invariant.3, c.loop-k-test.true)) c.set_at-set.result
          (set_here l.done.layout.orbits l.k l.ws c.flatten_all-flat.result.n c.set_at-set.result l.invariant.3
          c.set_at-set.ensures.0) next.result _ next.new.inner (search rules)
          next.ensures.points next.ensures.plane next.ensures.count next.ensures.rows _
          (wanted_stays next.result.plane c.map_err.result _ _ c.map_err.ensures.variant c.map_err.ensures.cases
          c.in_ok-inner_plane.was);
    }

pub overflow_sub-rank-in-loop-k : goal.overflow_sub-rank-in-loop-k
overflow_sub-rank-in-loop-k t c = omega (arith, c.requires.rank_least)

pub slice_bounds-faceting-count : goal.slice_bounds-faceting-count
slice_bounds-faceting-count t c =
    (c.loop-k.invariant.2 _ _ (begun t (goal.at.slice_bounds-faceting-count t c).After-layout_for)).keeps.fits.ends

pub slice_bounds-faceting-start : goal.slice_bounds-faceting-start
slice_bounds-faceting-start t c =
    (c.loop-k.invariant.2 _ _ (begun t (goal.at.slice_bounds-faceting-start t c).After-layout_for)).keeps.fits.ends

pub faceting-called-requires : goal.faceting-called-requires
faceting-called-requires t c =
    let l = c.loop-k in
    let next = c.next_call-next in
    let b = begun t (goal.at.faceting-called-requires t c).After-layout_for in (
      omega (arith, c.decreases, b.rank_least),
      loops.inner_asks b l.done.layout l.done.left l.ws (l.invariant.2 _ _ b)
          (omega (arith, l.invariant.3, c.loop-k-test.true)) c.set_at-set.result
          (set_here l.done.layout.orbits l.k l.ws c.flatten_all-flat.result.n c.set_at-set.result l.invariant.3
          c.set_at-set.ensures.0) next.result _ next.new.inner (search rules)
          next.ensures.points next.ensures.plane next.ensures.count next.ensures.rows _
          (wanted_stays next.result.plane c.map_err.result _ _ c.map_err.ensures.variant c.map_err.ensures.cases
          c.in_ok-inner_plane.was) _ l.invariant.1 l.invariant.0 (ap length (lent_tail l.done.layout.end l.ws)
          ∙ length-drop l.done.layout.end l.ws),
    )

pub keep_inner-requires : goal.keep_inner-requires
keep_inner-requires t c =
    let at = goal.at.keep_inner-requires t c in
    let b = begun t at.After-layout_for in
    (_, c.loop-k.done.left, step_at t at.After-faceting-called b, b.size, loops.bound_is b)

pub shape_of-ws-in_err-done : goal.shape_of-ws-in_err-done
shape_of-ws-in_err-done t c =
    let at = goal.at.shape_of-ws-in_err-done t c in
    c.keep_inner.auto.ws ∙ (behind_long t at.After-faceting-called (begun t at.After-layout_for) ∙ c.start_call.auto.ws)

pub returns-in_err-done : goal.returns-in_err-done
unfolding Storing
returns-in_err-done t c =
    let at = goal.at.returns-in_err-done t c in
    let a = c.args in
    let flat = c.flatten_all-flat in
    let b = begun t at.After-layout_for in
    let stored =
    c.in_err-done.ensures _ c.loop-k.done.left (step_at t at.After-faceting-called b) b.size (loops.bound_is b) in
    let u = c.keep_inner.new.ws in
    rw (handed_on _ _ c.from_residual-in_err-done.ensures.1)
    (loops.says_rank a.way a.rank b.rank_least flat.result.n a.points.n flat.ensures.1 a.rules
    (subspace_of a.plane) (points_of a.points) a.rows.bytes.now a.rows.count a.budget (Err _) u
    (loops.loop_refused b _ u stored))

pub loop-k-preserved : goal.loop-k-preserved
unfolding Storing
loop-k-preserved t c =
    let at = goal.at.loop-k-preserved t c in
    let own = begun t at.After-layout_for in
    let stored = c.in_ok-done.ensures _ c.loop-k.done.left (step_at t at.After-faceting-called own) own.size
    (loops.bound_is own) in (
      c.keep_inner.auto.ws ∙ behind_long t at.After-faceting-called own,
      laid_as stored.laid c.loop-k.invariant.1,
      λ plane points b. (loops.one_further b _ _ _ _ (c.in_ok-done.ensures _ c.loop-k.done.left
          (step_at t at.After-faceting-called b) b.size (loops.bound_is b))).1,
      omega (arith, (loops.one_further own _ _ _ _ stored).0, c.loop-k.invariant.3),
    )

pub search_call-requires : goal.search_call-requires
search_call-requires t c =
    let l = c.loop-k in
    let b = begun t (goal.at.search_call-requires t c).After-layout_for in (
      _,
      loops.all_kept b l.done.layout l.done.left l.ws (l.invariant.2 _ _ b) l.invariant.1 (omega (
        arith,
        l.invariant.3,
        c.loop-k-test.false,
      )) l.invariant.0 _ (way_extended _ _ _ c.is_none.ensures),
    )

pub returns : goal.returns
returns t c =
    let a = c.args in
    let flat = c.flatten_all-flat in
    let l = c.loop-k in
    let b = begun t (goal.at.returns t c).After-layout_for in
    let all : c.in_ok-count.count ≤ l.done.layout.orbits = omega (arith, l.invariant.3, c.loop-k-test.false) in
    let r = c.search_call in
    loops.says_rank a.way a.rank b.rank_least flat.result.n a.points.n flat.ensures.1 a.rules (subspace_of a.plane)
    (points_of a.points) a.rows.bytes.now a.rows.count a.budget r.result r.new.ws
    (loops.loop_searched b l.done.layout l.done.left l.ws
    (l.invariant.2 _ _ b) l.invariant.1 all l.invariant.0 r.result r.new.ws
    (r.ensures _ (loops.all_kept b l.done.layout l.done.left l.ws
    (l.invariant.2 _ _ b) l.invariant.1 all l.invariant.0 _ (way_extended _ _ _ c.is_none.ensures))))
