-- Theorems on the definitions of specs/Calls.
use Rattle.std.specs.Prelude.{◌≡◌, refl, ◌⊎◌, length, drop}
use Rattle.std.proofs.Common.{sym, inl, arith}
use Rattle.std.proofs.Math.Path.{subst}
use Rattle.std.proofs.Math.Logic.{inr}
use mathlib.Core.List.{List, [], ◌∷◌, map, flat_map, Memᴰ}
use Prim.Native.Nat.{Ordering}
use Prim.Native.Nat.{ℕ, zero, suc, ◌+◌, ◌≤◌, ◌<◌, compare}
use Rattle.std.proofs.Math.ListN.{get_or}
use Rattle.definitions.specs.Lists.{count_from}
use Rattle.definitions.specs.Outcome.{answered}
use Rattle.definitions.specs.Vectors.{Vec}
use Rattle.definitions.specs.Subspace.{Subspace}
use Rattle.definitions.specs.Orbits.{Row, image}
use Rattle.definitions.specs.Figures.{Figure, Elements, dyad, move_ends, sort_strong}
use Rattle.definitions.specs.Search.{Facet, Found}
use Rattle.definitions.specs.Recursion.{Rules, Entry, Answer, Call, Inner, vertex_ridge, move_sorted, rows_within}
use Rattle.definitions.specs.Faceting.{Prepared, possible_facets, at_orbit, split, facet_images, entry_of, entries_of}
use Rattle.definitions.specs.Faceting.{compare_entries, finish, faceting}
use Rattle.laws.specs.Lists.{Mem, of_map, of_flat_map, of_count}
use Rattle.laws.specs.Orders.{lt_compare}
use Rattle.laws.specs.Sorting.{of_sorted}
use Rattle.laws.specs.Ascending.{SameItems}
use Rattle.laws.specs.Ranges.{Permutes, same_flat_map}
use Rattle.shapes.specs.Answered.{Preparation, AnsweredCall, answered_call}
use Rattle.shapes.specs.LowRanks.{RankTwo, rank_two}
use Rattle.shapes.specs.Shape.{Element, Stack, Shaped, shaped_drop}
use Rattle.shapes.proofs.Move.{moved_shaped, raised_shaped}
use Rattle.shapes.specs.FigureOf.{Stacked}
use Rattle.shapes.proofs.FigureOf.{figure_shaped, figure_same}
use Rattle.shapes.specs.Sets.{VertexSet, Rows, set_rising, row_into, rows_within_holds}
use Rattle.shapes.specs.Calls.{Below, Given, ShapedAnswer, at_or, call_row, call_set, facet_rank, inner_enough}
use Rattle.shapes.specs.Calls.{inner_points, inner_set, inner_size}

-- ---- inner calls inherit

module _ (more : ℕ) (rules : Rules) (call : Call) (plane : Subspace) (points : List Vec) (rows : List Row)
    (p : Prepared) (made : Preparation more rules call plane points rows p) where
  pub inner_given : Rows (length points) rows → (i : Inner) → Mem i p.inner
      → Given (inner_points plane points i) (rows_within i.orbit.vertices rows)
  inner_given good i m =
      let e = inner_size more rules call plane points rows p made i in
      let k = inner_enough more rules call plane points rows p made i m in
      record {
        two = omega arith;
        rows_good =
            subst (λ (n : ℕ). Rows n (rows_within i.orbit.vertices rows)) (sym e) (rows_within_holds
            (length points) i.orbit.vertices (inner_set more rules call plane points rows p made i m) rows good);
      }

-- ---- rank 2

one_element : (n : ℕ) (empty points : Elements) (e : List ℕ) → Element n e → Shaped n 2 (empty ∷ points ∷ (e ∷ []) ∷ [])
one_element n empty points e h = record {
  empty = empty;
  vertices = points;
  ranks = (e ∷ []) ∷ [];
  is = refl;
  number = refl;
  tower = record {
    stack = (record { elements = only; distinct = alone }, tt);
    sorted = (((λ y i. elim i [ ]), tt), tt);
    crowned = refl;
  };
}
  where
    only : (d : List ℕ) → Mem d (e ∷ []) → Element n d
    only d (Memᴰ.head q) = subst (Element n) (sym q) h
    only d (Memᴰ.tail m) = elim m [ ]

    alone : ((y : List ℕ) → Mem y [] → e ≡ y → ⊥) × Unit {0}
    alone = ((λ y i. elim i [ ]), tt)

dyad_shaped : (n : ℕ) → 2 ≤ n → Shaped n 2 dyad
unfolding dyad
dyad_shaped n h =
    one_element n ([] ∷ []) ((0 ∷ []) ∷ (0 ∷ []) ∷ []) (0 ∷ 1 ∷ [])
    (record { ascends = (above, ((λ y i. elim i [ ]), tt)); below = ends })
  where
    above : (y : ℕ) → Mem y (1 ∷ []) → compare 0 y ≡ Ordering.lt
    above y (Memᴰ.head e) = lt_compare 0 y (omega arith)
    above y (Memᴰ.tail m) = elim m [ ]

    ends : (x : ℕ) → Mem x (0 ∷ 1 ∷ []) → x < n
    ends x (Memᴰ.head e) = omega arith
    ends x (Memᴰ.tail (Memᴰ.head e)) = omega arith
    ends x (Memᴰ.tail (Memᴰ.tail m)) = elim m [ ]

ridge_shaped : (n v : ℕ) → v < n → Shaped n 2 (vertex_ridge v)
unfolding vertex_ridge
ridge_shaped n v h =
    one_element n [] ((0 ∷ []) ∷ []) (v ∷ []) (record { ascends = ((λ y i. elim i [ ]), tt); below = end })
  where
    end : (x : ℕ) → Mem x (v ∷ []) → x < n
    end x (Memᴰ.head e) = omega arith
    end x (Memᴰ.tail m) = elim m [ ]

two_shaped : (n budget : ℕ) (a : Answer) → 2 ≤ n → RankTwo budget a → ShapedAnswer n 0 a
unfolding facet_rank
two_shaped n budget a h r = record {
  entries = λ e m. only e (subst (λ (es : List Entry). Mem e es) r.entries m);
  possible =
      λ fs m f i. ridge fs f i (of_map (λ (v : ℕ). vertex_ridge v ∷ []) fs (count_from 0 r.ends)
      (subst (λ (p : List (List Figure)). Mem fs p) r.possible m));
}
  where
    only : (e : Entry) → Mem e (record {
      list = map (λ (v : ℕ). (v, 0)) (count_from 0 r.ends);
      before = map (λ (v : ℕ). (v, 0)) (count_from 0 r.ends);
      figure = dyad;
    } ∷ []) → Shaped n 2 e.figure
    only e (Memᴰ.head q) = subst (λ (x : Entry). Shaped n 2 x.figure) (sym q) (dyad_shaped n h)
    only e (Memᴰ.tail m) = elim m [ ]

    few : (ends : ℕ) → (ends ≡ 1) ⊎ (ends ≡ 2) → ends ≤ n
    few ends (inl e) = omega arith
    few ends (inr e) = omega arith

    one : (v : ℕ) (f : Figure) → v < n → Mem f (vertex_ridge v ∷ []) → Shaped n 2 f
    one v f k (Memᴰ.head q) = subst (Shaped n 2) (sym q) (ridge_shaped n v k)
    one v f k (Memᴰ.tail m) = elim m [ ]

    ridge : (fs : List Figure) (f : Figure) → Mem f fs
        → (v : ℕ) × Mem v (count_from 0 r.ends) × (fs ≡ vertex_ridge v ∷ []) → Shaped n 2 f
    ridge fs f i q =
        let low = (of_count 0 r.ends q.0 q.1).1 in
        let most = few r.ends r.one_or_two_holds in
        one q.0 f (omega arith) (subst (λ (l : List Figure). Mem f l) q.2 i)

-- ---- above rank 2

module _ (n more : ℕ) (inner : List Inner) (sets : (i : Inner) → Mem i inner → VertexSet n i.orbit.vertices)
    (shaped : (i : Inner) → Mem i inner → ShapedAnswer (length i.orbit.vertices) more i.answer) where
  -- possible facets: the inner entries, their ends at this call's vertices
  pub possible_shaped : (i : Inner) → Mem i inner → (f : Figure) → Mem f (possible_facets i) → Shaped n (2 + more) f
  unfolding possible_facets
  possible_shaped i m f k =
      let to : ℕ → ℕ = λ v. get_or i.orbit.vertices v 0 in
      let r = of_map (λ (e : Entry). move_ends to e.figure) f i.answer.entries k in
      subst (Shaped n (2 + more)) (sym r.2)
      (raised_shaped (length i.orbit.vertices) n (2 + more) to (set_rising n i.orbit.vertices (sets i m)) r.0.figure
      ((shaped i m).entries r.0 r.1))

  -- a facet that there is has its shape, and none has no ranks
  abbrev ShapedOrNone : Figure → Type 0
  ShapedOrNone f = (f ≡ []) ⊎ Shaped n (2 + more) f

  some_facet : (f : Facet) → ShapedOrNone (get_or (at_orbit possible_facets inner f.0) f.1 [])
  unfolding at_orbit
  some_facet f =
      at_or ShapedOrNone (get_or (map possible_facets inner) f.0 []) f.1 [] (inl refl)
      (at_or (λ (fs : List Figure). (g : Figure) → Mem g fs → ShapedOrNone g) (map possible_facets inner) f.0 []
      (λ g m. elim m [ ])
      (λ fs m g k.
      let r = of_map possible_facets fs inner m in
      inr (possible_shaped r.0 r.1 g (subst (λ (l : List Figure). Mem g l) r.2 k))))

  moved_stack : (row : Row) → Permutes n row → (f : Figure) → ShapedOrNone f
      → Stack n (drop 2 (move_sorted (image row) f))
  unfolding move_sorted move_ends sort_strong
  moved_stack row p f (inl e) = subst (λ (g : Figure). Stack n (drop 2 (move_sorted (image row) g))) (sym e) tt
  moved_stack row p f (inr s) =
      let r = moved_shaped n n (2 + more) (image row) (row_into n row p) f s in
      subst (Stack n) (sym (shaped_drop n (2 + more) (move_sorted (image row) f) r)) r.tower.stack

module _ (p : Prepared) (sets : (i : Inner) → Mem i p.inner → VertexSet p.points i.orbit.vertices)
    (shaped : (i : Inner) → Mem i p.inner → ShapedAnswer (length i.orbit.vertices) p.more i.answer)
    (rows_good : (row : Row) → Mem row p.rows → Permutes p.points row) where
  -- all row images of a list's facets stand over the call's points
  pub images_stacked : (list : List Facet) → Stacked p.points (flat_map (facet_images p) list)
  unfolding facet_images
  images_stacked list g m =
      let r = of_flat_map (facet_images p) g list m in
      let figure = get_or (at_orbit possible_facets p.inner r.0.0) r.0.1 [] in
      let q = of_map (λ (row : Row). move_sorted (image row) figure) g p.rows r.2 in
      subst (λ (f : Figure). Stack p.points (drop 2 f)) (sym q.2)
      (moved_stack p.points p.more p.inner sets shaped q.0 (rows_good q.0 q.1) figure
      (some_facet p.points p.more p.inner sets shaped r.0))

  pub entry_shaped : (list : List Facet) → Shaped p.points (3 + p.more) (entry_of p list).figure
  unfolding entry_of
  entry_shaped list =
      figure_shaped p.points p.more (flat_map (facet_images p) (split p list)) (images_stacked (split p list))

-- ---- every call

finish_shaped : (p : Prepared) (found : Found) → ((i : Inner) → Mem i p.inner → VertexSet p.points i.orbit.vertices)
    → ((i : Inner) → Mem i p.inner → ShapedAnswer (length i.orbit.vertices) p.more i.answer)
    → ((row : Row) → Mem row p.rows → Permutes p.points row)
    → ShapedAnswer p.points (suc p.more) (finish p found)
unfolding finish entries_of facet_rank
finish_shaped p found sets shaped rows_good = record {
  entries = λ e m.
      let r = of_map (entry_of p) e found.lists (of_sorted compare_entries e (map (entry_of p) found.lists) m) in
      subst (λ (x : Entry). Shaped p.points (2 + suc p.more) x.figure) (sym r.2)
      (subst (λ (rank : ℕ). Shaped p.points rank (entry_of p r.0).figure) (omega arith)
      (entry_shaped p sets shaped rows_good r.0));
  possible = λ fs m f k.
      let r = of_map possible_facets fs p.inner m in
      possible_shaped p.points p.more p.inner sets shaped r.0 r.1 f (subst (λ (l : List Figure). Mem f l) r.2 k);
}

-- what a call has before its search
module _ (more : ℕ) (rules : Rules) (plane : Subspace) (points : List Vec) (rows : List Row) (p : Prepared)
    (given : Given points rows) (made : Preparation more rules (faceting more rules) plane points rows p) where
  abbrev call : Call
  call = faceting more rules

  call_shaped : Below more rules → (i : Inner) → Mem i p.inner → ShapedAnswer (length i.orbit.vertices) p.more i.answer
  call_shaped ih i m =
      let inner = made.inner.each i m in
      let its = inner_points plane points i in
      let r = ih _ its (rows_within i.orbit.vertices rows) inner.budget i.answer
      (inner_given more rules call plane points rows p made given.rows_good i m) inner.is in
      subst (λ (n : ℕ). ShapedAnswer n p.more i.answer) (inner_size more rules call plane points rows p made i)
      (subst (λ (k : ℕ). ShapedAnswer (length its) k i.answer) (sym made.more_is) r)

step : (more : ℕ) (rules : Rules) (plane : Subspace) (points : List Vec) (rows : List Row) (a : Answer)
    → Given points rows → AnsweredCall more rules plane points rows a → Below more rules
    → ShapedAnswer (length points) (suc more) a
step more rules plane points rows a given c ih =
    let p = c.before in
    let made = c.prepared in
    let whole : ShapedAnswer p.points (suc p.more) (finish p c.found) =
    finish_shaped p c.found (call_set more rules plane points rows p given made)
    (call_shaped more rules plane points rows p given made ih)
    (call_row more rules plane points rows p given made) in
    let at-points = subst (λ (n : ℕ). ShapedAnswer n (suc p.more) (finish p c.found)) made.points_are whole in
    let at_rank = subst (λ (k : ℕ). ShapedAnswer (length points) (suc k) (finish p c.found)) made.more_is at-points in
    subst (ShapedAnswer (length points) (suc more)) (sym c.is) at_rank

pub shaped_answer : (more : ℕ) (rules : Rules) (plane : Subspace) (points : List Vec) (rows : List Row) (budget : ℕ)
    (a : Answer) → Given points rows
    → faceting more rules plane points rows budget ≡ answered a → ShapedAnswer (length points) more a
shaped_answer zero rules plane points rows budget a given e =
    two_shaped (length points) budget a given.two (rank_two rules plane points rows budget a e)
shaped_answer (suc more) rules plane points rows budget a given e =
    step more rules plane points rows a given (answered_call more rules plane points rows budget a e)
    (shaped_answer more rules)

-- every answered call above rank 2, with a package or without
pub answered_shaped : (more : ℕ) (rules : Rules) (plane : Subspace) (points : List Vec) (rows : List Row) (a : Answer)
    → Given points rows → AnsweredCall more rules plane points rows a
    → ShapedAnswer (length points) (suc more) a
answered_shaped more rules plane points rows a given c =
    step more rules plane points rows a given c (shaped_answer more rules)

-- ---- the set of an entry's facets decides its figure

module _ (more : ℕ) (rules : Rules) (plane : Subspace) (points : List Vec) (rows : List Row) (p : Prepared)
    (given : Given points rows) (made : Preparation more rules (faceting more rules) plane points rows p) where
  -- the figures of an inner answer
  pub inner_shaped : (i : Inner) → Mem i p.inner → ShapedAnswer (length i.orbit.vertices) p.more i.answer
  inner_shaped = call_shaped more rules plane points rows p given made (shaped_answer more rules)

  -- all row images of any facets stand over the call's points
  pub call_stacked : (list : List Facet) → Stacked p.points (flat_map (facet_images p) list)
  call_stacked =
      images_stacked p (call_set more rules plane points rows p given made) inner_shaped
      (call_row more rules plane points rows p given made)

  -- two lists whose split lists have the same facets, in whatever order and however often, have the same figure
  pub figure_decided : (k l : List Facet) → SameItems (split p k) (split p l)
      → (entry_of p k).figure ≡ (entry_of p l).figure
  unfolding entry_of
  figure_decided k l same =
      figure_same p.points p.more (flat_map (facet_images p) (split p k)) (flat_map (facet_images p) (split p l))
      (call_stacked (split p k))
      (same_flat_map (facet_images p) (split p k) (split p l) same)
