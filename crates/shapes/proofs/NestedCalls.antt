-- Theorems on the definitions of specs/NestedCalls.
use Rattle.std.specs.Prelude.{◌≡◌, refl, ◌⊎◌, length}
use Rattle.std.proofs.Math.Path.{sym, ap, subst}
use Rattle.std.proofs.Common.{◌∙◌, inl, inr, arith}
use mathlib.Core.List.{List, [], ◌∷◌, map, flat_map, Memᴰ, map-map}
use Prim.Native.Nat.{ℕ, zero, suc, ◌≤◌, ◌<◌}
use Rattle.std.proofs.Math.ListN.{get_or}
use Rattle.definitions.specs.Lists.{count_from}
use Rattle.definitions.specs.Outcome.{answered}
use Rattle.definitions.specs.Vectors.{Vec}
use Rattle.definitions.specs.Subspace.{Subspace}
use Rattle.definitions.specs.Orbits.{Row, image}
use Rattle.definitions.specs.Figures.{Figure, dyad, move_ends, figure_of}
use Rattle.definitions.specs.Search.{Facet, Found}
use Rattle.definitions.specs.Recursion.{Rules, Entry, Answer, Inner, vertex_ridge, move_sorted, rows_within}
use Rattle.definitions.specs.Faceting.{Prepared, possible_facets, split, facet_images, entry_of, search_from, finish}
use Rattle.definitions.specs.Faceting.{faceting}
use Rattle.laws.specs.Lists.{Mem, of_map, of_flat_map, of_count, member_at, flat_map_same}
use Rattle.laws.specs.Places.{map_same, map_self, map_flat_map}
use Rattle.shapes.specs.Answered.{Preparation, AnsweredCall, answered_call}
use Rattle.shapes.specs.Emitted.{found_facet, entry_of_list}
use Rattle.shapes.specs.LowRanks.{RankTwo, rank_two, inner_at, inner_at_member, at_orbit_holds, facet_orbit}
use Rattle.shapes.specs.Sets.{set_rising, row_into}
use Rattle.shapes.specs.Calls.{Given, inner_points, inner_size, call_set, call_row}
use Rattle.shapes.proofs.Calls.{inner_given}
use Rattle.shapes.specs.SplitCalls.{InCall, SplitAnswer}
use Rattle.shapes.proofs.SplitCalls.{split_answer, split_in_call}
use Rattle.shapes.specs.EdgeSets.{ends}
use Rattle.shapes.specs.Levels.{ranks_of}
use Rattle.shapes.specs.Nested.{Nested, nested_in_order, NestedSet, move_nested, raise_nested, in_order_set, moved_set}
use Rattle.shapes.proofs.Nested.{raised_set}
use Rattle.shapes.specs.NestedFigures.{nested_figure, Pointed, pointed_figure, read_nested, nested_read}
use Rattle.shapes.proofs.NestedFigures.{figure_of_nested, nested_moved, nested_raised}
use Rattle.shapes.specs.NestedCalls.{Below, NestedAnswer, Nests, entry_points, facet_element, facet_figure}
use Rattle.shapes.specs.NestedCalls.{facet_points, facets_many, nested_facets, nested_images, ridge_figure}

-- ---- rank 2

dyad_nested : dyad ≡ nested_figure 2 zero (0, 1)
unfolding dyad nested_figure ranks_of ends
dyad_nested = refl

two_nested : (n budget : ℕ) (a : Answer) → 2 ≤ n → RankTwo budget a → NestedAnswer n zero a
unfolding ridge_figure entry_points
two_nested n budget a two r = record {
  entries = λ e m. only e (subst (λ (es : List Entry). Mem e es) r.entries m);
  possible =
      λ fs m f i. ridge fs f i (of_map (λ (v : ℕ). vertex_ridge v ∷ []) fs (count_from 0 r.ends)
      (subst (λ (p : List (List Figure)). Mem fs p) r.possible m));
}
  where
    only : (e : Entry) → Mem e (record {
      list = map (λ (v : ℕ). (v, 0)) (count_from 0 r.ends);
      before = map (λ (v : ℕ). (v, 0)) (count_from 0 r.ends);
      figure = dyad;
    } ∷ []) → Nests n 2 zero e.figure
    only e (Memᴰ.head q) =
        ((0, 1), ap (λ (x : Entry). x.figure) q ∙ dyad_nested, record { rises = omega arith; below = omega arith })
    only e (Memᴰ.tail m) = elim m [ ]

    few : (ends : ℕ) → (ends ≡ 1) ⊎ (ends ≡ 2) → ends ≤ n
    few ends (inl e) = omega arith
    few ends (inr e) = omega arith

    one : (v : ℕ) (f : Figure) → v < n → Mem f (vertex_ridge v ∷ []) → (w : ℕ) × (f ≡ vertex_ridge w) × (w < n)
    one v f k (Memᴰ.head q) = (v, q, k)
    one v f k (Memᴰ.tail m) = elim m [ ]

    ridge : (fs : List Figure) (f : Figure) → Mem f fs → (v : ℕ) × Mem v (count_from 0 r.ends)
        × (fs ≡ vertex_ridge v ∷ []) → (w : ℕ) × (f ≡ vertex_ridge w) × (w < n)
    ridge fs f i q =
        let low = (of_count 0 r.ends q.0 q.1).1 in
        let most = few r.ends r.one_or_two_holds in
        one q.0 f (omega arith) (subst (λ (l : List Figure). Mem f l) q.2 i)

-- ---- facets

module _ (more : ℕ) (rules : Rules) (plane : Subspace) (points : List Vec) (rows : List Row) (p : Prepared)
    (given : Given points rows)
    (made : Preparation more rules (faceting more rules) plane points rows p) where
  pub call_split : (i : Inner) → Mem i p.inner → SplitAnswer i.answer
  call_split i m = let inner = made.inner.each i m in split_answer more rules _ _ _ inner.budget i.answer inner.is

  -- the split list of a list found has facets of the call alone
  pub found_split_in_call : (found : Found) → search_from rules p ≡ answered found → (l : List Facet)
      → Mem l found.lists → (f : Facet) → Mem f (split p l) → InCall p f
  found_split_in_call found is_found_holds l m =
      split_in_call p call_split l (found_facet rules p found is_found_holds l m)

  call_nested : Below more rules → (i : Inner) → Mem i p.inner → NestedAnswer (length i.orbit.vertices) more i.answer
  call_nested ih i m =
      let call = faceting more rules in
      let inner = made.inner.each i m in
      let its = inner_points plane points i in
      subst (λ (n : ℕ). NestedAnswer n more i.answer) (inner_size more rules call plane points rows p made i)
      (ih _ its (rows_within i.orbit.vertices rows) inner.budget i.answer
      (inner_given more rules call plane points rows p made given.rows_good i m) inner.is)

  module _ (inner : (i : Inner) → Mem i p.inner → NestedAnswer (length i.orbit.vertices) more i.answer) where
    -- the inner entries, their ends at this call's vertices
    possible_from_holds : (i : Inner) → Mem i p.inner → (f : Figure) → Mem f (possible_facets i)
        → Nests p.points (entry_points more (length i.orbit.vertices)) more f
    unfolding possible_facets
    possible_from_holds i m f k =
        let vertices = i.orbit.vertices in
        let to : ℕ → ℕ = λ v. get_or vertices v 0 in
        let up = set_rising p.points vertices (call_set more rules plane points rows p given made i m) in
        let r = of_map (λ (e : Entry). move_ends to e.figure) f i.answer.entries k in
        let e = (inner i m).entries r.0 r.1 in (
          raise_nested to more e.0,
          r.2 ∙ ap (move_ends to) e.1
              ∙ nested_raised (length vertices) p.points to up (entry_points more (length vertices)) more e.0 e.2,
          raised_set (length vertices) p.points to up more e.0 e.2,
        )

    facet_from_holds : (f : Facet) → InCall p f
        → (facet_figure p f ≡ nested_figure (facet_points more p f) more (facet_element more p f))
        × NestedSet p.points more (facet_element more p f)
    unfolding facet_figure facet_element
    facet_from_holds f inside =
        let r = facet_orbit p.inner f inside in
        let own = inner_at p.inner f.0 in
        let e = at_orbit_holds possible_facets p.inner f.0 r.0 in
        let m = inner_at_member p.inner f.0 r.0 in
        let many = facets_many own in
        let is-facet = subst (λ (fs : List Figure). Mem (get_or fs f.1 []) (possible_facets own)) (sym e)
        (member_at (possible_facets own) f.1 [] (let k = r.1 in omega arith)) in
        let g = possible_from_holds own m (facet_figure p f) is-facet in
        let same : facet_element more p f ≡ g.0 = ap (read_nested more) g.1
        ∙ nested_read p.points (facet_points more p f) more g.0 g.2 in (
          g.1 ∙ ap (nested_figure (facet_points more p f) more) (sym same),
          subst (NestedSet p.points more) (sym same) g.2,
        )

    images_set : (f : Facet) → InCall p f → (x : Nested more) → Mem x (nested_images more p f)
        → NestedSet p.points more x
    unfolding nested_images
    images_set f inside x m =
        let r = of_map (λ (row : Row). move_nested (image row) more (facet_element more p f)) x p.rows m in
        subst (NestedSet p.points more) (sym r.2)
        (moved_set p.points p.points (image r.0)
        (row_into p.points r.0 (call_row more rules plane points rows p given made r.0 r.1)) more
        (facet_element more p f) (facet_from_holds f inside).1)

    pointed : Facet → List (Pointed more)
    pointed f = map (λ (x : Nested more). (facet_points more p f, x)) (nested_images more p f)

    images_from : (f : Facet) → InCall p f → facet_images p f ≡ map (pointed_figure more) (pointed f)
    unfolding facet_images facet_figure pointed nested_images
    images_from f inside =
        let x = facet_element more p f in
        let many = facet_points more p f in
        let is = facet_from_holds f inside in
        let one : (row : Row) → Mem row p.rows → move_sorted (image row) (facet_figure p f)
        ≡ nested_figure many more (move_nested (image row) more x) = λ row m.
        ap (move_sorted (image row)) is.0
        ∙ nested_moved p.points p.points (image row)
        (row_into p.points row (call_row more rules plane points rows p given made row m)) many more x is.1 in
        map_same (λ (row : Row). move_sorted (image row) (facet_figure p f))
        (λ (row : Row). nested_figure many more (move_nested (image row) more x)) p.rows one
        ∙ sym (map-map (nested_figure many more) (λ (row : Row). move_nested (image row) more x) p.rows)
        ∙ sym (map-map (pointed_figure more) (λ (y : Nested more). (many, y)) (nested_images more p f))

    pointed_elements : (parts : List Facet)
        → map (λ (x : Pointed more). x.1) (flat_map pointed parts) ≡ flat_map (nested_images more p) parts
    unfolding pointed
    pointed_elements parts =
        map_flat_map (λ (x : Pointed more). x.1) pointed parts
        ∙ flat_map_same (λ (f : Facet). map (λ (x : Pointed more). x.1) (pointed f)) (nested_images more p) parts
        (λ f m. map-map (λ (x : Pointed more). x.1) (λ (x : Nested more). (
          facet_points more p f,
          x,
        )) (nested_images more p f) ∙ map_self (λ (x : Nested more). x) (nested_images more p f) (λ x i. refl))

    facets_from_holds : (parts : List Facet) → ((f : Facet) → Mem f parts → InCall p f)
        → NestedSet p.points (suc more) (nested_facets more p parts)
    unfolding nested_facets
    facets_from_holds parts inside =
        in_order_set p.points more (flat_map (nested_images more p) parts)
        (λ x m. let r = of_flat_map (nested_images more p) x parts m in images_set r.0 (inside r.0 r.1) x r.2)

    figure_from : (parts : List Facet) → ((f : Facet) → Mem f parts → InCall p f)
        → figure_of p.more p.points (flat_map (facet_images p) parts)
        ≡ nested_figure p.points (suc more) (nested_facets more p parts)
    unfolding nested_facets pointed
    figure_from parts inside =
        let xs = flat_map pointed parts in
        let images : flat_map (facet_images p) parts ≡ map (pointed_figure more) xs =
        flat_map_same (facet_images p) (λ (f : Facet). map (pointed_figure more) (pointed f)) parts
        (λ f m. images_from f (inside f m)) ∙ sym (map_flat_map (pointed_figure more) pointed parts) in
        let good : (x : Pointed more) → Mem x xs → NestedSet p.points more x.1 = λ x m.
        let r = of_flat_map pointed x parts m in
        let q = of_map (λ (y : Nested more). (facet_points more p r.0, y)) x (nested_images more p r.0) r.2 in
        subst (NestedSet p.points more) (sym (ap (λ (z : Pointed more). z.1) q.2))
        (images_set r.0 (inside r.0 r.1) q.0 q.1) in
        ap (figure_of p.more p.points) images
        ∙ ap (λ (k : ℕ). figure_of k p.points (map (pointed_figure more) xs)) made.more_is
        ∙ figure_of_nested p.points more xs good
        ∙ ap (λ (l : List (Nested more)). nested_figure p.points (suc more) (nested_in_order more l))
        (pointed_elements parts)

-- ---- every call

step : (more : ℕ) (rules : Rules) (plane : Subspace) (points : List Vec) (rows : List Row) (a : Answer)
    → Given points rows → AnsweredCall more rules plane points rows a → Below more rules
    → NestedAnswer (length points) (suc more) a
unfolding finish entry_of entry_points ridge_figure
step more rules plane points rows a given c ih =
    let p = c.before in
    let made = c.prepared in
    let inner = call_nested more rules plane points rows p given made ih in
    let n = made.points_are in
    record {
      entries = λ e m.
          let r = entry_of_list rules p c.found c.is_found_holds e (subst (λ (x : Answer). Mem e x.entries) c.is m) in
          let inside = found_split_in_call more rules plane points rows p given made c.found c.is_found_holds r.0 r.1 in
          let facets = nested_facets more p (split p r.0) in (
            facets,
            ap (λ (x : Entry). x.figure) r.2
                ∙ figure_from more rules plane points rows p given made inner (split p r.0) inside
                ∙ ap (λ (k : ℕ). nested_figure k (suc more) facets) n,
            subst (λ (k : ℕ). NestedSet k (suc more) facets) n
                (facets_from_holds more rules plane points rows p given made inner (split p r.0) inside),
          );
      possible = λ fs m f k.
          let r = of_map possible_facets fs p.inner (subst (λ (x : Answer). Mem fs x.possible) c.is m) in
          let g = possible_from_holds more rules plane points rows p given made inner r.0 r.1 f
          (subst (λ (l : List Figure). Mem f l) r.2 k) in
          ((entry_points more (length r.0.orbit.vertices), g.0), g.1, subst (λ (b : ℕ). NestedSet b more g.0) n g.2);
    }

pub nested_answer : (more : ℕ) (rules : Rules) (plane : Subspace) (points : List Vec) (rows : List Row) (budget : ℕ)
    (a : Answer) → Given points rows
    → faceting more rules plane points rows budget ≡ answered a → NestedAnswer (length points) more a
nested_answer zero rules plane points rows budget a given e =
    two_nested (length points) budget a given.two (rank_two rules plane points rows budget a e)
nested_answer (suc more) rules plane points rows budget a given e =
    step more rules plane points rows a given (answered_call more rules plane points rows budget a e)
    (nested_answer more rules)

-- every answered call above rank 2
pub answered_nested : (more : ℕ) (rules : Rules) (plane : Subspace) (points : List Vec) (rows : List Row) (a : Answer)
    → Given points rows → AnsweredCall more rules plane points rows a
    → NestedAnswer (length points) (suc more) a
answered_nested more rules plane points rows a given c =
    step more rules plane points rows a given c (nested_answer more rules)

-- ---- what a call above rank 2 has before its search

module _ (more : ℕ) (rules : Rules) (plane : Subspace) (points : List Vec) (rows : List Row) (p : Prepared)
    (given : Given points rows)
    (made : Preparation more rules (faceting more rules) plane points rows p) where
  -- the figures of an inner answer
  pub inner_nested : (i : Inner) → Mem i p.inner → NestedAnswer (length i.orbit.vertices) more i.answer
  inner_nested = call_nested more rules plane points rows p given made (nested_answer more rules)

  -- every possible facet is an element's figure, in this call's vertices, over as many points as its set has
  pub possible_nested : (i : Inner) → Mem i p.inner → (f : Figure) → Mem f (possible_facets i)
      → Nests p.points (entry_points more (length i.orbit.vertices)) more f
  possible_nested = possible_from_holds more rules plane points rows p given made inner_nested

  -- a facet's figure is its element's
  pub facet_nested : (f : Facet) → InCall p f
      → (facet_figure p f ≡ nested_figure (facet_points more p f) more (facet_element more p f))
      × NestedSet p.points more (facet_element more p f)
  facet_nested = facet_from_holds more rules plane points rows p given made inner_nested

  -- the figure of a list found: its facets are all row images of its split facets' elements, in order
  pub list_nested : (found : Found) → search_from rules p ≡ answered found → (l : List Facet) → Mem l found.lists
      → ((entry_of p l).figure ≡ nested_figure p.points (suc more) (nested_facets more p (split p l)))
      × NestedSet p.points (suc more) (nested_facets more p (split p l))
  unfolding entry_of
  list_nested found is_found_holds l m =
      let inside = found_split_in_call more rules plane points rows p given made found is_found_holds l m in (
        figure_from more rules plane points rows p given made inner_nested (split p l) inside,
        facets_from_holds more rules plane points rows p given made inner_nested (split p l) inside,
      )
