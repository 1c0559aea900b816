-- Theorems on the definitions of specs/RidgeKeys.
use Rattle.std.specs.Prelude.{◌≡◌, length}
use Rattle.std.proofs.Math.Path.{sym, subst}
use Rattle.std.proofs.Common.{ap, ◌∙◌}
use mathlib.Core.List.{List, map, map-map}
use Prim.Native.Nat.{ℕ, zero, suc}
use Rattle.std.proofs.Math.ListN.{get_or}
use Rattle.definitions.specs.Vectors.{Vec}
use Rattle.definitions.specs.Subspace.{Subspace}
use Rattle.definitions.specs.Orbits.{Row}
use Rattle.definitions.specs.Figures.{Figure, compare_figures}
use Rattle.definitions.specs.Recursion.{Rules, Inner, move_sorted}
use Rattle.definitions.specs.Faceting.{Prepared, faceting}
use Rattle.laws.specs.Lists.{Mem, of_map}
use Rattle.laws.specs.Places.{map_self}
use Rattle.shapes.specs.Answered.{Preparation}
use Rattle.shapes.specs.Edges.{figures, vertex_moved}
use Rattle.shapes.specs.Move.{Into, raised_into}
use Rattle.shapes.specs.Sets.{set_rising, row_into}
use Rattle.shapes.specs.Calls.{Given, call_set, call_row}
use Rattle.shapes.specs.Ridges.{Carried, KeysOf, key_numbers, ridge_numbers, numbers_by_keys}
use Rattle.shapes.specs.Nested.{moved_set}
use Rattle.shapes.proofs.NestedFigures.{nested_moved}
use Rattle.shapes.specs.NestedCalls.{Ridge, ridge_figure, RidgeOn, read_ridge, ridge_read}
use Rattle.shapes.proofs.NestedCalls.{inner_nested}
use Rattle.shapes.specs.RidgeKeys.{compare_ridge, ridge_order, ridges_read, send_ridge}

-- maps that send no two points to one carry ridges as figures
pub ridges_keyed : (k : ℕ) → Carried (compare_ridge k) (send_ridge k) compare_figures move_sorted (ridge_figure k)
    (λ n r. RidgeOn n k r) Into
unfolding send_ridge ridge_figure
ridges_keyed k = record {
  order = ridge_order k;
  target = figures;
  sent = λ n m to into r h. ridge_sent k n m to into r h;
  apart = λ n r s g h e. sym (ridge_read n k r g) ∙ ap (read_ridge k) e ∙ ridge_read n k s h;
  moved = λ n m to into r h. ridge_moved k n m to into r h;
}
  where
    ridge_sent : (k n m : ℕ) (to : ℕ → ℕ) → Into n m to → (r : Ridge k) → RidgeOn n k r
        → RidgeOn m k (send_ridge k to r)
    ridge_sent zero n m to into v h = into.below v h
    ridge_sent (suc k) n m to into x h = moved_set n m to into k x.1 h

    ridge_moved : (k n m : ℕ) (to : ℕ → ℕ) → Into n m to → (r : Ridge k) → RidgeOn n k r
        → move_sorted to (ridge_figure k r) ≡ ridge_figure k (send_ridge k to r)
    ridge_moved zero n m to into v h = vertex_moved to v
    ridge_moved (suc k) n m to into x h = nested_moved n m to into x.0 k x.1 h

module _ (more : ℕ) (rules : Rules) (plane : Subspace) (points : List Vec) (rows : List Row) (p : Prepared)
    (given : Given points rows)
    (made : Preparation more rules (faceting more rules) plane points rows p) where
  -- each is the one that its figure is written from
  ridge_written : (i : Inner) → Mem i p.inner → (fs : List Figure) → Mem fs i.answer.possible → (f : Figure) → Mem f fs
      → (ridge_figure more (read_ridge more f) ≡ f) × RidgeOn (length i.orbit.vertices) more (read_ridge more f)
  ridge_written i m fs j f l =
      let n = length i.orbit.vertices in
      let r = (inner_nested more rules plane points rows p given made i m).possible fs j f l in
      let same : read_ridge more f ≡ r.0 = ap (read_ridge more) r.1 ∙ ridge_read n more r.0 r.2 in
      (ap (ridge_figure more) same ∙ sym r.1, subst (RidgeOn n more) (sym same) r.2)

  pub ridges_written : (i : Inner) → Mem i p.inner
      → i.answer.possible ≡ map (map (ridge_figure more)) (ridges_read more i)
  unfolding ridges_read
  ridges_written i m =
      sym (map-map (map (ridge_figure more)) (map (read_ridge more)) i.answer.possible
      ∙ map_self (λ (fs : List Figure). map (ridge_figure more) (map (read_ridge more) fs)) i.answer.possible
      (λ fs j. map-map (ridge_figure more) (read_ridge more) fs ∙ map_self
      (λ (f : Figure). ridge_figure more (read_ridge more f)) fs (λ f l. (ridge_written i m fs j f l).0)))

  pub ridges_on : KeysOf (λ n (r : Ridge more). RidgeOn n more r) Into p.points p.rows (ridges_read more) p.inner
  unfolding ridges_read
  ridges_on = record {
    rows_move = λ row m. row_into p.points row (call_row more rules plane points rows p given made row m);
    sets_move =
        λ i m. raised_into (length i.orbit.vertices) p.points (λ (v : ℕ). get_or i.orbit.vertices v 0)
        (set_rising p.points i.orbit.vertices (call_set more rules plane points rows p given made i m));
    on = λ i m ks j k l.
        let r = of_map (map (read_ridge more)) ks i.answer.possible j in
        let q = of_map (read_ridge more) k r.0 (subst (λ (x : List (Ridge more)). Mem k x) r.2 l) in
        subst (RidgeOn (length i.orbit.vertices) more) (sym q.2) (ridge_written i m r.0 r.1 q.0 q.1).1;
  }

  -- the numbers of a call's ridges, and the ridge orbits' counts, by keys
  pub ridges_by_keys : ridge_numbers p.rows p.inner
      ≡ key_numbers (compare_ridge more) (send_ridge more) p.rows (ridges_read more) p.inner
  ridges_by_keys =
      numbers_by_keys (compare_ridge more) (send_ridge more) (ridge_figure more) (λ n r. RidgeOn n more r) Into
      (ridges_keyed more) p.points p.rows (ridges_read more) p.inner ridges_written ridges_on
