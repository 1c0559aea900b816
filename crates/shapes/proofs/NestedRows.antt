-- Theorems on the definitions of specs/NestedRows.
use Rattle.std.specs.Prelude.{◌≡◌, ℕ, suc, ◌<◌, length}
use Rattle.std.proofs.Math.Path.{sym, ap, subst}
use Rattle.std.proofs.Common.{◌∙◌}
use mathlib.Core.List.{List, map, flat_map}
use Rattle.definitions.specs.Outcome.{answered}
use Rattle.definitions.specs.Vectors.{Vec}
use Rattle.definitions.specs.Subspace.{Subspace}
use Rattle.definitions.specs.Orbits.{Row, image}
use Rattle.definitions.specs.Search.{Facet, Found}
use Rattle.definitions.specs.Recursion.{Rules, Entry, Answer, move_sorted}
use Rattle.definitions.specs.Faceting.{Prepared, split, entry_of, search_from, finish, faceting}
use Rattle.laws.specs.Lists.{Mem, in_map, of_map, in_flat_map, of_flat_map}
use Rattle.laws.specs.Ascending.{SameItems, in_order_same}
use Rattle.shapes.specs.Answered.{Preparation, AnsweredCall}
use Rattle.shapes.specs.Emitted.{entry_of_list}
use Rattle.shapes.specs.Sets.{row_into}
use Rattle.shapes.specs.Calls.{Given, call_row}
use Rattle.shapes.specs.SplitCalls.{InCall}
use Rattle.shapes.specs.Nested.{Nested, compare_nested, nested_order, nested_in_order, move_nested, move_in_order}
use Rattle.shapes.specs.Nested.{moved_twice, moved_alike}
use Rattle.shapes.specs.NestedFigures.{nested_figure}
use Rattle.shapes.proofs.NestedFigures.{nested_moved}
use Rattle.shapes.specs.NestedCalls.{facet_element, nested_images, nested_facets}
use Rattle.shapes.proofs.NestedCalls.{found_split_in_call, facet_nested, list_nested}
use Rattle.shapes.specs.NestedRows.{Composing}

module _ (more : ℕ) (rules : Rules) (plane : Subspace) (points : List Vec) (rows : List Row) (p : Prepared)
    (given : Given points rows)
    (made : Preparation more rules (faceting more rules) plane points rows p)
    (composing : Composing p.points p.rows) where
  abbrev moved : Row → Nested more → Nested more
  moved row = move_nested (image row) more

  -- a row carries the images of facets to themselves
  images_carried : (row : Row) → Mem row p.rows → (parts : List Facet) → ((f : Facet) → Mem f parts → InCall p f)
      → SameItems (map (moved row) (flat_map (nested_images more p) parts)) (flat_map (nested_images more p) parts)
  unfolding nested_images
  images_carried row i parts inside =
      let all = flat_map (nested_images more p) parts in
      let both : (q s : Row) (f : Facet) → Mem f parts → ((v : ℕ) → v < p.points → image s v ≡ image row (image q v))
      → moved s (facet_element more p f) ≡ moved row (moved q (facet_element more p f)) = λ q s f j e.
      let x = facet_element more p f in
      moved_alike p.points (image s) (λ (v : ℕ). image row (image q v)) e more x
      (facet_nested more rules plane points rows p given made f (inside f j)).1
      ∙ sym (moved_twice (image row) (image q) more x) in
      record {
        into = λ x m.
            let w = of_map (moved row) x all m in
            let r = of_flat_map (nested_images more p) w.0 parts w.1 in
            let q = of_map (λ (s : Row). moved s (facet_element more p r.0)) w.0 p.rows r.2 in
            let s = composing.after row q.0 i q.1 in
            let is : x ≡ moved s.0 (facet_element more p r.0) = w.2 ∙ ap (moved row) q.2
            ∙ sym (both q.0 s.0 r.0 r.1 s.2) in
            subst (λ (z : Nested more). Mem z all) (sym is)
            (in_flat_map (nested_images more p) (moved s.0 (facet_element more p r.0)) r.0 parts r.1
            (in_map (λ (u : Row). moved u (facet_element more p r.0)) s.0 p.rows s.1));
        back = λ x m.
            let r = of_flat_map (nested_images more p) x parts m in
            let s = of_map (λ (u : Row). moved u (facet_element more p r.0)) x p.rows r.2 in
            let q = composing.onto row s.0 i s.1 in
            let from = moved q.0 (facet_element more p r.0) in
            let is : x ≡ moved row from = s.2 ∙ both q.0 s.0 r.0 r.1 q.2 in
            subst (λ (z : Nested more). Mem z (map (moved row) all)) (sym is)
            (in_map (moved row) from all (in_flat_map (nested_images more p) from r.0 parts r.1
            (in_map (λ (u : Row). moved u (facet_element more p r.0)) q.0 p.rows q.1)));
      }

  -- so it carries the figure of a list found to itself
  pub list_carried : (found : Found) → search_from rules p ≡ answered found → (l : List Facet) → Mem l found.lists
      → (row : Row) → Mem row p.rows
      → move_sorted (image row) (entry_of p l).figure ≡ (entry_of p l).figure
  unfolding nested_facets
  list_carried found is_found_holds l m row i =
      let inside = found_split_in_call more rules plane points rows p given made found is_found_holds l m in
      let all = flat_map (nested_images more p) (split p l) in
      let is = list_nested more rules plane points rows p given made found is_found_holds l m in
      ap (move_sorted (image row)) is.0
      ∙ nested_moved p.points p.points (image row)
      (row_into p.points row (call_row more rules plane points rows p given made row i)) p.points (suc more)
      (nested_in_order more all) is.1
      ∙ ap (nested_figure p.points (suc more))
      (move_in_order (image row) more all ∙ in_order_same (compare_nested more) (nested_order more)
      (map (moved row) all) all (images_carried row i (split p l) inside))
      ∙ sym is.0

-- every entry of an answered call, with a package or without
pub answered_carry : (more : ℕ) (rules : Rules) (plane : Subspace) (points : List Vec) (rows : List Row) (a : Answer)
    → Given points rows → Composing (length points) rows
    → AnsweredCall more rules plane points rows a → (e : Entry) → Mem e a.entries → (row : Row) → Mem row rows
    → move_sorted (image row) e.figure ≡ e.figure
unfolding finish
answered_carry more rules plane points rows a given composing c e m row i =
    let p = c.before in
    let made = c.prepared in
    let own : Composing p.points p.rows = subst (λ (k : ℕ). Composing k p.rows) (sym made.points_are)
    (subst (Composing (length points)) (sym made.rows_are) composing) in
    let r = entry_of_list rules p c.found c.is_found_holds e (subst (λ (x : Answer). Mem e x.entries) c.is m) in
    subst (λ (x : Entry). move_sorted (image row) x.figure ≡ x.figure) (sym r.2)
    (list_carried more rules plane points rows p given made own c.found c.is_found_holds r.0 r.1 row
    (subst (λ (l : List Row). Mem row l) (sym made.rows_are) i))
