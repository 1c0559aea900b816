-- Theorems on the definitions of specs/KeptOrbitAnswer.
use Rattle.std.specs.Prelude.{◌≡◌, ℕ, suc}
use Rattle.std.proofs.Math.Path.{sym, ap}
use Rattle.std.proofs.Common.{◌∙◌}
use mathlib.Core.List.{List, [], map, map-map}
use Rattle.std.proofs.Math.ListN.{length}
use Rattle.definitions.specs.Lists.{sort_by, compare_pair}
use Rattle.definitions.specs.Outcome.{answered}
use Rattle.definitions.specs.Vectors.{Vec}
use Rattle.definitions.specs.Subspace.{Subspace}
use Rattle.definitions.specs.Orbits.{Row}
use Rattle.definitions.specs.Figures.{Figure, label_irc}
use Rattle.definitions.specs.Search.{Facet, Found}
use Rattle.definitions.specs.Recursion.{Rules, Entry, Answer, Inner}
use Rattle.definitions.specs.Faceting.{Prepared, possible_facets, split, entry_of, entries_of, compare_entries}
use Rattle.definitions.specs.Faceting.{search_from, finish, faceting}
use Rattle.laws.specs.Lists.{Mem}
use Rattle.laws.specs.Places.{map_same, map_self}
use Rattle.shapes.specs.Answered.{Preparation, AnsweredCall}
use Rattle.shapes.specs.Emitted.{found_facet}
use Rattle.shapes.specs.LowRanks.{facet_orbit}
use Rattle.shapes.specs.Calls.{Given}
use Rattle.shapes.specs.Nested.{Nested}
use Rattle.shapes.specs.NestedFigures.{nested_figure, read_nested, nested_read}
use Rattle.shapes.specs.NestedCalls.{entry_points}
use Rattle.shapes.proofs.NestedCalls.{found_split_in_call, possible_nested, list_nested}
use Rattle.shapes.specs.KeptOrbits.{KeptOrbit, keep_by, orbit_facets, orbit_entry, orbit_possible, orbit_answer}
use Rattle.shapes.specs.KeptOrbitAnswer.{facets_kept_holds, keep_elements, orbit_split}

module _ {K : Type 0} (send : (ℕ → ℕ) → K → K) (keys : Inner → List (List K)) (more : ℕ) where
  -- ---- figures

  module _ (rules : Rules) (plane : Subspace) (points : List Vec) (rows : List Row) (given : Given points rows)
      (p : Prepared) (made : Preparation more rules (faceting more rules) plane points rows p) where
    abbrev kept : List (KeptOrbit K (Nested more))
    kept = map (keep_elements send keys more) p.inner

    -- an entry, from a list found
    pub orbit_entry_holds : (found : Found) → search_from rules p ≡ answered found → (l : List Facet)
        → Mem l found.lists → entry_of p l ≡ orbit_entry more (length points) rows kept l
    unfolding entry_of orbit_entry
    orbit_entry_holds found is_found_holds l m =
        let inside = found_split_in_call more rules plane points rows p given made found is_found_holds l m in
        let parts = sym (orbit_split send keys more p l (λ f i.
        (facet_orbit p.inner f (found_facet rules p found is_found_holds l m f i)).0)) in
        let figure =
        (list_nested more rules plane points rows p given made found is_found_holds l m).0
        ∙ (λ t. nested_figure (made.points_are t) (suc more)
        (facets_kept_holds send keys more rules plane points rows given p made (split p l) inside t)) in
        (λ t. record { list = split p l; before = l; figure = figure t }) ∙ (λ t. record {
          list = parts t;
          before = l;
          figure = nested_figure (length points) (suc more) (orbit_facets more rows kept (parts t));
        })

    pub orbit_possible_holds : (i : Inner) → Mem i p.inner
        → possible_facets i ≡ orbit_possible more (keep_elements send keys more i)
    unfolding orbit_possible keep_by
    orbit_possible_holds i m =
        let many = entry_points more (length i.orbit.vertices) in
        sym (map-map (nested_figure many more) (read_nested more) (possible_facets i)
        ∙ map_self (λ (f : Figure). nested_figure many more (read_nested more f)) (possible_facets i)
        (λ f k.
        let r = possible_nested more rules plane points rows p given made i m f k in
        ap (nested_figure many more) (ap (read_nested more) r.1 ∙ nested_read p.points many more r.0 r.2) ∙ sym r.1))

    -- the answer, once the search has ended
    pub orbit_finish : (found : Found) → search_from rules p ≡ answered found
        → finish p found ≡ orbit_answer more (length points) rows kept found
    unfolding finish entries_of orbit_answer keep_by
    orbit_finish found is_found_holds =
        let counts =
        sym (map-map (λ (k : KeptOrbit K (Nested more)). k.orbit.count) (keep_elements send keys more) p.inner) in
        let entries = map_same (entry_of p) (orbit_entry more (length points) rows kept) found.lists
        (orbit_entry_holds found is_found_holds) in
        let possible = map_same possible_facets
        (λ (i : Inner). orbit_possible more (keep_elements send keys more i)) p.inner orbit_possible_holds
        ∙ sym (map-map (orbit_possible more) (keep_elements send keys more) p.inner) in
        λ t.
        let sorted = sort_by compare_entries (entries t) in
        record {
          counts = counts t;
          entries = sorted;
          possible = possible t;
          compounds = label_irc compare_pair (map (λ (e : Entry). e.list) sorted);
          left = found.left;
        }

  pub orbit_answer_holds : (rules : Rules) (plane : Subspace) (points : List Vec) (rows : List Row)
      → Given points rows → (a : Answer) (c : AnsweredCall more rules plane points rows a)
      → a ≡ orbit_answer more (length points) rows (map (keep_elements send keys more) c.before.inner) c.found
  orbit_answer_holds rules plane points rows given a c =
      c.is ∙ orbit_finish rules plane points rows given c.before c.prepared c.found c.is_found_holds
