-- What a search leaves is what is asked of a call's emitted lists. The search runs in the workspace from `owners` on,
-- so its pool of emitted lists lies at `owners` and where its own areas have it; it has room for 1,024 lists. Leans
-- on the search's areas, Listed, Split and Answer.
use Rattle.std.specs.Prelude.{◌≡◌, List, [], map, ℕ, ◌+◌, ◌-◌, ◌≤◌, ◌<◌, length, get_or, take, drop}
use Rattle.std.proofs.Common.{sym, ap, ◌∙◌, subst, arith, drop-drop}
use Rattle.definitions.specs.Search.{Facet, Table, all_facets}
use Rattle.laws.specs.Lists.{at_member}
use Rattle.laws.specs.Segments.{part}
use Rattle.pool.specs.Pool.{closed_lists, Sound}
use Rattle.facets.specs.declared.Areas.{Areas}
use Rattle.facets.specs.Layout.{facet_of, lists_part}
use Rattle.frames.specs.Paths.{emitted_in, Emitted}
use Rattle.order.specs.Numbers.{AllBelow}
use Rattle.shapes.specs.Kept.{Kept}
use Rattle.layout.specs.declared.KeptLayout.{KeptLayout}
use Rattle.layout.specs.Keeps.{facets_of}
use Rattle.layout.specs.Leaves.{facet_at}
use Rattle.layout.specs.Capacities.{listed_bytes}
use Rattle.entries.specs.Listed.{ListsBehind}

-- a table's facets are those of what was kept: then the search's lists are the numbered lists' facets, and their
-- numbers are the call's
emitted_numbers : (t : Table) (kept : List Kept) (a : Areas) (l : List ℕ) → all_facets t ≡ facets_of kept
    → emitted_in t a l ≡ map (map (facet_at kept)) (closed_lists 2 a.bound l)
unfolding emitted_in facet_of facet_at
emitted_numbers t kept a l e =
    ap (λ (fs : List Facet). map (map (λ (x : ℕ). get_or fs x (0, 0))) (closed_lists 2 a.bound l)) e

emitted_below : (a : Areas) (l : List ℕ) → Emitted a l → AllBelow a.facets (closed_lists 2 a.bound l)
emitted_below a l e m i x j =
    let p = at_member m (closed_lists 2 a.bound l) [] i in
    let q = at_member x m 0 j in
    let b = e.numbered p.0 q.0 p.1 (subst (λ (r : List ℕ). q.0 < length r) (sym p.2) q.1) in
    subst (λ (y : ℕ). y < a.facets) (ap (λ (r : List ℕ). get_or r q.0 0) p.2 ∙ q.2) b

module _ (layout : KeptLayout) (a : Areas) (s : List ℕ) (most : a.bound ≡ 1024) where
  -- where the pool lies in the whole workspace
  abbrev at : ℕ
  at = layout.owners + a.lists

  abbrev bytes : ℕ
  bytes = a.end - a.lists

  abbrev left : List ℕ
  left = lists_part a (drop layout.owners s)

  abbrev emitted : List (List ℕ)
  emitted = closed_lists 2 1024 (part at bytes s)

  pool_is : left ≡ part at bytes s
  pool_is = ap (take bytes) (drop-drop a.lists layout.owners s)

  lists_are : closed_lists 2 a.bound left ≡ emitted
  lists_are = ap (λ (n : ℕ). closed_lists 2 n left) most ∙ ap (closed_lists 2 1024) pool_is

  -- the lists found, where the table's facets are those of what was kept
  pub found_lists : (t : Table) (kept : List Kept) → all_facets t ≡ facets_of kept
      → emitted_in t a left ≡ map (map (facet_at kept)) emitted
  found_lists t kept e = emitted_numbers t kept a left e ∙ ap (map (map (facet_at kept))) lists_are

  module _ (e : Emitted a left) (facets : a.facets ≡ layout.facets) where
    pub sound : Sound 2 1024 (part at bytes s)
    sound = subst (Sound 2 1024) pool_is (subst (λ (n : ℕ). Sound 2 n left) most e.sound)

    pub numbers_below : AllBelow layout.facets emitted
    numbers_below =
        subst (λ (n : ℕ). AllBelow n emitted) facets (subst (AllBelow a.facets) lists_are (emitted_below a left e))

    -- what `sort_entries` is asked
    pub sort_ready : 2048 ≤ a.lists → at + bytes + listed_bytes ≤ length s → ListsBehind layout at bytes s
    sort_ready behind room = record {
      behind = omega arith;
      sound = sound;
      room = omega (arith, sound.few);
      numbers = numbers_below;
    }
