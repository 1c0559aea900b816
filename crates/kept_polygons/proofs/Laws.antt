-- What stands behind what is kept while `keep_facet` writes a facet's edges and then its places. Assumes nothing.
use mathlib.Core.Path.{◌≡◌}
use mathlib.Core.List.{List}
use Prim.Native.Nat.{ℕ, ◌-◌, ◌≤◌}
use native.Mathlib.Omega.{arith}
use lib.ListN.{length, take, drop}
use Rattle.layout.specs.declared.KeptLayout.{KeptLayout}
use Rattle.layout.specs.Keeps.{LayoutFits}
use Rattle.keep.specs.Storing.{Stored}
use Rattle.keep.specs.AreasHold.{KeptWritten, within_both, edges_within, places_within, fits_after}
use Rattle.kept_polygons.specs.Facets.{behind_same, within_lent}

module _ {layout : KeptLayout} {at : ℕ} {s t edges : List ℕ} (f : LayoutFits layout (length s))
    (behind : layout.end ≤ at) (a : Stored 2 1024 layout.edges (layout.labels - layout.edges) s t edges) where
  order : layout.edges ≤ layout.end
  order = omega (arith, f.edge_room, f.label_room, f.owner_room, f.ridge_room, f.place_room)

  near : KeptWritten layout s t
  near = edges_within {layout = layout} f a

  pub behind_edges : drop at t ≡ drop at s
  behind_edges = behind_same layout at order behind near

  module _ {u places : List ℕ} (q : Stored 2 1024 layout.places (layout.end - layout.places) t u places) where
    pub lists_written : KeptWritten layout s u
    lists_written =
        within_both layout near (places_within {layout = layout} (fits_after {layout = layout} f a.beside) q)

    pub behind_lists : take (length u - at) (drop at u) ≡ drop at s
    behind_lists = within_lent layout at order behind lists_written
