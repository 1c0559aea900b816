-- Theorems on the definitions of specs/Marks.
use Rattle.std.specs.Prelude.{◌≡◌, length, replicate}
use Rattle.std.proofs.Math.Path.{sym, ap}
use Rattle.std.proofs.Common.{◌∙◌}
use Rattle.std.proofs.Math.Bool.{false}
use mathlib.Core.List.{List, [], map, flat_map}
use Prim.Native.Nat.{ℕ, ◌<◌}
use Rattle.std.proofs.Math.ListN.{get_or}
use Rattle.definitions.specs.Lists.{Pair}
use Rattle.definitions.specs.Orbits.{pair_image}
use Rattle.laws.specs.Lists.{Mem, flat_map_same, of_flat_map, member_at, map_at_holds}
use Rattle.laws.specs.Places.{map_flat_map}
use Rattle.rows.specs.Marks.{marked}
use Rattle.rows.specs.Codes.{pair_code}
use Rattle.rows.specs.Rows.{rows_in, RowsFit}
use Rattle.shapes.specs.EdgeSets.{edges_in_order}
use Rattle.edge_marks.specs.Marks.{Ends, edge_images, edges_marked, facet_codes, image_codes, image_ends}
use Rattle.edge_marks.specs.Marks.{marked_in_order, marks_of}

-- ---- the images of facets' edges, as codes and as pairs

module _ {n m : ℕ} {s : List ℕ} (fits : RowsFit n m s) where
  -- the edges marked for numbered facets are all row images of their edges, in order
  module _ (edges : List (List Pair)) (proper : (l : List Pair) → Mem l edges → (e : Pair) → Mem e l → Ends n e) where
    abbrev images : ℕ → List Pair
    images x = flat_map (λ (e : Pair). map (pair_image e) (rows_in n m s)) (get_or edges x [])

    ends_at : (x : ℕ) → x < length edges → (e : Pair) → Mem e (get_or edges x []) → Ends n e
    ends_at x h e i = proper (get_or edges x []) (member_at edges x [] h) e i

    facet_images_holds : (x : ℕ) → x < length edges
        → image_codes (rows_in 32 m s) (get_or (map (map pair_code) edges) x []) ≡ map pair_code (images x)
    facet_images_holds x h =
        ap (image_codes (rows_in 32 m s)) (map_at_holds (map pair_code) edges x [] [] h)
        ∙ edge_images fits (get_or edges x []) (ends_at x h)

    pub marked_edges : (numbers : List ℕ) → ((x : ℕ) → Mem x numbers → x < length edges)
        → edges_marked (marks_of (rows_in 32 m s) (map (map pair_code) edges) numbers)
        ≡ edges_in_order (flat_map images numbers)
    unfolding marks_of facet_codes
    marked_edges numbers h =
        let codes : flat_map (λ (x : ℕ). image_codes (rows_in 32 m s) (get_or (map (map pair_code) edges) x []))
        numbers ≡ map pair_code (flat_map images numbers) =
        flat_map_same (λ (x : ℕ). image_codes (rows_in 32 m s) (get_or (map (map pair_code) edges) x []))
        (λ (x : ℕ). map pair_code (images x)) numbers (λ x i. facet_images_holds x (h x i))
        ∙ sym (map_flat_map pair_code images numbers) in
        ap (λ (l : List ℕ). edges_marked (marked (replicate 400 false) l)) codes
        ∙ marked_in_order (flat_map images numbers) (λ p i.
        let r = of_flat_map images p numbers i in
        let q = of_flat_map (λ (e : Pair). map (pair_image e) (rows_in n m s)) p (get_or edges r.0 []) r.2 in
        image_ends fits q.0 p (ends_at r.0 (h r.0 r.1) q.0 q.1) q.2)
