-- Theorems on the definitions of specs/Reading.
use Rattle.std.specs.Prelude.{◌≡◌, true, false, get_or}
use Rattle.std.proofs.Math.Path.{refl, sym, ap, subst}
use Rattle.std.proofs.Common.{◌∙◌}
use mathlib.Core.List.{List, map, map-map}
use Prim.Native.Nat.{ℕ, ◌/◌, ◌%◌, ◌<◌, ◌≤◌}
use native.Mathlib.Omega.{arith}
use Rattle.std.proofs.Math.ListN.{length, length-map}
use Rattle.definitions.specs.Lists.{Pair, compare_pair, count_from}
use Rattle.laws.specs.Lists.{Mem, in_map, in_count, in_keep}
use Rattle.laws.specs.Bools.{true→holds}
use Rattle.laws.specs.Orders.{pairs}
use Rattle.laws.specs.Ascending.{of_in_order}
use Rattle.laws.specs.Places.{map_same}
use Rattle.rows.specs.Rows.{rows_in, RowsFit}
use Rattle.rows.specs.Codes.{pair_code, pair_of}
use Rattle.shapes.specs.EdgeSets.{edges_in_order}
use Rattle.shapes.specs.Polygons.{ends_via}
use Rattle.shapes.specs.Kept.{Kept}
use Rattle.left_edges.specs.Marked.{marked_codes, edges_marked_holds}
use Rattle.left_edges.specs.Polygons.{images_of, entry_edges, OneEdge}
use Rattle.left_edges.specs.Reading.{Test, images_below, marks_of, moved_code, few_marked}

-- ---- an entry's edges are the marked codes, moved

module _ (n m : ℕ) (s : List ℕ) (inner : List Kept) (numbers : List ℕ) (fits : RowsFit n m s)
    (each : (k : Kept) → Mem k inner → OneEdge n k) (b : (x : ℕ) → Mem x numbers → x < length inner) where
  in_order_holds : edges_in_order (images_of (rows_in n m s) inner numbers)
      ≡ map pair_of (marked_codes (marks_of (rows_in n m s) inner numbers))
  in_order_holds =
      edges_marked_holds (images_of (rows_in n m s) inner numbers)
      (λ e i. let r = images_below n m s inner numbers fits each b e i in let v = r.0 in let w = r.1 in
      let f = fits.n_fits in (omega arith, omega arith))

  -- a marked code is that of two points
  code_below : (c : ℕ) → Mem c (marked_codes (marks_of (rows_in n m s) inner numbers)) → (c / 20 < n) × (c % 20 < n)
  unfolding pair_of
  code_below c i =
      let images = images_of (rows_in n m s) inner numbers in
      let among = subst (λ (l : List Pair). Mem (pair_of c) l) (sym in_order_holds)
      (in_map pair_of c (marked_codes (marks_of (rows_in n m s) inner numbers)) i) in
      images_below n m s inner numbers fits each b (pair_of c) (of_in_order compare_pair pairs (pair_of c) images among)

  pub marked_below : (c : ℕ) → c < 400 → get_or (marks_of (rows_in n m s) inner numbers) c false ≡ true
      → (c / 20 < n) × (c % 20 < n)
  unfolding marked_codes
  marked_below c h e =
      code_below c (in_keep (Test (marks_of (rows_in n m s) inner numbers)) c (count_from 0 400)
      (in_count 0 400 c (omega arith) (omega arith)) (true→holds e))

  pub entry_codes : (vertices : List ℕ) (to : ℕ → ℕ) → ((p : ℕ) → p < n → get_or vertices p 0 ≡ to p)
      → map pair_code (entry_edges to (rows_in n m s) inner numbers)
      ≡ map (moved_code vertices) (marked_codes (marks_of (rows_in n m s) inner numbers))
  unfolding entry_edges pair_code ends_via pair_of
  entry_codes vertices to same =
      let codes = marked_codes (marks_of (rows_in n m s) inner numbers) in
      ap (λ (l : List Pair). map pair_code (map (ends_via to) l)) in_order_holds
      ∙ (map-map pair_code (ends_via to) (map pair_of codes)
      ∙ (map-map (λ (e : Pair). pair_code (ends_via to e)) pair_of codes
      ∙ map_same (λ (c : ℕ). pair_code (ends_via to (pair_of c))) (moved_code vertices) codes
      (λ c i. let r = code_below c i in rw (same (c / 20) r.0, same (c % 20) r.1) refl)))

pub entry_few : (n m : ℕ) (s : List ℕ) (inner : List Kept) (numbers : List ℕ) → RowsFit n m s
    → ((k : Kept) → Mem k inner → OneEdge n k) → ((x : ℕ) → Mem x numbers → x < length inner)
    → (to : ℕ → ℕ) → length (entry_edges to (rows_in n m s) inner numbers) ≤ 400
unfolding entry_edges
entry_few n m s inner numbers fits each b to =
    let marks = marks_of (rows_in n m s) inner numbers in
    let e = length-map (edges_in_order (images_of (rows_in n m s) inner numbers)) (ends_via to) in
    let c = ap length (in_order_holds n m s inner numbers fits each b) ∙ length-map (marked_codes marks) pair_of in
    omega (arith, few_marked marks)
