-- An image's codes are those of its polygon, the facet's edges sent by the row and put in order; and two images
-- compare as their polygons do. Leans on Images and on what writing says of images.
use Rattle.std.specs.Prelude.{◌≡◌, refl, T, eqb}
use Rattle.std.proofs.Common.{sym, ◌∙◌, subst, ⊎_elim, eqb→eq}
use Rattle.std.proofs.Math.Path.{ap}
use mathlib.Core.List.{List, [], ◌∷◌, map, map-map}
use Prim.Native.Nat.{ℕ, ◌+◌, ◌*◌, ◌/◌, ◌%◌, ◌≤◌, ◌<◌, compare, Ordering}
use native.Mathlib.Omega.{arith}
use Rattle.std.proofs.Math.Dec.{eqb_refl}
use Rattle.std.proofs.Math.ListN.{length, get_or, length-map}
use Rattle.definitions.specs.Lists.{Pair, compare_pair, compare_pairs, compare_nats, then_by, member_nat}
use Rattle.definitions.specs.Orbits.{Row, pair_image}
use Rattle.laws.specs.Bools.{either, left_of}
use Rattle.laws.specs.Lists.{Mem, of_flat_map, in_map, of_map, any_of_holds, any_witness, at_member, member_at}
use Rattle.laws.specs.Lists.{map_at_holds}
use Rattle.laws.specs.Orders.{nats, pairs, compare_lt, lt_compare, lt≢gt}
use Rattle.laws.specs.Ascending.{Ascends, same_ascending, in_order_ascends, in_in_order, of_in_order}
use Rattle.laws.specs.Places.{map_same, keeps_compare, compare_map, ascends_map}
use Rattle.laws.specs.Parts.{get_d_rows, length_rows}
use Rattle.sorted.specs.Ascending.{Ascending, ascending_nil, ascending_head, ascending_tail}
use Rattle.sorted.specs.Gathering.{added, ascending_added, member_added}
use Rattle.rows.specs.Codes.{pair_code}
use Rattle.rows.specs.Rows.{rows_in, RowsFit}
use Rattle.rows.specs.Codes.{code_at}
use Rattle.order.specs.Areas.{list_at}
use Rattle.pool.specs.Pool.{count}
use Rattle.pool.specs.Holds.{holds_count}
use Rattle.shapes.specs.Kept.{Kept}
use Rattle.layout.specs.declared.KeptLayout.{KeptLayout}
use Rattle.layout.specs.Keeps.{Keeps, edges_of, edges_part}
use Rattle.possible_facets.specs.Facets.{many_edges}
use Rattle.writing.specs.Written.{EdgesKept, all_each, all_ends}
use Rattle.edge_marks.specs.Marks.{Ends, image_ends}
use Rattle.polyhedra.specs.SolidWritten.{image_edges}
use Rattle.shapes.specs.EdgeSets.{edges_in_order}
use Rattle.polygons.specs.Images.{image_code, image_at, EdgeLists, Named}

-- ---- codes keep the order of pairs

codes_rise : (p q : Pair) → Ends 20 p → Ends 20 q → compare_pair p q ≡ Ordering.lt
    → compare (pair_code p) (pair_code q) ≡ Ordering.lt
unfolding pair_code compare_pair then_by
codes_rise p q a b e = lt_compare (20 * p.0 + p.1) (20 * q.0 + q.1) (by (compare p.0 q.0) refl e)
  where
    by : (o : Ordering) → compare p.0 q.0 ≡ o → then_by o (compare p.1 q.1) ≡ Ordering.lt
        → 20 * p.0 + p.1 < 20 * q.0 + q.1
    by Ordering.lt f g = omega (arith, compare_lt p.0 q.0 f, a.second, b.second)
    by Ordering.eq f g = omega (arith, nats.equal p.0 q.0 f, compare_lt p.1 q.1 g)
    by Ordering.gt f g = absurd (lt≢gt (sym g))

-- ---- a set of numbers as an ascending list

members : (l : List ℕ) → Ascending l → Ascends compare l
members [] a = tt
members (x ∷ l) a = (
  (λ y i. let r = at_member y l 0 i in
      lt_compare x y (omega (arith, (ascending_head a).under r.0 r.1, r.2))),
  members l (ascending_tail a),
)

member_of : (z : ℕ) (l : List ℕ) → T (member_nat z l) → Mem z l
unfolding member_nat
member_of z l t = let w = any_witness (eqb z) l t in subst (λ (y : ℕ). Mem y l) (sym (eqb→eq z w.0 w.2)) w.1

of_member : (z : ℕ) (l : List ℕ) → Mem z l → T (member_nat z l)
unfolding member_nat
of_member z l i = any_of_holds (eqb z) z l i (eqb_refl z)

in_added : (z : ℕ) (l : List ℕ) → Mem z l → Mem z (added [] l)
in_added z l i =
    member_of z (added [] l)
    (subst T (sym (member_added z [] l)) (left_of (member_nat z l) (member_nat z []) (of_member z l i)))

of_added : (z : ℕ) (l : List ℕ) → Mem z (added [] l) → Mem z l
of_added z l i =
    ⊎_elim (λ (t : T (member_nat z l)). member_of z l t) (λ (t : T (member_nat z [])). elim (member_of z [] t) [ ])
    (either (member_nat z l) (member_nat z []) (subst T (member_added z [] l) (of_member z (added [] l) i)))

-- the codes of pairs as a set are those of the pairs in order
pub codes_in_order : (ps : List Pair) → ((p : Pair) → Mem p ps → Ends 20 p)
    → added [] (map pair_code ps) ≡ map pair_code (edges_in_order ps)
codes_in_order ps small =
    same_ascending compare nats (added [] (map pair_code ps)) (map pair_code (edges_in_order ps))
    (members (added [] (map pair_code ps)) (ascending_added [] (map pair_code ps) ascending_nil))
    (ascends_map compare_pair pairs compare nats pair_code (Ends 20) codes_rise (edges_in_order ps)
    (λ p i. small p (of_in_order compare_pair pairs p ps i)) (in_order_ascends compare_pair pairs ps))
    (record {
      into = λ z i.
          let r = of_map pair_code z ps (of_added z (map pair_code ps) i) in
          subst (λ (y : ℕ). Mem y (map pair_code (edges_in_order ps))) (sym r.2)
          (in_map pair_code r.0 (edges_in_order ps) (in_in_order compare_pair pairs r.0 ps r.1));
      back = λ z i.
          let r = of_map pair_code z (edges_in_order ps) i in
          in_added z (map pair_code ps) (subst (λ (y : ℕ). Mem y (map pair_code ps)) (sym r.2)
          (in_map pair_code r.0 ps (of_in_order compare_pair pairs r.0 ps r.1)));
    })

-- ---- an image

module _ {n m : ℕ} {bytes : List ℕ} (fits : RowsFit n m bytes) where
  edge_code_holds : (row : ℕ) → row < m → (e : Pair) → Ends n e
      → image_code bytes row (pair_code e) ≡ pair_code (pair_image e (get_or (rows_in n m bytes) row []))
  unfolding image_code rows_in pair_code
  edge_code_holds row r e h =
      let a : (20 * e.0 + e.1) / 20 ≡ e.0 = omega (arith, h.second, fits.n_fits) in
      let b : (20 * e.0 + e.1) % 20 ≡ e.1 = omega (arith, h.second, fits.n_fits) in
      rw (a, b) (sym (code_at n row bytes e.0 e.1 h.first h.second)
      ∙ ap (λ (l : Row). pair_code (pair_image e l)) (sym (get_d_rows 32 n m bytes row r)))

  row_ends : (row : ℕ) → row < m → (es : List Pair) → ((e : Pair) → Mem e es → Ends n e) → (p : Pair)
      → Mem p (map (λ (e : Pair). pair_image e (get_or (rows_in n m bytes) row [])) es) → Ends 20 p
  unfolding rows_in
  row_ends row r es h p i =
      let row_is = get_or (rows_in n m bytes) row [] in
      let q = of_map (λ (e : Pair). pair_image e row_is) p es i in
      let in_rows : Mem row_is (rows_in n m bytes) =
      member_at (rows_in n m bytes) row [] (omega (arith, length_rows 32 n m bytes)) in
      image_ends fits q.0 p (h q.0 q.1) (subst (λ (x : Pair). Mem x (map (pair_image q.0) (rows_in n m bytes)))
      (sym q.2) (in_map (pair_image q.0) row_is (rows_in n m bytes) in_rows))

  image_codes_holds : (row : ℕ) → row < m → (es : List Pair) → ((e : Pair) → Mem e es → Ends n e)
      → added [] (map (image_code bytes row) (map pair_code es))
      ≡ map pair_code (edges_in_order (map (λ (e : Pair). pair_image e (get_or (rows_in n m bytes) row [])) es))
  image_codes_holds row r es h =
      let image : Pair → Pair = λ e. pair_image e (get_or (rows_in n m bytes) row []) in
      ap (added [])
      (map-map (image_code bytes row) pair_code es
      ∙ (map_same (λ (e : Pair). image_code bytes row (pair_code e)) (λ (e : Pair). pair_code (image e)) es
      (λ e i. edge_code_holds row r e (h e i)) ∙ sym (map-map pair_code image es)))
      ∙ codes_in_order (map image es) (row_ends row r es h)

-- ---- the images of what is kept

-- a facet has no more edges than 20 vertices have pairs
pub record FewEdges (kept : List Kept) : Type 0 where
  pub few : (k : Kept) → Mem k kept → (l : List Pair) → Mem l k.edges → length l ≤ 190

module _ {n m : ℕ} {bytes : List ℕ} {kept : List Kept} {layout : KeptLayout} {s : List ℕ} (fits : RowsFit n m bytes)
    (h : EdgesKept n kept) (keeps : Keeps n layout kept s) (few_rows : m ≤ 120) where
  abbrev pool : List ℕ
  pool = edges_part layout s

  -- the polygon of an image
  abbrev pub polygon_at : ℕ → List Pair
  polygon_at = image_edges (rows_in n m bytes) (edges_of kept)

  many_lists : count pool ≡ length (edges_of kept)
  many_lists = holds_count keeps.edges ∙ length-map (edges_of kept) (map pair_code)

  pub many_facets : layout.facets ≡ count pool
  many_facets = keeps.facets ∙ (sym (many_edges kept (all_each h)) ∙ sym many_lists)

  list_is : (x : ℕ) → x < count pool → list_at 1024 pool x ≡ map pair_code (get_or (edges_of kept) x [])
  unfolding list_at
  list_is x l =
      ap (λ (ls : List (List ℕ)). get_or ls x []) keeps.edges.lists_are
      ∙ map_at_holds (map pair_code) (edges_of kept) x [] [] (omega (arith, many_lists))

  at_in : (x : ℕ) → x < count pool → Mem (get_or (edges_of kept) x []) (edges_of kept)
  at_in x l = member_at (edges_of kept) x [] (omega (arith, many_lists))

  ends_at : (x : ℕ) → x < count pool → (e : Pair) → Mem e (get_or (edges_of kept) x []) → Ends n e
  ends_at x l = all_ends h (get_or (edges_of kept) x []) (at_in x l)

  -- what ordering the images asks for
  pub edge_lists : FewEdges kept → EdgeLists n m pool bytes
  unfolding edges_of pair_code
  edge_lists f = record {
    sound = keeps.edges.sound;
    few = λ x l.
        let es = get_or (edges_of kept) x [] in
        let r = of_flat_map (λ (k : Kept). k.edges) es kept (at_in x l) in
        omega (arith, ap length (list_is x l), length-map es pair_code, f.few r.0 r.1 es r.2);
    ends = λ x l i k. code_ends x l i k;
    rows_fit_holds = fits;
    few_rows = few_rows;
  }
    where
      code_ends : (x : ℕ) → x < count pool → (i : ℕ) → i < length (list_at 1024 pool x)
          → (get_or (list_at 1024 pool x) i 0 / 20 < n) × (get_or (list_at 1024 pool x) i 0 % 20 < n)
      code_ends x l i k =
          let es = get_or (edges_of kept) x [] in
          let inside : i < length es = omega (arith, k, ap length (list_is x l), length-map es pair_code) in
          let e = get_or es i (0, 0) in
          let is : get_or (list_at 1024 pool x) i 0 ≡ 20 * e.0 + e.1 =
          ap (λ (cs : List ℕ). get_or cs i 0) (list_is x l) ∙ map_at_holds pair_code es i 0 (0, 0) inside in
          let ends = ends_at x l e (member_at es i (0, 0) inside) in (
            omega (arith, is, ends.first, ends.second, fits.n_fits),
            omega (arith, is, ends.first, ends.second, fits.n_fits),
          )

  -- ---- an image's number, not marked

  pub small_id : (id : ℕ) → Named m pool id → id < 131072
  small_id id d = omega (arith, d.row, few_rows)

  pub marked_same : (id : ℕ) → Named m pool id → polygon_at (id + 131072) ≡ polygon_at id
  unfolding image_edges
  marked_same id d =
      let a : (id + 131072) % 131072 / 1024 ≡ id % 131072 / 1024 = omega arith in
      let b : (id + 131072) % 1024 ≡ id % 1024 = omega arith in
      λ t. edges_in_order
      (map (λ (e : Pair). pair_image e (get_or (rows_in n m bytes) (a t) [])) (get_or (edges_of kept) (b t) []))

  image_drawn : (id : ℕ) → Named m pool id → image_at pool bytes id ≡ map pair_code (polygon_at id)
  unfolding image_edges image_at
  image_drawn id d =
      let x = id % 1024 in
      let es = get_or (edges_of kept) x [] in
      let a : id / 1024 ≡ id % 131072 / 1024 = omega (arith, small_id id d) in
      ap (λ (l : List ℕ). added [] (map (image_code bytes (id / 1024)) l)) (list_is x d.facet)
      ∙ (image_codes_holds fits (id / 1024) d.row es (ends_at x d.facet) ∙ ap (λ (r : ℕ).
      map pair_code (edges_in_order (map (λ (e : Pair). pair_image e (get_or (rows_in n m bytes) r [])) es))) a)

  polygon_ends : (id : ℕ) → Named m pool id → (p : Pair) → Mem p (polygon_at id) → Ends 20 p
  unfolding image_edges
  polygon_ends id d p i =
      let x = id % 1024 in
      let es = get_or (edges_of kept) x [] in
      let image : Pair → Pair = λ e. pair_image e (get_or (rows_in n m bytes) (id % 131072 / 1024) []) in
      row_ends fits (id % 131072 / 1024) (omega (arith, small_id id d, d.row)) es (ends_at x d.facet) p
      (of_in_order compare_pair pairs p (map image es) i)

  pub compare_drawn : (a b : ℕ) → Named m pool a → Named m pool b
      → compare_nats (image_at pool bytes a) (image_at pool bytes b) ≡ compare_pairs (polygon_at a) (polygon_at b)
  unfolding compare_nats compare_pairs
  compare_drawn a b d e =
      (λ t. compare_nats (image_drawn a d t) (image_drawn b e t))
      ∙ compare_map compare_pair pairs compare nats pair_code (Ends 20)
      (keeps_compare compare_pair pairs compare nats pair_code (Ends 20) codes_rise) (polygon_at a) (polygon_at b)
      (polygon_ends a d) (polygon_ends b e)
