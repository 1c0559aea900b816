-- The words of an answer of rank 4 are the definition's: the figure of an entry is the polyhedron of its edges and
-- its facets' images in order. Leans on Written, Solids and Arranged.
use Rattle.std.specs.Prelude.{◌≡◌, refl, Bool, true, cond, ◌&&◌, eqb, leb, drop, replicate}
use Rattle.std.proofs.Math.Path.{sym, ap, subst}
use Rattle.std.proofs.Common.{◌∙◌, add-one, arith, eqb→eq, length-drop, length-append, get_or-drop}
use Rattle.std.proofs.Math.Bool.{false}
use mathlib.Core.List.{List, [], ◌∷◌, ◌++◌, map, flat_map, map-map, map-append, Memᴰ}
use Rattle.std.proofs.Math.Logic.{⊎_elim}
use Prim.Native.Nat.{ℕ, zero, suc, ◌+◌, ◌*◌, ◌-◌, ◌/◌, ◌%◌, ◌≤◌, ◌<◌, compare}
use Rattle.std.proofs.Math.Dec.{T, eqb_refl}
use Rattle.std.proofs.Math.ListN.{length, get_or, length-replicate}
use Rattle.std.proofs.lemmas.List.{length-map, get_or-replicate}
use Rattle.std.proofs.Math.Seq.{get_or-append_seam}
use Rattle.definitions.specs.Lists.{Pair, keep, count_from, compare_pair, member_nat}
use Rattle.definitions.specs.Orbits.{Row, Orbit, pair_image}
use Rattle.definitions.specs.Search.{Facet}
use Rattle.definitions.specs.Recursion.{Entry}
use Rattle.definitions.specs.Job.{number_at, counted, figure_words, entry_words, compound_words, summary_words}
use Rattle.definitions.specs.Job.{answer_words}
use Rattle.definitions.specs.Figures.{compounds_from}
use Rattle.laws.specs.Bools.{either, left_of, true→holds, holds→true}
use Rattle.laws.specs.Lists.{Mem, here, there, in_map, of_map, in_flat_map, of_flat_map, flat_map_same, member_at}
use Rattle.laws.specs.Lists.{at_member, any_of_holds, any_witness, kept, of_count, keep_append}
use Rattle.laws.specs.Orders.{nats, pairs}
use Rattle.laws.specs.Ascending.{ascends_distinct, in_in_order, of_in_order}
use Rattle.laws.specs.Parts.{rows, get_d_rows, length_rows}
use Rattle.laws.specs.Places.{place_in, place_at_holds, place_map, flat_singles, flat_map_map, map_same, map_self}
use Rattle.laws.specs.Sets.{vertices_of}
use Rattle.words.specs.Words.{words}
use Rattle.pool.specs.Pool.{count}
use Rattle.orbits.specs.Workspace.{orbits_in}
use Rattle.orbits.specs.Numbers.{orbit_of}
use Rattle.rows.specs.Marks.{marked, marked_at_holds}
use Rattle.rows.specs.Codes.{pair_code, pair_of}
use Rattle.rows.specs.Rows.{rows_in, RowsFit}
use Rattle.labels.specs.Labels.{labels_in}
use Rattle.shapes.specs.EdgeSets.{edges_in_order, polygons_in_order, edge_number, polygon, Proper}
use Rattle.shapes.specs.FigureWords.{point_words, edge_words, body_words, polyhedron_words, polyhedron_summary}
use Rattle.shapes.specs.Kept.{Kept, kept_at, kept_possible, kept_edge_images, kept_polygons, kept_figure}
use Rattle.layout.specs.Keeps.{edges_of, edges_part}
use Rattle.layout.specs.Leaves.{facet_at, lists_left, both_left, lists_of_both, figure_left, entry_left, answer_left}
use Rattle.layout.specs.Leaves.{Leaves}
use Rattle.layout.specs.declared.Level.{Level}
use Rattle.words.specs.Wrote.{Writes}
use Rattle.words.specs.declared.Writer.{Writer}
use Rattle.possible_facets.specs.Facets.{edges_at}
use Rattle.shapes.specs.UsedPoints.{ends_used}
use Rattle.edge_marks.specs.Summaries.{summary_marked}
use Rattle.edge_marks.specs.Marks.{codes_up, Ends, image_codes, codes_marked, edges_marked, edge_images, image_ends}
use Rattle.edge_marks.specs.Marks.{marked_in_order, pair_code_holds}
use Rattle.facet_images.specs.declared.Choice.{Choice}
use Rattle.facet_images.specs.declared.Choice.TheVariants.{Left, Chosen, Repeated}
use Rattle.facet_images.specs.Images.{image_marks, is_wanted, is_chosen, next_choice, chosen_from}
use Rattle.facet_images.specs.Arranged.{Arranged, chosen_in_order}
use Rattle.writing.specs.EdgesHeld.{owners_in, edges_in}
use Rattle.polyhedra.specs.Solids.{ImagesHeld, facet_from, image_of, polyhedron_from, lines_of, inside_of, solid_from}
use Rattle.polyhedra.specs.Solids.{solid_entry_from, solid_summary_from, solid_answer_from}
use Rattle.writing.specs.Written.{EdgesKept, all_each, all_ends, many_facets, many_lists, list_is, both_inside}
use Rattle.writing.specs.Written.{both_words_holds, edges_written, Figured, possible_of, counts_are, owners_are}
use Rattle.writing.specs.Written.{edges_are}
use Rattle.possible_facets.specs.Possible.{polygon_words, size_in, possible_from}

-- ---- an edge's number is how many marks lie below it

unpair : (c d : ℕ) → pair_of c ≡ pair_of d → c ≡ d
unfolding pair_of
unpair c d e =
    let a : c / 20 ≡ d / 20 = ap (λ (p : Pair). p.0) e in
    let b : c % 20 ≡ d % 20 = ap (λ (p : Pair). p.1) e in
    omega arith

count_split : (a c k : ℕ) → count_from a (c + k) ≡ count_from a c ++ count_from (a + c) k
unfolding count_from
count_split a zero k = (λ t. count_from a (zero_plus k t)) ∙ ap (λ (b : ℕ). count_from b k) (omega arith)
  where
    zero_plus : (k : ℕ) → 0 + k ≡ k
    zero_plus k = omega arith
count_split a (suc c) k =
    let e : suc c + k ≡ suc (c + k) = omega arith in
    let f : suc a + c ≡ a + suc c = omega arith in
    ap (count_from a) e
    ∙ ap (λ (l : List ℕ). a ∷ l) (count_split (suc a) c k ∙ ap (λ (b : ℕ). count_from (suc a) c ++ count_from b k) f)

codes_split : (marks : List Bool) (c : ℕ) → c < 400 → get_or marks c false ≡ true
    → (rest : List ℕ) × (codes_marked marks 400 ≡ codes_marked marks c ++ (c ∷ rest))
unfolding codes_marked keep count_from
codes_split marks c h e =
    let p : ℕ → Bool = λ code. get_or marks code false in
    let k : 400 ≡ c + suc (400 - suc c) = omega arith in
    let z : 0 + c ≡ c = omega arith in (
      keep p (count_from (suc c) (400 - suc c)),
      ap (λ (j : ℕ). keep p (count_from 0 j)) k
          ∙ (ap (keep p) (count_split 0 c (suc (400 - suc c))
          ∙ ap (λ (b : ℕ). count_from 0 c ++ count_from b (suc (400 - suc c))) z)
          ∙ (keep_append p (count_from 0 c) (c ∷ count_from (suc c) (400 - suc c))
          ∙ ap (λ (b : Bool). keep p (count_from 0 c) ++ cond b (c ∷ keep p (count_from (suc c) (400 - suc c)))
          (keep p (count_from (suc c) (400 - suc c)))) e)),
    )

number_is : (marks : List Bool) (c : ℕ) → c < 400 → get_or marks c false ≡ true
    → edge_number (edges_marked marks) (pair_of c) ≡ length (codes_marked marks c)
unfolding edges_marked
number_is marks c h e =
    let l = codes_marked marks 400 in
    let r = codes_split marks c h e in
    let i = length (codes_marked marks c) in
    let at : get_or l i 0 ≡ c = ap (λ (x : List ℕ). get_or x i 0) r.1
    ∙ get_or-append_seam (codes_marked marks c) c r.0 0 in
    let inside : i < length l = omega (arith, ap length r.1, length-append (codes_marked marks c) (c ∷ r.0)) in
    place_map compare nats compare_pair pairs pair_of c l (λ y m. unpair c y)
    ∙ (ap (place_in compare nats l) (sym at)
    ∙ place_at_holds compare nats 0 l (ascends_distinct compare nats l (codes_up marks 400)) i inside)

-- ---- facets wanted

module _ (numbers : List ℕ) where
  wanted_in : (x : ℕ) → x < 1024 → Mem x numbers → get_or (marked (replicate 1024 false) numbers) x false ≡ true
  unfolding member_nat
  wanted_in x h i =
      holds→true (get_or (marked (replicate 1024 false) numbers) x false)
      (subst T (sym (marked_at_holds (replicate 1024 false) numbers x (omega (arith, length-replicate 1024 false))))
      (left_of (member_nat x numbers) (get_or (replicate 1024 false) x false)
      (any_of_holds (eqb x) x numbers i (eqb_refl x))))

  in_wanted : (x : ℕ) → x < 1024 → get_or (marked (replicate 1024 false) numbers) x false ≡ true → Mem x numbers
  unfolding member_nat
  in_wanted x h e =
      ⊎_elim
      (λ (t : T (member_nat x numbers)). let w = any_witness (eqb x) numbers t in
      subst (λ (y : ℕ). Mem y numbers) (sym (eqb→eq x w.0 w.2)) w.1)
      (λ (t : T (get_or (replicate 1024 false) x false)). absurd (subst T (get_or-replicate 1024 x false false h) t))
      (either (member_nat x numbers) (get_or (replicate 1024 false) x false) (subst T (marked_at_holds
      (replicate 1024 false) numbers x (omega (arith, length-replicate 1024 false))) (true→holds e)))

-- ---- images

-- the image of an id: the facet's edges sent by the row, in order
unfoldable pub image_edges : List Row → List (List Pair) → ℕ → List Pair
image_edges rows edges id =
    edges_in_order
    (map (λ (e : Pair). pair_image e (get_or rows (id % 131072 / 1024) [])) (get_or edges (id % 1024) []))

module _ {n m : ℕ} {bytes : List ℕ} (fits : RowsFit n m bytes) (row : ℕ) (r : row < m) where
  -- the row alone
  alone : rows_in n 1 (drop (32 * row) bytes) ≡ get_or (rows_in n m bytes) row [] ∷ []
  unfolding rows_in rows
  alone = ap (λ (l : Row). l ∷ []) (sym (get_d_rows 32 n m bytes row r))

  alone_fits : RowsFit n 1 (drop (32 * row) bytes)
  alone_fits = record {
    n_fits = fits.n_fits;
    m_fits = omega (arith, fits.m_fits, length-drop (32 * row) bytes);
    images = λ v h. record {
      below = λ i l.
          let e : 32 * row + (32 * i + v) ≡ 32 * row + v = omega arith in
          omega (
            arith,
            get_or-drop (32 * row) bytes (32 * i + v) 0,
            ap (λ (j : ℕ). get_or bytes j 0) e,
            (fits.images v h).below row r,
          );
    };
  }

  row_image : (es : List Pair) → ((e : Pair) → Mem e es → Ends n e)
      → edges_marked
      (marked (replicate 400 false) (image_codes (rows_in 32 1 (drop (32 * row) bytes)) (map pair_code es)))
      ≡ edges_in_order (map (λ (e : Pair). pair_image e (get_or (rows_in n m bytes) row [])) es)
  row_image es h =
      let one = rows_in n 1 (drop (32 * row) bytes) in
      let images = flat_map (λ (e : Pair). map (pair_image e) one) es in
      ap (λ (l : List ℕ). edges_marked (marked (replicate 400 false) l)) (edge_images alone_fits es h)
      ∙ (marked_in_order images (λ p i. let q = of_flat_map (λ (e : Pair). map (pair_image e) one) p es i in
      image_ends alone_fits q.0 p (h q.0 q.1) q.2)
      ∙ ap edges_in_order
      (ap (λ (rs : List Row). flat_map (λ (e : Pair). map (pair_image e) rs) es) alone
      ∙ (sym (flat_map_map (λ (p : Pair). p ∷ []) (λ (e : Pair). pair_image e (get_or (rows_in n m bytes) row [])) es)
      ∙ flat_singles (map (λ (e : Pair). pair_image e (get_or (rows_in n m bytes) row [])) es))))

-- an image that is chosen is wanted
choice_wanted : (inside : List Bool) (before : Choice) (id : ℕ) → is_chosen (next_choice inside before id) ≡ true
    → get_or inside (id % 1024) false ≡ true
unfolding next_choice
choice_wanted inside before id e = go (leb 131072 id && is_wanted before) (get_or inside (id % 1024) false) e
  where
    go : (b p : Bool) → is_chosen (cond b Repeated (cond p Chosen Left)) ≡ true → p ≡ true
    go true p q = absurd (subst T (sym q) tt)
    go false true q = refl
    go false false q = absurd (subst T (sym q) tt)

-- the images chosen are among all, and wanted
of_chosen : (inside : List Bool) (before : Choice) (ids : List ℕ) (id : ℕ) → Mem id (chosen_from inside before ids)
    → Mem id ids × (get_or inside (id % 1024) false ≡ true)
unfolding chosen_from
of_chosen inside before [] id i = elim i [ ]
of_chosen inside before (x ∷ ids) id i =
    go (is_chosen (next_choice inside before x)) refl i (of_chosen inside (next_choice inside before x) ids id)
  where
    rest : List ℕ
    rest = chosen_from inside (next_choice inside before x) ids

    Both : List ℕ → Type 0
    Both l = Mem id l × (get_or inside (id % 1024) false ≡ true)

    later : Both ids → Both (x ∷ ids)
    later r = (there r.0, r.1)

    first_or : is_chosen (next_choice inside before x) ≡ true → Mem id (x ∷ rest) → (Mem id rest → Both ids)
        → Both (x ∷ ids)
    first_or q (Memᴰ.head e) ih =
        (here e, ap (λ (z : ℕ). get_or inside (z % 1024) false) e ∙ choice_wanted inside before x q)
    first_or q (Memᴰ.tail k) ih = later (ih k)

    go : (b : Bool) → is_chosen (next_choice inside before x) ≡ b → Mem id (cond b (x ∷ rest) rest)
        → (Mem id rest → Both ids) → Both (x ∷ ids)
    go true q k ih = first_or q k ih
    go false q k ih = later (ih k)

-- ---- possible facets

-- the sizes of the orbits' first sets
sizes_of : (n : ℕ) (s : List ℕ) (many : ℕ)
    → map (λ (p : Pair). length (vertices_of n p.0)) (orbits_in s many) ≡ map (size_in n s) (count_from 0 many)
unfolding orbits_in size_in count_from
sizes_of n s zero = refl
sizes_of n s (suc many) =
    let e : suc many ≡ many + 1 = sym (add-one many) in
    let z : 0 + many ≡ many = omega arith in
    map-append (λ (p : Pair). length (vertices_of n p.0)) (orbits_in s many)
    ((number_at s (8 * many) 4, number_at s (8 * many + 4) 4) ∷ [])
    ∙ (ap (λ (l : List ℕ). l ++ (size_in n s many ∷ [])) (sizes_of n s many)
    ∙ sym (ap (λ (k : ℕ). map (size_in n s) (count_from 0 k)) e
    ∙ (ap (map (size_in n s)) (count_split 0 many 1)
    ∙ (map-append (size_in n s) (count_from 0 many) (count_from (0 + many) 1)
    ∙ ap (λ (k : ℕ). map (size_in n s) (count_from 0 many) ++ (size_in n s k ∷ [])) z))))

kept_sizes : (n : ℕ) (orbits : List Pair) (kept-all : List Kept)
    → map (orbit_of n) orbits ≡ map (λ (k : Kept). k.orbit) kept-all
    → map (λ (p : Pair). length (vertices_of n p.0)) orbits ≡ map (λ (k : Kept). length k.orbit.vertices) kept-all
unfolding orbit_of
kept_sizes n orbits kept-all e =
    sym (map-map (λ (o : Orbit). length o.vertices) (orbit_of n) orbits)
    ∙ (ap (map (λ (o : Orbit). length o.vertices)) e
    ∙ map-map (λ (o : Orbit). length o.vertices) (λ (k : Kept). k.orbit) kept-all)

-- the polygon of a facet, from its edges' codes
one_polygon_holds : (n z : ℕ) (l : List Pair) → n ≤ 20 → ((e : Pair) → Mem e l → Proper n e)
    → polygon_words z (map pair_code l) ≡ figure_words (polygon z l)
unfolding polygon_words
one_polygon_holds n z l b h =
    ap (λ (es : List Pair). figure_words (polygon z es)) (map-map pair_of pair_code l
    ∙ map_self (λ (e : Pair). pair_of (pair_code e)) l (λ e i. pair_code_holds e (omega (arith, (h e i).below))))

polygons_figured : (n o : ℕ) (s : List ℕ) (kept-all : List Kept) → n ≤ 20 → EdgesKept n kept-all
    → map (size_in n s) (count_from o (length kept-all)) ≡ map (λ (k : Kept). length k.orbit.vertices) kept-all
    → Figured (λ (orbit : ℕ). polygon_words (size_in n s orbit)) (kept_possible 1) o kept-all
unfolding count_from kept_possible
polygons_figured n o s [] b h e = tt
polygons_figured n o s (k ∷ kept-all) b h e =
    let later : EdgesKept n kept-all = record {
      each = λ j i. h.each j (there i);
      proper = λ j i. h.proper j (there i);
    } in
    let size : size_in n s o ≡ length k.orbit.vertices = ap (λ (l : List ℕ). get_or l 0 0) e in
    let z = length k.orbit.vertices in
    let tail-same = ap (λ (l : List ℕ). drop 1 l) e in (
      (
        ap (λ (w : ℕ). flat_map (polygon_words w) (map (map pair_code) k.edges)) size
            ∙ (flat_map_map (polygon_words z) (map pair_code) k.edges
            ∙ (flat_map_same (λ (l : List Pair). polygon_words z (map pair_code l)) (λ (l : List Pair).
            figure_words (polygon z l)) k.edges (λ l i. one_polygon_holds n z l b (h.proper k (here refl) l i))
            ∙ sym (flat_map_map figure_words (polygon z) k.edges))),
        length-map k.edges (polygon z),
      ),
      polygons_figured n (suc o) s kept-all b later tail-same,
    )

-- ---- the figure of an entry

module _ {n m : ℕ} {bytes : List ℕ} {kept-all : List Kept} {level : Level} {s ids : List ℕ} (fits : RowsFit n m bytes)
    (h : EdgesKept n kept-all) (left : Leaves 1 n (rows_in n m bytes) kept-all level s)
    (arranged : Arranged (image_edges (rows_in n m bytes) (edges_of kept-all)) level.layout.facets m ids) where
  abbrev pub sends : List Row
  sends = rows_in n m bytes

  abbrev image : ℕ → List Pair
  image = image_edges sends (edges_of kept-all)

  abbrev pub drawn : ℕ → List Bool
  drawn id = image_of (edges_part level.layout s) bytes id

  many_rows : length sends ≡ m
  unfolding rows_in
  many_rows = length_rows 32 n m bytes

  image_written : (id : ℕ) → Mem id ids → edges_marked (drawn id) ≡ image id
  unfolding image_of image_marks image_edges
  image_written id i =
      let x = id % 1024 in
      let es = get_or (edges_of kept-all) x [] in
      let a = arranged.facet id i in
      let b = many_facets fits h left in
      ap (λ (l : List ℕ). edges_marked
      (marked (replicate 400 false) (image_codes (rows_in 32 1 (drop (32 * (id % 131072 / 1024)) bytes)) l)))
      (list_is fits h left x (omega (arith, a, b, many_lists fits h left)))
      ∙ row_image fits (id % 131072 / 1024) (arranged.row id i) es
      (λ e j. all_ends h es (member_at (edges_of kept-all) x [] (omega (arith, a, b))) e j)

  module _ (numbers : List ℕ) (inside : (x : ℕ) → Mem x numbers → x < level.layout.facets) where
    abbrev pub facets : List Facet
    facets = map (facet_at kept-all) numbers

    abbrev pub marks : List Bool
    marks = lines_of n m bytes level s ids numbers

    abbrev pub chosen : List ℕ
    chosen = chosen_from (inside_of n m bytes level s ids numbers) Left ids

    abbrev pub lines : List Pair
    lines = edges_in_order (flat_map (kept_edge_images sends kept-all) facets)

    abbrev pub polygons : List (List Pair)
    polygons = polygons_in_order (flat_map (kept_polygons sends kept-all) facets)

    lines_are : edges_marked marks ≡ lines
    lines_are = edges_written fits h left numbers inside

    edges_of_holds : (x : ℕ) → x < level.layout.facets
        → kept_at (λ (k : Kept). k.edges) kept-all (facet_at kept-all x) ≡ get_or (edges_of kept-all) x []
    edges_of_holds x l = edges_at kept-all x (all_each h) (omega (arith, l, left.keeps.facets))

    into : (id : ℕ) → Mem id ids → get_or (inside_of n m bytes level s ids numbers) (id % 1024) false ≡ true
        → Mem (image id) (flat_map (kept_polygons sends kept-all) facets)
    unfolding kept_polygons image_edges
    into id i w =
        let x = id % 1024 in
        let row = get_or sends (id % 131072 / 1024) [] in
        let xm = in_wanted numbers x (omega arith) w in
        let polygon : List Pair → List Pair = λ es. edges_in_order (map (λ (e : Pair). pair_image e row) es) in
        in_flat_map (kept_polygons sends kept-all) (image id) (facet_at kept-all x) facets
        (in_map (facet_at kept-all) x numbers xm)
        (subst (λ (y : List Pair). Mem y (kept_polygons sends kept-all (facet_at kept-all x)))
        (ap polygon (edges_of_holds x (inside x xm)))
        (in_map (λ (r : Row). edges_in_order (map (λ (e : Pair). pair_image e r) (kept_at
        (λ (k : Kept). k.edges) kept-all (facet_at kept-all x)))) row sends (member_at sends (id % 131072
        / 1024) [] (omega (arith, arranged.row id i, many_rows)))))

    back : (y : List Pair) → Mem y (flat_map (kept_polygons sends kept-all) facets)
        → (id : ℕ) × Mem id ids × (get_or (inside_of n m bytes level s ids numbers) (id % 1024) false ≡ true)
        × (y ≡ image id)
    unfolding kept_polygons image_edges
    back y i =
        let a = of_flat_map (kept_polygons sends kept-all) y facets i in
        let b = of_map (facet_at kept-all) a.0 numbers a.1 in
        let x = b.0 in
        let c = of_map (λ (r : Row). edges_in_order
        (map (λ (e : Pair). pair_image e r) (kept_at (λ (k : Kept). k.edges) kept-all a.0))) y sends a.2 in
        let d = at_member c.0 sends [] c.1 in
        let found = arranged.all x d.0 (inside x b.1) (omega (arith, d.1, many_rows)) in
        let few : x < 1024 = omega (arith, inside x b.1, left.keeps.few_facets) in
        let es : kept_at (λ (k : Kept). k.edges) kept-all a.0 ≡ get_or (edges_of kept-all) x [] =
        ap (kept_at (λ (k : Kept). k.edges) kept-all) b.2 ∙ edges_of_holds x (inside x b.1) in (
          found.0,
          found.1,
          subst (λ (z : ℕ). get_or (inside_of n m bytes level s ids numbers) z false ≡ true) (sym found.2)
              (wanted_in numbers x few b.1),
          c.2 ∙ ((λ t. edges_in_order (map (λ (e : Pair). pair_image e (sym d.2 t)) (es t)))
              ∙ (λ t. edges_in_order (map (λ (e : Pair). pair_image e (get_or sends (sym found.3 t) []))
              (get_or (edges_of kept-all) (sym found.2 t) [])))),
        )

    pub polygons_are : map (λ (id : ℕ). edges_marked (drawn id)) chosen ≡ polygons
    polygons_are =
        map_same (λ (id : ℕ). edges_marked (drawn id)) image chosen
        (λ id i. image_written id (of_chosen (inside_of n m bytes level s ids numbers) Left ids id i).0)
        ∙ chosen_in_order image (inside_of n m bytes level s ids numbers) ids arranged.runs
        (flat_map (kept_polygons sends kept-all) facets) into back

    -- every edge of a chosen image is marked
    marked_there : (id : ℕ) → Mem id ids → get_or (inside_of n m bytes level s ids numbers) (id % 1024) false ≡ true
        → (c : ℕ) → Mem c (codes_marked (drawn id) 400) → get_or marks c false ≡ true
    unfolding edges_marked codes_marked image_edges kept_edge_images
    marked_there id i w c j =
        let x = id % 1024 in
        let row = get_or sends (id % 131072 / 1024) [] in
        let xm = in_wanted numbers x (omega arith) w in
        let es = get_or (edges_of kept-all) x [] in
        let a : Mem (pair_of c) (image id) =
        subst (Mem (pair_of c)) (image_written id i) (in_map pair_of c (codes_marked (drawn id) 400) j) in
        let b = of_map (λ (e : Pair). pair_image e row) (pair_of c) es
        (of_in_order compare_pair pairs (pair_of c) (map (λ (e : Pair). pair_image e row) es) a) in
        let images : Pair → List Pair = λ e. map (pair_image e) sends in
        let row_in = member_at sends (id % 131072 / 1024) [] (omega (arith, arranged.row id i, many_rows)) in
        let one : Mem (pair_of c) (images b.0) =
        subst (λ (p : Pair). Mem p (images b.0)) (sym b.2) (in_map (pair_image b.0) row sends row_in) in
        let edge_in = subst (Mem b.0) (sym (edges_of_holds x (inside x xm))) b.1 in
        let all : Mem (pair_of c) (flat_map (kept_edge_images sends kept-all) facets) =
        in_flat_map (kept_edge_images sends kept-all) (pair_of c) (facet_at kept-all x) facets
        (in_map (facet_at kept-all) x numbers xm)
        (in_flat_map images (pair_of c) b.0
        (kept_at (λ (k : Kept). k.edges) kept-all (facet_at kept-all x)) edge_in one) in
        let line : Mem (pair_of c) (edges_marked marks) = subst (Mem (pair_of c)) (sym lines_are)
        (in_in_order compare_pair pairs (pair_of c) (flat_map (kept_edge_images sends kept-all) facets) all) in
        let d = of_map pair_of (pair_of c) (codes_marked marks 400) line in
        let k = kept (λ (code : ℕ). get_or marks code false) d.0 (count_from 0 400) d.1 in
        subst (λ (z : ℕ). get_or marks z false ≡ true) (sym (unpair c d.0 d.2))
        (holds→true (get_or marks d.0 false) k.1)

    facet_words_holds : (id : ℕ) → Mem id chosen → facet_from marks (drawn id)
        ≡ length (edges_marked (drawn id)) ∷ map (edge_number (edges_marked marks)) (edges_marked (drawn id))
    unfolding facet_from edges_marked codes_marked
    facet_words_holds id i =
        let r = of_chosen (inside_of n m bytes level s ids numbers) Left ids id i in
        let codes = codes_marked (drawn id) 400 in
        let each =
        map_same (λ (c : ℕ). length (codes_marked marks c))
        (λ (c : ℕ). edge_number (edges_marked marks) (pair_of c)) codes (λ c j.
        let k = kept (λ (code : ℕ). get_or (drawn id) code false) c (count_from 0 400) j in
        sym (number_is marks c (omega (arith, (of_count 0 400 c k.0).1)) (marked_there id r.0 r.1 c j)))
        ∙ sym (map-map (edge_number (edges_marked marks)) pair_of codes) in
        λ t. sym (length-map codes pair_of) t ∷ each t

    pub many_lines : length (codes_marked marks 400) ≡ length lines
    unfolding edges_marked
    many_lines = sym (length-map (codes_marked marks 400) pair_of) ∙ ap length lines_are

    many_polygons : length chosen ≡ length polygons
    many_polygons = sym (length-map chosen (λ (id : ℕ). edges_marked (drawn id))) ∙ ap length polygons_are

    solid_words : solid_from n m bytes level s ids numbers ≡ figure_words (kept_figure 1 n sends kept-all facets)
    unfolding solid_from polyhedron_from kept_figure
    solid_words =
        let word : List Pair → List Pair → List ℕ = λ ls p. length p ∷ map (edge_number ls) p in
        let each : flat_map (λ (id : ℕ). facet_from marks (drawn id)) chosen ≡ flat_map (word lines) polygons =
        flat_map_same (λ (id : ℕ). facet_from marks (drawn id))
        (λ (id : ℕ). word (edges_marked marks) (edges_marked (drawn id))) chosen facet_words_holds
        ∙ (sym (flat_map_map (word (edges_marked marks)) (λ (id : ℕ). edges_marked (drawn id)) chosen)
        ∙ (λ t. flat_map (word (lines_are t)) (polygons_are t))) in
        (λ t. 5 ∷ 1 ∷ 0 ∷ n ∷ point_words n
        ++ (many_lines t ∷ edge_words (lines_are t) ++ (many_polygons t ∷ each t ++ body_words (many_polygons t))))
        ∙ sym (polyhedron_words n lines polygons)

    figure_words_holds : solid_from n m bytes level s ids numbers
        ≡ figure_words (figure_left 1 n sends kept-all numbers)
    unfolding figure_left
    figure_words_holds = solid_words

    summary_words_holds : (e : Entry) → e.figure ≡ figure_left 1 n sends kept-all numbers
        → solid_summary_from n m bytes level s ids numbers ≡ summary_words e
    unfolding solid_summary_from summary_marked figure_left kept_figure
    summary_words_holds e is =
        (λ t. ends_used n (lines_are t) ∷ many_lines t ∷ many_polygons t ∷ [])
        ∙ sym (polyhedron_summary e n lines polygons is)

  -- ---- entries and summaries

  abbrev entry : List ℕ × List ℕ → Entry
  entry = entry_left 1 n sends kept-all

  entry_words_holds : (both : List ℕ × List ℕ) → Mem both (both_left level s)
      → solid_entry_from n m bytes level s ids both ≡ entry_words (entry both)
  unfolding solid_entry_from entry_words entry_left
  entry_words_holds both i =
      λ t. both_words_holds fits h left both i t ++ figure_words_holds both.0 (both_inside fits h left both i).0 t

  entries_are : counted (solid_entry_from n m bytes level s ids) (both_left level s)
      ≡ counted entry_words (map entry (both_left level s))
  unfolding counted
  entries_are =
      let lists = both_left level s in
      let each = flat_map_same (solid_entry_from n m bytes level s ids)
      (λ (both : List ℕ × List ℕ). entry_words (entry both)) lists entry_words_holds
      ∙ sym (flat_map_map entry_words entry lists) in
      λ t. sym (length-map lists entry) t ∷ each t

  summaries_are : flat_map (solid_summary_from n m bytes level s ids) (lists_left level s)
      ≡ flat_map summary_words (map entry (both_left level s))
  unfolding entry_left
  summaries_are =
      let summary = solid_summary_from n m bytes level s ids in
      ap (flat_map summary) (sym (lists_of_both level s))
      ∙ (flat_map_map summary (λ (both : List ℕ × List ℕ). both.0) (both_left level s)
      ∙ (flat_map_same (λ (both : List ℕ × List ℕ). summary both.0)
      (λ (both : List ℕ × List ℕ). summary_words (entry both)) (both_left level s)
      (λ both i. summary_words_holds both.0 (both_inside fits h left both i).0 (entry both) refl)
      ∙ sym (flat_map_map summary_words entry (both_left level s))))

  possible_are : possible_from (λ (orbit : ℕ). polygon_words (size_in n s orbit)) level.layout.orbits 0
      (owners_in level s) (edges_in level s) ≡ flat_map (counted figure_words) (map (kept_possible 1) kept-all)
  possible_are =
      (λ t. possible_from (λ (orbit : ℕ). polygon_words (size_in n s orbit)) (left.keeps.orbits t) 0
      (owners_are fits h left t) (edges_are fits h left t))
      ∙ possible_of (λ (orbit : ℕ). polygon_words (size_in n s orbit)) (kept_possible 1) 0 kept-all (all_each h)
      (polygons_figured n 0 s kept-all fits.n_fits h (sym (sizes_of n s (length kept-all)) ∙ (ap (λ (k : ℕ).
      map (λ (p : Pair). length (vertices_of n p.0)) (orbits_in s k)) (sym left.keeps.orbits) ∙ sizes_kept)))
    where
      sizes_kept : map (λ (p : Pair). length (vertices_of n p.0)) (orbits_in s level.layout.orbits)
          ≡ map (λ (k : Kept). length k.orbit.vertices) kept-all
      sizes_kept = kept_sizes n (orbits_in s level.layout.orbits) kept-all left.keeps.sets

  -- ---- the answer

  pub answer_words_holds : (budget rest : ℕ) → solid_answer_from n m bytes level s ids budget rest
      ≡ answer_words budget (answer_left 1 n sends kept-all level s rest)
  unfolding solid_answer_from answer_words answer_left
  answer_words_holds budget rest =
      λ t. (budget - rest) ∷ counts_are fits h left t ++ entries_are t ++ possible_are t ++ counted compound_words
      (compounds_from 0 (labels_in (level.bytes + 2048) level.count (drop level.lists s))) ++ summaries_are t

-- ---- what is asked for

pub images_held : {m : ℕ} {level : Level} {s : List ℕ} {image : ℕ → List Pair} (area : List ℕ) (many : ℕ)
    → level.layout.facets ≤ count (edges_part level.layout s)
    → 4 * many ≤ length area → many < 4294967296 → Arranged image level.layout.facets m (words 4 area many)
    → ImagesHeld m level s area many
images_held area many each room few arranged = record {
  room = room;
  few = few;
  below = record {
    facet =
        λ i l.
        omega (arith, each, arranged.facet (get_or (words 4 area many) i 0) (member_at (words 4 area many) i 0 l));
    row = λ i l. arranged.row (get_or (words 4 area many) i 0) (member_at (words 4 area many) i 0 l);
  };
}

-- what a call of rank 4 leaves, and its facets' images in order
pub record SolidLeft (n m : ℕ) (bytes : List ℕ) (kept-all : List Kept) (level : Level) (s ids : List ℕ) : Type 0 where
  pub rows : RowsFit n m bytes
  pub edges : EdgesKept n kept-all
  pub leaves : Leaves 1 n (rows_in n m bytes) kept-all level s
  pub images : Arranged (image_edges (rows_in n m bytes) (edges_of kept-all)) level.layout.facets m ids

-- the answer is written
pub record WroteSolidAnswer (n m : ℕ) (bytes : List ℕ) (level : Level) (s ids : List ℕ) (budget left : ℕ)
    (before after : Writer) : Type 0 where
  pub same : after.buffer.ghost_name ≡ before.buffer.ghost_name
  pub wrote : (kept-all : List Kept) → SolidLeft n m bytes kept-all level s ids
      → Writes before after (answer_words budget (answer_left 1 n (rows_in n m bytes) kept-all level s left))
