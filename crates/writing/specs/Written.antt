-- What a call of rank 3 leaves is what the writing functions ask for, and the words that they write are the
-- definition's answer. Leans on EdgesHeld, and on what a call leaves.
use Rattle.std.specs.Prelude.{◌≡◌, refl, take, drop, replicate}
use Rattle.std.proofs.Math.Path.{sym, ap}
use Rattle.std.proofs.Common.{◌∙◌, subst, arith, take_at, drop_at}
use mathlib.Core.List.{List, [], ◌∷◌, ◌++◌, map, flat_map, map-append, map-map}
use Prim.Native.Nat.{ℕ, suc, ◌+◌, ◌*◌, ◌-◌, ◌/◌, ◌%◌, ◌≤◌, ◌<◌}
use Rattle.std.proofs.Math.ListN.{length, get_or, length-map}
use Rattle.std.proofs.lemmas.List.{length-replicate}
use Rattle.definitions.specs.Lists.{Pair}
use Rattle.definitions.specs.Figures.{Figure, compounds_from}
use Rattle.definitions.specs.Orbits.{Orbit, pair_image}
use Rattle.definitions.specs.Search.{Facet}
use Rattle.definitions.specs.Recursion.{Entry}
use Rattle.definitions.specs.Job.{counted, figure_words, facet_words, entry_words, compound_words, summary_words}
use Rattle.definitions.specs.Job.{answer_words}
use Rattle.laws.specs.Lists.{Mem, here, there, of_flat_map, flat_map_same, member_at, map_at_holds}
use Rattle.laws.specs.Places.{flat_singles, flat_map_map}
use Rattle.pool.specs.Pool.{count, closed_lists, closed_length}
use Rattle.orbits.specs.Numbers.{orbit_of}
use Rattle.orbits.specs.Workspace.{orbits_in}
use Rattle.rows.specs.Codes.{pair_code, pair_of}
use Rattle.rows.specs.Rows.{rows_in, RowsFit, ImagesBelow}
use Rattle.order.specs.Areas.{list_at}
use Rattle.labels.specs.Labels.{labels_in}
use Rattle.shapes.specs.Edges.{edge_figure}
use Rattle.shapes.specs.EdgeSets.{Proper, polygon, edges_in_order}
use Rattle.shapes.specs.FigureWords.{polygon_summary}
use Rattle.shapes.specs.UsedPoints.{ends_used}
use Rattle.shapes.specs.Kept.{Kept, kept_possible, kept_edge_images, kept_figure}
use Rattle.layout.specs.Keeps.{facets_in, edges_of, edges_part}
use Rattle.layout.specs.Leaves.{facet_at, lists_left, both_left, lists_of_both, both_below, figure_left, entry_left}
use Rattle.layout.specs.Leaves.{answer_left, Leaves}
use Rattle.layout.specs.declared.Level.{Level}
use Rattle.words.specs.Wrote.{Writes}
use Rattle.words.specs.declared.Writer.{Writer}
use Rattle.possible_facets.specs.Facets.{OwnersBelow, item_of, item_words, list_words, owners_from, owners_all, item_is}
use Rattle.possible_facets.specs.Facets.{owners_below, Each, edges_at, many_edges, leading_is}
use Rattle.edge_marks.specs.Summaries.{summary_marked}
use Rattle.edge_marks.specs.Marks.{Ends, EdgesFit, marks_of, codes_marked, edges_marked, pair_code_holds}
use Rattle.edge_marks.proofs.Marks.{marked_edges}
use Rattle.entry_lists.specs.Counts.{count_words}
use Rattle.possible_facets.specs.Possible.{edge_figure_words, possible_from}
use Rattle.writing.specs.EdgesHeld.{owners_in, edges_in, EdgesHeld, both_words, entry_from, summary_from, answer_from}

-- What is kept of a call's facets: edges for each, and each edge with its smaller vertex first.
pub record EdgesKept (n : ℕ) (kept : List Kept) : Type 0 where
  pub each : (k : Kept) → Mem k kept → length k.edges ≡ facets_in k
  pub proper : (k : Kept) → Mem k kept → (l : List Pair) → Mem l k.edges → (e : Pair) → Mem e l → Proper n e

module _ {n : ℕ} {kept : List Kept} (h : EdgesKept n kept) where
  pub all_each : Each kept
  all_each = record { each = h.each }

  pub all_ends : (l : List Pair) → Mem l (edges_of kept) → (e : Pair) → Mem e l → Ends n e
  unfolding edges_of
  all_ends l i e j =
      let r = of_flat_map (λ (k : Kept). k.edges) l kept i in
      let p = h.proper r.0 r.1 l r.2 e j in
      record { first = omega (arith, p.rises, p.below); second = p.below }

-- ---- possible facets

-- the figure of a facet's first edge, from its code
first_edge : (n : ℕ) (l : List Pair) → n ≤ 20 → ((e : Pair) → Mem e l → Ends n e)
    → edge_figure_words (map pair_code l) ≡ figure_words (edge_figure (get_or l 0 (0, 0)))
unfolding edge_figure_words pair_of
first_edge n [] b h = refl
first_edge n (e ∷ l) b h =
    ap (λ (p : Pair). figure_words (edge_figure p)) (pair_code_holds e (omega (arith, (h e (here refl)).second)))

split_edges : (k : Kept) (kept : List Kept)
    → map (map pair_code) (edges_of (k ∷ kept)) ≡ map (map pair_code) k.edges ++ map (map pair_code) (edges_of kept)
unfolding edges_of flat_map
split_edges k kept = map-append (map pair_code) k.edges (edges_of kept)

split_owners : (o : ℕ) (k : Kept) (kept : List Kept)
    → drop (facets_in k) (owners_from o (k ∷ kept)) ≡ owners_from (suc o) kept
unfolding owners_from
split_owners o k kept =
    drop_at (replicate (facets_in k) o) (owners_from (suc o) kept) (facets_in k) (length-replicate (facets_in k) o)

possible_length : (k : Kept) → length (kept_possible 0 k) ≡ length k.edges
unfolding kept_possible
possible_length k = length-map k.edges (λ (edges : List Pair). edge_figure (get_or edges 0 (0, 0)))

figures_of : (n : ℕ) (k : Kept) → n ≤ 20 → ((l : List Pair) → Mem l k.edges → (e : Pair) → Mem e l → Proper n e)
    → flat_map edge_figure_words (map (map pair_code) k.edges) ≡ flat_map figure_words (kept_possible 0 k)
unfolding kept_possible
figures_of n k b proper =
    flat_map_map edge_figure_words (map pair_code) k.edges
    ∙ (flat_map_same (λ (l : List Pair). edge_figure_words (map pair_code l)) (λ (l : List Pair). figure_words
    (edge_figure (get_or l 0 (0, 0)))) k.edges (λ l i. first_edge n l b (λ e j. ends (proper l i e j)))
    ∙ sym (flat_map_map figure_words (λ (edges : List Pair). edge_figure (get_or edges 0 (0, 0))) k.edges))
  where
    ends : {e : Pair} → Proper n e → Ends n e
    ends p = record { first = omega (arith, p.rises, p.below); second = p.below }

-- each orbit's facets have these figures, by the orbit's number
abbrev pub Figured : (ℕ → List ℕ → List ℕ) → (Kept → List Figure) → ℕ → List Kept → Type 0
Figured figure says o [] = Unit {0}
Figured figure says o (k ∷ kept) =
    ((flat_map (figure o) (map (map pair_code) k.edges) ≡ flat_map figure_words (says k))
    × (length (says k) ≡ length k.edges)) × Figured figure says (suc o) kept

pub possible_of : (figure : ℕ → List ℕ → List ℕ) (says : Kept → List Figure) (o : ℕ) (kept : List Kept) → Each kept
    → Figured figure says o kept
    → possible_from figure (length kept) o (owners_from o kept) (map (map pair_code) (edges_of kept))
    ≡ flat_map (counted figure_words) (map says kept)
unfolding possible_from flat_map counted
possible_of figure says o [] each h = refl
possible_of figure says o (k ∷ kept) each h =
    let m = facets_in k in
    let many : length k.edges ≡ m = each.each k (here refl) in
    let codes : List (List ℕ) = map (map pair_code) k.edges in
    let rest : List (List ℕ) = map (map pair_code) (edges_of kept) in
    let codes_many : length codes ≡ m = length-map k.edges (map pair_code) ∙ many in
    let later : Each kept = record { each = λ j i. each.each j (there i) } in
    let number : m ≡ length (says k) = sym (h.0.1 ∙ many) in
    let owners-left = split_owners o k kept in
    let first = h.0.0 in
    ap (λ (es : List (List ℕ)). possible_from figure (suc (length kept)) o (owners_from o (k ∷ kept)) es)
    (split_edges k kept)
    ∙ (ap (λ (j : ℕ). j ∷ flat_map (figure o) (take j (codes ++ rest)) ++ possible_from figure (length kept) (suc o)
    (drop j (owners_from o (k ∷ kept))) (drop j (codes ++ rest))) (leading_is o k kept)
    ∙ ((λ t. m ∷ flat_map (figure o) (take_at codes rest m codes_many t)
    ++ possible_from figure (length kept) (suc o) (owners-left t) (drop_at codes rest m codes_many t))
    ∙ (λ t. number t ∷ first t ++ possible_of figure says (suc o) kept later h.1 t)))

edges_figured : (n o : ℕ) (kept : List Kept) → n ≤ 20 → EdgesKept n kept
    → Figured (λ (orbit : ℕ). edge_figure_words) (kept_possible 0) o kept
edges_figured n o [] b h = tt
edges_figured n o (k ∷ kept) b h =
    let later : EdgesKept n kept = record { each = λ j i. h.each j (there i); proper = λ j i. h.proper j (there i) } in
    ((figures_of n k b (h.proper k (here refl)), possible_length k), edges_figured n (suc o) kept b later)

-- ---- what a call leaves is what is asked for

module _ {more n m : ℕ} {bytes : List ℕ} {kept : List Kept} {level : Level} {s : List ℕ} (fits : RowsFit n m bytes)
    (h : EdgesKept n kept) (left : Leaves more n (rows_in n m bytes) kept level s) where
  abbrev pub pool : List ℕ
  pool = edges_part level.layout s

  pub edges_are : closed_lists 2 1024 pool ≡ map (map pair_code) (edges_of kept)
  edges_are = left.keeps.edges.lists_are

  pub owners_are : owners_in level s ≡ owners_from 0 kept
  owners_are = left.keeps.owners ∙ owners_all kept

  pub many_facets : level.layout.facets ≡ length (edges_of kept)
  many_facets = left.keeps.facets ∙ sym (many_edges kept (all_each h))

  pub many_lists : count pool ≡ length (edges_of kept)
  many_lists = sym (closed_length 2 1024 pool) ∙ (ap length edges_are ∙ length-map (edges_of kept) (map pair_code))

  -- a facet's edges as codes
  pub list_is : (k : ℕ) → k < count pool → list_at 1024 pool k ≡ map pair_code (get_or (edges_of kept) k [])
  unfolding list_at
  list_is k l =
      ap (λ (ls : List (List ℕ)). get_or ls k []) edges_are
      ∙ map_at_holds (map pair_code) (edges_of kept) k [] [] (omega (arith, many_lists))

  -- an edge's code, read in the pool
  record Read (code : ℕ) : Type 0 where
    edge : Pair
    ends : Ends n edge
    is : code ≡ 20 * edge.0 + edge.1

  code_read : (k i : ℕ) → k < count pool → i < length (list_at 1024 pool k) → Read (get_or (list_at 1024 pool k) i 0)
  unfolding pair_code
  code_read k i a b =
      let es = get_or (edges_of kept) k [] in
      let e = list_is k a in
      let inside : i < length es = omega (arith, b, ap length e, length-map es pair_code) in
      record {
        edge = get_or es i (0, 0);
        ends =
            all_ends h es (member_at (edges_of kept) k [] (omega (arith, many_lists))) (get_or es i (0, 0))
            (member_at es i (0, 0) inside);
        is = ap (λ (l : List ℕ). get_or l i 0) e ∙ map_at_holds pair_code es i 0 (0, 0) inside;
      }

  below_20 : (v : ℕ) → v < n → ImagesBelow 20 v m bytes
  below_20 v a = record { below = λ i l. omega (arith, (fits.images v a).below i l, fits.n_fits) }

  edges_fit : EdgesFit m bytes pool
  edges_fit = record {
    sound = left.keeps.edges.sound;
    low = λ k i a b. let r = code_read k i a b in omega (arith, r.is, r.ends.first, r.ends.second, fits.n_fits);
    first = λ k i a b.
        let r = code_read k i a b in
        let e : get_or (list_at 1024 pool k) i 0 / 20 ≡ r.edge.0 = omega (arith, r.is, r.ends.second, fits.n_fits) in
        subst (λ (v : ℕ). ImagesBelow 20 v m bytes) (sym e) (below_20 r.edge.0 r.ends.first);
    second = λ k i a b.
        let r = code_read k i a b in
        let e : get_or (list_at 1024 pool k) i 0 % 20 ≡ r.edge.1 = omega (arith, r.is, r.ends.second, fits.n_fits) in
        subst (λ (v : ℕ). ImagesBelow 20 v m bytes) (sym e) (below_20 r.edge.1 r.ends.second);
  }

  pub standing : EdgesHeld m bytes level s
  standing = record {
    listed = record {
      fits = left.keeps.fits;
      few_facets = left.keeps.few_facets;
      owners =
          subst (λ (l : List ℕ). OwnersBelow 256 l) (sym owners_are)
          (owners_below kept 256 (omega (arith, left.keeps.orbits, left.keeps.few_orbits)));
      area = left.area;
      few_entries = left.few_entries;
      room = left.room;
      numbers = left.numbers;
      emitted = left.emitted;
    };
    few_orbits = left.keeps.few_orbits;
    rows_fit = fits.m_fits;
    edges = edges_fit;
    each = omega (arith, many_facets, many_lists);
  }

  -- ---- counts

  pub counts_are : count_words (orbits_in s level.layout.orbits)
      ≡ counted (λ (c : ℕ). c ∷ []) (map (λ (k : Kept). k.orbit.count) kept)
  unfolding count_words counted orbit_of
  counts_are =
      let orbits = orbits_in s level.layout.orbits in
      let same : map (λ (p : Pair). p.1) orbits ≡ map (λ (k : Kept). k.orbit.count) kept =
      sym (map-map (λ (o : Orbit). o.count) (orbit_of n) orbits) ∙ (ap (map (λ (o : Orbit). o.count)) left.keeps.sets
      ∙ map-map (λ (o : Orbit). o.count) (λ (k : Kept). k.orbit) kept) in
      let many : length orbits ≡ length (map (λ (k : Kept). k.orbit.count) kept) =
      sym (length-map orbits (λ (p : Pair). p.1)) ∙ ap length same in
      (λ t. many t ∷ same t) ∙ ap (λ (l : List ℕ). length (map (λ (k : Kept). k.orbit.count) kept) ∷ l)
      (sym (flat_singles (map (λ (k : Kept). k.orbit.count) kept)))

  -- ---- entries

  module _ (numbers : List ℕ) (inside : (x : ℕ) → Mem x numbers → x < level.layout.facets) where
    abbrev pub parts : List Facet
    parts = map (facet_at kept) numbers

    pub list_words_holds : list_words (owners_in level s) numbers ≡ facet_words parts
    unfolding list_words facet_words counted item_words
    list_words_holds =
        let items : flat_map (item_words (owners_in level s)) numbers
        ≡ flat_map (λ (item : Pair). item.0 ∷ item.1 ∷ []) parts =
        flat_map_same (item_words (owners_in level s))
        (λ (x : ℕ). (facet_at kept x).0 ∷ (facet_at kept x).1 ∷ []) numbers (λ x i.
        let e : item_of (owners_in level s) x ≡ facet_at kept x = ap (λ (l : List ℕ). item_of l x) owners_are
        ∙ sym (item_is kept x (omega (arith, inside x i, left.keeps.facets))) in λ t. (e t).0 ∷ (e t).1 ∷ [])
        ∙ sym (flat_map_map (λ (item : Pair). item.0 ∷ item.1 ∷ []) (facet_at kept) numbers) in
        λ t. sym (length-map numbers (facet_at kept)) t ∷ items t

    pub edges_written : edges_marked (marks_of (rows_in 32 m bytes) (edges_in level s) numbers)
        ≡ edges_in_order (flat_map (kept_edge_images (rows_in n m bytes) kept) parts)
    unfolding kept_edge_images
    edges_written =
        let images : Facet → List Pair = kept_edge_images (rows_in n m bytes) kept in
        ap (λ (es : List (List ℕ)). edges_marked (marks_of (rows_in 32 m bytes) es numbers)) edges_are
        ∙ (marked_edges fits (edges_of kept) (all_ends h) numbers (λ x i. omega (arith, inside x i, many_facets))
        ∙ ap edges_in_order
        (flat_map_same (λ (x : ℕ). flat_map (λ (e : Pair). map (pair_image e) (rows_in n m bytes))
        (get_or (edges_of kept) x [])) (λ (x : ℕ). images (facet_at kept x)) numbers (λ x i.
        ap (flat_map (λ (e : Pair). map (pair_image e) (rows_in n m bytes)))
        (sym (edges_at kept x (all_each h) (omega (arith, inside x i, left.keeps.facets)))))
        ∙ sym (flat_map_map images (facet_at kept) numbers)))

    figure_words_holds : figure_words
        (polygon n (edges_marked (marks_of (rows_in 32 m bytes) (edges_in level s) numbers)))
        ≡ figure_words (figure_left 0 n (rows_in n m bytes) kept numbers)
    unfolding figure_left kept_figure
    figure_words_holds = ap (λ (edges : List Pair). figure_words (polygon n edges)) edges_written

    summary_words_holds : (e : Entry) → e.figure ≡ figure_left 0 n (rows_in n m bytes) kept numbers
        → summary_from n (rows_in 32 m bytes) (edges_in level s) numbers ≡ summary_words e
    unfolding summary_from summary_marked figure_left kept_figure edges_marked
    summary_words_holds e is =
        let edges = edges_in_order (flat_map (kept_edge_images (rows_in n m bytes) kept) parts) in
        let codes = codes_marked (marks_of (rows_in 32 m bytes) (edges_in level s) numbers) 400 in
        let many : length codes ≡ length edges = sym (length-map codes pair_of) ∙ ap length edges_written in
        (λ t. ends_used n (edges_written t) ∷ many t ∷ many t ∷ []) ∙ sym (polygon_summary e n edges is)

  -- the numbers of an entry's two lists
  pub both_inside : (both : List ℕ × List ℕ) → Mem both (both_left level s)
      → ((x : ℕ) → Mem x both.0 → x < level.layout.facets) × ((x : ℕ) → Mem x both.1 → x < level.layout.facets)
  both_inside = both_below level s left.area left.numbers left.emitted

  pub both_words_holds : (both : List ℕ × List ℕ) → Mem both (both_left level s) → both_words (owners_in level s) both
      ≡ facet_words (map (facet_at kept) both.0) ++ facet_words (map (facet_at kept) both.1)
  unfolding both_words
  both_words_holds both i =
      let inside = both_inside both i in
      λ t. list_words_holds both.0 inside.0 t ++ list_words_holds both.1 inside.1 t

  abbrev entry : List ℕ × List ℕ → Entry
  entry = entry_left 0 n (rows_in n m bytes) kept

  entry_words_holds : (both : List ℕ × List ℕ) → Mem both (both_left level s)
      → entry_from n (rows_in 32 m bytes) (owners_in level s) (edges_in level s) both ≡ entry_words (entry both)
  unfolding entry_from entry_words entry_left
  entry_words_holds both i = λ t. both_words_holds both i t ++ figure_words_holds both.0 (both_inside both i).0 t

  entries_are : counted (entry_from n (rows_in 32 m bytes) (owners_in level s) (edges_in level s)) (both_left level s)
      ≡ counted entry_words (map entry (both_left level s))
  unfolding counted
  entries_are =
      let lists = both_left level s in
      let each =
      flat_map_same (entry_from n (rows_in 32 m bytes) (owners_in level s) (edges_in level s))
      (λ (both : List ℕ × List ℕ). entry_words (entry both)) lists entry_words_holds
      ∙ sym (flat_map_map entry_words entry lists) in
      λ t. sym (length-map lists entry) t ∷ each t

  summaries_are : flat_map (summary_from n (rows_in 32 m bytes) (edges_in level s)) (lists_left level s)
      ≡ flat_map summary_words (map entry (both_left level s))
  unfolding entry_left
  summaries_are =
      let summary = summary_from n (rows_in 32 m bytes) (edges_in level s) in
      ap (flat_map summary) (sym (lists_of_both level s))
      ∙ (flat_map_map summary (λ (both : List ℕ × List ℕ). both.0) (both_left level s)
      ∙ (flat_map_same (λ (both : List ℕ × List ℕ). summary both.0)
      (λ (both : List ℕ × List ℕ). summary_words (entry both)) (both_left level s)
      (λ both i. summary_words_holds both.0 (both_inside both i).0 (entry both) refl)
      ∙ sym (flat_map_map summary_words entry (both_left level s))))

  possible_are : possible_from (λ (orbit : ℕ). edge_figure_words) level.layout.orbits 0 (owners_in level s)
      (edges_in level s) ≡ flat_map (counted figure_words) (map (kept_possible 0) kept)
  possible_are =
      (λ t. possible_from (λ (orbit : ℕ). edge_figure_words) (left.keeps.orbits t) 0 (owners_are t) (edges_are t))
      ∙ possible_of (λ (orbit : ℕ). edge_figure_words) (kept_possible 0) 0 kept (all_each h)
      (edges_figured n 0 kept fits.n_fits h)

  -- ---- the answer

  pub answer_words_holds : (budget rest : ℕ) → answer_from n (rows_in 32 m bytes) level s budget rest
      ≡ answer_words budget (answer_left 0 n (rows_in n m bytes) kept level s rest)
  unfolding answer_from answer_words answer_left
  answer_words_holds budget rest =
      λ t. (budget - rest) ∷ counts_are t ++ entries_are t ++ possible_are t ++ counted compound_words
      (compounds_from 0 (labels_in (level.bytes + 2048) level.count (drop level.lists s))) ++ summaries_are t

-- what a call of rank 3 leaves, at every reading of it as what is kept: the rows, the edges and the areas
pub record Left (n m : ℕ) (bytes : List ℕ) (kept : List Kept) (level : Level) (s : List ℕ) : Type 0 where
  pub rows : RowsFit n m bytes
  pub edges : EdgesKept n kept
  pub leaves : Leaves 0 n (rows_in n m bytes) kept level s

-- the answer is written: for whatever is kept there, the words of the answer that stands in the workspace
pub record WroteAnswer (n m : ℕ) (bytes : List ℕ) (level : Level) (s : List ℕ) (budget left : ℕ)
    (before after : Writer) : Type 0 where
  pub same : after.buffer.ghost_name ≡ before.buffer.ghost_name
  pub wrote : (kept : List Kept) → Left n m bytes kept level s
      → Writes before after (answer_words budget (answer_left 0 n (rows_in n m bytes) kept level s left))
