-- Edges as marks: a place for each code of a pair. What is marked, read off upward, is the marked edges in order,
-- each once. Leans on the marks and codes of the crate `rows`.
use Rattle.std.specs.Prelude.{◌≡◌, refl, Bool, ◌||◌, cond, eqb, length, replicate}
use Rattle.std.proofs.Math.Path.{sym, ap, subst}
use Rattle.std.proofs.Common.{◌∙◌, inl, inr, arith}
use Rattle.std.proofs.Math.Bool.{false}
use mathlib.Core.List.{List, [], ◌∷◌, map, flat_map}
use Rattle.std.proofs.Math.Logic.{⊎_elim}
use Prim.Native.Nat.{Ordering}
use Prim.Native.Nat.{ℕ, ◌/◌, ◌%◌, ◌≤◌, ◌<◌, compare, min, max}
use Rattle.std.proofs.Math.Dec.{T, eqb→eq, eqb_refl}
use Rattle.std.proofs.Math.ListN.{get_or}
use Rattle.std.proofs.lemmas.List.{length-replicate, get_or-replicate}
use Rattle.definitions.specs.Lists.{Pair, keep, count_from, compare_pair, then_by, member_nat}
use Rattle.definitions.specs.Orbits.{Row, image, pair_image}
use Rattle.laws.specs.Bools.{either, left_of}
use Rattle.laws.specs.Lists.{Mem, in_keep, kept, in_map, of_map, any_of_holds, any_witness, in_count, of_count}
use Rattle.laws.specs.Lists.{flat_map_same}
use Rattle.laws.specs.Segments.{le_or_lt}
use Rattle.laws.specs.Orders.{nats, pairs, compare_lt, lt_compare}
use Rattle.laws.specs.Pairs.{pairs_keep}
use Rattle.laws.specs.Ascending.{Ascends, same_ascending, in_order_ascends, in_in_order, of_in_order}
use Rattle.laws.specs.Places.{ascends_map, flat_map_map, map_flat_map}
use Rattle.laws.specs.Ranges.{count_ascending}
use Rattle.pool.specs.Pool.{count, Sound}
use Rattle.rows.specs.Marks.{marked, marked_at_holds}
use Rattle.rows.specs.Codes.{pair_code, pair_of, pair_codes}
use Rattle.rows.specs.Rows.{ImagesBelow, rows_in, RowsFit}
use Rattle.rows.specs.Codes.{pair_of_code, code_small, row_below, map_codes}
use Rattle.rows.proofs.Codes.{codes_wide}
use Rattle.order.specs.Areas.{list_at}
use Rattle.shapes.specs.FigureWords.{edge_words}
use Rattle.shapes.specs.EdgeSets.{edges_in_order}

-- the codes that are marked, upward, below a bound
unfoldable pub codes_marked : List Bool → ℕ → List ℕ
codes_marked marks bound = keep (λ (code : ℕ). get_or marks code false) (count_from 0 bound)

-- the codes of all row images of edges, and of the edges of numbered facets
unfoldable pub image_codes : List Row → List ℕ → List ℕ
image_codes rows codes = flat_map (λ (code : ℕ). pair_codes rows (pair_of code)) codes

unfoldable pub facet_codes : List Row → List (List ℕ) → List ℕ → List ℕ
facet_codes rows edges numbers = flat_map (λ (x : ℕ). image_codes rows (get_or edges x [])) numbers

-- the marks of those edges, and the edges read off
unfoldable pub marks_of : List Row → List (List ℕ) → List ℕ → List Bool
marks_of rows edges numbers = marked (replicate 400 false) (facet_codes rows edges numbers)

unfoldable pub edges_marked : List Bool → List Pair
edges_marked marks = map pair_of (codes_marked marks 400)

unfoldable pub mark_words : List Bool → ℕ → List ℕ
mark_words marks code = cond (get_or marks code false) (edge_words (pair_of code ∷ [])) []

-- a pool of edges' codes whose vertices the rows send to vertices
pub record EdgesFit (m : ℕ) (rows edges : List ℕ) : Type 0 where
  pub sound : Sound 2 1024 edges
  pub low : (k i : ℕ) → k < count edges → i < length (list_at 1024 edges k) → get_or (list_at 1024 edges k) i 0 < 400
  pub first : (k i : ℕ) → k < count edges → i < length (list_at 1024 edges k)
      → ImagesBelow 20 (get_or (list_at 1024 edges k) i 0 / 20) m rows
  pub second : (k i : ℕ) → k < count edges → i < length (list_at 1024 edges k)
      → ImagesBelow 20 (get_or (list_at 1024 edges k) i 0 % 20) m rows

-- ---- pairs and codes

pub pair_code_holds : (p : Pair) → p.1 < 20 → pair_of (pair_code p) ≡ p
unfolding pair_code
pair_code_holds p h = pair_of_code p.0 p.1 h

-- both vertices are below a bound
pub record Ends (bound : ℕ) (p : Pair) : Type 0 where
  pub first : p.0 < bound
  pub second : p.1 < bound

pairs_rise : (x y : ℕ) → compare x y ≡ Ordering.lt → compare_pair (pair_of x) (pair_of y) ≡ Ordering.lt
unfolding pair_of compare_pair then_by
pairs_rise x y e =
    let l = compare_lt x y e in
    ⊎_elim
    (λ (h : x / 20 < y / 20). rw (lt_compare (x / 20) (y / 20) h) refl)
    (λ (h : y / 20 ≤ x / 20).
    let q : x / 20 ≡ y / 20 = omega arith in
    rw (q, nats.self (y / 20)) (lt_compare (x % 20) (y % 20) (omega arith)))
    (⊎_elim inr inl (le_or_lt (y / 20) (x / 20)))

pub codes_up : (marks : List Bool) (bound : ℕ) → Ascends compare (codes_marked marks bound)
unfolding codes_marked
codes_up marks bound =
    pairs_keep (λ x y. compare x y ≡ Ordering.lt) (λ (code : ℕ). get_or marks code false) (count_from 0 bound)
    (count_ascending 0 bound)

codes_ascend : (marks : List Bool) (bound : ℕ) → Ascends compare_pair (map pair_of (codes_marked marks bound))
codes_ascend marks bound =
    ascends_map compare nats compare_pair pairs pair_of (λ x. Unit {0}) (λ x y u v e. pairs_rise x y e)
    (codes_marked marks bound) (λ x i. tt) (codes_up marks bound)

-- ---- what is marked is read off in order

module _ (ps : List Pair) (small : (p : Pair) → Mem p ps → Ends 20 p) where
  abbrev marks : List Bool
  marks = marked (replicate 400 false) (map pair_code ps)

  at_code : (c : ℕ) → c < 400 → get_or marks c false ≡ (member_nat c (map pair_code ps) || false)
  at_code c h =
      let e = length-replicate 400 false in
      marked_at_holds (replicate 400 false) (map pair_code ps) c (omega arith)
      ∙ ap (λ (b : Bool). member_nat c (map pair_code ps) || b) (get_or-replicate 400 c false false h)

  is_marked : (p : Pair) → Mem p ps → T (get_or marks (pair_code p) false)
  unfolding member_nat
  is_marked p i =
      let s = small p i in
      subst T (sym (at_code (pair_code p) (code_small p s.first s.second)))
      (left_of (member_nat (pair_code p) (map pair_code ps)) false (any_of_holds (eqb (pair_code p)) (pair_code p)
      (map pair_code ps) (in_map pair_code p ps i) (eqb_refl (pair_code p))))

  of_marked : (c : ℕ) → c < 400 → T (get_or marks c false) → Mem (pair_of c) ps
  unfolding member_nat
  of_marked c h t =
      ⊎_elim
      (λ (m : T (member_nat c (map pair_code ps))).
      let w = any_witness (eqb c) (map pair_code ps) m in
      let r = of_map pair_code w.0 ps w.1 in
      let e : c ≡ pair_code r.0 = eqb→eq c w.0 w.2 ∙ r.2 in
      subst (λ (p : Pair). Mem p ps) (sym (ap pair_of e ∙ pair_code_holds r.0 (small r.0 r.1).second)) r.1)
      (λ f. absurd f)
      (either (member_nat c (map pair_code ps)) false (subst T (at_code c h) t))

  pub marked_in_order : edges_marked marks ≡ edges_in_order ps
  unfolding edges_marked codes_marked
  marked_in_order =
      same_ascending compare_pair pairs (map pair_of (codes_marked marks 400)) (edges_in_order ps)
      (codes_ascend marks 400) (in_order_ascends compare_pair pairs ps)
      (record {
        into = λ x i.
            let r = of_map pair_of x (codes_marked marks 400) i in
            let k = kept (λ (code : ℕ). get_or marks code false) r.0 (count_from 0 400) r.1 in
            let below = of_count 0 400 r.0 k.0 in
            in_in_order compare_pair pairs x ps
            (subst (λ (p : Pair). Mem p ps) (sym r.2) (of_marked r.0 (omega (arith, below.1)) k.1));
        back = λ x i.
            let m = of_in_order compare_pair pairs x ps i in
            let s = small x m in
            let low : pair_code x < 400 = code_small x s.first s.second in
            subst (λ (p : Pair). Mem p (map pair_of (codes_marked marks 400))) (pair_code_holds x s.second)
            (in_map pair_of (pair_code x) (codes_marked marks 400)
            (in_keep (λ (code : ℕ). get_or marks code false) (pair_code x) (count_from 0 400)
            (in_count 0 400 (pair_code x) (omega arith) (omega arith)) (is_marked x m)));
      })

-- ---- the images of facets' edges, as codes and as pairs

module _ {n m : ℕ} {s : List ℕ} (fits : RowsFit n m s) where
  -- an edge's image under a row has its vertices below 20
  pub image_ends : (e p : Pair) → Ends n e → Mem p (map (pair_image e) (rows_in n m s)) → Ends 20 p
  unfolding pair_image
  image_ends e p h i =
      let r = of_map (pair_image e) p (rows_in n m s) i in
      let a = row_below fits r.0 r.1 e.0 h.first in
      let b = row_below fits r.0 r.1 e.1 h.second in
      let f : p.0 ≡ min (image r.0 e.0) (image r.0 e.1) = ap (λ (x : Pair). x.0) r.2 in
      let g : p.1 ≡ max (image r.0 e.0) (image r.0 e.1) = ap (λ (x : Pair). x.1) r.2 in
      record { first = omega (arith, fits.n_fits); second = omega (arith, fits.n_fits) }

  one_edge : (e : Pair) → Ends n e
      → pair_codes (rows_in 32 m s) (pair_of (pair_code e)) ≡ map pair_code (map (pair_image e) (rows_in n m s))
  one_edge e h =
      ap (pair_codes (rows_in 32 m s)) (pair_code_holds e (omega (arith, h.second, fits.n_fits)))
      ∙ (codes_wide n m e.0 e.1 s h.first h.second fits.n_fits ∙ map_codes (rows_in n m s) e)

  pub edge_images : (es : List Pair) → ((e : Pair) → Mem e es → Ends n e)
      → image_codes (rows_in 32 m s) (map pair_code es)
      ≡ map pair_code (flat_map (λ (e : Pair). map (pair_image e) (rows_in n m s)) es)
  unfolding image_codes
  edge_images es h =
      flat_map_map (λ (code : ℕ). pair_codes (rows_in 32 m s) (pair_of code)) pair_code es
      ∙ (flat_map_same (λ (e : Pair). pair_codes (rows_in 32 m s) (pair_of (pair_code e)))
      (λ (e : Pair). map pair_code (map (pair_image e) (rows_in n m s))) es (λ e i. one_edge e (h e i))
      ∙ sym (map_flat_map pair_code (λ (e : Pair). map (pair_image e) (rows_in n m s)) es))
