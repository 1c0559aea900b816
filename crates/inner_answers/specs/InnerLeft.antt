-- What an answered inner call of rank 3 has left is what a call of rank 4 asks before it keeps it: every orbit has
-- one facet, which is one proper edge. Leans on the sizes of what is kept.
use Rattle.std.specs.Prelude.{◌≡◌, refl, ℕ, suc, ◌+◌, ◌≤◌, ◌<◌, length, get_or, drop}
use Rattle.std.proofs.Common.{sym, ap, ◌∙◌, subst, arith}
use mathlib.Core.List.{List, [], ◌∷◌, ◌++◌, map, Memᴰ}
use Rattle.std.specs.Prelude.{Option, Some, None}
use Rattle.std.proofs.lemmas.List.{length-map}
use Rattle.definitions.specs.Lists.{Pair}
use Rattle.definitions.specs.Vectors.{Vec}
use Rattle.definitions.specs.Subspace.{Subspace}
use Rattle.definitions.specs.Orbits.{Row}
use Rattle.definitions.specs.Outcome.{answered}
use Rattle.definitions.specs.Figures.{Compound, compound_at, compounds_from}
use Rattle.definitions.specs.Recursion.{Rules, Entry}
use Rattle.definitions.specs.Faceting.{Prepared, faceting}
use Rattle.laws.specs.Options.{none_is_not_some}
use Rattle.laws.specs.Lists.{Mem, here, there}
use Rattle.laws.specs.Parts.{length_rows}
use Rattle.shapes.specs.Answered.{Preparation}
use Rattle.shapes.specs.Calls.{Given}
use Rattle.shapes.specs.EdgeSets.{Proper}
use Rattle.shapes.specs.LowRanks.{edge_of}
use Rattle.shapes.specs.Kept.{Kept, kept_of}
use Rattle.shapes.specs.KeptSizes.{kept_edge}
use Rattle.shapes.proofs.SplitCalls.{split_answer}
use Rattle.shapes.proofs.KeptSizes.{kept_sized}
use Rattle.labels.specs.Labels.{labels_in}
use Rattle.rows.specs.Rows.{rows_in, RowsFit}
use Rattle.layout.specs.Leaves.{Leaves, answer_left, entry_left, both_left, both_length}
use Rattle.layout.specs.declared.Level.{Level}
use Rattle.left_edges.specs.Polygons.{OneEdge, EdgesLeft, edge_in}

pub one_edges : (rules : Rules) (plane : Subspace) (points : List Vec) (rows : List Row) (p : Prepared)
    → Given points rows → Preparation 0 rules (faceting 0 rules) plane points rows p → length rows ≤ 120
    → (k : Kept) → Mem k (map kept_of p.inner) → OneEdge (length points) k
unfolding edge_in
one_edges rules plane points rows p given made few k m =
    let e = kept_edge rules plane points rows p made k m in
    let s = kept_sized 0 rules plane points rows p (omega arith) given made k m in
    let own : edge_in k ≡ edge_of k.orbit = ap (λ (ls : List (List Pair)). get_or (get_or ls 0 []) 0 (0, 0)) e.edges in
    let listed : Mem (edge_of k.orbit ∷ []) k.edges =
    subst (λ (ls : List (List Pair)). Mem (edge_of k.orbit ∷ []) ls) (sym e.edges) (here refl) in
    record {
      places = ap length e.places;
      edges = e.edges ∙ ap (λ (d : Pair). (d ∷ []) ∷ []) (sym own);
      proper =
          subst (Proper (length points)) (sym own)
          ((s.edges_set (edge_of k.orbit ∷ []) listed).proper (edge_of k.orbit) (here refl));
      few = let c = s.counted.few in omega arith;
    }

-- ---- labels

-- a label is one of the compounds
compound_in : (a : ℕ) (os : List (Option Pair)) (p : Pair) → Mem (Some p) os
    → (w : ℕ) × Mem (record { whole = w; first = p.0; second = p.1 }) (compounds_from a os)
unfolding compounds_from compound_at
compound_in a [] p x' = elim x' [ ]
compound_in a (Some q ∷ os) p (Memᴰ.head e) = (a, here (ap (λ (o : Option Pair). made a o) e))
  where
    made : ℕ → Option Pair → Compound
    made a None = record { whole = a; first = 0; second = 0 }
    made a (Some p) = record { whole = a; first = p.0; second = p.1 }
compound_in a (None ∷ os) p (Memᴰ.head e) = absurd (none_is_not_some p (sym e))
compound_in a (o ∷ os) p (Memᴰ.tail m) =
    let r = compound_in (suc a) os p m in (
      r.0,
      to_right (compound_at a o) (compounds_from (suc a) os) (record {
        whole = r.0;
        first = p.0;
        second = p.1;
      }) r.1,
    )
  where
    to_right : (l k : List Compound) (c : Compound) → Mem c k → Mem c (l ++ k)
    to_right [] k c i = i
    to_right (x ∷ l) k c i = there (to_right l k c i)

-- the labels that a call of rank 3 leaves name its entries
pub labels_left_holds : (rules : Rules) (plane : Subspace) (points : List Vec) (rows : List Row) (budget n : ℕ)
    (kept : List Kept) (level : Level) (s : List ℕ) (left : ℕ)
    → faceting 1 rules plane points rows budget ≡ answered (answer_left 0 n rows kept level s left) → (p : Pair)
    → Mem (Some p) (labels_in (level.bytes + 2048) level.count (drop level.lists s)) → (p.0 < p.1) × (p.1 < level.count)
unfolding answer_left
labels_left_holds rules plane points rows budget n kept level s left e p m =
    let a = answer_left 0 n rows kept level s left in
    let splits = split_answer 1 rules plane points rows budget a e in
    let r = compound_in 0 (labels_in (level.bytes + 2048) level.count (drop level.lists s)) p m in
    let c = splits.compounds (record { whole = r.0; first = p.0; second = p.1 }) r.1 in
    let n1 = length-map a.entries (λ (x : Entry). x.list) in
    let n2 = length-map (both_left level s) (entry_left 0 n rows kept) in
    let n3 = both_length level s in
    let b = c.second_below in
    (c.behind, omega arith)

-- what a call of rank 4 asks of it
pub edges_left : (rules : Rules) (plane : Subspace) (points : List Vec) (rows : List ℕ) (m budget : ℕ) (p : Prepared)
    (level : Level) (s : List ℕ) (left : ℕ)
    → Given points (rows_in (length points) m rows)
    → Preparation 0 rules (faceting 0 rules) plane points (rows_in (length points) m rows) p
    → RowsFit (length points) m rows → m ≤ 120
    → Leaves 0 (length points) (rows_in (length points) m rows) (map kept_of p.inner) level s
    → faceting 1 rules plane points (rows_in (length points) m rows) budget
    ≡ answered (answer_left 0 (length points) (rows_in (length points) m rows) (map kept_of p.inner) level s left)
    → EdgesLeft (length points) m (map kept_of p.inner) level rows s
unfolding rows_in
edges_left rules plane points rows m budget p level s left given made fits few leaves e = record {
  leaves = leaves;
  each =
      one_edges rules plane points (rows_in (length points) m rows) p given made (let k =
      length_rows 32 (length points) m rows in omega arith);
  rows_fit = fits;
  labelled =
      labels_left_holds rules plane points (rows_in (length points) m rows) budget (length points)
      (map kept_of p.inner) level s left e;
}
