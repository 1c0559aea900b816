-- Theorems on the definitions of specs/FewElements.
use Rattle.std.specs.Prelude.{◌≡◌, length}
use Rattle.std.proofs.Common.{sym, ap}
use Rattle.std.proofs.Math.Path.{subst}
use mathlib.Core.List.{List, [], ◌∷◌, Memᴰ}
use Prim.Native.Nat.{ℕ, zero, suc, ◌+◌, ◌*◌, ◌≤◌, max}
use native.Mathlib.Omega.{arith}
use Rattle.std.proofs.Math.Nat.{mul-le-mul}
use Rattle.std.proofs.Math.ListN.{length-map}
use Rattle.definitions.specs.Lists.{Pair}
use Rattle.definitions.specs.Outcome.{answered}
use Rattle.definitions.specs.Vectors.{Vec}
use Rattle.definitions.specs.Subspace.{Subspace}
use Rattle.definitions.specs.Orbits.{Row}
use Rattle.definitions.specs.Figures.{Figure, dyad}
use Rattle.definitions.specs.Recursion.{Rules, Entry, Answer, Inner, rows_within}
use Rattle.definitions.specs.Faceting.{split, finish, faceting}
use Rattle.shapes.specs.AnswerSizes.{within_few}
use Rattle.laws.specs.Lists.{Mem}
use Rattle.shapes.specs.Answered.{AnsweredCall, answered_call}
use Rattle.shapes.specs.Emitted.{entry_of_list}
use Rattle.shapes.specs.LowRanks.{rank_two}
use Rattle.shapes.specs.Calls.{Given, inner_points}
use Rattle.shapes.proofs.Calls.{inner_given}
use Rattle.shapes.specs.EdgeSets.{ends, polygon}
use Rattle.shapes.proofs.EntryFigures.{entry_polygon}
use Rattle.shapes.proofs.NestedCalls.{call_split}
use Rattle.shapes.specs.Sizes.{edges_few}
use Rattle.shapes.proofs.Sizes.{split_length}
use Rattle.shapes.specs.FewElements.{Few, entry_few, inner_points_holds, most_elements, sizes}

-- ---- the entries of a call, from its possible facets

-- one rank more: rows × possible facets × as many as the inner calls' entries have
pub step_few : (more r f v : ℕ) (rules : Rules) (plane : Subspace) (points : List Vec) (rows : List Row) (a : Answer)
    → Given points rows → rules.bounds.facets ≤ f → length rows ≤ r
    → (c : AnsweredCall more rules plane points rows a)
    → ((i : Inner) → Mem i c.before.inner → (e : Entry) → Mem e i.answer.entries → Few v e.figure)
    → (x : Entry) → Mem x a.entries → Few (max 1 (r * f * v)) x.figure
unfolding finish
step_few more r f v rules plane points rows a given few_facets_holds h c inner_few x i =
    let p = c.before in
    let q = entry_of_list rules p c.found c.is_found_holds x (subst (λ (y : Answer). Mem x y.entries) c.is i) in
    let parts = split_length rules p c.found c.is_found_holds
    (call_split more rules plane points rows p given c.prepared) q.0 q.1 in
    let same : length p.rows ≡ length rows = ap length c.prepared.rows_are in
    let wide : length p.rows ≤ r = omega arith in
    let short : length (split p q.0) ≤ f = omega (arith, c.prepared.few_facets_holds) in
    let product : length p.rows * length (split p q.0) * v
    ≤ r * f * v = mul-le-mul (mul-le-mul wide short) (omega arith) in
    subst (λ (y : Entry). Few (max 1 (r * f * v)) y.figure) (sym q.2)
    (entry_few p v inner_few (max 1 (r * f * v)) q.0 (omega arith) (omega arith))

-- ---- every rank

module _ (rules : Rules) (n r f : ℕ) (few_facets_holds : rules.bounds.facets ≤ f) where
  -- the edge of rank 2
  two_few : (plane : Subspace) (points : List Vec) (rows : List Row) (budget : ℕ) (a : Answer)
      → faceting 0 rules plane points rows budget ≡ answered a → (x : Entry) → Mem x a.entries → Few 1 x.figure
  unfolding dyad sizes
  two_few plane points rows budget a e x i =
      only (subst (λ (l : List Entry). Mem x l) (rank_two rules plane points rows budget a e).entries i)
    where
      one : Few 1 dyad
      one k (Memᴰ.head q) = omega arith
      one k (Memᴰ.tail m) = elim m [ ]

      only : {list : List Pair} → Mem x (record { list = list; before = list; figure = dyad } ∷ []) → Few 1 x.figure
      only (Memᴰ.head q) = subst (λ (y : Entry). Few 1 y.figure) (sym q) one
      only (Memᴰ.tail m) = elim m [ ]

  -- a polygon's edges are no more than the pairs of its points
  polygon_few : (points : ℕ) (edges : List Pair) (g : Figure) → points ≤ n → g ≡ polygon points edges
      → 2 * length edges + points ≤ points * points → Few (max 1 (n * n)) g
  unfolding polygon sizes
  polygon_few points edges g h is few = subst (Few (max 1 (n * n))) (sym is) go
    where
      go : Few (max 1 (n * n)) (polygon points edges)
      go k (Memᴰ.head q) =
          let a = length-map edges ends in
          let b : points * points ≤ n * n = mul-le-mul h h in
          omega arith
      go k (Memᴰ.tail (Memᴰ.head q)) = omega arith
      go k (Memᴰ.tail (Memᴰ.tail m)) = elim m [ ]

  -- what is known of all calls of a rank
  abbrev FewAt : ℕ → Type 0
  FewAt more =
      (plane : Subspace) (points : List Vec) (rows : List Row) (budget : ℕ) (a : Answer) → Given points rows
      → length points ≤ n → length rows ≤ r
      → faceting more rules plane points rows budget ≡ answered a → (x : Entry) → Mem x a.entries
      → Few (most_elements n r f more) x.figure

  -- an answered call whose inner calls have few
  few_from : (more : ℕ) (plane : Subspace) (points : List Vec) (rows : List Row) (a : Answer) → Given points rows
      → length points ≤ n → length rows ≤ r → AnsweredCall more rules plane points rows a → FewAt more
      → (x : Entry) → Mem x a.entries → Few (most_elements n r f (suc more)) x.figure
  unfolding most_elements
  few_from zero plane points rows a given h k c below x i =
      let q = entry_polygon rules plane points rows a given c x i in
      polygon_few (length points) q.0 x.figure h q.1 (edges_few (length points) q.0 q.2)
  few_from (suc more) plane points rows a given h k c below x i =
      let p = c.before in
      step_few (suc more) r f (most_elements n r f (suc more)) rules plane points rows a given few_facets_holds k c
      (λ j m.
      let inner = c.prepared.inner.each j m in
      let its = inner_points_holds (suc more) rules plane points rows p c.prepared j m in
      let own = within_few j.orbit.vertices rows in
      below _ (inner_points plane points j) (rows_within j.orbit.vertices rows) inner.budget j.answer
      (inner_given (suc more) rules (faceting (suc more) rules) plane points rows p c.prepared given.rows_good j m)
      (omega arith) (omega arith) inner.is)
      x i

  pub few_elements : (more : ℕ) → FewAt more
  unfolding most_elements
  few_elements zero plane points rows budget a given h k e x i = two_few plane points rows budget a e x i
  few_elements (suc more) plane points rows budget a given h k e x i =
      few_from more plane points rows a given h k (answered_call more rules plane points rows budget a e)
      (few_elements more) x i

  -- every answered call above rank 2, with a package or without
  pub answered_few : (more : ℕ) (plane : Subspace) (points : List Vec) (rows : List Row) (a : Answer)
      → Given points rows → length points ≤ n → length rows ≤ r → AnsweredCall more rules plane points rows a
      → (x : Entry) → Mem x a.entries → Few (most_elements n r f (suc more)) x.figure
  answered_few more plane points rows a given h k c = few_from more plane points rows a given h k c (few_elements more)
