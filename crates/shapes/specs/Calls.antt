-- Every figure of every call has its shape: entries and possible facets, at every rank, by induction on the rank.
-- What a job guarantees of the outermost call (two points at least, rows that are permutations with the identity
-- first) holds of the inner calls too. Leans on FigureOf, Sets and Answered.
use Rattle.std.specs.Prelude.{◌≡◌, refl, length}
use Rattle.std.proofs.Common.{sym, arith}
use Rattle.std.proofs.Math.Path.{subst}
use mathlib.Core.List.{List, [], ◌∷◌, map}
use Prim.Native.Nat.{ℕ, zero, suc, ◌+◌, ◌≤◌}
use Rattle.std.proofs.Math.ListN.{get_or}
use Rattle.std.proofs.lemmas.List.{length-map}
use Rattle.definitions.specs.Outcome.{answered}
use Rattle.definitions.specs.Vectors.{Vec}
use Rattle.definitions.specs.Subspace.{Subspace, flatten}
use Rattle.definitions.specs.Orbits.{Row, point_at}
use Rattle.definitions.specs.Figures.{Figure}
use Rattle.definitions.specs.Recursion.{Rules, Entry, Answer, Call, Inner}
use Rattle.definitions.specs.Faceting.{Prepared, faceting}
use Rattle.laws.specs.Lists.{Mem, here, there}
use Rattle.laws.specs.Ranges.{Permutes}
use Rattle.shapes.specs.Answered.{Preparation, made_orbit}
use Rattle.shapes.specs.Shape.{Shaped}
use Rattle.shapes.specs.Sets.{VertexSet, Rows, points_of_refit}
use Rattle.shapes.specs.CallOrbits.{call_orbit_set}

-- ---- inner calls inherit

-- what a call is given
pub record Given (points : List Vec) (rows : List Row) : Type 0 where
  pub two : 2 ≤ length points
  pub rows_good : Rows (length points) rows

-- the points of an inner call
abbrev pub inner_points : Subspace → List Vec → Inner → List Vec
inner_points plane points i = map (point_at (map (flatten plane) points)) i.orbit.vertices

module _ (more : ℕ) (rules : Rules) (call : Call) (plane : Subspace) (points : List Vec) (rows : List Row)
    (p : Prepared) (made : Preparation more rules call plane points rows p) where
  -- the vertices of an orbit's first set ascend, below the number of points
  pub inner_set : (i : Inner) → Mem i p.inner → VertexSet (length points) i.orbit.vertices
  inner_set i m = call_orbit_set more rules plane points rows i.orbit (made_orbit made i m)

  pub inner_size : (i : Inner) → length (inner_points plane points i) ≡ length i.orbit.vertices
  inner_size i = length-map i.orbit.vertices (point_at (map (flatten plane) points))

  -- an inner call has as many points as its rank at least
  pub inner_enough : (i : Inner) → Mem i p.inner → 2 + more ≤ length i.orbit.vertices
  inner_enough i m =
      let e = inner_size i in
      let k = points_of_refit rules.tolerance (inner_points plane points i) more (made.inner.each i m).basis in
      omega arith

-- ---- what is shown of an answer

-- the number of ranks of a possible facet, less one: at rank 2 a ridge has three ranks too
unfoldable pub facet_rank : ℕ → ℕ
facet_rank zero = 2
facet_rank (suc more) = 2 + more

pub record ShapedAnswer (n more : ℕ) (a : Answer) : Type 0 where
  pub entries : (e : Entry) → Mem e a.entries → Shaped n (2 + more) e.figure
  pub possible : (fs : List Figure) → Mem fs a.possible → (f : Figure) → Mem f fs → Shaped n (facet_rank more) f

-- ---- above rank 2

-- an item at a place, or what stands for none
pub at_or : {A : Type 0} (P : A → Type 0) (l : List A) (i : ℕ) (d : A) → P d → ((x : A) → Mem x l → P x)
    → P (get_or l i d)
at_or P [] i d none_so h = none_so
at_or P (x ∷ l) zero d none_so h = h x (here refl)
at_or P (x ∷ l) (suc i) d none_so h = at_or P l i d none_so (λ y m. h y (there m))

-- ---- every call

-- what holds of the answers of one rank less
abbrev pub Below : ℕ → Rules → Type 0
Below more rules =
    (plane : Subspace) (points : List Vec) (rows : List Row) (budget : ℕ) (b : Answer) → Given points rows
    → faceting more rules plane points rows budget ≡ answered b
    → ShapedAnswer (length points) more b

-- what a call has before its search
module _ (more : ℕ) (rules : Rules) (plane : Subspace) (points : List Vec) (rows : List Row) (p : Prepared)
    (given : Given points rows) (made : Preparation more rules (faceting more rules) plane points rows p) where
  abbrev call : Call
  call = faceting more rules

  -- its sets and rows
  pub call_set : (i : Inner) → Mem i p.inner → VertexSet p.points i.orbit.vertices
  call_set i m =
      subst (λ (n : ℕ). VertexSet n i.orbit.vertices) (sym made.points_are)
      (inner_set more rules call plane points rows p made i m)

  pub call_row : (row : Row) → Mem row p.rows → Permutes p.points row
  call_row row m =
      subst (λ (n : ℕ). Permutes n row) (sym made.points_are)
      (given.rows_good.permute row (subst (λ (l : List Row). Mem row l) made.rows_are m))
