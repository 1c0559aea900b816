-- Every number of an answer lies below a bound, at every rank: examined, the orbits' counts, the entries with their
-- lists and figures, the possible facets, the compounds, the summaries. The premises are the call's own: its budget,
-- its points and rows, the bounds of its rules, and how many elements its figures have in a rank; that number is
-- computed for every rank (`words_below`), and where a call refuses to store larger figures, its own bound takes the
-- place of the computed one (`words_from_inner`). Leans on FigureNumbers and FewElements.
use Rattle.std.specs.Prelude.{◌≡◌}
use Rattle.std.proofs.Math.Path.{sym, subst}
use Rattle.std.proofs.Common.{arith}
use mathlib.Core.List.{List, [], ◌∷◌, flat_map, Memᴰ}
use Prim.Native.Nat.{ℕ, zero, suc, ◌+◌, ◌<◌}
use Rattle.std.proofs.Math.ListN.{length}
use Rattle.definitions.specs.Lists.{Pair}
use Rattle.definitions.specs.Outcome.{answered}
use Rattle.definitions.specs.Vectors.{Vec}
use Rattle.definitions.specs.Subspace.{Subspace}
use Rattle.definitions.specs.Orbits.{Row}
use Rattle.definitions.specs.Figures.{Figure, Compound, dyad}
use Rattle.definitions.specs.Search.{Facet}
use Rattle.definitions.specs.Recursion.{Rules, Bounds, Entry, Answer}
use Rattle.definitions.specs.Faceting.{split, facet_images, entry_of, finish, faceting}
use Rattle.definitions.specs.Job.{compound_words}
use Rattle.laws.specs.Lists.{Mem}
use Rattle.shapes.specs.Answered.{AnsweredCall, answered_call}
use Rattle.shapes.specs.Emitted.{entry_of_list}
use Rattle.shapes.specs.LowRanks.{RankTwo, rank_two, few_entries_holds}
use Rattle.shapes.specs.Calls.{Given}
use Rattle.shapes.specs.FewElements.{Few, possible_few}
use Rattle.shapes.specs.FigureNumbers.{WordsBelow, OnGround, figure_ground, dyad_ground}

-- ---- what is counted beside figures

-- a list of facets: how many, their orbits and numbers
pub record FacetsBelow (most : ℕ) (l : List Facet) : Type 0 where
  pub few : length l < most
  pub items : (g : Facet) → Mem g l → (g.0 < most) × (g.1 < most)

pub record NumbersBelow (most : ℕ) (a : Answer) : Type 0 where
  pub few_counts : length a.counts < most
  pub counts : (c : ℕ) → Mem c a.counts → c < most
  pub few_entries_holds : length a.entries < most
  pub lists : (x : Entry) → Mem x a.entries → FacetsBelow most x.list × FacetsBelow most x.before
  pub few_possible : (fs : List Figure) → Mem fs a.possible → length fs < most
  pub few_compounds : length a.compounds < most
  pub compounds : (c : Compound) → Mem c a.compounds → WordsBelow most (compound_words c)

-- what a call's own numbers are to lie below
pub record Under (most more : ℕ) (bounds : Bounds) (points rows : ℕ) : Type 0 where
  pub ranks : 3 + more < most
  pub few_points : points < most
  pub few_rows : rows < most
  pub orbits : bounds.orbits < most
  pub facets : bounds.facets < most
  pub entries : bounds.entries < most

-- ---- the figures of an answer

-- on so many points at most, and with at most so many elements in each rank from the edges up
pub record Measured (n w : ℕ) (a : Answer) : Type 0 where
  pub entry_ground : (x : Entry) → Mem x a.entries → OnGround n x.figure
  pub entry_few : (x : Entry) → Mem x a.entries → Few w x.figure
  pub possible_ground : (fs : List Figure) → Mem fs a.possible → (f : Figure) → Mem f fs → OnGround n f
  pub possible_few : (fs : List Figure) → Mem fs a.possible → (f : Figure) → Mem f fs → Few w f

-- ---- the figures of a call

-- the one entry of rank 2, and its ridges
two_entry : (P : Figure → Type 0) (budget : ℕ) (a : Answer) → RankTwo budget a → P dyad → (x : Entry)
    → Mem x a.entries → P x.figure
two_entry P budget a r h x i = only (subst (λ (l : List Entry). Mem x l) r.entries i)
  where
    only : {list : List Pair} → Mem x (record { list = list; before = list; figure = dyad } ∷ []) → P x.figure
    only (Memᴰ.head q) = subst (λ (y : Entry). P y.figure) (sym q) h
    only (Memᴰ.tail m) = elim m [ ]

-- entries stand on their call's points, in an answered call above rank 2 and at every rank
pub call_ground : (more : ℕ) (rules : Rules) (plane : Subspace) (points : List Vec) (rows : List Row) (a : Answer)
    → Given points rows → AnsweredCall more rules plane points rows a
    → (x : Entry) → Mem x a.entries → OnGround (length points) x.figure
unfolding finish entry_of
call_ground more rules plane points rows a given c x i =
    let p = c.before in
    let r = entry_of_list rules p c.found c.is_found_holds x (subst (λ (y : Answer). Mem x y.entries) c.is i) in
    let n = c.prepared.points_are in
    let two = given.two in
    subst (λ (y : Entry). OnGround (length points) y.figure) (sym r.2)
    (subst (λ (k : ℕ). OnGround k (entry_of p r.0).figure) n
    (figure_ground p.more p.points (flat_map (facet_images p) (split p r.0)) (omega arith)))

pub entries_ground : (more : ℕ) (rules : Rules) (plane : Subspace) (points : List Vec) (rows : List Row) (budget : ℕ)
    (a : Answer) → Given points rows
    → faceting more rules plane points rows budget ≡ answered a → (x : Entry) → Mem x a.entries
    → OnGround (length points) x.figure
entries_ground zero rules plane points rows budget a given e x i =
    two_entry (OnGround (length points)) budget a (rank_two rules plane points rows budget a e)
    (dyad_ground (length points) given.two) x i
entries_ground (suc more) rules plane points rows budget a given e x i =
    call_ground more rules plane points rows a given (answered_call more rules plane points rows budget a e) x i
