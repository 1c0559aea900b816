-- The figure of a list of facets. `figure_of` numbers each rank as its elements come and sorts at the end; here the
-- same figure with each rank put in order at once (`gathered`), which shows that it depends on the set of its facets
-- alone, and that it has its shape. For every rank from 3. Leans on Move.
use Rattle.std.specs.Prelude.{get_or}
use mathlib.Core.List.{List, [], ◌∷◌, flat_map}
use Prim.Native.Nat.{ℕ}
use Rattle.definitions.specs.Lists.{compare_nats}
use Rattle.definitions.specs.Figures.{Elements, renumber, lowest_ranks}
use Rattle.laws.specs.Lists.{Mem, in_flat_map, of_flat_map}
use Rattle.laws.specs.Orders.{nat_lists}
use Rattle.laws.specs.Ascending.{fresh_distinct, of_fresh, in_fresh}
use Rattle.shapes.specs.Shape.{Element, Rank, Stack}

-- ---- facets

-- every facet is a stack over so many elements; one without ranks adds nothing
abbrev pub Facets : ℕ → List (List Elements) → Type 0
Facets bound facets = (r : List Elements) → Mem r facets → Stack bound r

-- the elements of the lowest rank of all facets, as they come
abbrev pub lowest_of : List Elements → Elements
lowest_of ranks = get_or ranks 0 []

abbrev pub lowest_all : List (List Elements) → Elements
lowest_all facets = flat_map lowest_of facets

-- a facet without its lowest rank is unchanged, that rank renumbered
unfoldable pub lowest_by : (ℕ → ℕ) → List Elements → List Elements
lowest_by number [] = []
lowest_by number (x ∷ more) = renumber number x ∷ more

pub lowest_element : (b : ℕ) (r : List Elements) → Stack b r → (e : List ℕ) → Mem e (lowest_of r) → Element b e
lowest_element b [] s e m = elim m [ ]
lowest_element b (x ∷ more) s e m = s.0.elements e m

pub all_elements : (b : ℕ) (facets : List (List Elements)) → Facets b facets → (e : List ℕ)
    → Mem e (lowest_all facets) → Element b e
all_elements b facets h e m = let r = of_flat_map lowest_of e facets m in lowest_element b r.0 (h r.0 r.1) e r.2

pub lowest_rank : (b : ℕ) (facets : List (List Elements)) → Facets b facets → Rank b (lowest_ranks facets)
unfolding lowest_ranks
lowest_rank b facets h = record {
  elements = λ e m. all_elements b facets h e (of_fresh compare_nats nat_lists [] (lowest_all facets) e m).0;
  distinct = fresh_distinct compare_nats nat_lists [] (lowest_all facets);
}

pub in_lowest : (facets : List (List Elements)) (r : List Elements) → Mem r facets → (e : List ℕ)
    → Mem e (lowest_of r) → Mem e (lowest_ranks facets)
unfolding lowest_ranks
in_lowest facets r m e i =
    in_fresh compare_nats nat_lists [] (lowest_all facets) e (in_flat_map lowest_of e r facets m i) (λ k. elim k [ ])
