-- How much a call of a rank may keep and search, and where everything lies that follows from it. What is kept fits any
-- workspace that its end fits, whatever the capacities (`kept_fits`); that the tables behind it do is in the crate
-- `ridges` (`tables_fit`). The numbers of ranks 3 and 4 fit the workspaces of [11.3], and those of rank 5 would fit
-- 16,777,216 bytes. Leans on Keeps, on pools and on the definition of the workspaces. Assumes nothing.
use Rattle.std.specs.Prelude.{◌≡◌, refl, Bool, true, false, cond, ℕ, ◌+◌, ◌-◌, ◌*◌, ◌≤◌, eqb}
use Rattle.std.proofs.Common.{ap, arith, eq-eqb, ne_eqb, ⊎_elim}
use Rattle.definitions.specs.Job.{workspace_for}
use Rattle.laws.specs.Segments.{le_or_lt}
use Rattle.pool.specs.Pool.{base}
use Rattle.layout.specs.Keeps.{LayoutFits}
use Rattle.layout.specs.declared.Capacities.{Capacities}
use Rattle.layout.specs.declared.KeptLayout.{KeptLayout}
use Rattle.layout.specs.declared.TableLayout.{TableLayout}

-- ---- the ranks

-- two of 20 points span a hyperplane, whose facet is one edge with two ends
unfoldable pub capacities_three : Capacities
capacities_three = record {
  orbits = 190;
  edges = 1;
  edge_bytes = 2;
  ridges = 2;
  ridge_bytes = 4;
  ridge_orbits = 20;
}

-- a facet has at most the 190 edges that 20 points have, and each is a ridge
unfoldable pub capacities_four : Capacities
capacities_four = record {
  orbits = 256;
  edges = 190;
  edge_bytes = 2;
  ridges = 190;
  ridge_bytes = 4;
  ridge_orbits = 190;
}

-- of ten points: four span a hyperplane; a facet is listed with at most 675 polygons, each a number of eight bytes; a
-- ridge is a polygon with its number of points; an orbit has no more ridges than an inner call has facets, and a facet
-- no more places. No call has this rank yet.
unfoldable pub capacities_five : Capacities
capacities_five = record {
  orbits = 210;
  edges = 675;
  edge_bytes = 8;
  ridges = 1024;
  ridge_bytes = 8;
  ridge_orbits = 1024;
}

unfoldable pub capacities_of : ℕ → Capacities
capacities_of rank = cond (eqb rank 3) capacities_three capacities_four

pub of_three : (rank : ℕ) → rank ≡ 3 → capacities_of rank ≡ capacities_three
unfolding capacities_of
of_three rank e = ap (λ (b : Bool). cond b capacities_three capacities_four) (eq-eqb rank 3 e)

pub of_four : (rank : ℕ) → (rank ≡ 3 → ⊥) → capacities_of rank ≡ capacities_four
unfolding capacities_of
of_four rank n = ap (λ (b : Bool). cond b capacities_three capacities_four) (ne_eqb rank 3 n)

-- ---- the places

-- numbers so small that no place is beyond a machine's word
pub record Bounded (c : Capacities) : Type 0 where
  pub few_orbits : c.orbits ≤ 256
  pub few_edges : c.edges ≤ 1024
  pub edge_room : c.edge_bytes * (1024 * c.edges) ≤ 16777216
  pub few_ridges : c.ridges ≤ 1024
  pub ridge_items : c.orbits * c.ridges ≤ 262144
  pub ridge_room : c.ridge_bytes * (c.orbits * c.ridges) ≤ 16777216
  pub few_ridge_orbits : c.ridge_orbits ≤ 1024

-- the orbits found, the edges of 1,024 facets, their labels and owners, the ridges of the orbits, the facets' places
unfoldable pub kept_layout : Capacities → KeptLayout
kept_layout c =
    let labels = 2048 + (base 1024 + c.edge_bytes * (1024 * c.edges)) in
    let owners = labels + 4096 in
    let ridges = owners + 2048 in
    let places = ridges + (base 256 + c.ridge_bytes * (c.orbits * c.ridges)) in
    record {
      orbits = 0;
      facets = 0;
      edges = 2048;
      labels = labels;
      owners = owners;
      ridges = ridges;
      places = places;
      end = places + (base 1024 + 2 * (1024 * c.ridges));
    }

-- the numbers of the ridges, the shares of 1,024 facets, what each facet adds to each ridge orbit, for each ridge
-- orbit the facets with a share of 1, the search's frames and totals, and 1,024 emitted lists
unfoldable pub tables_from : ℕ → Capacities → TableLayout
tables_from numbers c =
    let shares = numbers + (base 256 + 2 * (256 * c.ridges)) in
    let touched = shares + (base 1024 + 2 * (1024 * c.ridges)) in
    let ones = touched + (base 1024 + 2 * (1024 * c.ridge_orbits)) in
    let frames = ones + (base c.ridge_orbits + 2 * (1024 * c.ridges)) in
    let totals = frames + 4112 in
    let lists = totals + (256 + c.ridge_orbits) in
    record {
      numbers = numbers;
      shares = shares;
      touched = touched;
      ones = ones;
      frames = frames;
      totals = totals;
      lists = lists;
      end = lists + (base 1024 + 2 * (1024 * c.orbits));
    }

-- they lie behind what is kept
unfoldable pub table_layout : Capacities → TableLayout
table_layout c = tables_from (kept_layout c).end c

-- behind lists: their numbers in their order, and a label for each
abbrev pub listed_bytes : ℕ
listed_bytes = 2 * 1024 + 4 * 1024

-- a pool of 1,024 lists with at most 1,024 facets each
abbrev pub split_bytes : ℕ
split_bytes = base 1024 + 2 * (1024 * 1024)

-- the owners of the facets, split lists, and what is behind them
abbrev pub entry_bytes : ℕ
entry_bytes = 2048 + split_bytes + listed_bytes

-- at rank 4 the images of facets begin here at most: behind it the workspace has eight bytes for each of 1,024 facets
-- under each of 120 rows
abbrev pub images_from : ℕ
images_from = 4194304 - 8 * (1024 * 120)

unfoldable pub layout_for : ℕ → KeptLayout
layout_for rank = kept_layout (capacities_of rank)

unfoldable pub table_layout_for : ℕ → TableLayout
table_layout_for rank = table_layout (capacities_of rank)

-- ---- they fit

-- what is kept lies in its areas, whatever the capacities
pub kept_fits : (c : Capacities) (size : ℕ) → (kept_layout c).end ≤ size → LayoutFits (kept_layout c) size
unfolding kept_layout
kept_fits c size h = record {
  orbit_room = omega arith;
  edge_room = omega arith;
  label_room = omega arith;
  owner_room = omega arith;
  ridge_room = omega arith;
  place_room = omega arith;
  ends = h;
}

-- each pool has room for all that the capacities name
pub kept_room : (c : Capacities)
    → (base 1024 + c.edge_bytes * (1024 * c.edges) ≤ (kept_layout c).labels - (kept_layout c).edges)
    × (base 256 + c.ridge_bytes * (c.orbits * c.ridges) ≤ (kept_layout c).places - (kept_layout c).ridges)
    × (base 1024 + 2 * (1024 * c.ridges) ≤ (kept_layout c).end - (kept_layout c).places)
unfolding kept_layout
kept_room c = (omega arith, omega arith, omega arith)

-- and ends far below what a machine's word holds
pub kept_small : (c : Capacities) → Bounded c → (kept_layout c).end ≤ 67108864
unfolding kept_layout
kept_small c b = omega (arith, b.edge_room, b.ridge_room, b.few_ridges)

-- nothing is kept as it begins
pub layout_empty : (c : Capacities) → ((kept_layout c).orbits ≡ 0) × ((kept_layout c).facets ≡ 0)
unfolding kept_layout
layout_empty c = (refl, refl)

pub bounded_rank : (rank : ℕ) → Bounded (capacities_of rank)
unfolding capacities_of capacities_three capacities_four
bounded_rank rank = go (eqb rank 3)
  where
    go : (b : Bool) → Bounded (cond b capacities_three capacities_four)
    go true = record {
      few_orbits = omega arith;
      few_edges = omega arith;
      edge_room = omega arith;
      few_ridges = omega arith;
      ridge_items = omega arith;
      ridge_room = omega arith;
      few_ridge_orbits = omega arith;
    }
    go false = record {
      few_orbits = omega arith;
      few_edges = omega arith;
      edge_room = omega arith;
      few_ridges = omega arith;
      ridge_items = omega arith;
      ridge_room = omega arith;
      few_ridge_orbits = omega arith;
    }

-- as far as what lays the tables goes: at most 190 ridges of an orbit and 190 ridge orbits
pub tables_few : (rank : ℕ) → ((capacities_of rank).ridges ≤ 190) × ((capacities_of rank).ridge_orbits ≤ 190)
unfolding capacities_of capacities_three capacities_four
tables_few rank = go (eqb rank 3)
  where
    go : (b : Bool) → ((cond b capacities_three capacities_four).ridges ≤ 190)
        × ((cond b capacities_three capacities_four).ridge_orbits ≤ 190)
    go true = (omega arith, omega arith)
    go false = (omega arith, omega arith)

-- what is kept ends inside the workspace of its rank [11.3], and behind it there is that of an inner call
pub kept_ends : (rank : ℕ) → 3 ≤ rank → rank ≤ 4
    → (layout_for rank).end + workspace_for (rank - 1) ≤ workspace_for rank
unfolding layout_for kept_layout capacities_of capacities_three capacities_four workspace_for
kept_ends rank least most = ⊎_elim
    (λ h. let e : rank ≡ 3 = omega arith in rw e (omega arith))
    (λ h. let e : rank ≡ 4 = omega arith in rw e (omega arith)) (le_or_lt rank 3)

-- and so do the tables behind it
pub table_ends : (rank : ℕ) → 3 ≤ rank → rank ≤ 4 → (table_layout_for rank).end ≤ workspace_for rank
unfolding table_layout_for table_layout tables_from kept_layout capacities_of capacities_three capacities_four
    workspace_for
table_ends rank least most = ⊎_elim
    (λ h. let e : rank ≡ 3 = omega arith in rw e (omega arith))
    (λ h. let e : rank ≡ 4 = omega arith in rw e (omega arith)) (le_or_lt rank 3)

-- a call above rank 2 has the workspace of rank 3 at least
pub least_workspace : (rank : ℕ) → 3 ≤ rank → 524288 ≤ workspace_for rank
unfolding workspace_for
least_workspace rank h = rw (ne_eqb rank 2 (λ e. omega arith)) (go (eqb rank 3))
  where
    go : (b : Bool) → 524288 ≤ cond b 524288 4194304
    go true = omega arith
    go false = omega arith

-- the numbers of rank 5 would fit 16,777,216 bytes, with the workspace of rank 4 behind what is kept
pub five_ends : ((table_layout capacities_five).end ≤ 16777216)
    × ((kept_layout capacities_five).end + 4194304 ≤ 16777216) × Bounded capacities_five
unfolding table_layout tables_from kept_layout capacities_five
five_ends = (
  omega arith,
  omega arith,
  record {
    few_orbits = omega arith;
    few_edges = omega arith;
    edge_room = omega arith;
    few_ridges = omega arith;
    ridge_items = omega arith;
    ridge_room = omega arith;
    few_ridge_orbits = omega arith;
  },
)
