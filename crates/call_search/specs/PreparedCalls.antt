-- What a call has when its search begins: all its inner calls are made, and the workspace keeps what they answered.
-- So its tables can be laid, at each rank. Leans on TableLayouts, on what is kept of inner calls and how
-- much that can be.
use Rattle.std.specs.Prelude.{◌≡◌, Bool, List, map, ℕ, zero, suc, ◌+◌, ◌≤◌}
use Rattle.std.proofs.Common.{sym, ◌∙◌, subst, arith}
use Rattle.std.proofs.Math.Path.{ap}
use Rattle.std.proofs.Math.ListN.{length}
use Rattle.definitions.specs.Vectors.{Vec}
use Rattle.definitions.specs.Subspace.{Subspace}
use Rattle.definitions.specs.Orbits.{Row}
use Rattle.definitions.specs.Recursion as def
use Rattle.definitions.specs.Faceting.{Prepared, faceting}
use Rattle.laws.specs.Lists.{Mem}
use Rattle.laws.specs.Parts.{length_rows}
use Rattle.rows.specs.Rows.{rows_in, RowsFit}
use Rattle.space.specs.Meaning as space
use Rattle.shapes.specs.Answered.{Preparation}
use Rattle.shapes.specs.Calls.{Given}
use Rattle.shapes.specs.Kept.{Kept, kept_of, numbers_kept}
use Rattle.shapes.specs.KeptSizes.{KeptSized, kept_edge}
use Rattle.shapes.proofs.KeptSizes.{kept_sized, few_orbits_three}
use Rattle.shapes.specs.KeptRidges.{RidgesKept, rank_three_ridges}
use Rattle.shapes.proofs.RidgesKept.{ridges_kept}
use Rattle.layout.specs.declared.KeptLayout.{KeptLayout}
use Rattle.layout.specs.Keeps.{Keeps, Ridges}
use Rattle.calls.specs.declared.Rules.{Rules}
use Rattle.definitions.specs.Job.{workspace_for}
use Rattle.layout.specs.declared.Capacities.{Capacities}
use Rattle.layout.specs.Capacities.{capacities_three, capacities_four, capacities_of, of_three, of_four, layout_for}
use Rattle.layout.specs.Capacities.{table_layout_for, table_ends, tables_few}
use Rattle.ridges.specs.TableLayouts as table_layouts
use Rattle.ridges.specs.TableLayouts.{TableLayoutFits}
use Rattle.ridges.specs.Fits.{tables_fit}
use Rattle.ridges.specs.Small.{Small}

-- the definition's rules, from those that the code passes down
unfoldable pub call_rules : Rules → def.Rules
call_rules rules = record {
  tolerance = rules.tolerance;
  lengths = space.limits_of rules.limits;
  entry_limit = rules.limit;
  bounds = record { orbits = rules.orbits; facets = rules.facets; entries = rules.entries };
  rule = rules.rule;
}

-- a call of rank 3 + more before its search
pub record PreparedCall : Type 0 where
  pub more : ℕ
  pub plane : Subspace
  pub points : List Vec
  pub rows : List Row
  pub prepared : Prepared

abbrev pub points_in : PreparedCall → ℕ
points_in k = length k.points

abbrev pub kept_in : PreparedCall → List Kept
kept_in k = map kept_of k.prepared.inner

-- the workspace holds what such a call has: its rows lie in bytes, and the areas of its rank hold what is kept
pub record CallPrepared (k : PreparedCall) (layout : KeptLayout) (rank : ℕ) (rows : List ℕ) (m : ℕ) (rules : Rules)
    (extended : Bool) (left : ℕ) (s : List ℕ) : Type 0 where
  pub few_more : k.more ≤ 1
  pub rank_is : rank ≡ 3 + k.more
  pub given : Given k.points k.rows
  pub few_points : points_in k ≤ 20
  pub made : Preparation k.more (call_rules rules)
      (faceting k.more (call_rules rules)) k.plane k.points k.rows k.prepared
  pub left_is : left ≡ k.prepared.left
  pub extended_is : extended ≡ k.prepared.extended
  pub few_entries_holds : rules.entries ≡ 1024
  pub rows_are : k.rows ≡ rows_in (points_in k) m rows
  pub rows_fit_holds : RowsFit (points_in k) m rows
  pub rows_few : m ≤ 120
  pub keeps : Keeps (points_in k) layout (kept_in k) s
  pub ridges : Ridges layout (kept_in k) s
  pub owners_at : layout.owners ≡ (layout_for rank).owners
  pub end_at_holds : layout.end ≡ (layout_for rank).end
  pub room : workspace_for rank ≤ length s

module _ (k : PreparedCall) (layout : KeptLayout) (rank : ℕ) (rows : List ℕ) (m : ℕ) (rules : Rules) (extended : Bool)
    (left : ℕ) (s : List ℕ) (st : CallPrepared k layout rank rows m rules extended left s) where
  rows_many : length k.rows ≤ 120
  unfolding rows_in
  rows_many = let e = ap length st.rows_are ∙ length_rows 32 (points_in k) m rows in omega (arith, st.rows_few)

  sized : (j : Kept) → Mem j (kept_in k) → KeptSized k.more (points_in k) k.rows j
  sized = kept_sized k.more (call_rules rules) k.plane k.points k.rows k.prepared st.few_more st.given st.made

  small : (most : ℕ) → ((j : Kept) → Mem j (kept_in k) → length j.ends ≤ most) → Small (points_in k) most (kept_in k)
  small most few = record {
    long = λ j i. (sized j i).ends_many;
    ends = λ j i. (sized j i).ends_below;
    few_ends = few;
    counts = λ j i c l. omega (arith, ((sized j i).inner_counted c l).few, rows_many);
    orbit = λ j i. omega (arith, (sized j i).counted.few, rows_many);
    places = λ j i. (sized j i).places_below;
    few_places_holds = λ j i l q. omega (arith, (sized j i).places_few l q, few j i);
  }

  many_ridges : RidgesKept k.more (points_in k) k.rows (kept_in k)
  many_ridges = ridges_kept k.more (call_rules rules) k.plane k.points k.rows k.prepared st.few_more st.given st.made

  laid_from : (most ridges : ℕ) → ((j : Kept) → Mem j (kept_in k) → length j.ends ≤ most)
      → length (numbers_kept k.rows (kept_in k)).1.counts ≤ ridges
      → TableLayoutFits layout (table_layout_for rank) most ridges (length s)
      → table_layouts.Given (points_in k) most ridges m rows (kept_in k) layout (table_layout_for rank) s
  laid_from most ridges few fewer fits = record {
    keeps = st.keeps;
    made = st.ridges;
    rows_fit_holds = st.rows_fit_holds;
    rows_few = st.rows_few;
    small = small most few;
    few = subst (λ (l : List Row). length (numbers_kept l (kept_in k)).1.counts ≤ ridges) st.rows_are fewer;
    fits = fits;
  }

  -- the call has no more orbits, ridges and ridge orbits than its rank's capacities name, and room for the tables
  record Held : Type 0 where
    pub few_ends : (j : Kept) → Mem j (kept_in k) → length j.ends ≤ (capacities_of rank).ridges
    pub few_keys : length (numbers_kept k.rows (kept_in k)).1.counts ≤ (capacities_of rank).ridge_orbits
    pub few_orbits : layout.orbits ≤ (capacities_of rank).orbits
    pub room : (table_layout_for rank).end ≤ length s

  held : Held
  unfolding capacities_three capacities_four
  held = at_rank k.more st.few_more st.rank_is st.made many_ridges
    where
      at_rank : (more : ℕ) → more ≤ 1 → rank ≡ 3 + more
          → Preparation more (call_rules rules) (faceting more (call_rules rules)) k.plane k.points k.rows k.prepared
          → RidgesKept more (points_in k) k.rows (kept_in k) → Held
      at_rank zero few e made r =
          let three : rank ≡ 3 = omega arith in
          let is = sym (of_three rank three) in
          let edge = kept_edge (call_rules rules) k.plane k.points k.rows k.prepared made in
          let orbits = few_orbits_three (call_rules rules) k.plane k.points k.rows k.prepared made st.few_points in
          let ridges = rank_three_ridges (points_in k) k.rows (kept_in k) r in
          record {
            few_ends =
                λ j i. subst (λ (c : Capacities). length j.ends ≤ c.ridges) is
                (omega (arith, (sized j i).ends_many, (edge j i).few_counts));
            few_keys =
                subst (λ (c : Capacities). length (numbers_kept k.rows (kept_in k)).1.counts ≤ c.ridge_orbits) is
                (omega (arith, st.few_points));
            few_orbits = subst (λ (c : Capacities). layout.orbits ≤ c.orbits) is (omega (arith, st.keeps.orbits));
            room = omega (arith, table_ends rank (omega arith) (omega arith), st.room);
          }
      at_rank (suc zero) few e made r =
          let four : rank ≡ 4 = omega arith in
          let is = sym (of_four rank (λ q. omega arith)) in
          record {
            few_ends =
                λ j i. subst (λ (c : Capacities). length j.ends ≤ c.ridges) is ((sized j i).few_ends st.few_points);
            few_keys =
                subst (λ (c : Capacities). length (numbers_kept k.rows (kept_in k)).1.counts ≤ c.ridge_orbits) is
                (r.few st.few_points);
            few_orbits = subst (λ (c : Capacities). layout.orbits ≤ c.orbits) is st.keeps.few_orbits;
            room = omega (arith, table_ends rank (omega arith) (omega arith), st.room);
          }
      at_rank (suc (suc more)) few e made r = absurd (omega arith)

  -- what `lay_tables` is asked
  pub tables_asked : (most : ℕ) × (ridges : ℕ)
      × table_layouts.Given (points_in k) most ridges m rows (kept_in k) layout (table_layout_for rank) s
  unfolding layout_for table_layout_for
  tables_asked =
      let c = capacities_of rank in
      let w = tables_few rank in (
        c.ridges,
        c.ridge_orbits,
        laid_from c.ridges c.ridge_orbits held.few_ends held.few_keys
            (tables_fit c layout (length s) w.0 w.1 st.end_at_holds held.few_orbits held.room),
      )
