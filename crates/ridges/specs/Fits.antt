-- The tables lie behind what is kept, with room for what its capacities name, where these are at most 190 ridges of an
-- orbit and 190 ridge orbits, as far as `lay_tables` goes. Leans on TableLayouts and on the capacities.
use Rattle.std.specs.Prelude.{◌≡◌, ℕ, ◌≤◌}
use Rattle.std.proofs.Common.{arith}
use Rattle.layout.specs.declared.Capacities.{Capacities}
use Rattle.layout.specs.declared.KeptLayout.{KeptLayout}
use Rattle.layout.specs.Capacities.{kept_layout, tables_from, table_layout}
use Rattle.ridges.specs.TableLayouts.{TableLayoutFits}

pub tables_fit : (c : Capacities) (layout : KeptLayout) (size : ℕ) → c.ridges ≤ 190
    → c.ridge_orbits ≤ 190 → layout.end ≡ (kept_layout c).end → layout.orbits ≤ c.orbits
    → (table_layout c).end ≤ size → TableLayoutFits layout (table_layout c) c.ridges c.ridge_orbits size
unfolding table_layout tables_from
tables_fit c layout size few fewer e o s = record {
  few_places_holds = few;
  few_ridges_holds = fewer;
  before = omega (arith, e);
  number_room = omega arith;
  share_room = omega arith;
  touched_room = omega arith;
  ones_room = omega arith;
  frame_room = omega arith;
  total_room = omega arith;
  list_room = omega arith;
  ends = s;
}
