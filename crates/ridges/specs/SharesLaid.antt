-- The shares of the facets as they stand in a workspace, in front of the tables that are made of them. Leans on Pool
-- and Areas.
use Rattle.std.specs.Prelude.{List, ℕ, ◌≤◌, ◌≡◌, take}
use Rattle.pool.specs.Pool.{closed_lists, Sound}
use Rattle.layout.specs.declared.TableLayout.{TableLayout}
use Rattle.shares.specs.Areas.{area, area_kept}
use Rattle.std.proofs.Common.{arith}

abbrev pub shares_part : TableLayout → List ℕ → List ℕ
shares_part tables s = area tables.shares tables.touched s

-- the shares of each facet, as codes
abbrev pub shares_in : TableLayout → List ℕ → List (List ℕ)
shares_in tables s = closed_lists 2 1024 (shares_part tables s)

-- they are a pool, which lies in front of both tables
pub record SharesLaid (tables : TableLayout) (s : List ℕ) : Type 0 where
  pub order : tables.shares ≤ tables.touched
  pub before : tables.touched ≤ tables.ones
  pub sound : Sound 2 1024 (shares_part tables s)

-- they are as they were where only what lies behind is written
pub shares_same : (tables : TableLayout) (s t : List ℕ) → SharesLaid tables s → take tables.touched t
    ≡ take tables.touched s → shares_part tables t ≡ shares_part tables s
shares_same tables s t h e = area_kept tables.touched tables.shares tables.touched s t e h.order (omega arith)
