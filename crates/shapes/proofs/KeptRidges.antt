-- Theorems on the definitions of specs/KeptRidges.
use Rattle.std.specs.Prelude.{◌≡◌, refl, get_or}
use Rattle.std.proofs.Common.{sym, ap, ◌∙◌}
use Rattle.std.proofs.Math.Path.{subst}
use mathlib.Core.List.{List, map}
use Prim.Native.Nat.{ℕ, zero, suc, ◌≤◌, ◌<◌, min, max}
use native.Mathlib.Omega.{arith}
use Rattle.std.proofs.Math.ListN.{length}
use Rattle.definitions.specs.Lists.{Pair, compare_pair, count_from, map_with}
use Rattle.definitions.specs.Orbits.{Row, image}
use Rattle.laws.specs.Lists.{Mem, here, in_map, of_map, in_count, of_count, count_at}
use Rattle.laws.specs.Orders.{pairs}
use Rattle.laws.specs.Ranges.{Permutes}
use Rattle.shapes.specs.Sets.{Rows, row_into}
use Rattle.shapes.specs.AllPairs.{in_all_pairs, of_all_pairs}
use Rattle.shapes.specs.Polygons.{edge_via, via_proper}
use Rattle.shapes.specs.Ridges.{no_keys, map_with_good, twice, twice_moved}
use Rattle.shapes.specs.KeyCounts.{KeysGood, keys_few, no_keys_good, number_good}
use Rattle.shapes.specs.Kept.{Kept, number_ends, numbers_kept}
use Rattle.shapes.specs.KeptSizes.{ridge_keys}
use Rattle.shapes.proofs.KeptSizes.{keys_below}

-- ---- the keys of a call

keys_closed : (more n : ℕ) (row : Row) → Permutes n row → (e : Pair) → Mem e (ridge_keys more n)
    → Mem (edge_via (image row) e) (ridge_keys more n)
unfolding ridge_keys
keys_closed zero n row p e m =
    let r = of_map twice e (count_from 0 n) m in
    let k = (of_count 0 n r.0 r.1).1 in
    let v = image row r.0 in
    let below : v < n = (row_into n row p).below r.0 (omega arith) in
    subst (λ (x : Pair). Mem x (map twice (count_from 0 n)))
    (sym (ap (edge_via (image row)) r.2 ∙ twice_moved (image row) r.0))
    (in_map twice v (count_from 0 n) (in_count 0 n v (omega arith) (omega arith)))
keys_closed (suc more) n row p e m =
    in_all_pairs n (edge_via (image row) e) (via_proper n n (image row) (row_into n row p) e (of_all_pairs n e m))

keys_stay : (more n : ℕ) (e : Pair) → Mem e (ridge_keys more n) → edge_via (image (count_from 0 n)) e ≡ e
unfolding edge_via image
keys_stay more n e m =
    let r = keys_below more n e m in
    let a = r.0 in
    let b = r.1 in
    let first = count_at 0 n e.0 0 (omega arith) in
    let second = count_at 0 n e.1 0 (omega arith) in
    let low : min (get_or (count_from 0 n) e.0 0) (get_or (count_from 0 n) e.1 0) ≡ e.0 = omega arith in
    let high : max (get_or (count_from 0 n) e.0 0) (get_or (count_from 0 n) e.1 0) ≡ e.1 = omega arith in
    λ t. (low t, high t)

-- rows that are permutations, the identity first, number such keys into no more ridge orbits than there are keys
pub ridges_few : (more n : ℕ) (rows : List Row) (kept : List Kept) → Rows n rows
    → ((k : Kept) → Mem k kept → (e : Pair) → Mem e k.ends → Mem e (ridge_keys more n))
    → length (numbers_kept rows kept).1.counts ≤ length (ridge_keys more n)
unfolding numbers_kept number_ends
ridges_few more n rows kept good keys =
    let all = ridge_keys more n in
    let Good = KeysGood compare_pair pairs edge_via rows all in
    let identity = count_from 0 n in
    let is_row : Mem identity rows = subst (λ (l : List Row). Mem identity l) (sym good.identity) (here refl) in
    let one = number_good compare_pair pairs edge_via rows all
    (λ row m e k. keys_closed more n row (good.permute row m) e k) identity is_row (keys_stay more n) in
    keys_few compare_pair pairs edge_via rows all (numbers_kept rows kept).1
    (map_with_good (map_with (number_ends rows)) Good (λ (ends : List Pair). (e : Pair) → Mem e ends → Mem e all)
    (λ s ends h k. map_with_good (number_ends rows) Good (λ (e : Pair). Mem e all)
    (λ t e g m. one t e g m) s ends h k) (no_keys Pair) (map (λ (k : Kept). k.ends) kept)
    (no_keys_good compare_pair pairs edge_via rows all)
    (λ ends m e j. let r = of_map (λ (k : Kept). k.ends) ends kept m in
    keys r.0 r.1 e (subst (λ (l : List Pair). Mem e l) r.2 j)))
