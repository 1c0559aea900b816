-- Quotes [16.4], evaluated from the bytes of job and tariff to the return value. The tetrahedron costs four triangles
-- and six joints. The slip [16.6] has the triangles in one place, whatever joints and discount are.
use Rattle.std.specs.Prelude.{Bool, false, cond, ◌&&◌, ℕ, T, eqb, ℤ, pos, neg_ℤ, take, drop, replicate}
use mathlib.Core.List.{List, [], ◌∷◌, ◌++◌, map, flat_map}
use Rattle.definitions.specs.Lists.{all_of, count_from}
use Rattle.definitions.specs.Job.{Bytes, same_nats, buffer_of}
use Rattle.definitions.specs.Outcome.{Outcome, refused, answered}
use Rattle.definitions.specs.Recursion.{Answer}
use Rattle.definitions.specs.Prices.{read_tariff, total_of, answer_of, quote_from, quote, quote_code, subtotals}
use Rattle.definitions.specs.Prices.{by_size, slip_of, with_room}
use Rattle.definitions.specs.Open.{open_all}
use Rattle.definitions.specs.Examples.{open_examples, bytes_of, same_code, plain, with_budget, identity, square_job}
use Rattle.definitions.specs.Examples.{corner_job, segment_job}

-- a tariff as bytes: a price for each edge count from 1 to 190, a joint, a discount
unfoldable pub tariff_with : (ℕ → ℕ) → ℕ → ℕ → Bytes
tariff_with price joint discount =
    flat_map (bytes_of 4) (map price (count_from 1 190)) ++ bytes_of 4 joint ++ bytes_of 4 discount

-- a polygon costs as many pence as it has edges
unfoldable pub by_edges : ℕ → ℕ → Bytes
by_edges joint discount = tariff_with (λ (edges : ℕ). edges) joint discount

-- a price at one edge count, and nothing at any other
unfoldable pub only : ℕ → ℕ → ℕ → ℕ → Bytes
only size price joint discount = tariff_with (λ (edges : ℕ). cond (eqb edges size) price 0) joint discount

-- ---- the tetrahedron: each tariff with its total, the answer worked out once

unfoldable pub totals : List (Bytes × ℕ)
totals =
    (by_edges 0 0, 12) ∷ (by_edges 1 0, 18) ∷ (by_edges 7 0, 54)
    -- triangles alone have a price, of any other size there is none
    ∷ (only 3 11 0 0, 44) ∷ (only 2 11 0 0, 0) ∷ (only 4 11 0 0, 0)
    -- the discount is taken of polygons and joints, at its bounds 0 and 1,000
    ∷ (by_edges 1 500, 9) ∷ (by_edges 1 1000, 0) ∷ (by_edges 1000000 1000, 0)
    -- halves up: 18 × 250 and 18 × 750 are 4,500 and 13,500, and 18 × 249 is 4,482
    ∷ (by_edges 1 750, 5) ∷ (by_edges 1 250, 14) ∷ (by_edges 1 751, 4)
    -- every price at its bound
    ∷ (tariff_with (λ (edges : ℕ). 1000000) 1000000 0, 10000000)
    ∷ []

unfoldable pub quotes_all : Bytes → Outcome Answer → List (Bytes × ℕ) → Bool
quotes_all job (refused number) expected = false
quotes_all job (answered a) expected =
    all_of (λ (e : Bytes × ℕ). same_code (quote_code (quote_from total_of job 0 e.0 a)) (pos e.1)) expected

pub tetrahedron_quotes : T (quotes_all (corner_job (plain 4)) (answer_of (corner_job (plain 4)) 4194304) totals)
unfolding open_all open_examples tariff_with by_edges only totals quotes_all
tetrahedron_quotes = tt

-- ---- refusals, from bytes

pub record Asked : Type 0 where
  pub number : ℕ
  pub job : Bytes
  pub workspace : ℕ
  pub entry : ℕ
  pub tariff : Bytes

unfoldable pub is_refused : Asked → Bool
is_refused a = same_code (quote_code (quote a.job a.workspace a.entry a.tariff)) (neg_ℤ (pos a.number))

unfoldable pub refuses : ℕ → Bytes → ℕ → ℕ → Bytes → Asked
refuses number job workspace entry tariff = record {
  number = number;
  job = job;
  workspace = workspace;
  entry = entry;
  tariff = tariff;
}

-- both sides of the tariff's bounds, on a job that is refused with 20 where its tariff is good
unfoldable pub tariffs : List Asked
tariffs =
    let job = segment_job (identity 2) in
    refuses 19 job 0 0 (take 767 (by_edges 1 0)) ∷ refuses 19 job 0 0 (by_edges 1 0 ++ (0 ∷ [])) ∷ refuses 19 job 0 0 []
    ∷ refuses 19 job 0 0 (only 1 1000001 0 0) ∷ refuses 20 job 0 0 (only 1 1000000 0 0)
    ∷ refuses 19 job 0 0 (only 190 1000001 0 0) ∷ refuses 20 job 0 0 (only 190 1000000 0 0)
    ∷ refuses 19 job 0 0 (by_edges 1000001 0) ∷ refuses 20 job 0 0 (by_edges 1000000 0)
    ∷ refuses 19 job 0 0 (by_edges 1 1001) ∷ refuses 20 job 0 0 (by_edges 1 1000)
    ∷ []

-- each breaks one rule and all that come after it; 21 is met by the first entry that is not there
unfoldable pub quotes_in_order : List Asked
quotes_in_order =
    refuses 1 [] 0 5 []
    ∷ refuses 12 (corner_job (plain 4)) 4194303 5 []
    ∷ refuses 16 (corner_job (with_budget 4 0)) 4194304 5 []
    ∷ refuses 19 (square_job (plain 3)) 524288 7 []
    ∷ refuses 20 (square_job (plain 3)) 524288 7 (by_edges 1 0)
    ∷ []

pub quotes_refused : T (all_of is_refused (tariffs ++ quotes_in_order))
unfolding open_all open_examples tariff_with by_edges only is_refused refuses tariffs quotes_in_order
quotes_refused = tt

pub beyond_the_list : T (all_of is_refused (refuses 21 (corner_job (plain 4)) 4194304 1 (by_edges 1 0) ∷ []))
unfolding open_all open_examples tariff_with by_edges is_refused refuses
beyond_the_list = tt

-- ---- by size

-- prices k for k edges, polygons of the first and the last edge count that have a price, two of one size apart from
-- each other, and two without a price: what stands in the first five places and in the last two, and the total
unfoldable pub by_sizes : Bool
by_sizes =
    let tariff = read_tariff (by_edges 7 500) in
    let sizes : List ℕ = 4 ∷ 190 ∷ 3 ∷ 0 ∷ 4 ∷ 191 ∷ 1 ∷ [] in
    let all = subtotals tariff sizes in
    same_nats (take 5 all) (1 ∷ 0 ∷ 3 ∷ 8 ∷ 0 ∷ []) && same_nats (drop 188 all) (0 ∷ 190 ∷ [])
    && eqb (by_size tariff sizes 2) 108

pub added_by_size : T by_sizes
unfolding open_all open_examples tariff_with by_edges by_sizes
added_by_size = tt

-- ---- the slip of the tetrahedron

-- what its four triangles cost, and nothing of any other size
unfoldable pub triangles : ℕ → Bytes
triangles pence = flat_map (bytes_of 8) (map (λ (edges : ℕ). cond (eqb edges 3) pence 0) (count_from 1 190))

-- each tariff with what the triangles cost: neither joints nor discount change it
unfoldable pub slips : List (Bytes × ℕ)
slips =
    (by_edges 0 0, 12) ∷ (by_edges 7 0, 12) ∷ (by_edges 7 500, 12) ∷ (by_edges 7 1000, 12) ∷ (only 3 11 0 0, 44)
    ∷ (only 2 11 0 0, 0)
    ∷ (tariff_with (λ (edges : ℕ). 1000000) 1000000 0, 4000000) ∷ []

-- in its own length, and with a zero behind it
unfoldable pub is_slip : Outcome Bytes → Bytes → Bool
is_slip o expected =
    same_nats (buffer_of 1520 (with_room 1520 o)) expected
    && same_nats (buffer_of 1521 (with_room 1521 o)) (expected ++ (0 ∷ []))
    && same_nats (buffer_of 1519 (with_room 1519 o)) (replicate 1519 0)

unfoldable pub slips_all : Bytes → Outcome Answer → List (Bytes × ℕ) → Bool
slips_all job (refused number) expected = false
slips_all job (answered a) expected =
    all_of (λ (e : Bytes × ℕ). is_slip (quote_from slip_of job 0 e.0 a) (triangles e.1)) expected

pub tetrahedron_slips : T (slips_all (corner_job (plain 4)) (answer_of (corner_job (plain 4)) 4194304) slips)
unfolding open_all open_examples tariff_with by_edges only triangles slips is_slip slips_all
tetrahedron_slips = tt

-- 17 behind all others: the return value of an entry at a tariff in so much room
unfoldable pub room_asked : List (ℕ × Bytes × ℕ × ℤ)
room_asked =
    (0, [], 0, neg_ℤ (pos 19)) ∷ (1, by_edges 1 0, 0, neg_ℤ (pos 21)) ∷ (0, by_edges 1 0, 0, neg_ℤ (pos 17))
    ∷ (0, by_edges 1 0, 1519, neg_ℤ (pos 17))
    ∷ (1, by_edges 1 0, 1519, neg_ℤ (pos 21)) ∷ (0, by_edges 1 0, 1520, pos 18) ∷ []

unfoldable pub codes_all : Bytes → Outcome Answer → List (ℕ × Bytes × ℕ × ℤ) → Bool
codes_all job (refused number) expected = false
codes_all job (answered a) expected =
    all_of (λ (e : ℕ × Bytes × ℕ × ℤ).
    same_code (quote_code (with_room e.2 (quote_from total_of job e.0 e.1 a))) e.3) expected

pub room_comes_last : T (codes_all (corner_job (plain 4)) (answer_of (corner_job (plain 4)) 4194304) room_asked)
unfolding open_all open_examples tariff_with by_edges room_asked codes_all
room_comes_last = tt
