-- The ridges of a call, orbit by orbit, as they stand in the kept areas: the ends of each from its code, and their
-- numbers by [6.7]. Leans on Keeps, Numbering and Areas.
use Rattle.std.specs.Prelude.{◌≡◌, get_or, take, drop}
use Rattle.std.proofs.Math.Path.{refl, ap}
use Rattle.std.proofs.Common.{sym, ◌∙◌, length-append, take-append-drop}
use Rattle.std.specs.Prelude.{Option, Some, None}
use mathlib.Core.List.{List, [], ◌∷◌, ◌++◌, map, flat_map}
use Prim.Native.Nat.{ℕ, suc, ◌+◌, ◌%◌, ◌≤◌, ◌<◌}
use native.Mathlib.Omega.{arith}
use Rattle.std.proofs.Math.ListN.{length, length-map}
use Rattle.definitions.specs.Lists.{Pair, compare_pair, map_with}
use Rattle.definitions.specs.Orbits.{Row}
use Rattle.laws.specs.Parts.{take_more}
use Rattle.pool.specs.Pool.{closed_lists, Sound}
use Rattle.pool.specs.Holds.{Holds}
use Rattle.rows.specs.Rows.{rows_in}
use Rattle.rows.specs.Codes.{pair_of}
use Rattle.shapes.specs.Polygons.{edge_via}
use Rattle.shapes.specs.Ridges.{KnownKeys, no_keys, key_held_by, open_key_orbit, number_or_open_key}
use Rattle.shapes.specs.Kept.{number_ends}
use Rattle.layout.specs.declared.KeptLayout.{KeptLayout}
use Rattle.layout.specs.Keeps.{ridges_part}
use Rattle.shares.specs.Areas.{area, flat, area_kept}
use Rattle.numbering.specs.Numbering.{Sent}

-- the ends of each ridge of an orbit
unfoldable pub ends_in : List ℕ → List Pair
ends_in codes = map (λ (c : ℕ). pair_of (c % 65536)) codes

abbrev pub ridges_at : KeptLayout → List ℕ → ℕ → List ℕ
ridges_at layout s o = get_or (closed_lists 4 256 (ridges_part layout s)) o []

-- the numbers of the ridges of one orbit, and of all
unfoldable pub numbered : List Row → KnownKeys Pair → List ℕ → List ℕ × KnownKeys Pair
numbered rows keys codes = map_with (number_ends rows) keys (ends_in codes)

unfoldable pub all_numbered : List Row → KnownKeys Pair → List (List ℕ) → List (List ℕ) × KnownKeys Pair
all_numbered rows = map_with (numbered rows)

-- what numbering reads: rows, and ridges that the rows send to pairs below 20, before the place where it writes
pub record Reads (m : ℕ) (rows : List ℕ) (layout : KeptLayout) (s : List ℕ) (from : ℕ) : Type 0 where
  pub rows_few : m ≤ 120
  pub order : layout.ridges ≤ layout.places
  pub before : layout.places ≤ from
  pub inside : from ≤ length s
  pub sound : Sound 4 256 (ridges_part layout s)
  pub sent : (o i : ℕ) → i < length (ridges_at layout s o)
      → Sent m rows (pair_of (get_or (ridges_at layout s o) i 0 % 65536))

-- ---- laws

pub reads_kept : (m : ℕ) (rows : List ℕ) (layout : KeptLayout) (s t : List ℕ) (from : ℕ) → take from t ≡ take from s
    → length t ≡ length s → Reads m rows layout s from → Reads m rows layout t from
reads_kept m rows layout s t from e l r =
    let p : ridges_part layout t
    ≡ ridges_part layout s = area_kept from layout.ridges layout.places s t e r.order r.before in
    record {
      rows_few = r.rows_few;
      order = r.order;
      before = r.before;
      inside = omega (arith, r.inside);
      sound = rw p r.sound;
      sent = rw p r.sent;
    }

module _ {A B S : Type 0} (f : S → A → B × S) where
  -- one item more
  pub with_more : (s : S) (l : List A) (x : A) → map_with f s (l ++ (x ∷ []))
      ≡ ((map_with f s l).0 ++ ((f (map_with f s l).1 x).0 ∷ []), (f (map_with f s l).1 x).1)
  unfolding map_with
  with_more s [] x = refl
  with_more s (y ∷ l) x = ap (λ (r : List B × S). ((f s y).0 ∷ r.0, r.1)) (with_more (f s y).1 l x)

  pub with_append : (s : S) (l k : List A) → map_with f s (l ++ k)
      ≡ ((map_with f s l).0 ++ (map_with f (map_with f s l).1 k).0, (map_with f (map_with f s l).1 k).1)
  unfolding map_with
  with_append s [] k = refl
  with_append s (y ∷ l) k = ap (λ (r : List B × S). ((f s y).0 ∷ r.0, r.1)) (with_append (f s y).1 l k)

  pub with_length : (s : S) (l : List A) → length (map_with f s l).0 ≡ length l
  unfolding map_with
  with_length s [] = refl
  with_length s (y ∷ l) = ap suc (with_length (f s y).1 l)

-- ridge orbits are opened, never dropped
module _ {A B : Type 0} (f : KnownKeys Pair → A → B × KnownKeys Pair)
    (up : (k : KnownKeys Pair) (x : A) → length k.counts ≤ length (f k x).1.counts) where
  pub counts_up : (k : KnownKeys Pair) (l : List A) → length k.counts ≤ length (map_with f k l).1.counts
  unfolding map_with
  counts_up k [] = omega arith
  counts_up k (x ∷ l) = omega (arith, up k x, counts_up (f k x).1 l)

pub number_up : (rows : List Row) (k : KnownKeys Pair) (p : Pair)
    → length k.counts ≤ length (number_ends rows k p).1.counts
unfolding number_ends number_or_open_key open_key_orbit
number_up rows k p = go (key_held_by compare_pair edge_via p k.held)
  where
    go : (o : Option ℕ) → length k.counts ≤ length (number_or_open_key compare_pair edge_via rows k p o).1.counts
    go (Some number) = omega arith
    go None = rw length-append (omega arith)

pub numbered_up : (rows : List Row) (k : KnownKeys Pair) (codes : List ℕ)
    → length k.counts ≤ length (numbered rows k codes).1.counts
unfolding numbered
numbered_up rows k codes = counts_up (number_ends rows) (number_up rows) k (ends_in codes)

-- ---- the ridges of all orbits are numbered

-- each orbit's numbers as lists of a pool, and the ridge orbits' counts
pub record AllNumbered (m : ℕ) (rows : List ℕ) (from to : ℕ) (lists : List (List ℕ))
    (s t counts : List ℕ) : Type 0 where
  pub long : length t ≡ length s
  pub front : take from t ≡ take from s
  pub numbers : Holds 2 256 (area from to t) (all_numbered (rows_in 32 m rows) (no_keys Pair) lists).0 []
      (length (flat lists))
  pub counts_are : counts ≡ (all_numbered (rows_in 32 m rows) (no_keys Pair) lists).1.counts

module _ (rows : List Row) (keys : KnownKeys Pair) where
  pub all_more : (lists : List (List ℕ)) (o : ℕ) → o < length lists
      → all_numbered rows keys (take (o + 1) lists)
      ≡ (
        (all_numbered rows keys (take o lists)).0
            ++ ((numbered rows (all_numbered rows keys (take o lists)).1 (get_or lists o [])).0 ∷ []),
        (numbered rows (all_numbered rows keys (take o lists)).1 (get_or lists o [])).1,
      )
  unfolding all_numbered
  all_more lists o h =
      ap (map_with (numbered rows) keys) (take_more lists o [] h)
      ∙ with_more (numbered rows) keys (take o lists) (get_or lists o [])

  pub all_few : (lists : List (List ℕ)) (o : ℕ)
      → length (all_numbered rows keys (take o lists)).1.counts ≤ length (all_numbered rows keys lists).1.counts
  unfolding all_numbered
  all_few lists o =
      let e = ap (λ (l : List (List ℕ)). length (map_with (numbered rows) keys l).1.counts)
      (sym (take-append-drop o lists)) ∙ ap (λ (r : List (List ℕ) × KnownKeys Pair). length r.1.counts)
      (with_append (numbered rows) keys (take o lists) (drop o lists)) in
      omega (
        arith,
        counts_up (numbered rows) (numbered_up rows) (map_with (numbered rows) keys (take o lists)).1
            (drop o lists),
      )

  one_long : (keys : KnownKeys Pair) (codes : List ℕ) → length (numbered rows keys codes).0 ≡ length codes
  unfolding numbered ends_in
  one_long keys codes =
      with_length (number_ends rows) keys (ends_in codes) ∙ length-map codes (λ (c : ℕ). pair_of (c % 65536))

-- as many numbers as ridges
pub all_long : (rows : List Row) (keys : KnownKeys Pair) (lists : List (List ℕ))
    → length (flat (all_numbered rows keys lists).0) ≡ length (flat lists)
unfolding all_numbered map_with flat_map
all_long rows keys [] = refl
all_long rows keys (codes ∷ lists) =
    let e = length-append codes (flat lists) in
    let f = length-append (numbered rows keys codes).0
    (flat (map_with (numbered rows) (numbered rows keys codes).1 lists).0) in
    omega (arith, one_long rows keys keys codes, all_long rows (numbered rows keys codes).1 lists)

pub all_count : (rows : List Row) (keys : KnownKeys Pair) (lists : List (List ℕ))
    → length (all_numbered rows keys lists).0 ≡ length lists
unfolding all_numbered
all_count rows keys lists = with_length (numbered rows) keys lists
