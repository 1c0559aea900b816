-- What is asked of a call's orbits for the tables of its search: small counts and ends, and places that name inner
-- orbits. And that the numbers made from the codes of kept ridges are the definition's. Leans on Keeps, Ends and
-- Kept.
use Rattle.std.specs.Prelude.{◌≡◌}
use Rattle.std.proofs.Math.Path.{refl, ap}
use Rattle.std.proofs.Common.{◌∙◌, arith}
use mathlib.Core.List.{List, [], ◌∷◌, ◌++◌, map, zip_with}
use Rattle.std.specs.Prelude.{Option, Some, None}
use Prim.Native.Nat.{ℕ, ◌+◌, ◌*◌, ◌/◌, ◌%◌, ◌≤◌, ◌<◌}
use Rattle.std.proofs.Math.ListN.{length}
use Rattle.definitions.specs.Lists.{Pair, compare_pair, map_with, fresh}
use Rattle.definitions.specs.Orbits.{Row, image}
use Rattle.laws.specs.Lists.{Mem, here, there}
use Rattle.rows.specs.Rows.{rows_in, RowsFit, image_at_holds, same_images}
use Rattle.rows.specs.Codes.{pair_code, pair_of}
use Rattle.rows.specs.Codes.{pair_of_code}
use Rattle.shapes.specs.Polygons.{edge_via}
use Rattle.shapes.specs.Ridges.{KnownKeys, no_keys, key_held_by, open_key_orbit, number_or_open_key}
use Rattle.shapes.specs.Kept.{Kept, number_ends, numbers_kept}
use Rattle.layout.specs.Keeps.{ridge_code, ridge_codes}
use Rattle.shares.specs.Ends.{ends_in, numbered, all_numbered}

-- n vertices, and at most so many inner orbits of an orbit and places of a facet
pub record Small (n most : ℕ) (kept : List Kept) : Type 0 where
  pub long : (k : Kept) → Mem k kept → length k.ends ≡ length k.counts
  pub ends : (k : Kept) → Mem k kept → (e : Pair) → Mem e k.ends → (e.0 < n) × (e.1 < n)
  pub few_ends : (k : Kept) → Mem k kept → length k.ends ≤ most
  pub counts : (k : Kept) → Mem k kept → (c : ℕ) → Mem c k.counts → c ≤ 120
  pub orbit : (k : Kept) → Mem k kept → k.orbit.count ≤ 120
  pub places : (k : Kept) → Mem k kept → (l : List ℕ) → Mem l k.places → (a : ℕ) → Mem a l → a < length k.ends
  pub few_places_holds : (k : Kept) → Mem k kept → (l : List ℕ) → Mem l k.places → length l ≤ most

-- ---- a ridge's code

pub ends_of_code : (e : Pair) (c : ℕ) → e.0 < 20 → e.1 < 20 → pair_of (ridge_code e c % 65536) ≡ e
unfolding ridge_code pair_code
ends_of_code e c h k =
    let a : (20 * e.0 + e.1 + 65536 * c) % 65536 ≡ 20 * e.0 + e.1 = omega arith in
    ap pair_of a ∙ pair_of_code e.0 e.1 k

pub count_of_code : (e : Pair) (c : ℕ) → e.0 < 20 → e.1 < 20 → ridge_code e c / 65536 ≡ c
unfolding ridge_code pair_code
count_of_code e c h k = omega arith

ends_back : (ends : List Pair) (counts : List ℕ) → length ends ≡ length counts
    → ((e : Pair) → Mem e ends → (e.0 < 20) × (e.1 < 20)) → ends_in (zip_with ridge_code ends counts) ≡ ends
unfolding ends_in zip_with
ends_back [] counts l h = refl
ends_back (e ∷ ends) [] l h = absurd (omega arith)
ends_back (e ∷ ends) (c ∷ counts) l h =
    let s = h e (here refl) in
    let p = ends_of_code e c s.0 s.1 in
    let q = ends_back ends counts (omega arith) (λ x i. h x (there i)) in
    λ t. p t ∷ q t

-- ---- rows read with a width of 32

module _ (n m : ℕ) (s : List ℕ) (fits : RowsFit n m s) where
  images_wide : (e : Pair) → e.0 < n → e.1 < n → map (λ (row : Row). edge_via (image row) e) (rows_in 32 m s)
      ≡ map (λ (row : Row). edge_via (image row) e) (rows_in n m s)
  unfolding edge_via
  images_wide e h k =
      same_images (λ (row : Row). edge_via (image row) e) (λ (row : Row). edge_via (image row) e) 32 n m s
      (λ i l. rw (
        image_at_holds 32 i s e.0 (omega (arith, fits.n_fits)),
        image_at_holds 32 i s e.1 (omega (
          arith,
          fits.n_fits,
        )),
        image_at_holds n i s e.0 h,
        image_at_holds n i s e.1 k,
      ) refl)

  number_wide : (keys : KnownKeys Pair) (e : Pair) → e.0 < n → e.1 < n
      → number_ends (rows_in 32 m s) keys e ≡ number_ends (rows_in n m s) keys e
  unfolding number_ends number_or_open_key open_key_orbit
  number_wide keys e h k = go (key_held_by compare_pair edge_via e keys.held)
    where
      made : List Pair → KnownKeys Pair
      made images =
          let joining = fresh compare_pair (map (λ (h : Pair × ℕ). h.0) keys.held) images in
          record {
            held = map (λ (x : Pair). (x, length keys.counts)) joining ++ keys.held;
            counts = keys.counts ++ (length joining ∷ []);
          }

      go : (o : Option ℕ) → number_or_open_key compare_pair edge_via (rows_in 32 m s) keys e o
          ≡ number_or_open_key compare_pair edge_via (rows_in n m s) keys e o
      go (Some number) = refl
      go None = ap (λ (l : List Pair). (length keys.counts, made l)) (images_wide e h k)

  ends_wide : (keys : KnownKeys Pair) (ends : List Pair) → ((e : Pair) → Mem e ends → (e.0 < n) × (e.1 < n))
      → map_with (number_ends (rows_in 32 m s)) keys ends ≡ map_with (number_ends (rows_in n m s)) keys ends
  unfolding map_with
  ends_wide keys [] h = refl
  ends_wide keys (e ∷ ends) h =
      let b = h e (here refl) in
      ap (λ (r : ℕ × KnownKeys Pair). (
        r.0 ∷ (map_with (number_ends (rows_in 32 m s)) r.1 ends).0,
        (map_with (number_ends (rows_in 32 m s)) r.1 ends).1,
      )) (number_wide keys e b.0 b.1)
      ∙ ap (λ (r : List ℕ × KnownKeys Pair). ((number_ends (rows_in n m s) keys e).0 ∷ r.0, r.1))
      (ends_wide (number_ends (rows_in n m s) keys e).1 ends (λ x i. h x (there i)))

  numbers_from : (keys : KnownKeys Pair) (kept : List Kept)
      → ((k : Kept) → Mem k kept → length k.ends ≡ length k.counts)
      → ((k : Kept) → Mem k kept → (e : Pair) → Mem e k.ends → (e.0 < n) × (e.1 < n))
      → map_with (numbered (rows_in 32 m s)) keys (map ridge_codes kept)
      ≡ map_with (map_with (number_ends (rows_in n m s))) keys (map (λ (k : Kept). k.ends) kept)
  unfolding map_with numbered ridge_codes
  numbers_from keys [] l h = refl
  numbers_from keys (k ∷ kept) l h =
      let one : map_with (number_ends (rows_in 32 m s)) keys (ends_in (zip_with ridge_code k.ends k.counts))
      ≡ map_with (number_ends (rows_in n m s)) keys k.ends =
      ap (map_with (number_ends (rows_in 32 m s)) keys) (ends_back k.ends k.counts (l k (here refl)) (λ e i. let b =
      h k (here refl) e i in (omega (arith, b.0, fits.n_fits), omega (arith, b.1, fits.n_fits))))
      ∙ ends_wide keys k.ends (h k (here refl)) in
      ap (λ (r : List ℕ × KnownKeys Pair). (
        r.0 ∷ (map_with (numbered (rows_in 32 m s)) r.1 (map ridge_codes kept)).0,
        (map_with (numbered (rows_in 32 m s)) r.1 (map ridge_codes kept)).1,
      )) one
      ∙ ap (λ (r : List (List ℕ) × KnownKeys Pair). (
        (map_with (number_ends (rows_in n m s)) keys k.ends).0
            ∷ r.0,
        r.1,
      )) (numbers_from (map_with (number_ends (rows_in n m s)) keys k.ends).1 kept (λ x i. l x (there i))
      (λ x i. h x (there i)))

  -- the numbers made from what is kept are the definition's
  pub numbers_are : (most : ℕ) (kept : List Kept) → Small n most kept
      → all_numbered (rows_in 32 m s) (no_keys Pair) (map ridge_codes kept) ≡ numbers_kept (rows_in n m s) kept
  unfolding all_numbered numbers_kept
  numbers_are most kept small = numbers_from (no_keys Pair) kept small.long small.ends
