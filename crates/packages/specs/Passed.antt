-- What the tests of a package's bytes decide [17.3], one after the other, and what is loaded of a package that
-- passes: one that can be counted by, and the definition's. Leans on Once and on the package in bytes.
use Rattle.std.specs.Prelude.{◌≡◌, Bool, ◌&&◌, leb, length, drop}
use Rattle.std.proofs.Math.Path.{refl, sym, ap, subst}
use Rattle.std.proofs.Common.{◌∙◌, ne_eqb, ltb→lt, length-drop, length-take-le}
use Rattle.std.proofs.Math.Bool.{true, false}
use mathlib.Core.List.{List, [], map}
use Prim.Native.Nat.{ℕ, zero, suc, ◌+◌, ◌*◌, ◌≤◌, ◌<◌}
use native.Mathlib.Omega.{arith}
use Rattle.std.proofs.Math.Dec.{T, ltb, eqb, leb→le, eqb→eq}
use Rattle.std.proofs.Math.ListN.{get_or, take}
use Rattle.definitions.specs.Lists.{all_of, count_from}
use Rattle.definitions.specs.Orbits.{Row, image}
use Rattle.definitions.specs.Job.{Bytes, number_at, between, same_nats, is_permutation}
use Rattle.definitions.specs.Noble.{package_end, read_package, distinct, package_counts, globals_good, full_rows_good}
use Rattle.definitions.specs.Noble.{package_good}
use Rattle.laws.specs.Bools.{true→holds, first, second}
use Rattle.laws.specs.Lists.{all_of_holds, member_at}
use Rattle.laws.specs.Parts.{get_d_rows}
use Rattle.rows.specs.Rows.{rows_in, row_at, image_at_holds}
use Rattle.stabilizers.specs.Permutations.{Permutations, permutations_of}
use Rattle.load.specs.Meaning.{rows_at}
use Rattle.tallies.specs.declared.Package.{Package}
use Rattle.tallies.specs.Meaning.{GlobalsFit, PackageFits, package_in}
use Rattle.packages.specs.declared.FullSet.{FullSet}
use Rattle.packages.specs.Once.{once_below, distinct_places}
use Rattle.packages.specs.Loaded.{LoadedFits, loaded_in, numbers_of, package_held}

module _ (n : ℕ) (bytes : Bytes) where
  abbrev pub rows_of : ℕ
  rows_of = number_at bytes 0 2

  abbrev pub size_of : ℕ
  size_of = get_or bytes 2 0

  abbrev pub count_of : ℕ
  count_of = number_at bytes 3 2

  -- what the numbers at the front say
  pub record Numbers : Type 0 where
    pub rows_least : 1 ≤ rows_of
    pub rows_most : rows_of ≤ 120
    pub size_most : size_of ≤ 20
    pub count_most : count_of ≤ 65535
    pub long : length bytes ≡ 5 + n + size_of * rows_of

  in_range : (a b x : ℕ) → T (between a b x) → (a ≤ x) × (x ≤ b)
  unfolding between
  in_range a b x t = (leb→le a x (first (leb a x) (leb x b) t), leb→le x b (second (leb a x) (leb x b) t))

  pub numbers : T (package_counts n bytes) → Numbers
  unfolding package_counts read_package package_end
  numbers t =
      let a = between 1 120 rows_of in
      let b = between 2 20 size_of in
      let c = between 1 65535 count_of in
      let d = eqb (length bytes) (5 + n + size_of * rows_of) in
      let three : T (a && b && c) = first (a && b && c) d t in
      let two : T (a && b) = first (a && b) c three in
      let rows = in_range 1 120 rows_of (first a b two) in
      record {
        rows_least = rows.0;
        rows_most = rows.1;
        size_most = (in_range 2 20 size_of (second a b two)).1;
        count_most = (in_range 1 65535 count_of (second (a && b) c three)).1;
        long = eqb→eq (length bytes) (5 + n + size_of * rows_of) (second (a && b && c) d t);
      }

  -- ---- the numbers, tested one after the other

  pub counts_short : length bytes < 5 → false ≡ package_counts n bytes
  unfolding package_counts read_package package_end
  counts_short h =
      sym (rw (ne_eqb (length bytes) (5 + n + size_of * rows_of) (λ e. omega arith))
      (never (between 1 120 rows_of && between 2 20 size_of && between 1 65535 count_of)))
    where
      never : (b : Bool) → (b && false) ≡ false
      never true = refl
      never false = refl

  pub counts_rows : between 1 120 rows_of ≡ false → false ≡ package_counts n bytes
  unfolding package_counts read_package
  counts_rows e = sym (rw e refl)

  pub counts_size : between 1 120 rows_of ≡ true → between 2 20 size_of ≡ false → false ≡ package_counts n bytes
  unfolding package_counts read_package
  counts_size e f = sym (rw (e, f) refl)

  pub counts_count : between 1 120 rows_of ≡ true → between 2 20 size_of ≡ true → between 1 65535 count_of ≡ false
      → false ≡ package_counts n bytes
  unfolding package_counts read_package
  counts_count e f g = sym (rw (e, f, g) refl)

  pub counts_length : between 1 120 rows_of ≡ true → between 2 20 size_of ≡ true → between 1 65535 count_of ≡ true
      → eqb (length bytes) (5 + n + size_of * rows_of) ≡ package_counts n bytes
  unfolding package_counts read_package package_end
  counts_length e f g = sym (rw (e, f, g) refl)

  -- ---- the whole test

  pub good_counts : package_counts n bytes ≡ false → false ≡ package_good n bytes
  unfolding package_good
  good_counts e = sym (rw e refl)

  pub good_globals : package_counts n bytes ≡ true → once_below size_of (take n (drop 5 bytes)) ≡ false
      → false ≡ package_good n bytes
  unfolding package_good globals_good read_package once_below
  good_globals e f = sym (rw (e, f) refl)

  first_row : 1 ≤ rows_of → get_or (read_package n bytes).rows 0 [] ≡ take size_of (drop (5 + n) bytes)
  unfolding read_package count_from
  first_row h = go rows_of h
    where
      go : (k : ℕ) → 1 ≤ k
          → get_or (map (λ (i : ℕ). take size_of (drop (5 + n + size_of * i) bytes)) (count_from 0 k)) 0 []
          ≡ take size_of (drop (5 + n) bytes)
      go zero h = absurd (omega arith)
      go (suc k) h = let e : 5 + n + size_of * 0 ≡ 5 + n = omega arith in ap (λ (m : ℕ). take size_of (drop m bytes)) e

  module _ (counts : package_counts n bytes ≡ true) (once : once_below size_of (take n (drop 5 bytes)) ≡ true) where
    -- what is left to test
    left : package_good n bytes ≡ full_rows_good (read_package n bytes)
    unfolding package_good globals_good read_package once_below
    left = rw (counts, once) refl

    rows_left : package_good n bytes ≡ (same_nats (take size_of (drop (5 + n) bytes)) (count_from 0 size_of)
        && all_of (is_permutation size_of) (rows_at bytes (5 + n) size_of rows_of))
    unfolding full_rows_good read_package rows_at
    rows_left =
        left ∙ ap (λ (row : Row). same_nats row (count_from 0 size_of)
        && all_of (is_permutation size_of) (rows_at bytes (5 + n) size_of rows_of))
        (first_row (numbers (true→holds counts)).rows_least)

    pub good_identity : same_nats (take size_of (drop (5 + n) bytes)) (count_from 0 size_of) ≡ false
        → false ≡ package_good n bytes
    good_identity e = sym (rows_left ∙ (rw e refl))

    pub good_rows : same_nats (take size_of (drop (5 + n) bytes)) (count_from 0 size_of) ≡ true
        → all_of (is_permutation size_of) (rows_at bytes (5 + n) size_of rows_of) ≡ package_good n bytes
    good_rows e = sym (rows_left ∙ (rw e refl))

  -- ---- a package that passes, loaded

  module _ (small : n ≤ 20) (good : T (package_good n bytes)) where
    both : T (package_counts n bytes && globals_good (read_package n bytes))
    unfolding package_good
    both =
        first (package_counts n bytes && globals_good (read_package n bytes))
        (full_rows_good (read_package n bytes)) good

    pub loaded_numbers : Numbers
    loaded_numbers = numbers (first (package_counts n bytes) (globals_good (read_package n bytes)) both)

    abbrev global_numbers : List ℕ
    global_numbers = take n (drop 5 bytes)

    once : T (once_below size_of global_numbers)
    unfolding globals_good read_package once_below
    once = second (package_counts n bytes) (globals_good (read_package n bytes)) both

    rows_pass : T (all_of (is_permutation size_of) (rows_at bytes (5 + n) size_of rows_of))
    unfolding package_good full_rows_good read_package rows_at
    rows_pass =
        second (same_nats (get_or (read_package n bytes).rows 0 []) (count_from 0 size_of))
        (all_of (is_permutation size_of) (read_package n bytes).rows)
        (second (package_counts n bytes && globals_good (read_package n bytes))
        (full_rows_good (read_package n bytes)) good)

    numbers_long : length global_numbers ≡ n
    numbers_long = let k = loaded_numbers.long in length-take-le n (drop 5 bytes) (rw length-drop (omega arith))

    -- the full rows permute the points of the full set
    pub full_permute : (full : List ℕ) → rows_in size_of rows_of full ≡ rows_at bytes (5 + n) size_of rows_of
        → length full ≡ 3840 → Permutations size_of rows_of full
    full_permute full are long =
        permutations_of size_of rows_of full loaded_numbers.size_most (omega (arith, loaded_numbers.rows_most))
        (rw are rows_pass)

    module _ (whole : FullSet) (globals full : List ℕ) (size_is : whole.size ≡ size_of)
        (rows_is : whole.rows ≡ rows_of) (count_is : whole.count ≡ count_of)
        (globals-are : rows_in n 1 globals ≡ rows_at bytes 5 n 1) (globals-long : length globals ≡ 32)
        (full-are : rows_in size_of rows_of full ≡ rows_at bytes (5 + n) size_of rows_of) where
      row_is : row_at n 0 globals ≡ global_numbers
      unfolding rows_in row_at rows_at count_from
      row_is =
          let e : 5 + n * 0 ≡ 5 = omega arith in
          sym (get_d_rows 32 n 1 globals 0 (omega arith))
          ∙ (ap (λ (l : List Row). get_or l 0 []) globals-are ∙ ap (λ (m : ℕ). take n (drop m bytes)) e)

      at : (v : ℕ) → v < n → get_or globals v 0 ≡ get_or global_numbers v 0
      unfolding row_at image
      at v h =
          let z : 32 * 0 + v ≡ v = omega arith in
          sym (image_at_holds n 0 globals v h ∙ ap (λ (k : ℕ). get_or globals k 0) z)
          ∙ ap (λ (l : List ℕ). get_or l v 0) row_is

      globals_fit : GlobalsFit n size_of globals
      unfolding once_below
      globals_fit = record {
        n_fits = small;
        g_fits = loaded_numbers.size_most;
        long = omega arith;
        below = λ v h. subst (λ (x : ℕ). x < size_of) (sym (at v h))
            (ltb→lt (get_or global_numbers v 0) size_of
            (all_of_holds (λ (x : ℕ). ltb x size_of) global_numbers
            (first (all_of (λ (x : ℕ). ltb x size_of) global_numbers) (distinct global_numbers) once)
            (get_or global_numbers v 0)
            (member_at global_numbers v 0 (omega (arith, numbers_long)))));
        one = λ u w h k e.
            distinct_places global_numbers
            (second (all_of (λ (x : ℕ). ltb x size_of) global_numbers) (distinct global_numbers) once) u w
            (omega (arith, numbers_long)) (omega (arith, numbers_long)) (sym (at u h) ∙ (e ∙ at w k));
      }

      pub loaded_fits : length full ≡ 3840 → LoadedFits n whole globals full
      loaded_fits long = record {
        numbered = rw size_is globals_fit;
        permute = rw (size_is, rows_is) (full_permute full full-are long);
        some_row = omega (arith, loaded_numbers.rows_least);
        few_rows = omega (arith, loaded_numbers.rows_most);
        small_count = omega (arith, loaded_numbers.count_most);
      }

      pub loaded_is : loaded_in n whole globals full ≡ read_package n bytes
      unfolding loaded_in read_package rows_at
      loaded_is = rw (size_is, rows_is, count_is, row_is, full-are) refl

    -- and so of a package that holds its regions
    module _ (whole : Package) (size_is : whole.full.n ≡ size_of) (rows_is : whole.full.rows.count ≡ rows_of)
        (count_is : whole.count ≡ count_of)
        (globals-are : rows_in n 1 whole.globals.now ≡ rows_at bytes 5 n 1)
        (globals-long : length whole.globals.now ≡ 32)
        (full-are : rows_in size_of rows_of whole.full.rows.bytes.now ≡ rows_at bytes (5 + n) size_of rows_of) where
      pub package_fits : PackageFits n whole
      package_fits = record {
        numbered = rw size_is (globals_fit (numbers_of whole) whole.globals.now whole.full.rows.bytes.now size_is
            rows_is count_is globals-are globals-long full-are);
        some_row = omega (arith, loaded_numbers.rows_least);
        few_rows = omega (arith, loaded_numbers.rows_most);
        small_count = omega (arith, loaded_numbers.count_most);
      }

      pub package_is : package_in n whole ≡ read_package n bytes
      package_is =
          package_held n whole
          ∙ loaded_is (numbers_of whole) whole.globals.now whole.full.rows.bytes.now size_is rows_is count_is
          globals-are globals-long full-are
