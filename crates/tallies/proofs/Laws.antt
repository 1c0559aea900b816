-- The steps of the code over marks and tallies: the place of a number, the latest mark, marks gathered and merged, and
-- one orbit counted. Leans on Marks and Counts, on the sorted sets and on numbers in bytes.
use mathlib.Core.Path.{◌≡◌, refl, sym, ap, subst, ◌∙◌}
use mathlib.Core.List.{List, [], ◌∷◌, ◌++◌, map}
use Rattle.std.specs.Prelude.{Option, Some, None}
use Prim.Native.Nat.{ℕ, zero, suc, ◌+◌, ◌*◌, ◌-◌, ◌/◌, ◌%◌, ◌^◌, ◌≤◌, ◌<◌}
use native.Mathlib.Nat.{pow-le-pow_right}
use native.Mathlib.Omega.{arith}
use native.Mathlib.Numerals.{add-one}
use lib.Dec.{leb}
use lib.ListN.{length, get_or, take, drop, set, length-map}
use Rattle.definitions.specs.Lists.{place_of}
use Rattle.definitions.specs.Orbits.{Row, image, set_image}
use Rattle.definitions.specs.Job.{number_at}
use Rattle.laws.specs.Merging.{place_le}
use Rattle.laws.specs.Parts.{rows, map_rows_more, length_rows}
use Rattle.laws.specs.Sets.{set_number, vertices_of, vertices_set, image_set, number_small}
use Rattle.words.specs.Words.{words, words_length, get_d_words}
use Rattle.sorted.specs.Ascending.{Ascending, insert_new, union, ascending_nil}
use Rattle.sorted.specs.Gathering.{added, ascending_added}
use Rattle.sorted.specs.Merging.{New, Merged}
use Rattle.rows.specs.Rows.{rows_in, row_at, image_at_holds}
use Rattle.sets.specs.Vertices.{RowSends, row_sends}
use Rattle.stabilizers.specs.Permutations.{Permutation}
use Rattle.orbits.specs.Numbers.{image_numbers}
use Rattle.tallies.specs.Marks.{mark_number, latest, latest_is, TalliesBelow, none_before, last_marks, last_other}
use Rattle.tallies.specs.Marks.{mark_more, marks_ascend, new_marks}
use Rattle.tallies.specs.Counts.{Counted, count_by, count_one, sum_by, most_weight, added_few, images_few, found_opened}
use Rattle.tallies.specs.Meaning.{GlobalsFit, counted_in, TallyFits}

-- ---- the latest mark

module _ (s : List ℕ) (known key end : ℕ) (a : Ascending (words 4 s known))
    (e : end ≡ place_of (leb (256 * (key + 1))) (words 4 s known)) where
  pub end_within : end ≤ known
  end_within = omega (arith, place_le (leb (256 * (key + 1))) (words 4 s known), words_length 4 s known)

  pub unmarked_none : end ≡ 0 → None ≡ latest 256 (words 4 s known) key
  unmarked_none z = sym (none_before (words 4 s known) key a (sym e ∙ z))

  module _ (last : ℕ) (is_some : end ≡ 0 → ⊥) (is_last : last ≡ number_at s (4 * (end - 1)) 4) where
    some_before : 0 < place_of (leb (256 * (key + 1))) (words 4 s known)
    some_before = go end is_some e
      where
        go : (k : ℕ) → (k ≡ 0 → ⊥) → k ≡ place_of (leb (256 * (key + 1))) (words 4 s known)
            → 0 < place_of (leb (256 * (key + 1))) (words 4 s known)
        go zero n q = absurd (n refl)
        go (suc k) n q = omega arith

    at_last : get_or (words 4 s known) (place_of (leb (256 * (key + 1))) (words 4 s known) - 1) 0 ≡ last
    at_last =
        ap (λ (k : ℕ). get_or (words 4 s known) (k - 1) 0) (sym e)
        ∙ get_d_words 4 s known (end - 1) (omega (arith, end_within, some_before))
        ∙ sym is_last

    pub marked_last : last / 256 ≡ key → Some (last % 256) ≡ latest 256 (words 4 s known) key
    marked_last q = sym (last_marks (words 4 s known) key a last some_before at_last q)

    pub unmarked_other : (last / 256 ≡ key → ⊥) → None ≡ latest 256 (words 4 s known) key
    unmarked_other n = sym (last_other (words 4 s known) key a last some_before at_last n)

-- ---- marks gathered

-- the image of a key under a full row is a number below 2 ^ 20
pub image_small : (g i key : ℕ) (full : List ℕ) → Permutation g i full
    → set_number (set_image (vertices_of g key) (row_at g i full)) < 1048576
unfolding set_image row_at vertices_of
image_small g i key full p =
    let at = image_at_holds g i full in
    let s = image_set g (image (take g (drop (32 * i) full))) (vertices_of g key) (vertices_set 0 g key)
    (λ u h. subst (λ (k : ℕ). k < g) (sym (at u h)) (p.below u h))
    (λ u w h k e. p.one u w h k (sym (at u h) ∙ (e ∙ at w k))) in
    let small : 2 ^ g ≤ 1048576 = pow-le-pow_right {n = 2} (omega arith) {i = g} {j = 20} p.n_fits in
    omega (arith, number_small s)

-- a key's vertices are sent to global numbers
pub key_sends : (n g set : ℕ) (globals vertices : List ℕ) → GlobalsFit n g globals → vertices ≡ vertices_of n set
    → RowSends 0 globals vertices
key_sends n g set globals vertices f e =
    rw e (row_sends 0 n set globals (omega (arith, f.n_fits, f.long)) (λ v h. let z : 32 * 0 + v ≡ v = omega arith in
    rw z (omega (arith, f.below v h, f.g_fits))))

module _ (g key : ℕ) (full : List ℕ) where
  abbrev pub images_to : ℕ → List ℕ
  images_to i = added [] (image_numbers g key (rows_in g i full))

  pub gathered_none : (tally : ℕ) → [] ≡ map (mark_number tally) (images_to 0)
  unfolding image_numbers rows_in rows added
  gathered_none tally = refl

  images_more : (i : ℕ) → image_numbers g key (rows_in g (i + 1) full)
      ≡ image_numbers g key (rows_in g i full) ++ (set_number (set_image (vertices_of g key) (row_at g i full)) ∷ [])
  unfolding image_numbers rows_in row_at
  images_more i = map_rows_more (λ (row : Row). set_number (set_image (vertices_of g key) row)) 32 g i full

  -- one image more
  pub gathered_more : (tally i x : ℕ) (new after : List ℕ)
      → x ≡ set_number (set_image (vertices_of g key) (row_at g i full)) → new ≡ map (mark_number tally) (images_to i)
      → after ≡ insert_new (256 * x + tally) new → after ≡ map (mark_number tally) (images_to (i + 1))
  gathered_more tally i x new after is_x held is =
      is
      ∙ mark_more tally x new (image_numbers g key (rows_in g i full)) held
      ∙ ap (λ (l : List ℕ). map (mark_number tally) (added [] l))
      (ap (λ (y : ℕ). image_numbers g key (rows_in g i full) ++ (y ∷ [])) is_x ∙ sym (images_more i))

  pub images_to_most : (i : ℕ) → length (images_to i) ≤ i
  unfolding rows_in image_numbers
  images_to_most i =
      let n = length_rows 32 g i full in
      let m = length-map (rows_in g i full) (λ (row : Row). set_number (set_image (vertices_of g key) row)) in
      omega (arith, (added_few [] (image_numbers g key (rows_in g i full))).1)

  pub images_to_few : (i : ℕ) → 0 < i → (0 < length (images_to i)) × (length (images_to i) ≤ i)
  unfolding rows_in
  images_to_few i h =
      let n = length_rows 32 g i full in
      let r = images_few g key (rows_in g i full) (omega arith) in
      (r.0, omega (arith, r.1))

-- ---- what may be counted

module _ (known tally : ℕ) (marks images sums : List ℕ) (f : TallyFits known tally marks images sums) where
  pub tally_small : tally < 256
  unfolding counted_in
  tally_small = omega (arith, f.ready.fits.few_tallies, f.ready.free)

  pub known_few : (known ≤ 30720) × (4 * known ≤ length marks)
  unfolding counted_in
  known_few =
      let w = words_length 4 marks known in (
        omega (arith, f.ready.fits.few_marks, f.ready.fits.few_tallies, f.ready.free),
        omega (arith, f.long, f.ready.fits.few_marks, f.ready.fits.few_tallies, f.ready.free),
      )

  pub marks_up_holds : Ascending (words 4 marks known)
  unfolding counted_in
  marks_up_holds = f.ready.fits.ascends

  pub found_fits : (key k weight : ℕ) → latest 256 (words 4 marks known) key ≡ Some k → weight ≤ most_weight
      → (k < tally) × (0 < get_or images k 0) × (get_or sums k 0 + weight ≤ 18446744073709551615)
  unfolding counted_in
  found_fits key k weight e light =
      let fit = f.ready.fits in
      let r = found_opened f.ready.done (counted_in known tally marks images sums) key k fit e in
      (r.0, fit.some_images k r.0, omega (arith, fit.small_sums k r.1, f.ready.free))

-- ---- what a tally has added up to

pub latest_small : (l : List ℕ) (key k : ℕ) → latest 256 l key ≡ Some k → k < 256
latest_small l key k e = (latest_is 256 l key k e).below

pub latest_opened : (n : ℕ) (l : List ℕ) (key k : ℕ) → TalliesBelow n l → latest 256 l key ≡ Some k → k < n
latest_opened n l key k b e =
    let r = latest_is 256 l key k e in
    let h = r.below in
    let w : (256 * key + k) % 256 ≡ k = omega arith in
    omega (arith, b.under (256 * key + k) r.there)

pub sum_found : (l sums : List ℕ) (key k : ℕ) → latest 256 l key ≡ Some k
    → get_or sums k 0 ≡ sum_by (latest 256 l key) sums
unfolding sum_by
sum_found l sums key k e = rw e refl

pub sum_none : (l sums : List ℕ) (key : ℕ) → latest 256 l key ≡ None → 0 ≡ sum_by (latest 256 l key) sums
unfolding sum_by
sum_none l sums key e = rw e refl

-- ---- a tally opened

module _ (g m key : ℕ) (full : List ℕ) (known tally : ℕ) (marks images sums : List ℕ)
    (f : TallyFits known tally marks images sums) (some_row : 0 < m) (few : m ≤ 120)
    (new : List ℕ) (held : new ≡ map (mark_number tally) (images_to g key full m)) where
  count : length new ≡ length (images_to g key full m)
  count = ap length held ∙ length-map (images_to g key full m) (mark_number tally)

  small : tally < 256
  small = tally_small known tally marks images sums f

  pub marks_room : (4 * (known + length new) ≤ length marks) × (0 < length new) × (length new ≤ 120)
  unfolding counted_in
  marks_room =
      let r = images_to_few g key full m some_row in
      let w = words_length 4 marks known in (
        omega (arith, count, f.long, f.ready.fits.few_marks, f.ready.fits.few_tallies, f.ready.free, r.1),
        omega (arith, count, r.0),
        omega (arith, count, r.1),
      )

  pub merge_new : New (words 4 marks known) new
  unfolding counted_in
  merge_new = rw held (record {
    old = f.ready.fits.ascends;
    ascends =
        marks_ascend tally (images_to g key full m)
        (ascending_added [] (image_numbers g key (rows_in g m full)) ascending_nil);
    fresh = record { new = new_marks tally (words 4 marks known) (images_to g key full m) small f.ready.fits.below };
  })

  pub tally_opened : (weight : ℕ) (after : List ℕ) → Merged marks known new after
      → counted_in (known + length new) (tally + 1) after (set images tally (length new))
      (set sums tally (weight / length new))
      ≡ count_by None g (rows_in g m full) (counted_in known tally marks images sums) key weight
  unfolding counted_in count_by
  tally_opened weight after merged =
      same (merged.numbers ∙ ap (union (words 4 marks known)) held) (add-one tally) (ap (set images tally) count)
      (ap (λ (j : ℕ). set sums tally (weight / j)) count)
    where
      same : {a b : List ℕ} {c d : ℕ} {p q r s : List ℕ} → a ≡ b → c ≡ d → p ≡ q → r ≡ s
          → ◌≡◌ {A = Counted} (record { marks = a; tallies = c; images = p; sums = r }) (record {
            marks = b;
            tallies = d;
            images = q;
            sums = s;
          })
      same a c p r = rw (a, c, p, r) refl

-- ---- one orbit counted

module _ (g key weight : ℕ) (rows : List Row) (known tally : ℕ) (marks images sums : List ℕ) where
  pub count_opened : (c : Counted) → latest 256 (words 4 marks known) key ≡ None
      → c ≡ count_by None g rows (counted_in known tally marks images sums) key weight
      → c ≡ count_one g rows (counted_in known tally marks images sums) key weight
  unfolding count_one counted_in
  count_opened c e q =
      q ∙ ap (λ (o : Option ℕ). count_by o g rows (counted_in known tally marks images sums) key weight) (sym e)

  pub count_added : (k : ℕ) (after : List ℕ) → latest 256 (words 4 marks known) key ≡ Some k
      → after ≡ set sums k (get_or sums k 0 + weight / get_or images k 0)
      → counted_in known tally marks images after
      ≡ count_one g rows (counted_in known tally marks images sums) key weight
  unfolding count_one counted_in count_by
  count_added k after e q = rw (e, q) refl
