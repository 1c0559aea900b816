-- Tallies as numbers: ascending marks, and two rows of numbers by tally. What one orbit
-- changes, what all do, and that nothing runs over. Leans on Marks. Assumes nothing.
use Rattle.std.specs.Prelude.{◌≡◌, Bool, true, false, cond, ℕ, suc, ◌+◌, ◌*◌, ◌/◌, ◌%◌, ◌≤◌, ◌<◌, leb, eqb, set}
use Rattle.std.specs.Prelude.{replicate}
use Rattle.std.proofs.Math.Path.{refl}
use Rattle.std.proofs.Common.{ap, subst, ◌∙◌, div-le_self, arith, get_or-set_same, get_or-set_other}
use Rattle.std.proofs.Math.Bool.{or-true}
use mathlib.Core.List.{List, [], ◌∷◌, ◌++◌, map}
use Rattle.std.specs.Prelude.{Option, Some, None}
use Rattle.std.proofs.Math.Decide.{ℕ_discrete}
use Rattle.std.proofs.Math.ListN.{length, get_or, length-set, length-map}
use Rattle.std.proofs.lemmas.List.{length-replicate, get_or-replicate}
use Rattle.definitions.specs.Lists.{Pair, any_of, member_nat, keep}
use Rattle.definitions.specs.Orbits.{Row, set_image}
use Rattle.laws.specs.Sets.{set_number, vertices_of}
use Rattle.sorted.specs.Ascending.{Ascending, insert_new, union, ascending_nil, ascending_union, ascending_head}
use Rattle.sorted.specs.Ascending.{ascending_tail, member_union, member_head, member_below, length_insert, insert_few}
use Rattle.sorted.specs.Gathering.{added, ascending_added, Fresh}
use Rattle.orbits.specs.Numbers.{image_numbers}
use Rattle.tallies.specs.Marks.{mark_number, latest, latest_is, TalliesBelow, marks_ascend, tallies_new, new_marks}

member_later : (x y : ℕ) (l : List ℕ) → member_nat x l ≡ true → member_nat x (y ∷ l) ≡ true
unfolding member_nat any_of
member_later x y l m = rw m (or-true (eqb x y))

-- how many numbers two sets without a common one have together
union_length : (l b : List ℕ) → Ascending l → Ascending b → Fresh l b → length (union l b) ≡ length l + length b
unfolding union
union_length l [] a c f = omega arith
union_length l (x ∷ b) a c f =
    let out : member_nat x l ≡ false = f.new x (member_head x b) in
    let absent : member_nat x (union l b) ≡ false = member_union x l b
    ∙ (rw (member_below x b (ascending_head c)) out) in
    let rest : Fresh l b = record { new = λ z m. f.new z (member_later z x b m) } in
    length_insert x (union l b) (ascending_union l b a)
    ∙ (rw (absent, union_length l b a (ascending_tail c) rest) (omega arith))

-- the marks, how many tallies there are, and by tally the number of images and the sum
pub record Counted : Type 0 where
  pub marks : List ℕ
  pub tallies : ℕ
  pub images : List ℕ
  pub sums : List ℕ

-- what a key was marked with opens a tally or adds to one; `weight` is count × orbit size
unfoldable pub count_by : Option ℕ → ℕ → List Row → Counted → ℕ → ℕ → Counted
count_by None g rows c key weight =
    let new = added [] (image_numbers g key rows) in
    record {
      marks = union c.marks (map (mark_number c.tallies) new);
      tallies = suc c.tallies;
      images = set c.images c.tallies (length new);
      sums = set c.sums c.tallies (weight / length new);
    }
count_by (Some k) g rows c key weight = record {
  marks = c.marks;
  tallies = c.tallies;
  images = c.images;
  sums = set c.sums k (get_or c.sums k 0 + weight / get_or c.images k 0);
}

unfoldable pub count_one : ℕ → List Row → Counted → ℕ → ℕ → Counted
count_one g rows c key weight = count_by (latest 256 c.marks key) g rows c key weight

-- the key of an orbit that is stored as its first set's number and its size
unfoldable pub pair_key : ℕ → Row → Pair → ℕ
pair_key n globals q = set_number (set_image (vertices_of n q.0) globals)

-- orbit by orbit
unfoldable pub count_all : ℕ → Row → ℕ → List Row → ℕ → Counted → List Pair → Counted
count_all n globals g rows count c [] = c
count_all n globals g rows count c (q ∷ qs) =
    count_all n globals g rows count (count_one g rows c (pair_key n globals q) (count * q.1)) qs

pub count_more : (n : ℕ) (globals : Row) (g : ℕ) (rows : List Row) (count : ℕ) (c : Counted) (qs : List Pair) (q : Pair)
    → count_all n globals g rows count c (qs ++ (q ∷ []))
    ≡ count_one g rows (count_all n globals g rows count c qs) (pair_key n globals q) (count * q.1)
unfolding count_all
count_more n globals g rows count c [] q = refl
count_more n globals g rows count c (p ∷ qs) q =
    count_more n globals g rows count (count_one g rows c (pair_key n globals p) (count * p.1)) qs q

-- before the first
unfoldable pub none_counted : Counted
none_counted = record { marks = []; tallies = 0; images = replicate 256 0; sums = replicate 256 0 }

-- what the tally of a key has added up to
unfoldable pub sum_by : Option ℕ → List ℕ → ℕ
sum_by None sums = 0
sum_by (Some k) sums = get_or sums k 0

-- the stored orbits whose key's tally is 2 or more
unfoldable pub keeps_pair : ℕ → Row → List ℕ → List ℕ → Pair → Bool
keeps_pair n globals marks sums q = leb 2 (sum_by (latest 256 marks (pair_key n globals q)) sums)

unfoldable pub keep_pairs : ℕ → Row → List ℕ → List ℕ → List Pair → List Pair
keep_pairs n globals marks sums qs = keep (keeps_pair n globals marks sums) qs

-- ---- nothing runs over

-- 65,535 × 2 ^ 32 and a little more
abbrev pub most_weight : ℕ
most_weight = 281474976710656

-- after so many orbits
pub record CountFits (done : ℕ) (c : Counted) : Type 0 where
  pub ascends : Ascending c.marks
  pub below : TalliesBelow c.tallies c.marks
  pub few_marks : length c.marks ≤ 120 * c.tallies
  pub few_tallies : c.tallies ≤ done
  pub some_images : (i : ℕ) → i < c.tallies → 0 < get_or c.images i 0
  pub small_sums : (i : ℕ) → i < 256 → get_or c.sums i 0 ≤ done * most_weight
  pub long_images : length c.images ≡ 256
  pub long_sums : length c.sums ≡ 256

-- one orbit more may come
pub record Ready (c : Counted) : Type 0 where
  pub done : ℕ
  pub fits : CountFits done c
  pub free : done < 256

pub none_fits : CountFits 0 none_counted
unfolding none_counted member_nat any_of
none_fits = record {
  ascends = ascending_nil;
  below = record { under = λ y m. let z : ◌≡◌ {A = Bool} false true = m in absurd (not_true z) };
  few_marks = omega arith;
  few_tallies = omega arith;
  some_images = λ i h. absurd (omega arith);
  small_sums = λ i h. let e = get_or-replicate {A = ℕ} 256 i 0 0 h in omega arith;
  long_images = length-replicate {A = ℕ} 256 0;
  long_sums = length-replicate {A = ℕ} 256 0;
}
  where
    not_true : false ≡ true → ⊥
    not_true e = subst (λ (b : Bool). cond b ⊥ (Unit {0})) e tt

-- a list of images has one at least, and no more than there are rows
pub added_few : (l xs : List ℕ) → (length l ≤ length (added l xs)) × (length (added l xs) ≤ length l + length xs)
unfolding added
added_few l [] = (omega arith, omega arith)
added_few l (x ∷ xs) =
    let r = added_few (insert_new x l) xs in
    let s = insert_few x l in
    (omega (arith, r.0, s.0), omega (arith, r.1, s.1))

added_some : (xs : List ℕ) → 0 < length xs → 0 < length (added [] xs)
unfolding added insert_new
added_some [] h = absurd (omega arith)
added_some (x ∷ xs) h = let r = (added_few (x ∷ []) xs).0 in omega arith

pub images_few : (g key : ℕ) (rows : List Row) → 0 < length rows → (0 < length (added [] (image_numbers g key rows)))
    × (length (added [] (image_numbers g key rows)) ≤ length rows)
unfolding image_numbers
images_few g key rows h =
    let n = length-map rows (λ (row : Row). set_number (set_image (vertices_of g key) row)) in
    (added_some (image_numbers g key rows) (omega arith), omega (arith, (added_few [] (image_numbers g key rows)).1))

-- a part of a weight is no more than it
part_small : (weight k : ℕ) → weight / k ≤ weight
part_small weight k = div-le_self weight k

module _ (done g : ℕ) (rows : List Row) (c : Counted) (key weight : ℕ) (f : CountFits done c) (free : done < 256)
    (light : weight ≤ most_weight)
    (some_row : 0 < length rows) (few_rows : length rows ≤ 120) where
  abbrev new : List ℕ
  new = added [] (image_numbers g key rows)

  set_images : (i : ℕ) → i < suc c.tallies → 0 < get_or (set c.images c.tallies (length new)) i 0
  set_images i h = go (ℕ_discrete i c.tallies)
    where
      few : c.tallies < length c.images
      few = omega (arith, f.long_images, f.few_tallies)

      go : Dec (i ≡ c.tallies) → 0 < get_or (set c.images c.tallies (length new)) i 0
      go (yes e) =
          let q = get_or-set_same c.images c.tallies (length new) 0 few in
          let r = ap (λ (j : ℕ). get_or (set c.images c.tallies (length new)) j 0) e in
          omega (arith, (images_few g key rows some_row).0)
      go (no n) =
          let q = get_or-set_other c.images c.tallies i (length new) 0 n in
          let r = f.some_images i (omega arith) in
          omega arith

  set_sums : (k x i : ℕ) → k < 256 → x ≤ suc done * most_weight → i < 256
      → get_or (set c.sums k x) i 0 ≤ suc done * most_weight
  set_sums k x i h small g = go (ℕ_discrete i k)
    where
      go : Dec (i ≡ k) → get_or (set c.sums k x) i 0 ≤ suc done * most_weight
      go (yes e) =
          let q = get_or-set_same c.sums k x 0 (omega (arith, f.long_sums)) in
          let r = ap (λ (j : ℕ). get_or (set c.sums k x) j 0) e in
          omega arith
      go (no n) = let q = get_or-set_other c.sums k i x 0 n in let r = f.small_sums i g in omega arith

  opened_fits : CountFits (suc done) (count_by None g rows c key weight)
  unfolding count_by
  opened_fits =
      let small : c.tallies < 256 = omega (arith, f.few_tallies) in
      let up = marks_ascend c.tallies new (ascending_added [] (image_numbers g key rows) ascending_nil) in
      let n = union_length c.marks (map (mark_number c.tallies) new) f.ascends up
      (record { new = new_marks c.tallies c.marks new small f.below }) in
      let m = length-map new (mark_number c.tallies) in
      let few = (images_few g key rows some_row).1 in
      record {
        ascends = ascending_union c.marks (map (mark_number c.tallies) new) f.ascends;
        below = tallies_new c.tallies c.marks new small f.below;
        few_marks = omega (arith, f.few_marks);
        few_tallies = omega (arith, f.few_tallies);
        some_images = set_images;
        small_sums =
            λ i h. set_sums c.tallies (weight / length new) i small (omega (arith, part_small weight (length new))) h;
        long_images = length-set c.images c.tallies (length new) ∙ f.long_images;
        long_sums = length-set c.sums c.tallies (weight / length new) ∙ f.long_sums;
      }

  added_fits : (k : ℕ) → k < 256 → CountFits (suc done) (count_by (Some k) g rows c key weight)
  unfolding count_by
  added_fits k h =
      let x = get_or c.sums k 0 + weight / get_or c.images k 0 in
      record {
        ascends = f.ascends;
        below = f.below;
        few_marks = f.few_marks;
        few_tallies = omega (arith, f.few_tallies);
        some_images = f.some_images;
        small_sums =
            λ i q. set_sums k x i h (omega (arith, f.small_sums k h, part_small weight (get_or c.images k 0))) q;
        long_images = f.long_images;
        long_sums = length-set c.sums k x ∙ f.long_sums;
      }

  pub one_fits : CountFits (suc done) (count_one g rows c key weight)
  unfolding count_one
  one_fits = go (latest 256 c.marks key) refl
    where
      go : (o : Option ℕ) → latest 256 c.marks key ≡ o → CountFits (suc done) (count_by o g rows c key weight)
      go None e = opened_fits
      go (Some k) e = added_fits k (latest_is 256 c.marks key k e).below

-- a tally that is found is one of those that were opened
pub found_opened : (done : ℕ) (c : Counted) (key k : ℕ) → CountFits done c → latest 256 c.marks key ≡ Some k
    → (k < c.tallies) × (k < 256)
found_opened done c key k f e =
    let r = latest_is 256 c.marks key k e in
    let h = r.below in
    let w : (256 * key + k) % 256 ≡ k = omega arith in
    (omega (arith, f.below.under (256 * key + k) r.there), r.below)

-- so many orbits, each of a weight that fits
pub all_fit : (n : ℕ) (globals : Row) (g : ℕ) (rows : List Row) (count : ℕ) → 0 < length rows → length rows ≤ 120
    → (done : ℕ) (c : Counted) (qs : List Pair)
    → ((i : ℕ) → i < length qs → count * (get_or qs i (0, 0)).1 ≤ most_weight) → done + length qs ≤ 256
    → CountFits done c
    → CountFits (done + length qs) (count_all n globals g rows count c qs)
unfolding count_all
all_fit n globals g rows count some_row few_rows done c [] light room f =
    let e : done + 0 ≡ done = omega arith in
    rw e f
all_fit n globals g rows count some_row few_rows done c (q ∷ qs) light room f =
    let next = one_fits done g rows c (pair_key n globals q) (count * q.1) f (omega arith)
    (light 0 (omega arith)) some_row few_rows in
    let e : suc done + length qs ≡ done + suc (length qs) = omega arith in
    subst (λ (k : ℕ).
    CountFits k (count_all n globals g rows count (count_one g rows c (pair_key n globals q) (count * q.1)) qs)) e
    (all_fit n globals g rows count some_row few_rows (suc done) (count_one g rows c (pair_key n globals q)
    (count * q.1)) qs (λ i h. light (suc i) (omega arith)) (omega arith) next)
