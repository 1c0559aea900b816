-- Orbits by numbers are the hyperplane orbits of [5.7]: what was seen, as numbers in ascending order, agrees with the
-- definition's list of sets. Leans on Numbers.
use Rattle.std.specs.Prelude.{◌≡◌, Bool, true, false, cond, ◌&&◌, ◌||◌, ℕ, suc, ◌+◌, ◌-◌, ◌<◌, eqb, Float}
use Rattle.std.proofs.Math.Path.{refl, sym, subst}
use Rattle.std.proofs.Common.{ap, ◌∙◌, arith}
use Rattle.std.proofs.Math.Bool.{not}
use mathlib.Core.List.{List, [], ◌∷◌, ◌++◌, map, Memᴰ}
use Rattle.std.proofs.Math.Dec.{leb, compare_is_eq}
use Rattle.std.proofs.Math.ListN.{length}
use Rattle.definitions.specs.Lists.{Pair, any_of, member_nat, fresh, compare_nats}
use Rattle.definitions.specs.Vectors.{Vec}
use Rattle.definitions.specs.Subspace.{from_points, is_hyperplane}
use Rattle.definitions.specs.Orbits.{Row, image, point_at, points_near, set_image, hyperplanes}
use Rattle.laws.specs.Bools.{or_swap}
use Rattle.laws.specs.Segments.{cons_same}
use Rattle.laws.specs.Lists.{Mem, here, there, of_map, any_append}
use Rattle.laws.specs.Sets.{set_number, vertices_of, SetFrom, compare_sets, image_set, vertices_number}
use Rattle.sets.specs.Steps.{near_set}
use Rattle.sorted.specs.Ascending.{Ascending, insert_new, ascending_insert, member_insert, length_insert, insert_member}
use Rattle.sorted.specs.Gathering.{added}
use Rattle.orbits.specs.Numbers.{image_numbers, orbit_of, may_open, near_number, opens_orbit, with_images, orbits_from}

-- a row sends vertices below n to such, no two to one
pub record Permutes (n : ℕ) (row : Row) : Type 0 where
  pub below : (u : ℕ) → u < n → image row u < n
  pub one : (u w : ℕ) → u < n → w < n → image row u ≡ image row w → u ≡ w

-- an ascending list of numbers has those of the sets seen, and no others
pub record SeenAs (n : ℕ) (seen : List (List ℕ)) (numbers : List ℕ) : Type 0 where
  pub sets : (q : List ℕ) → Mem q seen → SetFrom 0 n q
  pub ascends : Ascending numbers
  pub agrees : (x : ℕ) → member_nat x numbers ≡ member_nat x (map set_number seen)

-- ---- a set is seen if its number is

any_number : (n : ℕ) (set : List ℕ) (seen : List (List ℕ)) → SetFrom 0 n set
    → ((q : List ℕ) → Mem q seen → SetFrom 0 n q)
    → any_of (λ (q : List ℕ). compare_is_eq (compare_nats set q)) seen
    ≡ member_nat (set_number set) (map set_number seen)
unfolding member_nat any_of
any_number n set [] s h = refl
any_number n set (q ∷ seen) s h =
    rw (compare_sets s (h q (here refl)), any_number n set seen s (λ p k. h p (there k))) refl

member_append : (x : ℕ) (l m : List ℕ) → member_nat x (l ++ m) ≡ (member_nat x l || member_nat x m)
unfolding member_nat
member_append x l m = any_append (eqb x) l m

-- ---- images join

-- one set more
seen_more : (n : ℕ) (seen : List (List ℕ)) (numbers : List ℕ) (q : List ℕ) → SeenAs n seen numbers → SetFrom 0 n q
    → SeenAs n (q ∷ seen) (insert_new (set_number q) numbers)
unfolding member_nat any_of
seen_more n seen numbers q r s = record {
  sets = sets;
  ascends = ascending_insert (set_number q) numbers r.ascends;
  agrees = λ x. member_insert x (set_number q) numbers ∙ ap (λ (b : Bool). eqb x (set_number q) || b) (r.agrees x);
}
  where
    sets : (p : List ℕ) → Mem p (q ∷ seen) → SetFrom 0 n p
    sets p (Memᴰ.head e) = subst (SetFrom 0 n) (sym e) s
    sets p (Memᴰ.tail k) = r.sets p k

-- what joins, as the definition counts it and as the numbers do
pub record Joined (n : ℕ) (seen new : List (List ℕ)) (numbers after : List ℕ) : Type 0 where
  pub counted : length after ≡ length numbers + length new
  pub known : SeenAs n (new ++ seen) after

pub joined : (n : ℕ) (images : List (List ℕ)) (seen : List (List ℕ)) (numbers : List ℕ) → SeenAs n seen numbers
    → ((q : List ℕ) → Mem q images → SetFrom 0 n q)
    → Joined n seen (fresh compare_nats seen images) numbers (added numbers (map set_number images))
unfolding fresh added member_nat any_of
joined n [] seen numbers r h = record { counted = omega arith; known = r }
joined n (q ∷ images) seen numbers r h =
    go (any_of (λ (p : List ℕ). compare_is_eq (compare_nats q p)) seen) refl
    (λ numbers' r'. joined n images seen numbers' r' (λ p k. h p (there k)))
    (joined n images (q ∷ seen) (insert_new (set_number q) numbers) (seen_more n seen numbers q r own)
    (λ p k. h p (there k)))
  where
    own : SetFrom 0 n q
    own = h q (here refl)

    is_known : (b : Bool) → any_of (λ (p : List ℕ). compare_is_eq (compare_nats q p)) seen ≡ b
        → member_nat (set_number q) numbers ≡ b
    is_known b e = r.agrees (set_number q) ∙ (sym (any_number n q seen own r.sets) ∙ e)

    go : (b : Bool) → any_of (λ (p : List ℕ). compare_is_eq (compare_nats q p)) seen ≡ b
        → ((numbers' : List ℕ) → SeenAs n seen numbers'
        → Joined n seen (fresh compare_nats seen images) numbers' (added numbers' (map set_number images)))
        → Joined n (q ∷ seen) (fresh compare_nats (q ∷ seen) images) (insert_new (set_number q) numbers)
        (added (insert_new (set_number q) numbers) (map set_number images))
        → Joined n seen (cond b (fresh compare_nats seen images) (q ∷ fresh compare_nats (q ∷ seen) images)) numbers
        (added (insert_new (set_number q) numbers) (map set_number images))
    go true e old new =
        let same : insert_new (set_number q) numbers
        ≡ numbers = insert_member (set_number q) numbers r.ascends (is_known true e) in
        rw same (old numbers r)
    go false e old new =
        let longer : length (insert_new (set_number q) numbers)
        ≡ suc (length numbers) = length_insert (set_number q) numbers r.ascends ∙ (rw (is_known false e) refl) in
        let later = fresh compare_nats (q ∷ seen) images in
        record {
          counted = new.counted ∙ (omega arith);
          known = record {
            sets = λ p k. new.known.sets p (moved p later k);
            ascends = new.known.ascends;
            agrees = λ x. new.known.agrees x ∙ agree x later;
          };
        }
      where
        moved : (p : List ℕ) (later : List (List ℕ)) → Mem p ((q ∷ later) ++ seen) → Mem p (later ++ (q ∷ seen))
        moved p [] k = k
        moved p (t ∷ later) (Memᴰ.head d) = there (moved p later (here d))
        moved p (t ∷ later) (Memᴰ.tail (Memᴰ.head d)) = here d
        moved p (t ∷ later) (Memᴰ.tail (Memᴰ.tail k)) = there (moved p later (there k))

        agree : (x : ℕ) (later : List (List ℕ)) → member_nat x (map set_number (later ++ (q ∷ seen)))
            ≡ member_nat x (map set_number ((q ∷ later) ++ seen))
        agree x [] = refl
        agree x (t ∷ later) =
            rw (agree x later)
            (or_swap (eqb x (set_number t)) (eqb x (set_number q)) (member_nat x (map set_number (later ++ seen))))

-- ---- the orbits

module _ (tolerance : Float) (most : ℕ) (flat : List Vec) (rows : List Row)
    (permute : (row : Row) → Mem row rows → Permutes (length flat) row) where
  near : List ℕ → List ℕ
  near tuple = points_near tolerance (from_points tolerance (map (point_at flat) tuple)) flat 0

  near_is : (tuple : List ℕ)
      → SetFrom 0 (length flat) (points_near tolerance (from_points tolerance (map (point_at flat) tuple)) flat 0)
  near_is tuple = near_set tolerance (from_points tolerance (map (point_at flat) tuple)) flat 0

  moved_sets : (set : List ℕ) → SetFrom 0 (length flat) set → (q : List ℕ) → Mem q (map (set_image set) rows)
      → SetFrom 0 (length flat) q
  unfolding set_image
  moved_sets set s q h =
      let r = of_map (set_image set) q rows h in
      let p = permute r.0 r.1 in
      subst (SetFrom 0 (length flat)) (sym r.2) (image_set (length flat) (image r.0) set s p.below p.one)

  map_numbers : (set : List ℕ) (l : List Row)
      → map (λ (row : Row). set_number (set_image set row)) l ≡ map set_number (map (set_image set) l)
  map_numbers set [] = refl
  map_numbers set (row ∷ l) = ap (λ (m : List ℕ). set_number (set_image set row) ∷ m) (map_numbers set l)

  image_numbers_holds : (set : List ℕ) → SetFrom 0 (length flat) set
      → image_numbers (length flat) (set_number set) rows ≡ map set_number (map (set_image set) rows)
  unfolding image_numbers
  image_numbers_holds set s = rw (vertices_number s) (map_numbers set rows)

  same_cond : {A : Type 0} {a b : Bool} {x y z w : A} → a ≡ b → x ≡ z → y ≡ w → cond a x y ≡ cond b z w
  same_cond p q r = rw (p, q, r) refl

  and_first : (a b c : Bool) → (a && (b && c)) ≡ (a && b && c)
  and_first true b c = refl
  and_first false b c = refl

  map_cond : (b : Bool) (x y : List Pair) → map (orbit_of (length flat)) (cond b x y)
      ≡ cond b (map (orbit_of (length flat)) x) (map (orbit_of (length flat)) y)
  map_cond true x y = refl
  map_cond false x y = refl

  orbit_same : (set : List ℕ) (a b : ℕ) → SetFrom 0 (length flat) set → a ≡ b
      → orbit_of (length flat) (set_number set, a) ≡ record { vertices = set; count = b }
  unfolding orbit_of
  orbit_same set a b s e = let f = vertices_number s in λ i. record { vertices = f i; count = e i }

  pub orbits_are : (tuples seen : List (List ℕ)) (numbers : List ℕ) → SeenAs (length flat) seen numbers
      → map (orbit_of (length flat)) (orbits_from tolerance most flat rows numbers (map (map (point_at flat)) tuples))
      ≡ hyperplanes tolerance most flat rows seen tuples
  unfolding orbits_from hyperplanes opens_orbit may_open with_images near_number
  orbits_are [] seen numbers r = refl
  orbits_are (tuple ∷ ts) seen numbers r =
      let s = from_points tolerance (map (point_at flat) tuple) in
      let set = points_near tolerance s flat 0 in
      let own = near_is tuple in
      let images = map (set_image set) rows in
      let new = fresh compare_nats seen images in
      let after = added numbers (image_numbers (length flat) (set_number set) rows) in
      let join : Joined (length flat) seen new numbers after =
      subst (λ (l : List ℕ). Joined (length flat) seen new numbers (added numbers l))
      (sym (image_numbers_holds set own)) (joined (length flat) images seen numbers r (moved_sets set own)) in
      let count : length after - length numbers ≡ length new = omega (arith, join.counted) in
      let known : member_nat (set_number set) numbers
      ≡ any_of (λ (q : List ℕ). compare_is_eq (compare_nats set q)) seen = r.agrees (set_number set)
      ∙ sym (any_number (length flat) set seen own r.sets) in
      let test : (is_hyperplane s && (not (member_nat (set_number set) numbers)
      && leb (length (vertices_of (length flat) (set_number set))) most)) ≡ (is_hyperplane s
      && not (any_of (λ (q : List ℕ). compare_is_eq (compare_nats set q)) seen) && leb (length set) most) =
      rw (known, vertices_number own) (and_first (is_hyperplane s) _ _) in
      map_cond (opens_orbit tolerance most flat rows numbers (map (point_at flat) tuple)) _ _
      ∙ same_cond test
      (cons_same (orbit_same set (length after - length numbers) (length new) own count)
      (orbits_are ts (new ++ seen) after join.known))
      (orbits_are ts seen numbers r)
