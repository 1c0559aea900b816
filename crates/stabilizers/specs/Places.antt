-- Places in a set: how many of its vertices are smaller. A row that keeps a set, rewritten to places in it, is
-- written where the next row begins. The laws on how many vertices a set has stand with the sets, and are passed on.
-- Leans on the sets of the laws.
use Rattle.std.specs.Prelude.{◌≡◌, refl, true, ℕ, zero, suc, ◌+◌, ◌*◌, ◌/◌, ◌%◌, ◌^◌, ◌<◌, eqb, get_or}
use Rattle.std.proofs.Math.Path.{sym, ap, subst}
use Rattle.std.proofs.Common.{◌∙◌, arith, eq-eqb, ne_eqb}
use mathlib.Core.List.{List, [], ◌∷◌, map, Memᴰ}
use Rattle.std.proofs.Math.Decide.{ℕ_discrete}
use Rattle.std.proofs.Math.ListN.{length}
use Rattle.definitions.specs.Lists.{place_of, sort_nats}
use Rattle.definitions.specs.Orbits.{image, set_image}
use Rattle.definitions.specs.Recursion.{keeps_set, row_within}
use Rattle.laws.specs.Bools.{true→holds}
use Rattle.laws.specs.Lists.{Mem, here, there, in_map}
use Rattle.laws.specs.Orders.{nat_lists, is_eq}
use Rattle.laws.specs.Sorting.{in_sorted}
use Rattle.laws.specs.Sets.{set_number, vertices_from, vertices_of, vertices_odd, vertices_even, vertices_set}
use Rattle.laws.specs.Sets.{set_range, compare_sets, image_set, number_vertices}
use Rattle.rows.specs.Rows.{row_at, image_at_holds}
pub use Rattle.sets.specs.Vertices.{bit_length, vertices_few}
use Rattle.stabilizers.specs.Permutations.{Permutation}

-- ---- definitions

-- for each vertex of a list, the place of its image under row i: the number of the set's vertices below it
unfoldable pub places : List ℕ → ℕ → ℕ → List ℕ → List ℕ
places s i set vertices = map (λ (v : ℕ). length (vertices_of (get_or s (32 * i + v) 0) set)) vertices

-- ---- a vertex's place

-- a vertex of the set stands behind those that are smaller
pub place_below : (v n k x : ℕ) → Mem (v + k) (vertices_from v n x)
    → place_of (eqb (v + k)) (vertices_from v n x) ≡ length (vertices_from v k x)
unfolding vertices_from place_of
place_below v zero k x h = elim h [ ]
place_below v (suc n) zero x h = go (ℕ_discrete (x % 2) 1)
  where
    e : v + 0 ≡ v
    e = omega arith

    go : Dec (x % 2 ≡ 1) → place_of (eqb (v + 0)) (vertices_from v (suc n) x) ≡ 0
    go (yes o) = rw (vertices_odd v n x o, eq-eqb (v + 0) v e) refl
    go (no o) =
        let m = subst (λ (l : List ℕ). Mem (v + 0) l) (vertices_even v n x o) h in
        absurd (omega (arith, (set_range (vertices_set (suc v) n (x / 2)) (v + 0) m).0))
place_below v (suc n) (suc k) x h = go (ℕ_discrete (x % 2) 1) (λ m. place_below (suc v) n k (x / 2) m)
  where
    f : v + suc k ≡ suc v + k
    f = omega arith

    later : Mem (v + suc k) (vertices_from (suc v) n (x / 2)) → Mem (suc v + k) (vertices_from (suc v) n (x / 2))
    later m = subst (λ (u : ℕ). Mem u (vertices_from (suc v) n (x / 2))) f m

    tail : Mem (v + suc k) (v ∷ vertices_from (suc v) n (x / 2)) → Mem (v + suc k) (vertices_from (suc v) n (x / 2))
    tail (Memᴰ.head q) = absurd (omega arith)
    tail (Memᴰ.tail m) = m

    go : Dec (x % 2 ≡ 1)
        → (Mem (suc v + k) (vertices_from (suc v) n (x / 2))
        → place_of (eqb (suc v + k)) (vertices_from (suc v) n (x / 2)) ≡ length (vertices_from (suc v) k (x / 2)))
        → place_of (eqb (v + suc k)) (vertices_from v (suc n) x) ≡ length (vertices_from v (suc k) x)
    go (yes o) ih =
        let m = later (tail (subst (λ (l : List ℕ). Mem (v + suc k) l) (vertices_odd v n x o) h)) in
        let step : place_of (eqb (v + suc k)) (v ∷ vertices_from (suc v) n (x / 2))
        ≡ suc (place_of (eqb (v + suc k)) (vertices_from (suc v) n (x / 2))) =
        rw (ne_eqb (v + suc k) v (λ q. omega arith)) refl in
        ap (place_of (eqb (v + suc k))) (vertices_odd v n x o)
        ∙ (step ∙ (ap (λ (u : ℕ). suc (place_of (eqb u) (vertices_from (suc v) n (x / 2)))) f
        ∙ (ap suc (ih m) ∙ ap length (sym (vertices_odd v k x o)))))
    go (no o) ih =
        let m = later (subst (λ (l : List ℕ). Mem (v + suc k) l) (vertices_even v n x o) h) in
        ap (place_of (eqb (v + suc k))) (vertices_even v n x o)
        ∙ (ap (λ (u : ℕ). place_of (eqb u) (vertices_from (suc v) n (x / 2))) f
        ∙ (ih m ∙ ap length (sym (vertices_even v k x o))))

pub place_is : (n u x : ℕ) → Mem u (vertices_of n x) → place_of (eqb u) (vertices_of n x) ≡ length (vertices_of u x)
unfolding vertices_of
place_is n u x h =
    let e : 0 + u ≡ u = omega arith in
    let m = subst (λ (k : ℕ). Mem k (vertices_from 0 n x)) (sym e) h in
    ap (λ (k : ℕ). place_of (eqb k) (vertices_from 0 n x)) (sym e) ∙ place_below 0 n u x m

-- ---- a row that keeps a set

module _ (n i : ℕ) (s : List ℕ) (row_fits : Permutation n i s) where
  image_below : (u : ℕ) → u < n → image (row_at n i s) u < n
  unfolding row_at
  image_below u h = rw (image_at_holds n i s u h) (row_fits.below u h)

  pub image_one : (u w : ℕ) → u < n → w < n → image (row_at n i s) u ≡ image (row_at n i s) w → u ≡ w
  unfolding row_at
  image_one u w h k e = row_fits.one u w h k (sym (image_at_holds n i s u h) ∙ (e ∙ image_at_holds n i s w k))

  -- sets are compared by their numbers
  pub keeps_number : (x : ℕ) → x < 2 ^ n
      → eqb (set_number (set_image (vertices_of n x) (row_at n i s))) x ≡ keeps_set (vertices_of n x) (row_at n i s)
  unfolding keeps_set set_image vertices_of
  keeps_number x h =
      let own = vertices_set 0 n x in
      let moved = image_set n (image (row_at n i s)) (vertices_from 0 n x) own image_below image_one in
      ap (eqb (set_number (set_image (vertices_of n x) (row_at n i s)))) (sym (number_vertices n x h))
      ∙ sym (compare_sets moved own)

  -- where a row keeps a set, the places of the images are the row rewritten
  pub stays : (x : ℕ) → keeps_set (vertices_of n x) (row_at n i s) ≡ true → (u : ℕ) → Mem u (vertices_of n x)
      → Mem (image (row_at n i s) u) (vertices_of n x)
  unfolding keeps_set set_image sort_nats
  stays x e u h =
      let same =
      nat_lists.equal (set_image (vertices_of n x) (row_at n i s)) (vertices_of n x) (is_eq _ (true→holds e)) in
      subst (λ (l : List ℕ). Mem (image (row_at n i s) u) l) same
      (in_sorted _ (image (row_at n i s) u) _ (in_map (image (row_at n i s)) u (vertices_of n x) h))

  same_map : (f g : ℕ → ℕ) (l : List ℕ) → ((u : ℕ) → Mem u l → f u ≡ g u) → map f l ≡ map g l
  same_map f g [] h = refl
  same_map f g (u ∷ l) h = rw (h u (here refl), same_map f g l (λ w k. h w (there k))) refl

  read : (x u : ℕ) → Mem u (vertices_of n x) → image (row_at n i s) u ≡ get_or s (32 * i + u) 0
  unfolding vertices_of row_at
  read x u h = image_at_holds n i s u (omega (arith, (set_range (vertices_set 0 n x) u h).1))

  pub places_within : (x : ℕ) → keeps_set (vertices_of n x) (row_at n i s) ≡ true
      → places s i x (vertices_of n x) ≡ row_within (vertices_of n x) (row_at n i s)
  unfolding places row_within
  places_within x e =
      same_map (λ (v : ℕ). length (vertices_of (get_or s (32 * i + v) 0) x))
      (λ (v : ℕ). place_of (eqb (image (row_at n i s) v)) (vertices_of n x)) (vertices_of n x)
      (λ u h. sym (place_is n (image (row_at n i s) u) x (stays x e u h)
      ∙ ap (λ (k : ℕ). length (vertices_of k x)) (read x u h)))
