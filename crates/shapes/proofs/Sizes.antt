-- Theorems on the definitions of specs/Sizes.
use Rattle.std.specs.Prelude.{◌≡◌, refl, Bool, true, false, cond, not, ◌&&◌, T, leb, length, Float}
use Rattle.std.proofs.Common.{sym, subst, arith, T_not}
use mathlib.Core.List.{List, [], ◌∷◌, ◌++◌, map, Memᴰ}
use Prim.Native.Nat.{ℕ, ◌≤◌}
use Rattle.std.proofs.Math.Dec.{compare_is_eq}
use Rattle.std.proofs.lemmas.List.{length-map}
use Rattle.definitions.specs.Lists.{compare_nats, count_from, any_of, fresh}
use Rattle.definitions.specs.Outcome.{answered}
use Rattle.definitions.specs.Vectors.{Vec}
use Rattle.definitions.specs.Subspace.{Subspace, from_points, is_hyperplane}
use Rattle.definitions.specs.Orbits.{Row, Limits, Orbit, point_at, points_near, set_image, hyperplanes}
use Rattle.definitions.specs.Orbits.{hyperplane_orbits}
use Rattle.definitions.specs.Search.{Facet, Found}
use Rattle.definitions.specs.Recursion.{Rules, Inner}
use Rattle.definitions.specs.Faceting.{Prepared, split, search_from}
use Rattle.laws.specs.Bools.{first, second, true→holds}
use Rattle.laws.specs.Lists.{Mem, here, in_map, any_of_holds}
use Rattle.laws.specs.Orders.{nat_lists}
use Rattle.laws.specs.Ascending.{equal_tested, in_fresh}
use Rattle.laws.specs.Ranges.{fresh_few}
use Rattle.shapes.specs.Answered.{facet_sum}
use Rattle.shapes.specs.Emitted.{found_facet, found_apart}
use Rattle.shapes.specs.Sets.{VertexSet, Rows, near_set}
use Rattle.shapes.specs.SplitCalls.{SplitAnswer}
use Rattle.shapes.proofs.SplitCalls.{split_in_call, split_distinct}
use Rattle.shapes.specs.Sizes.{Counted, facets_few, set_stays}

-- ---- lists of facets

module _ (rules : Rules) (p : Prepared) (found : Found) (is_found_holds : search_from rules p ≡ answered found) where
  -- and its split list no more facets than the call has
  pub split_length : ((i : Inner) → Mem i p.inner → SplitAnswer i.answer) → (l : List Facet) → Mem l found.lists
      → length (split p l) ≤ facet_sum p.inner
  split_length h l m =
      let inside = found_facet rules p found is_found_holds l m in
      facets_few p (split p l) (split_distinct p h l inside (found_apart rules p found is_found_holds l m))
      (split_in_call p h l inside)

-- ---- sets in an orbit

joined_counted : (n : ℕ) (rows : List Row) (seen : List (List ℕ)) (set : List ℕ) → VertexSet n set
    → Mem (count_from 0 n) rows → T (not (any_of (λ (q : List ℕ). compare_is_eq (compare_nats set q)) seen))
    → Counted rows (length (fresh compare_nats seen (map (set_image set) rows)))
joined_counted n rows seen set h identity new =
    let images = map (set_image set) rows in
    let own : Mem set images = subst (λ (s : List ℕ). Mem s images) (set_stays n set h)
    (in_map (set_image set) (count_from 0 n) rows identity) in
    let unseen : Mem set seen → ⊥ = λ i.
    T_not (any_of (λ (q : List ℕ). compare_is_eq (compare_nats set q)) seen) new (any_of_holds (λ (q : List ℕ).
    compare_is_eq (compare_nats set q)) set seen i (equal_tested compare_nats nat_lists set set refl)) in
    let e = length-map rows (set_image set) in
    let few = fresh_few compare_nats seen images in
    record {
      some_set =
          some_of (fresh compare_nats seen images) set (in_fresh compare_nats nat_lists seen images set own unseen);
      few = omega arith;
    }
  where
    some_of : (l : List (List ℕ)) (x : List ℕ) → Mem x l → 1 ≤ length l
    some_of [] x m = elim m [ ]
    some_of (y ∷ l) x m = omega arith

hyperplanes_counted : (tolerance : Float) (most : ℕ) (flat : List Vec) (rows : List Row)
    → Mem (count_from 0 (length flat)) rows → (seen tuples : List (List ℕ)) (o : Orbit)
    → Mem o (hyperplanes tolerance most flat rows seen tuples)
    → Counted rows o.count
unfolding hyperplanes
hyperplanes_counted tolerance most flat rows identity seen [] o m = elim m [ ]
hyperplanes_counted tolerance most flat rows identity seen (tuple ∷ ts) o m =
    let s = from_points tolerance (map (point_at flat) tuple) in
    let set = points_near tolerance s flat 0 in
    let joined = fresh compare_nats seen (map (set_image set) rows) in
    go s (is_hyperplane s && not (any_of (λ (q : List ℕ). compare_is_eq (compare_nats set q)) seen)
    && leb (length set) most) refl m (hyperplanes_counted tolerance most flat rows identity seen ts o)
    (hyperplanes_counted tolerance most flat rows identity (joined ++ seen) ts o)
  where
    set_of : Subspace → List ℕ
    set_of s = points_near tolerance s flat 0

    joined_of : Subspace → List (List ℕ)
    joined_of s = fresh compare_nats seen (map (set_image (set_of s)) rows)

    go : (s : Subspace) (b : Bool)
        → is_hyperplane s && not (any_of (λ (q : List ℕ). compare_is_eq (compare_nats (set_of s) q)) seen)
        && leb (length (set_of s)) most ≡ b
        → Mem o (cond b (record {
          vertices = set_of s;
          count = length (joined_of s);
        }
        ∷ hyperplanes tolerance most flat rows (joined_of s ++ seen) ts) (hyperplanes tolerance most flat rows seen ts))
        → (Mem o (hyperplanes tolerance most flat rows seen ts) → Counted rows o.count)
        → (Mem o (hyperplanes tolerance most flat rows (joined_of s ++ seen) ts) → Counted rows o.count)
        → Counted rows o.count
    go s true q (Memᴰ.head e) old new =
        subst (λ (x : Orbit). Counted rows x.count) (sym e)
        (joined_counted (length flat) rows seen (set_of s) (near_set tolerance s flat) identity
        (second (is_hyperplane s) (not (any_of (λ (r : List ℕ). compare_is_eq (compare_nats (set_of s) r)) seen))
        (first (is_hyperplane s && not (any_of (λ (r : List ℕ). compare_is_eq (compare_nats (set_of s) r)) seen))
        (leb (length (set_of s)) most) (true→holds q))))
    go s true q (Memᴰ.tail k) old new = new k
    go s false q k old new = old k

pub orbit_counted : (tolerance : Float) (limits : Limits) (rule more : ℕ) (points flat : List Vec) (rows : List Row)
    → Rows (length flat) rows → (o : Orbit) → Mem o (hyperplane_orbits tolerance limits rule more points flat rows)
    → Counted rows o.count
unfolding hyperplane_orbits
orbit_counted tolerance limits rule more points flat rows good o m =
    hyperplanes_counted tolerance _ flat rows
    (subst (λ (l : List Row). Mem (count_from 0 (length flat)) l) (sym good.identity) (here refl)) [] _ o m
