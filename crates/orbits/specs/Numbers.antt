-- Hyperplane orbits with sets as numbers and what was seen as an ascending list: what the code keeps. Leans on the
-- sorted sets and on the sets of the laws.
use Rattle.std.specs.Prelude.{◌≡◌, Bool, not, ◌&&◌, ℕ, ◌-◌, leb, Float}
use Rattle.std.proofs.Math.Path.{refl}
use Rattle.std.proofs.Common.{ap, ◌∙◌}
use Rattle.std.proofs.Math.Bool.{true, false, cond}
use mathlib.Core.List.{List, [], ◌∷◌, ◌++◌, map}
use Rattle.std.proofs.Math.ListN.{length}
use Rattle.definitions.specs.Lists.{Pair, member_nat}
use Rattle.definitions.specs.Vectors.{Vec}
use Rattle.definitions.specs.Subspace.{from_points, is_hyperplane}
use Rattle.definitions.specs.Orbits.{Row, Orbit, points_near, set_image}
use Rattle.laws.specs.Sets.{set_number, vertices_of}
use Rattle.rows.specs.Rows.{row_at}
use Rattle.sets.specs.Vertices.{Below, vertex_below}
use Rattle.sorted.specs.Gathering.{added}

-- the numbers of a set's images under the rows
unfoldable pub image_numbers : ℕ → ℕ → List Row → List ℕ
image_numbers n set rows = map (λ (row : Row). set_number (set_image (vertices_of n set) row)) rows

-- a row's image of a set, said of the set's vertices as they were listed
pub image_is : (n set i : ℕ) (s vertices : List ℕ) (x : ℕ) → vertices ≡ vertices_of n set
    → ((k : ℕ) → Below k vertices → x ≡ set_number (set_image vertices (row_at k i s)))
    → x ≡ set_number (set_image (vertices_of n set) (row_at n i s))
image_is n set i s vertices x e h =
    h n (rw e (vertex_below n set)) ∙ ap (λ (l : List ℕ). set_number (set_image l (row_at n i s))) e

-- an orbit as it is stored: the number of its first set, and how many sets it has
unfoldable pub orbit_of : ℕ → Pair → Orbit
orbit_of n p = record { vertices = vertices_of n p.0; count = p.1 }

-- a set, as its number, opens an orbit where it was not seen and has not more than `most` of n vertices
unfoldable pub may_open : ℕ → ℕ → List ℕ → ℕ → Bool
may_open n most seen set = not (member_nat set seen) && leb (length (vertices_of n set)) most

module _ (tolerance : Float) (most : ℕ) (flat : List Vec) (rows : List Row) where
  -- the number of the set of points near the plane that some points fit
  unfoldable pub near_number : List Vec → ℕ
  near_number points = set_number (points_near tolerance (from_points tolerance points) flat 0)

  -- the points fit a hyperplane whose set may open an orbit
  unfoldable pub opens_orbit : List ℕ → List Vec → Bool
  opens_orbit seen points =
      is_hyperplane (from_points tolerance points) && may_open (length flat) most seen (near_number points)

  -- what was seen, with the images of the set of some points
  unfoldable pub with_images : List ℕ → List Vec → List ℕ
  with_images seen points = added seen (image_numbers (length flat) (near_number points) rows)

  -- the orbits that tuples of points open, in order
  unfoldable pub orbits_from : List ℕ → List (List Vec) → List Pair
  orbits_from seen [] = []
  orbits_from seen (points ∷ ts) =
      let old = orbits_from seen ts in
      let orbit : Pair = (near_number points, length (with_images seen points) - length seen) in
      let new = orbit ∷ orbits_from (with_images seen points) ts in
      cond (opens_orbit seen points) new old

  -- what was seen behind them
  unfoldable pub seen_after : List ℕ → List (List Vec) → List ℕ
  seen_after seen [] = seen
  seen_after seen (points ∷ ts) =
      let old = seen_after seen ts in
      let new = seen_after (with_images seen points) ts in
      cond (opens_orbit seen points) new old

  pub orbits_append : (seen : List ℕ) (ts us : List (List Vec))
      → orbits_from seen (ts ++ us) ≡ orbits_from seen ts ++ orbits_from (seen_after seen ts) us
  unfolding orbits_from seen_after
  orbits_append seen [] us = refl
  orbits_append seen (t ∷ ts) us =
      go (opens_orbit seen t) (orbits_append seen ts us) (orbits_append (with_images seen t) ts us)
    where
      first : Pair
      first = (near_number t, length (with_images seen t) - length seen)

      go : (b : Bool)
          → orbits_from seen (ts ++ us) ≡ orbits_from seen ts ++ orbits_from (seen_after seen ts) us
          → orbits_from (with_images seen t) (ts ++ us)
          ≡ orbits_from (with_images seen t) ts ++ orbits_from (seen_after (with_images seen t) ts) us
          → cond b (first ∷ orbits_from (with_images seen t) (ts ++ us)) (orbits_from seen (ts ++ us))
          ≡ cond b (first ∷ orbits_from (with_images seen t) ts) (orbits_from seen ts)
          ++ orbits_from (cond b (seen_after (with_images seen t) ts) (seen_after seen ts)) us
      go true e f = ap (λ (l : List Pair). first ∷ l) f
      go false e f = e

  pub seen_append : (seen : List ℕ) (ts us : List (List Vec))
      → seen_after seen (ts ++ us) ≡ seen_after (seen_after seen ts) us
  unfolding seen_after
  seen_append seen [] us = refl
  seen_append seen (t ∷ ts) us =
      go (opens_orbit seen t) (seen_append seen ts us) (seen_append (with_images seen t) ts us)
    where
      go : (b : Bool)
          → seen_after seen (ts ++ us) ≡ seen_after (seen_after seen ts) us
          → seen_after (with_images seen t) (ts ++ us) ≡ seen_after (seen_after (with_images seen t) ts) us
          → cond b (seen_after (with_images seen t) (ts ++ us)) (seen_after seen (ts ++ us))
          ≡ seen_after (cond b (seen_after (with_images seen t) ts) (seen_after seen ts)) us
      go true e f = f
      go false e f = e

  -- one tuple
  pub one_closed : (seen : List ℕ) (points : List Vec) → opens_orbit seen points ≡ false
      → (orbits_from seen (points ∷ []) ≡ []) × (seen_after seen (points ∷ []) ≡ seen)
  unfolding orbits_from seen_after
  one_closed seen points e = (rw e refl, rw e refl)

  pub one_opened : (seen : List ℕ) (points : List Vec) → opens_orbit seen points ≡ true
      → (orbits_from seen (points ∷ []) ≡ (near_number points, length (with_images seen points) - length seen) ∷ [])
      × (seen_after seen (points ∷ []) ≡ with_images seen points)
  unfolding orbits_from seen_after
  one_opened seen points e = (rw e refl, rw e refl)
