-- What the rule of crowded lines [5.8] leaves of a call's orbits: at rank 3 the orbits under rule 2 are those under
-- rule 1 whose sets have two vertices at most, in their order and with their counts (`rule_two`); above rank 3 they
-- are the same (`rules_agree`). Nothing is asked of rows or points. Leans on the definition of the orbits and on the
-- laws of fresh items.
use Rattle.std.specs.Prelude.{◌≡◌, cond, not, ◌&&◌, ◌||◌, leb, eqb, length, Float}
use Rattle.std.proofs.Math.Path.{refl, ap}
use Rattle.std.proofs.Common.{sym, ◌∙◌, true≢false, arith, le-leb, ne_eqb}
use Rattle.std.proofs.Math.Bool.{Bool, true, false, and-false}
use mathlib.Core.List.{List, [], ◌∷◌, ◌++◌, map}
use Prim.Native.Nat.{ℕ, suc, ◌≤◌, compare}
use Rattle.std.proofs.Math.Dec.{compare_is_eq}
use Rattle.std.proofs.Math.ListN.{length-map}
use Rattle.std.specs.Float.Ieee.{lt}
use Rattle.definitions.specs.Lists.{any_of, keep, fresh, compare_nats, sort_nats}
use Rattle.definitions.specs.Vectors.{Vec}
use Rattle.definitions.specs.Subspace.{Subspace, from_points, is_hyperplane, distance, flatten}
use Rattle.definitions.specs.Orbits.{Row, Orbit, image, point_at, points_near, set_image, most_vertices, hyperplanes}
use Rattle.definitions.specs.Orbits.{hyperplane_orbits}
use Rattle.definitions.specs.Recursion.{Rules}
use Rattle.definitions.specs.Faceting.{orbits_of}
use Rattle.laws.specs.Bools.{true→holds}
use Rattle.laws.specs.Lists.{Mem, here, there, of_map, keep_all, keep_append}
use Rattle.laws.specs.Orders.{nats, nat_lists}
use Rattle.laws.specs.Ascending.{sorted_length, tested_equal, of_fresh}

-- a plane has no more of the points near it than there are
near_few : (tolerance : Float) (s : Subspace) (points : List Vec) (v : ℕ)
    → length (points_near tolerance s points v) ≤ length points
unfolding points_near
near_few tolerance s [] v = omega arith
near_few tolerance s (p ∷ points) v = go (lt (distance s p) tolerance) (near_few tolerance s points (suc v))
  where
    go : (b : Bool) → length (points_near tolerance s points (suc v)) ≤ length points
        → length (cond b (v ∷ points_near tolerance s points (suc v)) (points_near tolerance s points (suc v)))
        ≤ suc (length points)
    go true h = omega arith
    go false h = omega arith

-- an image has as many vertices as the set
image_length : (set : List ℕ) (row : Row) → length (set_image set row) ≡ length set
unfolding set_image sort_nats
image_length set row = sorted_length compare nats (map (image row) set) ∙ length-map set (image row)

keep_none : {A : Type 0} (p : A → Bool) (l : List A) → ((x : A) → Mem x l → p x ≡ false) → keep p l ≡ []
unfolding keep
keep_none p [] h = refl
keep_none p (x ∷ l) h = rw (h x (here refl)) (keep_none p l (λ y m. h y (there m)))

-- ---- sets of so many vertices at most

module _ (most : ℕ) where
  abbrev pub small : List ℕ → Bool
  small set = leb (length set) most

  abbrev pub small_set : Orbit → Bool
  small_set o = small o.vertices

  -- the small ones among the sets seen tell whether a small set was seen
  seen_small : (set : List ℕ) (seen : List (List ℕ)) → small set ≡ true
      → any_of (λ (q : List ℕ). compare_is_eq (compare_nats set q)) (keep small seen)
      ≡ any_of (λ (q : List ℕ). compare_is_eq (compare_nats set q)) seen
  unfolding any_of keep
  seen_small set [] e = refl
  seen_small set (q ∷ seen) e = go (small q) refl (seen_small set seen e)
    where
      equals : List ℕ → Bool
      equals p = compare_is_eq (compare_nats set p)

      other : (b : Bool) → compare_is_eq (compare_nats set q) ≡ b → small q ≡ false
          → any_of (λ (p : List ℕ). compare_is_eq (compare_nats set p)) seen
          ≡ (b || any_of (λ (p : List ℕ). compare_is_eq (compare_nats set p)) seen)
      other true same crowded =
          absurd
          (true≢false (sym e ∙ (ap small (tested_equal compare_nats nat_lists set q (true→holds same)) ∙ crowded)))
      other false same crowded = refl

      go : (b : Bool) → small q ≡ b → any_of (λ (p : List ℕ). compare_is_eq (compare_nats set p)) (keep small seen)
          ≡ any_of (λ (p : List ℕ). compare_is_eq (compare_nats set p)) seen
          → any_of (λ (p : List ℕ). compare_is_eq (compare_nats set p))
          (cond b (q ∷ keep small seen) (keep small seen))
          ≡ (compare_is_eq (compare_nats set q) || any_of (λ (p : List ℕ). compare_is_eq (compare_nats set p)) seen)
      go true f same = ap (λ (b : Bool). compare_is_eq (compare_nats set q) || b) same
      go false f same = same ∙ other (compare_is_eq (compare_nats set q)) refl f

  -- and which small images are new
  fresh_small : (images seen : List (List ℕ)) → ((q : List ℕ) → Mem q images → small q ≡ true)
      → fresh compare_nats (keep small seen) images ≡ fresh compare_nats seen images
  unfolding fresh keep
  fresh_small [] seen h = refl
  fresh_small (q ∷ images) seen h =
      let own = h q (here refl) in
      let later : fresh compare_nats (q ∷ keep small seen) images ≡ fresh compare_nats (q ∷ seen) images =
      ap (λ (b : Bool). fresh compare_nats (cond b (q ∷ keep small seen) (keep small seen)) images) (sym own)
      ∙ fresh_small images (q ∷ seen) (λ p m. h p (there m)) in
      rw (seen_small q seen own, fresh_small images seen (λ p m. h p (there m)), later) refl

  module _ (rows : List Row) where
    -- what `hyperplanes` makes of one tuple's set, given what it makes of the later tuples
    abbrev made : ℕ → Bool → List ℕ → List (List ℕ) → (List (List ℕ) → List Orbit) → List Orbit
    made many plane set seen later =
        let joined = fresh compare_nats seen (map (set_image set) rows) in
        let orbit : Orbit = record { vertices = set; count = length joined } in
        cond (plane && not (any_of (λ (q : List ℕ). compare_is_eq (compare_nats set q)) seen)
        && leb (length set) many) (orbit ∷ later (joined ++ seen)) (later seen)

    -- the images that join are as small as the set
    joined_as : (b : Bool) (set : List ℕ) (seen : List (List ℕ)) → small set ≡ b → (q : List ℕ)
        → Mem q (fresh compare_nats seen (map (set_image set) rows)) → small q ≡ b
    joined_as b set seen e q m =
        let r = of_map (set_image set) q rows (of_fresh compare_nats nat_lists seen (map (set_image set) rows) q m).0 in
        ap small r.2 ∙ (ap (λ (n : ℕ). leb n most) (image_length set r.0) ∙ e)

    images_as : (set : List ℕ) → small set ≡ true → (q : List ℕ) → Mem q (map (set_image set) rows) → small q ≡ true
    images_as set e q m =
        let r = of_map (set_image set) q rows m in
        ap small r.2 ∙ (ap (λ (n : ℕ). leb n most) (image_length set r.0) ∙ e)

    -- an orbit of a small set stands in both
    both : (b : Bool) (o : Orbit) (new old all_new all_old : List Orbit) → small_set o ≡ true
        → new ≡ keep small_set all_new → old ≡ keep small_set all_old
        → cond b (o ∷ new) old ≡ keep small_set (cond b (o ∷ all_new) all_old)
    unfolding keep
    both true o new old all_new all_old e f g = rw e (ap (λ (l : List Orbit). o ∷ l) f)
    both false o new old all_new all_old e f g = g

    -- one of a crowded set is dropped
    dropped : (b : Bool) (o : Orbit) (old all_new all_old : List Orbit) → small_set o ≡ false → old
        ≡ keep small_set all_new → old ≡ keep small_set all_old → old ≡ keep small_set (cond b (o ∷ all_new) all_old)
    unfolding keep
    dropped true o old all_new all_old e f g = rw e f
    dropped false o old all_new all_old e f g = g

    tuple_kept : (all : ℕ) (plane : Bool) (set : List ℕ) (seen : List (List ℕ)) (few-later all-later : List (List ℕ)
        → List Orbit) → length set ≤ all
        → ((known : List (List ℕ)) → few-later (keep small known) ≡ keep small_set (all-later known))
        → made most plane set (keep small seen) few-later ≡ keep small_set (made all plane set seen all-later)
    tuple_kept all plane set seen few-later all-later few later = go (small set) refl
      where
        test : Bool
        test = plane && not (any_of (λ (q : List ℕ). compare_is_eq (compare_nats set q)) seen)

        joined : List (List ℕ)
        joined = fresh compare_nats seen (map (set_image set) rows)

        go : (b : Bool) → small set ≡ b
            → made most plane set (keep small seen) few-later ≡ keep small_set (made all plane set seen all-later)
        go true e =
            let kept : keep small (joined ++ seen) ≡ joined ++ keep small seen =
            keep_append small joined seen ∙ ap (λ (l : List (List ℕ)). l
            ++ keep small seen) (keep_all small joined (λ q m. true→holds (joined_as true set seen e q m))) in
            rw (
              seen_small set seen e,
              fresh_small (map (set_image set) rows) seen (images_as set e),
              e,
              le-leb (length set) all few,
            )
            (both (test && true) (record { vertices = set; count = length joined }) (few-later (joined
            ++ keep small seen)) (few-later (keep small seen)) (all-later (joined
            ++ seen)) (all-later seen) e (ap few-later (sym kept) ∙ later (joined ++ seen)) (later seen))
        go false e =
            let kept : keep small (joined ++ seen) ≡ keep small seen =
            keep_append small joined seen ∙ ap (λ (l : List (List ℕ)). l
            ++ keep small seen) (keep_none small joined (λ q m. joined_as false set seen e q m)) in
            rw (
              e,
              and-false (plane
                  && not (any_of (λ (q : List ℕ). compare_is_eq (compare_nats set q)) (keep small seen))),
            )
            (dropped (test && leb (length set) all) (record {
              vertices = set;
              count = length joined;
            }) (few-later (keep small seen)) (all-later (joined
            ++ seen)) (all-later seen) e (ap few-later (sym kept) ∙ later (joined ++ seen)) (later seen))

    sets_kept : (tolerance : Float) (flat : List Vec) (all : ℕ) → length flat ≤ all → (tuples seen : List (List ℕ))
        → hyperplanes tolerance most flat rows (keep small seen) tuples
        ≡ keep small_set (hyperplanes tolerance all flat rows seen tuples)
    unfolding hyperplanes keep
    sets_kept tolerance flat all wide [] seen = refl
    sets_kept tolerance flat all wide (tuple ∷ ts) seen =
        let s = from_points tolerance (map (point_at flat) tuple) in
        let few = near_few tolerance s flat 0 in
        tuple_kept all (is_hyperplane s) (points_near tolerance s flat 0) seen (λ known.
        hyperplanes tolerance most flat rows known ts) (λ known. hyperplanes tolerance all flat rows known ts)
        (omega arith) (λ known. sets_kept tolerance flat all wide ts known)

-- ---- a call

-- the rules with another rule of crowded lines
unfoldable pub under_rule : ℕ → Rules → Rules
under_rule rule rules = record {
  tolerance = rules.tolerance;
  lengths = rules.lengths;
  entry_limit = rules.entry_limit;
  bounds = rules.bounds;
  rule = rule;
}

module _ (rules : Rules) (plane : Subspace) (points : List Vec) (rows : List Row) where
  -- At rank 3: what is lost under rule 2 are the orbits of sets with more than two vertices, and nothing else.
  pub rule_two : orbits_of 0 (under_rule 2 rules) plane points rows
      ≡ keep (small_set 2) (orbits_of 0 (under_rule 1 rules) plane points rows)
  unfolding orbits_of under_rule hyperplane_orbits most_vertices keep
  rule_two =
      let e = length-map points (flatten plane) in
      sets_kept 2 rows rules.tolerance (map (flatten plane) points) (length points) (omega arith) _ []

  -- Above rank 3 the rule is without effect.
  pub rules_agree : (more one other : ℕ) → orbits_of (suc more) (under_rule one rules) plane points rows
      ≡ orbits_of (suc more) (under_rule other rules) plane points rows
  unfolding orbits_of under_rule hyperplane_orbits most_vertices
  rules_agree more one other =
      rw (ne_eqb (suc more) 0 (λ e. omega arith), and-false (eqb one 2), and-false (eqb other 2)) refl
