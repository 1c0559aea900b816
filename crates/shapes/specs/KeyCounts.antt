-- No more ridge orbits than keys: where rows send the keys of a list to keys of it and one of them leaves each as it
-- is, each ridge orbit that is opened holds a key of its own. For any keys, and for the ridges of a call of any rank
-- from 3. Leans on KeptOrbits, RidgeKeys and KeyMarks.
use Rattle.std.specs.Prelude.{◌≡◌, ◌⊎◌, get_or}
use Rattle.std.proofs.Math.Path.{refl, ap, subst}
use Rattle.std.proofs.Common.{sym, ◌∙◌, inl, inr}
use Rattle.std.specs.Prelude.{Option, Some, None}
use mathlib.Core.List.{List, [], ◌∷◌, ◌++◌, map, map-map, map-append}
use Prim.Native.Nat.{ℕ, zero, suc, ◌≤◌, Ordering}
use native.Mathlib.Omega.{arith}
use Rattle.std.proofs.Math.ListN.{length, length-map, length-append}
use Rattle.definitions.specs.Lists.{count_from, fresh, map_with}
use Rattle.definitions.specs.Orbits.{Row, image}
use Rattle.laws.specs.Lists.{Mem, here, in_append, in_map, of_map, count_at}
use Rattle.laws.specs.Orders.{Linear}
use Rattle.laws.specs.Ascending.{Distinct, of_fresh, in_fresh}
use Rattle.laws.specs.Places.{map_self}
use Rattle.laws.specs.Ranges.{distinct_within}
use Rattle.shapes.specs.Sets.{Rows}
use Rattle.shapes.specs.Ridges.{KnownKeys, no_keys, map_with_good, key_held_by, open_key_orbit, number_or_open_key}
use Rattle.shapes.specs.KeyMarks.{held_marked, held_once}
use Rattle.shapes.specs.Nested.{moved_nowhere}
use Rattle.shapes.specs.NestedCalls.{Ridge, RidgeOn}
use Rattle.shapes.specs.RidgeKeys.{compare_ridge, ridge_order, send_ridge}
use Rattle.shapes.specs.KeptOrbits.{KeptOrbit, number_ridge_key, orbit_numbers}

-- ---- no more ridge orbits than keys

module _ {K : Type 0} (c : K → K → Ordering) (order : Linear c) (send : (ℕ → ℕ) → K → K) (rows : List Row)
    (all : List K) where
  abbrev keys_in : KnownKeys K → List K
  keys_in known = map (λ (h : K × ℕ). h.0) known.held

  -- no key is held twice, only such keys are, and each ridge orbit holds one at least
  pub record KeysGood (known : KnownKeys K) : Type 0 where
    pub once : Distinct (keys_in known)
    pub inside : (x : K) → Mem x (keys_in known) → Mem x all
    pub many : length known.counts ≤ length known.held

  pub keys_few : (known : KnownKeys K) → KeysGood known → length known.counts ≤ length all
  keys_few known good =
      let a = good.many in
      let b = length-map known.held (λ (h : K × ℕ). h.0) in
      let d = distinct_within (keys_in known) all good.once good.inside in
      omega arith

  pub no_keys_good : KeysGood (no_keys K)
  unfolding no_keys
  no_keys_good = record { once = tt; inside = λ x m. elim m [ ]; many = omega arith }

  -- rows send such keys to such keys, and one of them leaves each as it is
  module _ (closed : (row : Row) → Mem row rows → (k : K) → Mem k all → Mem (send (image row) k) all) (identity : Row)
      (is_row : Mem identity rows)
      (stays : (k : K) → Mem k all → send (image identity) k ≡ k) where
    open_good : (known : KnownKeys K) (k : K) → KeysGood known → Mem k all → key_held_by c send k known.held ≡ None
        → KeysGood (open_key_orbit c send rows known k)
    unfolding open_key_orbit
    open_good known k good is_key new =
        let seen = keys_in known in
        let images = map (λ (row : Row). send (image row) k) rows in
        let joining = fresh c seen images in
        let number = length known.counts in
        let hold : K → K × ℕ = λ x. (x, number) in
        let front : map (λ (h : K × ℕ). h.0) (map hold joining) ≡ joining = map-map (λ (h : K × ℕ). h.0) hold joining
        ∙ map_self (λ (x : K). x) joining (λ x m. refl) in
        let whole : map (λ (h : K × ℕ). h.0) (map hold joining ++ known.held) ≡ joining ++ seen =
        map-append (λ (h : K × ℕ). h.0) (map hold joining) known.held ∙ ap (λ (l : List K). l ++ seen) front in
        let own : Mem k images = subst (λ (x : K). Mem x images) (stays k is_key)
        (in_map (λ (row : Row). send (image row) k) identity rows is_row) in
        let joins : Mem k joining = in_fresh c order seen images k own (held_marked c order send k known.held new) in
        let one = some_of joining k joins in
        let a = length-append (map hold joining) known.held in
        let b = length-map joining hold in
        let d = length-append known.counts (length joining ∷ []) in
        let e = good.many in
        record {
          once = held_once c order send rows known k good.once;
          inside =
              λ x m. either x joining (λ y j. image_inside y
              (of_map (λ (row : Row). send (image row) k) y rows (of_fresh c order seen images y j).0))
              (in_append x joining seen (subst (λ (l : List K). Mem x l) whole m));
          many = omega arith;
        }
      where
        some_of : (l : List K) (x : K) → Mem x l → 1 ≤ length l
        some_of [] x m = elim m [ ]
        some_of (y ∷ l) x m = omega arith

        image_inside : (y : K) → (row : Row) × Mem row rows × (y ≡ send (image row) k) → Mem y all
        image_inside y r = subst (λ (x : K). Mem x all) (sym r.2) (closed r.0 r.1 k is_key)

        either : (x : K) (joining : List K) → ((y : K) → Mem y joining → Mem y all)
            → Mem x joining ⊎ Mem x (keys_in known) → Mem x all
        either x joining h (inl m) = h x m
        either x joining h (inr m) = good.inside x m

    pub number_good : (known : KnownKeys K) (k : K) → KeysGood known → Mem k all
        → KeysGood (number_or_open_key c send rows known k (key_held_by c send k known.held)).1
    unfolding number_or_open_key
    number_good known k good is_key = go (key_held_by c send k known.held) refl
      where
        go : (o : Option ℕ) → key_held_by c send k known.held ≡ o
            → KeysGood (number_or_open_key c send rows known k o).1
        go (Some number) e = good
        go None e = open_good known k good is_key e

-- ---- the ridges of a call

-- the identity leaves a ridge as it is
ridge_stays : (more n : ℕ) (r : Ridge more) → RidgeOn n more r → send_ridge more (image (count_from 0 n)) r ≡ r
unfolding send_ridge image
ridge_stays zero n v h = count_at 0 n v 0 h ∙ omega arith
ridge_stays (suc more) n x h =
    let element =
    moved_nowhere n (λ (v : ℕ). get_or (count_from 0 n) v 0) (λ v b. count_at 0 n v 0 b ∙ omega arith) more x.1 h in
    λ t. (x.0, element t)

-- rows on n points, and a list of ridges on n points that they send to themselves and that has all that are kept
pub ridge_orbits_few : {F : Type 0} (more n : ℕ) (rows : List Row) → Rows n rows → (all : List (Ridge more))
    → ((r : Ridge more) → Mem r all → RidgeOn n more r)
    → ((row : Row) → Mem row rows → (r : Ridge more) → Mem r all → Mem (send_ridge more (image row) r) all)
    → (kept : List (KeptOrbit (Ridge more) F))
    → ((k : KeptOrbit (Ridge more) F) → Mem k kept → (r : Ridge more) → Mem r k.ridges → Mem r all)
    → length (orbit_numbers (compare_ridge more) (send_ridge more) rows kept).1.counts ≤ length all
unfolding orbit_numbers number_ridge_key
ridge_orbits_few {F} more n rows good all on closed kept inside =
    let c = compare_ridge more in
    let order = ridge_order more in
    let send = send_ridge more in
    let Good = KeysGood c order send rows all in
    let identity = count_from 0 n in
    let is_row : Mem identity rows = subst (λ (l : List Row). Mem identity l) (sym good.identity) (here refl) in
    let one : (known : KnownKeys (Ridge more)) (r : Ridge more) → Good known → Mem r all
    → Good (number_ridge_key c send rows known r).1 =
    number_good c order send rows all closed identity is_row (λ r m. ridge_stays more n r (on r m)) in
    keys_few c order send rows all (orbit_numbers c send rows kept).1
    (map_with_good (map_with (number_ridge_key c send rows)) Good
    (λ (rs : List (Ridge more)). (r : Ridge more) → Mem r rs → Mem r all)
    (λ s rs h k. map_with_good (number_ridge_key c send rows) Good (λ (r : Ridge more). Mem r all) one s rs h k)
    (no_keys (Ridge more)) (map (λ (k : KeptOrbit (Ridge more) F). k.ridges) kept)
    (no_keys_good c order send rows all)
    (λ rs m r j. let q = of_map (λ (k : KeptOrbit (Ridge more) F). k.ridges) rs kept m in
    inside q.0 q.1 r (subst (λ (l : List (Ridge more)). Mem r l) q.2 j)))
