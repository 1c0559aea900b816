-- The facets of a call by their numbers: what is kept of each, its orbit, and its number in the orbit, from the table
-- of the facets' orbits. Leans on Keeps.
use Rattle.std.specs.Prelude.{◌≡◌, refl, not, ℕ, zero, suc, ◌+◌, ◌-◌, ◌≤◌, ◌<◌, eqb, drop, replicate}
use Rattle.std.proofs.Common.{sym, ◌∙◌, subst, ⊎_elim, eq-eqb, ne_eqb}
use Rattle.std.proofs.Math.Path.{ap}
use mathlib.Core.List.{List, [], ◌∷◌, ◌++◌, map, flat_map, map-append}
use native.Mathlib.Omega.{arith}
use Rattle.std.proofs.Math.ListN.{length, get_or, length-append, length-replicate, get_or-replicate, get_or-append}
use Rattle.std.proofs.lemmas.List.{length-map}
use Rattle.std.proofs.Math.Seq.{get_or-append-add}
use Rattle.definitions.specs.Lists.{Pair, map_at, count_from, place_of}
use Rattle.definitions.specs.Search.{Facet}
use Rattle.laws.specs.Lists.{map_at_holds, count_at, count_length, Mem, here, there}
use Rattle.laws.specs.Segments.{le_or_lt}
use Rattle.shapes.specs.Kept.{Kept, kept_at}
use Rattle.layout.specs.Keeps.{joined, facets_in, facets_of, owners_of, edges_of}
use Rattle.layout.specs.Leaves.{facet_at}

-- the number of an orbit's first facet
unfoldable pub first_one_of : List ℕ → ℕ → ℕ
first_one_of owners orbit = place_of (eqb orbit) owners

-- a facet in an answer's list: its orbit, and its number in the orbit
unfoldable pub item_of : List ℕ → ℕ → Pair
item_of owners x = (get_or owners x 0, x - first_one_of owners (get_or owners x 0))

unfoldable pub item_words : List ℕ → ℕ → List ℕ
item_words owners x = let item = item_of owners x in item.0 ∷ item.1 ∷ []

unfoldable pub list_words : List ℕ → List ℕ → List ℕ
list_words owners numbers = length numbers ∷ flat_map (item_words owners) numbers

-- every orbit is below a bound
pub record OwnersBelow (bound : ℕ) (owners : List ℕ) : Type 0 where
  pub below : (x : ℕ) → x < length owners → get_or owners x 0 < bound

-- a table of the orbits' first facets, from a facet on, and the whole
pub record FirstsFrom (owners firsts : List ℕ) (x : ℕ) : Type 0 where
  pub at : (y : ℕ) → x ≤ y → y < length owners
      → get_or firsts (get_or owners y 0) 0 ≡ x + first_one_of (drop x owners) (get_or owners y 0)

pub record Firsts (owners firsts : List ℕ) : Type 0 where
  pub at : (y : ℕ) → y < length owners → get_or firsts (get_or owners y 0) 0 ≡ first_one_of owners (get_or owners y 0)

-- how many facets at the front are of an orbit
unfoldable pub leading : ℕ → List ℕ → ℕ
leading orbit owners = place_of (λ (o : ℕ). not (eqb o orbit)) owners

-- ---- facets and orbits, from an orbit on

abbrev pub of_orbit : ℕ → Kept → List Facet
of_orbit o k = map (λ (f : ℕ). (o, f)) (count_from 0 (facets_in k))

unfoldable pub facets_from : ℕ → List Kept → List Facet
facets_from o [] = []
facets_from o (k ∷ kept) = of_orbit o k ++ facets_from (suc o) kept

unfoldable pub owners_from : ℕ → List Kept → List ℕ
owners_from o [] = []
owners_from o (k ∷ kept) = replicate (facets_in k) o ++ owners_from (suc o) kept

facets_from_holds : (o : ℕ) (kept : List Kept) → joined (map_at of_orbit o kept) ≡ facets_from o kept
unfolding map_at flat_map facets_from
facets_from_holds o [] = refl
facets_from_holds o (k ∷ kept) = ap (λ (l : List Facet). of_orbit o k ++ l) (facets_from_holds (suc o) kept)

orbit_again : (o a m : ℕ) → map (λ (f : Facet). f.0) (map (λ (f : ℕ). (o, f)) (count_from a m)) ≡ replicate m o
unfolding count_from
orbit_again o a zero = refl
orbit_again o a (suc m) = ap (λ (l : List ℕ). o ∷ l) (orbit_again o (suc a) m)

owners_from_holds : (o : ℕ) (kept : List Kept) → map (λ (f : Facet). f.0) (facets_from o kept) ≡ owners_from o kept
unfolding facets_from owners_from
owners_from_holds o [] = refl
owners_from_holds o (k ∷ kept) =
    map-append (λ (f : Facet). f.0) (of_orbit o k) (facets_from (suc o) kept)
    ∙ (rw (orbit_again o 0 (facets_in k), owners_from_holds (suc o) kept) refl)

-- all of them
pub owners_all : (kept : List Kept) → owners_of kept ≡ owners_from 0 kept
unfolding owners_of facets_of
owners_all kept = ap (map (λ (f : Facet). f.0)) (facets_from_holds 0 kept) ∙ owners_from_holds 0 kept

orbit_length : (o : ℕ) (k : Kept) → length (of_orbit o k) ≡ facets_in k
orbit_length o k =
    length-map {B = Facet} (count_from 0 (facets_in k)) (λ (f : ℕ). (o, f)) ∙ count_length 0 (facets_in k)

-- ---- a facet of the first orbit, and one of a later orbit

module _ (o : ℕ) (k : Kept) (kept : List Kept) where
  facet_front : (x : ℕ) → x < facets_in k → get_or (facets_from o (k ∷ kept)) x (0, 0) ≡ (o, x)
  unfolding facets_from
  facet_front x h =
      let n = orbit_length o k in
      let c = count_length 0 (facets_in k) in
      let e : 0 + x ≡ x = omega arith in
      get_or-append (of_orbit o k) (facets_from (suc o) kept) (0, 0) x (omega arith)
      ∙ (map_at_holds (λ (f : ℕ). (o, f)) (count_from 0 (facets_in k)) x (0, 0) 0 (omega arith)
      ∙ ap (λ (f : ℕ). (o, f)) (count_at 0 (facets_in k) x 0 h ∙ e))

  facet_behind : (y : ℕ)
      → get_or (facets_from o (k ∷ kept)) (facets_in k + y) (0, 0) ≡ get_or (facets_from (suc o) kept) y (0, 0)
  unfolding facets_from
  facet_behind y =
      ap (λ (m : ℕ). get_or (of_orbit o k ++ facets_from (suc o) kept) (m + y) (0, 0)) (sym (orbit_length o k))
      ∙ get_or-append-add (of_orbit o k) (facets_from (suc o) kept) y (0, 0)

  owner_front : (x : ℕ) → x < facets_in k → get_or (owners_from o (k ∷ kept)) x 0 ≡ o
  unfolding owners_from
  owner_front x h =
      let n = length-replicate (facets_in k) o in
      get_or-append (replicate (facets_in k) o) (owners_from (suc o) kept) 0 x (omega arith)
      ∙ get_or-replicate (facets_in k) x o 0 h

  owner_behind : (y : ℕ) → get_or (owners_from o (k ∷ kept)) (facets_in k + y) 0 ≡ get_or (owners_from (suc o) kept) y 0
  unfolding owners_from
  owner_behind y =
      ap (λ (m : ℕ). get_or (replicate (facets_in k) o ++ owners_from (suc o) kept) (m + y) 0)
      (sym (length-replicate (facets_in k) o))
      ∙ get_or-append-add (replicate (facets_in k) o) (owners_from (suc o) kept) y 0

  from_length : length (facets_from o (k ∷ kept)) ≡ facets_in k + length (facets_from (suc o) kept)
  unfolding facets_from
  from_length =
      length-append (of_orbit o k) (facets_from (suc o) kept)
      ∙ ap (λ (m : ℕ). m + length (facets_from (suc o) kept)) (orbit_length o k)

first_front : (m o : ℕ) (rest : List ℕ) → 0 < m → place_of (eqb o) (replicate m o ++ rest) ≡ 0
unfolding place_of
first_front zero o rest h = absurd (omega arith)
first_front (suc m) o rest h = rw (eq-eqb o o refl) refl

first_behind : (m o p : ℕ) (rest : List ℕ) → o < p
    → place_of (eqb p) (replicate m o ++ rest) ≡ m + place_of (eqb p) rest
unfolding place_of
first_behind zero o p rest h = omega arith
first_behind (suc m) o p rest h =
    rw (ne_eqb p o (λ e. let z : p ≡ o = e in omega arith), first_behind m o p rest h) (omega arith)

-- ---- a facet's orbit and its number in the orbit, by the table of orbits alone

pub record Item (o : ℕ) (kept : List Kept) (x : ℕ) : Type 0 where
  pub from : o ≤ get_or (owners_from o kept) x 0
  pub is : get_or (facets_from o kept) x (0, 0) ≡ item_of (owners_from o kept) x

items_from : (o : ℕ) (kept : List Kept) (x : ℕ) → x < length (facets_from o kept) → Item o kept x
unfolding facets_from owners_from item_of first_one_of
items_from o [] x h = absurd (omega arith)
items_from o (k ∷ kept) x h =
    ⊎_elim (λ l. behind l (items_from (suc o) kept (x - facets_in k) (omega (arith, from_length o k kept)))) front
    (le_or_lt (facets_in k) x)
  where
    front : x < facets_in k → Item o (k ∷ kept) x
    front l =
        let e = owner_front o k kept x l in
        let z : x - 0 ≡ x = omega arith in
        let p : place_of (eqb o) (owners_from o (k ∷ kept))
        ≡ 0 = first_front (facets_in k) o (owners_from (suc o) kept) (omega arith) in
        record { from = omega arith; is = facet_front o k kept x l ∙ (rw (e, p, z) refl) }

    behind : facets_in k ≤ x → Item (suc o) kept (x - facets_in k) → Item o (k ∷ kept) x
    behind l ih =
        let y = x - facets_in k in
        let back : facets_in k + y ≡ x = omega arith in
        let owners = owners_from (suc o) kept in
        let own = get_or owners y 0 in
        let e : get_or (owners_from o (k ∷ kept)) x 0
        ≡ own = ap (λ (j : ℕ). get_or (owners_from o (k ∷ kept)) j 0) (sym back) ∙ owner_behind o k kept y in
        let f : get_or (facets_from o (k ∷ kept)) x (0, 0) ≡ get_or (facets_from (suc o) kept) y (0, 0) =
        ap (λ (j : ℕ). get_or (facets_from o (k ∷ kept)) j (0, 0)) (sym back) ∙ facet_behind o k kept y in
        let p : place_of (eqb own) (owners_from o (k ∷ kept)) ≡ facets_in k + place_of (eqb own) owners =
        first_behind (facets_in k) o own owners (omega (arith, ih.from)) in
        let z : y - place_of (eqb own) owners ≡ x - (facets_in k + place_of (eqb own) owners) = omega arith in
        record {
          from = omega (arith, ih.from);
          is = f ∙ (ih.is ∙ (rw (e, p) (ap (λ (j : ℕ). (own, j)) z)));
        }

pub item_is : (kept : List Kept) (x : ℕ) → x < length (facets_of kept)
    → facet_at kept x ≡ item_of (owners_from 0 kept) x
unfolding facet_at facets_of
item_is kept x h =
    let e = facets_from_holds 0 kept in
    ap (λ (l : List Facet). get_or l x (0, 0)) e ∙ (items_from 0 kept x (omega (arith, ap length e))).is

-- every orbit is one of the call's
owner_below : (o : ℕ) (kept : List Kept) (x : ℕ) → x < length (owners_from o kept)
    → get_or (owners_from o kept) x 0 < o + length kept
unfolding owners_from
owner_below o [] x h = absurd (omega arith)
owner_below o (k ∷ kept) x h =
    ⊎_elim
    (λ (l : facets_in k ≤ x).
    let y = x - facets_in k in
    let back : facets_in k + y ≡ x = omega arith in
    let e = ap (λ (j : ℕ). get_or (owners_from o (k ∷ kept)) j 0) (sym back) ∙ owner_behind o k kept y in
    let n = length-append (replicate (facets_in k) o) (owners_from (suc o) kept) in
    omega (arith, e, owner_below (suc o) kept y (omega (arith, n, length-replicate (facets_in k) o))))
    (λ (l : x < facets_in k). omega (arith, owner_front o k kept x l))
    (le_or_lt (facets_in k) x)

pub owners_below : (kept : List Kept) (bound : ℕ) → length kept ≤ bound → OwnersBelow bound (owners_from 0 kept)
owners_below kept bound h = record { below = λ x l. omega (arith, owner_below 0 kept x l) }

-- ---- what is kept of a facet

-- every facet has its edges
pub record Each (kept : List Kept) : Type 0 where
  pub each : (k : Kept) → Mem k kept → length k.edges ≡ facets_in k

each_later : {k : Kept} {kept : List Kept} → Each (k ∷ kept) → Each kept
each_later h = record { each = λ j i. h.each j (there i) }

record Found (o : ℕ) (kept : List Kept) (x : ℕ) (f : Facet) : Type 0 where
  from : o ≤ f.0
  is : get_or (get_or (map (λ (k : Kept). k.edges) kept) (f.0 - o) []) f.1 [] ≡ get_or (edges_of kept) x []

found_from_holds : (o : ℕ) (kept : List Kept) (x : ℕ) → Each kept → x < length (facets_from o kept)
    → Found o kept x (get_or (facets_from o kept) x (0, 0))
unfolding facets_from edges_of flat_map
found_from_holds o [] x each h = absurd (omega arith)
found_from_holds o (k ∷ kept) x each h =
    ⊎_elim (λ l. behind l (found_from_holds (suc o) kept (x - facets_in k) (each_later each) (omega (
      arith,
      from_length o k kept,
    )))) front (le_or_lt (facets_in k) x)
  where
    many : length k.edges ≡ facets_in k
    many = each.each k (here refl)

    front : x < facets_in k → Found o (k ∷ kept) x (get_or (facets_from o (k ∷ kept)) x (0, 0))
    front l =
        let z : o - o ≡ 0 = omega arith in
        subst (Found o (k ∷ kept) x) (sym (facet_front o k kept x l))
        (record {
          from = omega arith;
          is =
              ap (λ (j : ℕ). get_or (get_or (k.edges ∷ map (λ (i : Kept). i.edges) kept) j []) x []) z
              ∙ sym (get_or-append k.edges (edges_of kept) [] x (omega (arith, many)));
        })

    behind : facets_in k ≤ x
        → Found (suc o) kept (x - facets_in k) (get_or (facets_from (suc o) kept) (x - facets_in k) (0, 0))
        → Found o (k ∷ kept) x (get_or (facets_from o (k ∷ kept)) x (0, 0))
    behind l ih =
        let y = x - facets_in k in
        let f = get_or (facets_from (suc o) kept) y (0, 0) in
        let back : facets_in k + y ≡ x = omega arith in
        let there_is : length k.edges + y ≡ x = omega (arith, many) in
        let e : get_or (facets_from o (k ∷ kept)) x (0, 0)
        ≡ f = ap (λ (j : ℕ). get_or (facets_from o (k ∷ kept)) j (0, 0)) (sym back) ∙ facet_behind o k kept y in
        let up : f.0 - o ≡ suc (f.0 - suc o) = omega (arith, ih.from) in
        subst (Found o (k ∷ kept) x) (sym e)
        (record {
          from = omega (arith, ih.from);
          is =
              ap (λ (j : ℕ). get_or (get_or (k.edges ∷ map (λ (i : Kept). i.edges) kept) j []) f.1 []) up
              ∙ (ih.is
              ∙ (sym (get_or-append-add k.edges (edges_of kept) y [])
              ∙ ap (λ (j : ℕ). get_or (k.edges ++ edges_of kept) j []) there_is));
        })

pub edges_at : (kept : List Kept) (x : ℕ) → Each kept → x < length (facets_of kept)
    → kept_at (λ (k : Kept). k.edges) kept (facet_at kept x) ≡ get_or (edges_of kept) x []
unfolding facet_at facets_of kept_at
edges_at kept x each h =
    let e = facets_from_holds 0 kept in
    let f = get_or (facets_from 0 kept) x (0, 0) in
    let z : f.0 ≡ f.0 - 0 = omega arith in
    ap (λ (l : List Facet). kept_at (λ (k : Kept). k.edges) kept (get_or l x (0, 0))) e
    ∙ (ap (λ (j : ℕ). get_or (get_or (map (λ (k : Kept). k.edges) kept) j []) f.1 []) z
    ∙ (found_from_holds 0 kept x each (omega (arith, ap length e))).is)

-- there are as many edge lists as facets
edges_many : (o : ℕ) (kept : List Kept) → Each kept → length (edges_of kept) ≡ length (facets_from o kept)
unfolding edges_of flat_map facets_from
edges_many o [] each = refl
edges_many o (k ∷ kept) each =
    length-append k.edges (edges_of kept)
    ∙ (omega (arith, from_length o k kept, each.each k (here refl), edges_many (suc o) kept (each_later each)))

pub many_edges : (kept : List Kept) → Each kept → length (edges_of kept) ≡ length (facets_of kept)
unfolding facets_of
many_edges kept each = edges_many 0 kept each ∙ ap length (sym (facets_from_holds 0 kept))

-- ---- the facets of the first orbit lead

leading_front : (m o : ℕ) (rest : List ℕ) → leading o (replicate m o ++ rest) ≡ m + leading o rest
unfolding leading place_of
leading_front zero o rest = omega arith
leading_front (suc m) o rest = rw (eq-eqb o o refl, leading_front m o rest) (omega arith)

leading_later : (o p : ℕ) (kept : List Kept) → o < p → leading o (owners_from p kept) ≡ 0
unfolding leading place_of owners_from
leading_later o p [] h = refl
leading_later o p (k ∷ kept) h = go (facets_in k) (leading_later o (suc p) kept (omega arith))
  where
    go : (m : ℕ) → leading o (owners_from (suc p) kept) ≡ 0 → leading o (replicate m p ++ owners_from (suc p) kept) ≡ 0
    go zero e = e
    go (suc m) e = rw (ne_eqb p o (λ q. let z : p ≡ o = q in omega arith)) refl

pub leading_is : (o : ℕ) (k : Kept) (kept : List Kept) → leading o (owners_from o (k ∷ kept)) ≡ facets_in k
unfolding owners_from
leading_is o k kept =
    leading_front (facets_in k) o (owners_from (suc o) kept)
    ∙ (omega (arith, leading_later o (suc o) kept (omega arith)))
