-- A table's possible facets and their shares: which facets there are, and what shares of 1 say of what a facet adds.
-- Over any table.
use Rattle.std.specs.Prelude.{◌≡◌, refl, ◌⊎◌, Bool, true, false, cond, not, ℕ, zero, suc, ◌+◌, ◌*◌, ◌<◌, T, ltb, eqb}
use Rattle.std.specs.Prelude.{length, get_or}
use Rattle.std.proofs.Common.{sym, ap, ◌∙◌, subst, inl, inr, arith, zero-mul, one-mul, T_not, eqb→eq, ltb→lt, lt→ltb}
use mathlib.Core.List.{List, [], ◌∷◌, map}
use Rattle.std.proofs.Math.Dec.{eqb_refl}
use Rattle.definitions.specs.Lists.{all_of, keep, map_at, count_from}
use Rattle.definitions.specs.Search.{Table, Facet, Share, shares_of, shares_at, last_share, adds, all_facets, ones_at}
use Rattle.definitions.specs.Demands.{is_possible, same_where_same_ridge, equal_shares}
use Rattle.laws.specs.Bools.{both, first, second, either}
use Rattle.laws.specs.Lists.{Mem, here, there, in_map, of_map, in_flat_map, of_flat_map, of_map_at, in_map_at, in_count}
use Rattle.laws.specs.Lists.{of_count, all_of_holds, kept}
use Rattle.laws.specs.Pairs.{Pairs, pairs_map, pairs_flat_map, count_ascends}

-- ---- which facets there are

-- the facets of one orbit
abbrev pub orbit_facets : ℕ → List (List Share) → List Facet
orbit_facets orbit facets = map (λ (f : ℕ). (orbit, f)) (count_from 0 (length facets))

of_orbit_holds : (orbit : ℕ) (facets : List (List Share)) (f : Facet) → Mem f (orbit_facets orbit facets)
    → (f.0 ≡ orbit) × (f.1 < length facets)
of_orbit_holds orbit facets f h =
    let r = of_map (λ (n : ℕ). (orbit, n)) f (count_from 0 (length facets)) h in
    let k = (of_count 0 (length facets) r.0 r.1).1 in
    let e = ap (λ (g : Facet). g.1) r.2 in
    (ap (λ (g : Facet). g.0) r.2, omega arith)

in_orbit : (orbit n : ℕ) (facets : List (List Share)) → n < length facets → Mem (orbit, n) (orbit_facets orbit facets)
in_orbit orbit n facets h =
    in_map (λ (m : ℕ). (orbit, m)) n (count_from 0 (length facets))
    (in_count 0 (length facets) n (omega arith) (omega arith))

pub facet_possible : (t : Table) (f : Facet) → Mem f (all_facets t) → T (is_possible t f)
unfolding all_facets is_possible
facet_possible t f h =
    let r = of_flat_map (λ (fs : List Facet). fs) f (map_at orbit_facets 0 t.shares) h in
    let p = of_map_at orbit_facets [] r.0 0 t.shares r.1 in
    let q = of_orbit_holds (0 + p.0) (get_or t.shares p.0 []) f (subst (λ (l : List Facet). Mem f l) p.2 r.2) in
    let e : f.0 ≡ p.0 = let z = q.0 in omega arith in
    let k : f.0 < length t.shares = let z = p.1 in omega arith in
    let m : f.1
    < length (get_or t.shares f.0 []) = subst (λ (n : ℕ). f.1 < length (get_or t.shares n [])) (sym e) q.1 in
    both (ltb f.0 (length t.shares)) (ltb f.1 (length (get_or t.shares f.0 []))) (lt→ltb f.0 (length t.shares) k)
    (lt→ltb f.1 (length (get_or t.shares f.0 [])) m)

pub possible_facet : (t : Table) (f : Facet) → T (is_possible t f) → Mem f (all_facets t)
unfolding all_facets is_possible
possible_facet t f h =
    let a = ltb→lt f.0 (length t.shares)
    (first (ltb f.0 (length t.shares)) (ltb f.1 (length (get_or t.shares f.0 []))) h) in
    let b = ltb→lt f.1 (length (get_or t.shares f.0 []))
    (second (ltb f.0 (length t.shares)) (ltb f.1 (length (get_or t.shares f.0 []))) h) in
    in_flat_map (λ (fs : List Facet). fs) f (orbit_facets (0 + f.0) (get_or t.shares f.0 []))
    (map_at orbit_facets 0 t.shares)
    (in_map_at orbit_facets [] 0 t.shares f.0 a)
    (subst (λ (n : ℕ). Mem f (orbit_facets n (get_or t.shares f.0 []))) (omega arith)
    (in_orbit f.0 f.1 (get_or t.shares f.0 []) b))

pub orbit_below : (t : Table) (f : Facet) → Mem f (all_facets t) → f.0 < length t.shares
unfolding is_possible
orbit_below t f h =
    ltb→lt f.0 (length t.shares)
    (first (ltb f.0 (length t.shares)) (ltb f.1 (length (get_or t.shares f.0 []))) (facet_possible t f h))

-- no facet stands twice among them
abbrev pub Different : Facet → Facet → Type 0
Different f g = f ≡ g → ⊥

orbits_apart : (a : ℕ) (l : List (List (List Share))) → Pairs (λ (fs gs : List Facet). (f : Facet) → Mem f fs
    → (g : Facet) → Mem g gs → Different f g) (map_at orbit_facets a l)
unfolding map_at
orbits_apart a [] = tt
orbits_apart a (x ∷ l) = (later, orbits_apart (suc a) l)
  where
    later : (gs : List Facet) → Mem gs (map_at orbit_facets (suc a) l) → (f : Facet) → Mem f (orbit_facets a x)
        → (g : Facet) → Mem g gs → Different f g
    later gs m f h g k e =
        let p = of_map_at orbit_facets [] gs (suc a) l m in
        let q = (of_orbit_holds (suc a + p.0) (get_or l p.0 []) g (subst (λ (s : List Facet). Mem g s) p.2 k)).0 in
        let r = (of_orbit_holds a x f h).0 in
        let z = ap (λ (y : Facet). y.0) e in
        omega arith

pub facets_different : (t : Table) → Pairs Different (all_facets t)
unfolding all_facets
facets_different t =
    pairs_flat_map (λ (fs gs : List Facet). (f : Facet) → Mem f fs → (g : Facet) → Mem g gs → Different f g) Different
    (λ (fs : List Facet). fs) (map_at orbit_facets 0 t.shares)
    one_orbit (λ fs i gs j apart-here f h g k. apart-here f h g k) (orbits_apart 0 t.shares)
  where
    one_orbit : (fs : List Facet) → Mem fs (map_at orbit_facets 0 t.shares) → Pairs Different fs
    one_orbit fs m =
        let p = of_map_at orbit_facets [] fs 0 t.shares m in
        subst (Pairs Different) (sym p.2)
        (pairs_map (λ (x y : ℕ). x < y) Different (λ (n : ℕ). (0 + p.0, n))
        (count_from 0 (length (get_or t.shares p.0 [])))
        (λ x i y j less e. let z = ap (λ (g : Facet). g.1) e in omega arith)
        (count_ascends 0 (length (get_or t.shares p.0 []))))

-- ---- shares of 1

abbrev is_one : Share → Bool
is_one s = eqb 1 s.1

one_of_product : (x y : ℕ) → x * y ≡ 1 → (x ≡ 1) × (y ≡ 1)
one_of_product zero y e = absurd (omega (arith, zero-mul y))
one_of_product (suc zero) y e = (refl, sym (one-mul y) ∙ e)
one_of_product (suc (suc x)) zero e = absurd (omega arith)
one_of_product (suc (suc x)) (suc y) e = absurd (omega arith)

one_place : (here-shares : List Share) → last_share 0 here-shares ≡ 1 → length here-shares ≡ 1
    → 0 < length (keep is_one here-shares)
unfolding last_share keep
one_place [] e f = absurd (omega arith)
one_place (s ∷ []) e f = go (eqb 1 s.1) (subst (λ (n : ℕ). T (eqb 1 n)) (sym e) (eqb_refl 1))
  where
    go : (b : Bool) → T b → 0 < length (cond b (s ∷ []) [])
    go true u = omega arith
    go false u = absurd u
one_place (s ∷ s' ∷ ss) e f = absurd (omega arith)

-- a facet that adds 1 has one place there, with share 1
pub adds_one : (t : Table) (ridge : ℕ) (f : Facet) → adds t ridge f ≡ 1 → 0 < ones_at t ridge f
unfolding adds ones_at
adds_one t ridge f e =
    let r = one_of_product (last_share 0 (shares_at ridge (shares_of t f)))
    (length (shares_at ridge (shares_of t f))) e in
    one_place (shares_at ridge (shares_of t f)) r.0 r.1

-- ---- the proviso: where the shares of a facet in a ridge orbit are equal, each share of 1 adds 1

all_ones : (l : List Share) → ((s : Share) → Mem s l → T (is_one s)) → length (keep is_one l) ≡ length l
unfolding keep
all_ones [] f = refl
all_ones (s ∷ l) f = go (is_one s) (f s (here refl)) (all_ones l (λ x h. f x (there h)))
  where
    go : (b : Bool) → T b → length (keep is_one l) ≡ length l
        → length (cond b (s ∷ keep is_one l) (keep is_one l)) ≡ suc (length l)
    go true u e = ap suc e
    go false u e = absurd u

last_one : (l : List Share) (before : ℕ) → ((s : Share) → Mem s l → T (is_one s)) → 0 < length l
    → last_share before l ≡ 1
unfolding last_share
last_one [] before f h = absurd (omega arith)
last_one (s ∷ []) before f h = sym (eqb→eq 1 s.1 (f s (here refl)))
last_one (s ∷ s' ∷ l) before f h = last_one (s' ∷ l) s.1 (λ x k. f x (there k)) (omega arith)

first_kept : (l : List Share) → 0 < length (keep is_one l) → (s : Share) × Mem s l × T (is_one s)
first_kept l h = go (keep is_one l) (λ s k. kept is_one s l k) h
  where
    go : (m : List Share) → ((s : Share) → Mem s m → Mem s l × T (is_one s)) → 0 < length m
        → (s : Share) × Mem s l × T (is_one s)
    go [] f k = absurd (omega arith)
    go (s ∷ m) f k = let r = f s (here refl) in (s, r.0, r.1)

-- of two shares in one ridge orbit, if one is 1 so is the other
same_one : (ridge : ℕ) (u s : Share) → T (eqb ridge u.0) → T (eqb ridge s.0) → T (same_where_same_ridge u s)
    → T (is_one u) → T (is_one s)
unfolding same_where_same_ridge
same_one ridge u s a b same one = go (either (not (eqb u.0 s.0)) (eqb u.1 s.1) same)
  where
    go : T (not (eqb u.0 s.0)) ⊎ T (eqb u.1 s.1) → T (is_one s)
    go (inl n) = absurd (T_not (eqb u.0 s.0) n (subst (λ (x : ℕ). T (eqb x s.0)) (eqb→eq ridge u.0 a) b))
    go (inr e) = subst (λ (x : ℕ). T (eqb 1 x)) (eqb→eq u.1 s.1 e) one

-- under the proviso, if one share of a facet in a ridge orbit is 1 then all there are
every_one : (t : Table) → T (equal_shares t) → (ridge : ℕ) (f : Facet) → Mem f (all_facets t) → 0 < ones_at t ridge f
    → (s : Share) → Mem s (shares_at ridge (shares_of t f)) → T (is_one s)
unfolding equal_shares ones_at shares_at
every_one t equal ridge f possible h s i =
    let ss = shares_of t f in
    let whole = all_of_holds
    (λ (g : Facet). all_of (λ (x : Share). all_of (same_where_same_ridge x) (shares_of t g)) (shares_of t g))
    (all_facets t) equal f possible in
    let w = first_kept (keep (λ (x : Share). eqb ridge x.0) ss) h in
    let a = kept (λ (x : Share). eqb ridge x.0) w.0 ss w.1 in
    let b = kept (λ (x : Share). eqb ridge x.0) s ss i in
    let same = all_of_holds (same_where_same_ridge w.0) ss
    (all_of_holds (λ (x : Share). all_of (same_where_same_ridge x) ss) ss whole w.0 a.0) s b.0 in
    same_one ridge w.0 s a.1 b.1 same w.2

pub ones_add : (t : Table) → T (equal_shares t) → (ridge : ℕ) (f : Facet) → Mem f (all_facets t)
    → 0 < ones_at t ridge f → adds t ridge f ≡ ones_at t ridge f
unfolding adds ones_at
ones_add t equal ridge f possible h =
    let places = shares_at ridge (shares_of t f) in
    let every = every_one t equal ridge f possible h in
    let k : length (keep is_one places) ≡ length places = all_ones places every in
    ap (λ (n : ℕ). n * length places) (last_one places 0 every (omega arith)) ∙ one-mul (length places) ∙ sym k
