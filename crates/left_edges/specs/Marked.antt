-- Edges read off marks in ascending order: a pair is marked at its code 20 v + w, and the codes that are marked, from
-- the first on, are the edges in order, each once. Leans on marks and on the order of edges.
use Rattle.std.specs.Prelude.{◌≡◌, refl, ◌⊎◌, Bool, true, false, cond, ◌||◌, List, [], ◌∷◌, map, T, eqb, get_or, take}
use Rattle.std.specs.Prelude.{drop, replicate}
use Rattle.std.proofs.Common.{sym, ap, ◌∙◌, subst, inl, inr, arith, eqb→eq}
use Prim.Native.Nat.{ℕ, suc, ◌+◌, ◌*◌, ◌/◌, ◌%◌, ◌≤◌, ◌<◌, min, max, compare, Ordering}
use Rattle.std.proofs.Math.Dec.{eqb_refl}
use Rattle.std.proofs.lemmas.List.{length-replicate, get_or-replicate}
use Rattle.definitions.specs.Lists.{Pair, then_by, compare_pair, keep, count_from, member_nat, any_of}
use Rattle.definitions.specs.Orbits.{Row, pair_image}
use Rattle.laws.specs.Bools.{same_test}
use Rattle.laws.specs.Lists.{Mem, here, there, in_map, of_map, any_of_holds, any_witness, in_count, of_count}
use Rattle.laws.specs.Pairs.{pairs_map, count_ascends}
use Rattle.laws.specs.Orders.{nats, pairs, lt_compare}
use Rattle.laws.specs.Segments.{le_or_lt}
use Rattle.laws.specs.Ascending.{Ascends, seen_among, seen_member, member_seen}
use Rattle.laws.specs.Ranges.{in_order_kept}
use Rattle.rows.specs.Rows.{rows_in, image_at_holds, same_images}
use Rattle.rows.specs.Marks.{marked, marked_at_holds}
use Rattle.rows.specs.Codes.{pair_code, pair_of, pair_codes}
use Rattle.shapes.specs.EdgeSets.{edges_in_order}

-- the codes that are marked
unfoldable pub marked_codes : List Bool → List ℕ
marked_codes marks = keep (λ (c : ℕ). get_or marks c false) (count_from 0 400)

-- ---- pairs and their codes

pub pair_code_holds : (e : Pair) → e.1 < 20 → pair_of (pair_code e) ≡ e
unfolding pair_of pair_code
pair_code_holds e h =
    let a : (20 * e.0 + e.1) / 20 ≡ e.0 = omega arith in
    let b : (20 * e.0 + e.1) % 20 ≡ e.1 = omega arith in
    λ t. (a t, b t)

pub code_pair : (c : ℕ) → pair_code (pair_of c) ≡ c
unfolding pair_of pair_code
code_pair c = omega arith

code_rises : (x y : ℕ) → x < y → compare_pair (pair_of x) (pair_of y) ≡ Ordering.lt
unfolding compare_pair pair_of then_by
code_rises x y h = go (le_or_lt (suc (x / 20)) (y / 20))
  where
    go : (suc (x / 20) ≤ y / 20) ⊎ (y / 20 < suc (x / 20))
        → then_by (compare (x / 20) (y / 20)) (compare (x % 20) (y % 20)) ≡ Ordering.lt
    go (inl k) =
        ap (λ (o : Ordering). then_by o (compare (x % 20) (y % 20))) (lt_compare (x / 20) (y / 20) (omega arith))
    go (inr k) =
        let e : y / 20 ≡ x / 20 = omega arith in
        let m : x % 20 < y % 20 = omega arith in
        ap (λ (o : Ordering). then_by o (compare (x % 20) (y % 20))) (ap (compare (x / 20)) e ∙ nats.self (x / 20))
        ∙ lt_compare (x % 20) (y % 20) m

abbrev all : List Pair
all = map pair_of (count_from 0 400)

all_ascend : Ascends compare_pair all
all_ascend =
    pairs_map (λ (x y : ℕ). x < y) (λ (d e : Pair). compare_pair d e ≡ Ordering.lt) pair_of (count_from 0 400)
    (λ x i y j h. code_rises x y h) (count_ascends 0 400)

abbrev Small : Pair → Type 0
Small e = (e.0 < 20) × (e.1 < 20)

in_all : (e : Pair) → Small e → Mem e all
unfolding pair_code
in_all e h =
    let a = h.0 in
    let b = h.1 in
    subst (λ (d : Pair). Mem d all) (pair_code_holds e b)
    (in_map pair_of (pair_code e) (count_from 0 400) (in_count 0 400 (pair_code e) (omega arith) (omega arith)))

-- ---- kept by a test

keep_map : {A B : Type 0} (p : B → Bool) (f : A → B) (l : List A)
    → keep p (map f l) ≡ map f (keep (λ (x : A). p (f x)) l)
unfolding keep
keep_map p f [] = refl
keep_map {A} {B} p f (x ∷ l) =
    ap (λ (r : List B). cond (p (f x)) (f x ∷ r) r) (keep_map p f l) ∙ go (p (f x)) (keep (λ (y : A). p (f y)) l)
  where
    go : (b : Bool) (r : List A) → cond b (f x ∷ map f r) (map f r) ≡ map f (cond b (x ∷ r) r)
    go true r = refl
    go false r = refl

keep_same : {A : Type 0} (p q : A → Bool) (l : List A) → ((x : A) → Mem x l → p x ≡ q x) → keep p l ≡ keep q l
unfolding keep
keep_same p q [] h = refl
keep_same {A} p q (x ∷ l) h =
    let a = h x (here refl) in
    let b = keep_same p q l (λ y m. h y (there m)) in
    λ t. cond (a t) (x ∷ b t) (b t)

-- ---- marks

or_false : (b : Bool) → (b || false) ≡ b
or_false true = refl
or_false false = refl

seen_code : (l : List Pair) → ((e : Pair) → Mem e l → Small e) → (c : ℕ)
    → seen_among compare_pair pairs (pair_of c) l ≡ member_nat c (map pair_code l)
unfolding member_nat
seen_code l h c = same_test (seen_among compare_pair pairs (pair_of c) l) (any_of (eqb c) (map pair_code l)) into back
  where
    into : T (seen_among compare_pair pairs (pair_of c) l) → T (any_of (eqb c) (map pair_code l))
    into t =
        let m = in_map pair_code (pair_of c) l (seen_member compare_pair pairs (pair_of c) l t) in
        any_of_holds (eqb c) (pair_code (pair_of c)) (map pair_code l) m
        (subst (λ (k : ℕ). T (eqb c k)) (sym (code_pair c)) (eqb_refl c))

    back : T (any_of (eqb c) (map pair_code l)) → T (seen_among compare_pair pairs (pair_of c) l)
    back t =
        let r = any_witness (eqb c) (map pair_code l) t in
        let q = of_map pair_code r.0 l r.1 in
        let e : pair_of c ≡ q.0 = ap pair_of (eqb→eq c r.0 r.2 ∙ q.2) ∙ pair_code_holds q.0 (h q.0 q.1).1 in
        member_seen compare_pair pairs (pair_of c) l (subst (λ (d : Pair). Mem d l) (sym e) q.1)

pub edges_marked_holds : (l : List Pair) → ((e : Pair) → Mem e l → (e.0 < 20) × (e.1 < 20))
    → edges_in_order l ≡ map pair_of (marked_codes (marked (replicate 400 false) (map pair_code l)))
unfolding marked_codes
edges_marked_holds l h =
    in_order_kept compare_pair pairs l all all_ascend (λ e m. in_all e (h e m))
    ∙ (keep_map (λ (e : Pair). seen_among compare_pair pairs e l) pair_of (count_from 0 400)
    ∙ ap (map pair_of) (keep_same (λ (c : ℕ). seen_among compare_pair pairs (pair_of c) l) (λ (c : ℕ).
    get_or (marked (replicate 400 false) (map pair_code l)) c false) (count_from 0 400) one))
  where
    one : (c : ℕ) → Mem c (count_from 0 400) → seen_among compare_pair pairs (pair_of c) l
        ≡ get_or (marked (replicate 400 false) (map pair_code l)) c false
    one c m =
        let r = (of_count 0 400 c m).1 in
        let n = length-replicate 400 false in
        seen_code l h c
        ∙ sym (marked_at_holds (replicate 400 false) (map pair_code l) c (omega arith)
        ∙ (ap (λ (b : Bool). member_nat c (map pair_code l) || b) (get_or-replicate 400 c false false (omega arith))
        ∙ or_false (member_nat c (map pair_code l))))

-- ---- images under rows in bytes

code_at : (n i : ℕ) (s : List ℕ) (v w : ℕ) → v < n → w < n
    → pair_code (pair_image (v, w) (take n (drop (32 * i) s))) ≡ 20 * min (get_or s (32 * i + v) 0)
    (get_or s (32 * i + w) 0) + max (get_or s (32 * i + v) 0) (get_or s (32 * i + w) 0)
unfolding pair_code pair_image
code_at n i s v w h k = rw (image_at_holds n i s v h, image_at_holds n i s w k) refl

-- rows of n vertices, read with a width of 32
pub codes_wide : (n m : ℕ) (e : Pair) (s : List ℕ) → e.0 < n → e.1 < n → n ≤ 20
    → pair_codes (rows_in 32 m s) e ≡ map pair_code (map (pair_image e) (rows_in n m s))
unfolding pair_codes
codes_wide n m e s h k l =
    same_images (λ (row : Row). pair_code (pair_image e row)) (λ (row : Row). pair_code (pair_image e row)) 32 n m s
    (λ i _. code_at 32 i s e.0 e.1 (omega arith) (omega arith) ∙ sym (code_at n i s e.0 e.1 h k))
    ∙ sym (twice (rows_in n m s))
  where
    twice : (rs : List Row)
        → map pair_code (map (pair_image e) rs) ≡ map (λ (row : Row). pair_code (pair_image e row)) rs
    twice [] = refl
    twice (r ∷ rs) = ap (λ (m : List ℕ). pair_code (pair_image e r) ∷ m) (twice rs)
