-- Theorems on the definitions of specs/Codes.
use Rattle.std.specs.Prelude.{◌≡◌, refl, Bool, true, false, ℕ, zero, suc, ◌+◌, ◌*◌, ◌/◌, ◌%◌, ◌≤◌, ◌<◌, ltb, get_or}
use Rattle.std.specs.Prelude.{take, drop}
use Rattle.std.proofs.Common.{sym, ◌∙◌, ⊎_elim, arith, eq-eqb, ne_eqb, lt-ltb, le-ltb, take-append-drop}
use Rattle.std.proofs.Common.{take-suc}
use Rattle.std.proofs.Math.Path.{ap}
use Rattle.std.proofs.Math.Bool.{cond}
use mathlib.Core.List.{List, [], ◌∷◌, ◌++◌, flat_map, append-nil}
use Rattle.std.proofs.Math.Decide.{ℕ_discrete}
use Rattle.std.proofs.Math.Dec.{eqb}
use Rattle.std.proofs.Math.ListN.{length, length-append}
use Rattle.laws.specs.Lists.{flat_map_append}
use Rattle.laws.specs.Parts.{take_more}
use Rattle.laws.specs.Segments.{le_or_lt}
use Rattle.shares.specs.Areas.{flat, lists_to}
use Rattle.ridges.specs.Codes.{all_hits, counts, hits, one_joins, ones_append, ones_in, ones_of, ones_to}

-- ---- a place counts for one ridge orbit only

counts_one : (ridges c : ℕ) → 1 ≡ c % 4 → counts ridges c ≡ ltb (c / 4) ridges
unfolding counts
counts_one ridges c e = rw (eq-eqb 1 (c % 4) e) refl

counts_other : (ridges c : ℕ) → (1 ≡ c % 4 → ⊥) → counts ridges c ≡ false
unfolding counts
counts_other ridges c n = rw (ne_eqb 1 (c % 4) n) refl

hits_few : (ridges : ℕ) (cs : List ℕ) → hits ridges cs ≤ length cs
unfolding hits
hits_few ridges [] = omega arith
hits_few ridges (c ∷ cs) = go (counts ridges c) (hits_few ridges cs)
  where
    go : (b : Bool) → hits ridges cs ≤ length cs → cond b 1 0 + hits ridges cs ≤ suc (length cs)
    go true h = omega arith
    go false h = omega arith

hits_none : (cs : List ℕ) → hits 0 cs ≡ 0
unfolding hits
hits_none [] = refl
hits_none (c ∷ cs) = rw (none (ℕ_discrete 1 (c % 4))) (omega (arith, hits_none cs))
  where
    none : Dec (1 ≡ c % 4) → counts 0 c ≡ false
    none (yes e) = counts_one 0 c e ∙ le-ltb (c / 4) 0 (omega arith)
    none (no n) = counts_other 0 c n

hits_more : (ridge x : ℕ) (cs : List ℕ) → hits (suc ridge) cs ≡ hits ridge cs + length (ones_in ridge x cs)
unfolding hits ones_in
hits_more ridge x [] = omega arith
hits_more ridge x (c ∷ cs) =
    go (counts (suc ridge) c) (counts ridge c) (eqb (4 * ridge + 1) c) (one (ℕ_discrete 1 (c % 4)))
    (hits_more ridge x cs)
  where
    number : Bool → ℕ
    number b = cond b 1 0

    among : 1 ≡ c % 4 → Dec (c / 4 ≡ ridge)
        → number (ltb (c / 4) (suc ridge)) ≡ number (ltb (c / 4) ridge) + number (eqb (4 * ridge + 1) c)
    among e (yes q) =
        rw (
          lt-ltb (c / 4) (suc ridge) (omega arith),
          le-ltb (c / 4) ridge (omega arith),
          eq-eqb (4 * ridge + 1) c (omega (arith, e, q)),
        ) refl
    among e (no n) = rw (ne_eqb (4 * ridge + 1) c (λ q. n (omega (arith, q)))) (⊎_elim
        (λ h. rw (le-ltb (c / 4) (suc ridge) (omega (arith, n)), le-ltb (c / 4) ridge h) refl)
        (λ h. rw (lt-ltb (c / 4) (suc ridge) (omega arith), lt-ltb (c / 4) ridge h) refl)
        (le_or_lt ridge (c / 4)))

    one : Dec (1 ≡ c % 4) → number (counts (suc ridge) c) ≡ number (counts ridge c) + number (eqb (4 * ridge + 1) c)
    one (yes e) = rw (counts_one (suc ridge) c e, counts_one ridge c e) (among e (ℕ_discrete (c / 4) ridge))
    one (no n) =
        rw (
          counts_other (suc ridge) c n,
          counts_other ridge c n,
          ne_eqb (4 * ridge + 1) c (λ q. n (omega (arith, q))),
        ) refl

    go : (a b d : Bool) → number a ≡ number b + number d
        → hits (suc ridge) cs ≡ hits ridge cs + length (ones_in ridge x cs)
        → number a + hits (suc ridge) cs
        ≡ number b + hits ridge cs + length (cond d (x ∷ ones_in ridge x cs) (ones_in ridge x cs))
    go a b true e f = omega (arith, e, f)
    go a b false e f = omega (arith, e, f)

all_hits_none : (lists : List (List ℕ)) (facets : ℕ) → all_hits 0 lists facets ≡ 0
unfolding all_hits
all_hits_none lists zero = refl
all_hits_none lists (suc x) = omega (arith, all_hits_none lists x, hits_none (get_or lists x []))

all_hits_more : (ridge : ℕ) (lists : List (List ℕ)) (facets : ℕ)
    → all_hits (suc ridge) lists facets ≡ all_hits ridge lists facets + length (ones_to ridge lists facets)
unfolding all_hits ones_to
all_hits_more ridge lists zero = refl
all_hits_more ridge lists (suc x) =
    let l = length-append (ones_to ridge lists x) (ones_in ridge x (get_or lists x [])) in
    omega (arith, all_hits_more ridge lists x, hits_more ridge x (get_or lists x []))

all_hits_few : (ridges : ℕ) (lists : List (List ℕ)) (facets : ℕ) → facets ≤ length lists
    → all_hits ridges lists facets ≤ length (flat (take facets lists))
unfolding all_hits flat_map
all_hits_few ridges lists zero h = omega arith
all_hits_few ridges lists (suc x) h =
    let e : take (suc x) lists ≡ take x lists ++ (get_or lists x [] ∷ []) = take-suc lists x [] h in
    let f : length (flat (take (suc x) lists)) ≡ length (flat (take x lists)) + length (get_or lists x []) =
    ap (λ (l : List (List ℕ)). length (flat l)) e
    ∙ (ap length (flat_map_append (λ (l : List ℕ). l) (take x lists) (get_or lists x [] ∷ [])
    ∙ ap (λ (l : List ℕ). flat (take x lists) ++ l) (append-nil (get_or lists x [])))
    ∙ length-append (flat (take x lists)) (get_or lists x [])) in
    omega (arith, all_hits_few ridges lists x (omega arith), hits_few ridges (get_or lists x []))

up_hits : (ridges : ℕ) (lists : List (List ℕ)) (facets : ℕ)
    → length (flat (lists_to (ones_of lists facets) ridges)) ≡ all_hits ridges lists facets
unfolding lists_to flat_map
up_hits zero lists facets = sym (all_hits_none lists facets)
up_hits (suc ridge) lists facets =
    let f = ap length
    (flat_map_append (λ (l : List ℕ). l) (lists_to (ones_of lists facets) ridge) (ones_to ridge lists facets ∷ [])
    ∙ ap (λ (l : List ℕ). flat (lists_to (ones_of lists facets) ridge) ++ l)
    (append-nil (ones_to ridge lists facets)))
    ∙ length-append (flat (lists_to (ones_of lists facets) ridge)) (ones_to ridge lists facets) in
    omega (arith, up_hits ridge lists facets, all_hits_more ridge lists facets)

-- so that all shares of 1 together are no more than the places
pub ones_room_holds : (ridge : ℕ) (lists : List (List ℕ)) (facets : ℕ) → facets ≤ length lists
    → length (flat (lists_to (ones_of lists facets) ridge)) + length (ones_to ridge lists facets)
    ≤ length (flat lists)
ones_room_holds ridge lists facets h =
    let e = ap length (ap flat (sym (take-append-drop facets lists))
    ∙ flat_map_append (λ (l : List ℕ). l) (take facets lists) (drop facets lists))
    ∙ length-append (flat (take facets lists)) (flat (drop facets lists)) in
    omega (arith, up_hits ridge lists facets, all_hits_more ridge lists facets, all_hits_few (suc ridge) lists facets h)

-- places that are left have room
pub ones_left : (ridge x : ℕ) (codes : List ℕ) (i : ℕ) → i < length codes → get_or codes i 0 ≡ 4 * ridge + 1
    → length (ones_in ridge x (take i codes)) < length (ones_in ridge x codes)
ones_left ridge x codes i h e =
    let a : codes ≡ (take i codes ++ (get_or codes i 0 ∷ [])) ++ drop (i + 1) codes =
    sym (take-append-drop (i + 1) codes) ∙ ap (λ (l : List ℕ). l ++ drop (i + 1) codes) (take_more codes i 0 h) in
    let b = ap (λ (l : List ℕ). length (ones_in ridge x l)) a in
    let c = ap length (ones_append ridge x (take i codes ++ (get_or codes i 0 ∷ [])) (drop (i + 1) codes))
    ∙ length-append (ones_in ridge x (take i codes ++ (get_or codes i 0 ∷ [])))
    (ones_in ridge x (drop (i + 1) codes)) in
    let d = ap length (ones_append ridge x (take i codes) (get_or codes i 0 ∷ []))
    ∙ length-append (ones_in ridge x (take i codes)) (ones_in ridge x (get_or codes i 0 ∷ [])) in
    let f = ap length (one_joins ridge x (get_or codes i 0) (sym e)) in
    omega arith
