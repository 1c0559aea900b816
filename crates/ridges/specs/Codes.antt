-- Shares as codes of 4 × ridge orbit + the share cut off at 3, and what a search reads of them: what a facet adds to
-- each ridge orbit, cut off at 3, and its shares of 1. Over any lists of codes. Leans on the definition of the search
-- and on the layout of its tables.
use Rattle.std.specs.Prelude.{◌≡◌, refl, Bool, true, false, ◌&&◌, ℕ, zero, suc, ◌+◌, ◌*◌, ◌/◌, ◌%◌, ◌≤◌, ◌<◌, min}
use Rattle.std.specs.Prelude.{ltb, get_or, replicate}
use Rattle.std.proofs.Common.{sym, ◌∙◌, ⊎_elim, arith, add-one, eq-eqb, ne_eqb, mul-le-mul_right}
use Rattle.std.proofs.lemmas.List.{length-map}
use Rattle.std.proofs.Math.Path.{ap}
use Rattle.std.proofs.Math.Bool.{cond}
use mathlib.Core.List.{List, [], ◌∷◌, ◌++◌, map, append-nil, map-append}
use Rattle.std.proofs.Math.Decide.{ℕ_discrete}
use Rattle.std.proofs.Math.Dec.{eqb}
use Rattle.std.proofs.Math.ListN.{length, length-append, get_or-append}
use Rattle.definitions.specs.Lists.{keep}
use Rattle.definitions.specs.Search.{Share, shares_at, last_share}
use Rattle.laws.specs.Lists.{keep_append}
use Rattle.laws.specs.Segments.{le_or_lt}
use Rattle.facets.specs.Layout.{amount_in}
use Rattle.shares.specs.Areas.{last_at}
use Rattle.shares.specs.Shares.{share_code}
use Rattle.ridges.specs.declared.Counted.{Counted}

unfoldable pub share_of : ℕ → Share
share_of c = (c / 4, c % 4)

-- a share cut off at 3, which is what its code says
unfoldable pub cut : Share → Share
cut s = (s.0, min s.1 3)

pub share_back : (s : Share) → share_of (share_code s) ≡ cut s
unfolding share_of share_code cut
share_back s =
    let a : (4 * s.0 + min s.1 3) / 4 ≡ s.0 = omega arith in
    let b : (4 * s.0 + min s.1 3) % 4 ≡ min s.1 3 = omega arith in
    λ i. (a i, b i)

-- ---- what a facet adds

-- the shares in one ridge orbit
unfoldable pub shares_here : ℕ → List ℕ → List Share
shares_here ridge codes = shares_at ridge (map share_of codes)

unfoldable pub amount_of : ℕ → List ℕ → ℕ
amount_of ridge codes = min (last_share 0 (shares_here ridge codes) * length (shares_here ridge codes)) 3

-- what is counted for each ridge orbit, as two rows of numbers
abbrev pub many_in : List Counted → List ℕ
many_in counted = map (λ (t : Counted). t.places) counted

abbrev pub last_in : List Counted → List ℕ
last_in counted = map (λ (t : Counted). t.last) counted

-- for each of the first ridge orbits how many places are in it, and the share at the last of these
pub record PlacesCounted (ridges : ℕ) (codes places last : List ℕ) : Type 0 where
  pub places_long : length places ≡ 190
  pub last_long : length last ≡ 190
  pub many : (ridge : ℕ) → ridge < ridges → get_or places ridge 0 ≡ length (shares_here ridge codes)
  pub share : (ridge : ℕ) → ridge < ridges → get_or last ridge 0 ≡ last_share 0 (shares_here ridge codes)

last_more : (before : ℕ) (l : List Share) (s : Share) → last_share before (l ++ (s ∷ [])) ≡ s.1
unfolding last_share
last_more before [] s = refl
last_more before (x ∷ l) s = last_more x.1 l s

-- one code more, of this ridge orbit or of another
module _ (ridge : ℕ) (l : List ℕ) (c : ℕ) where
  here_more : shares_here ridge (l ++ (c ∷ []))
      ≡ shares_here ridge l ++ cond (eqb ridge (c / 4)) (share_of c ∷ []) []
  unfolding shares_here shares_at share_of keep
  here_more =
      ap (keep (λ (s : Share). eqb ridge s.0)) (map-append share_of l (c ∷ []))
      ∙ keep_append (λ (s : Share). eqb ridge s.0) (map share_of l) (share_of c ∷ [])

  pub here_joins : c / 4 ≡ ridge → (length (shares_here ridge (l ++ (c ∷ []))) ≡ length (shares_here ridge l) + 1)
      × (last_share 0 (shares_here ridge (l ++ (c ∷ []))) ≡ c % 4)
  unfolding share_of
  here_joins e =
      let m : shares_here ridge (l ++ (c ∷ [])) ≡ shares_here ridge l ++ (share_of c ∷ []) = here_more
      ∙ ap (λ (b : Bool). shares_here ridge l ++ cond b (share_of c ∷ []) []) (eq-eqb ridge (c / 4) (sym e)) in (
        ap length m ∙ length-append (shares_here ridge l) (share_of c ∷ []),
        ap (last_share 0) m
            ∙ last_more 0 (shares_here ridge l) (share_of c),
      )

  pub here_stays : (c / 4 ≡ ridge → ⊥) → shares_here ridge (l ++ (c ∷ [])) ≡ shares_here ridge l
  here_stays n =
      here_more ∙ (ap (λ (b : Bool). shares_here ridge l ++ cond b (share_of c ∷ []) [])
      (ne_eqb ridge (c / 4) (λ e. n (sym e))) ∙ append-nil (shares_here ridge l))

pub here_none : (ridge : ℕ) → shares_here ridge [] ≡ []
unfolding shares_here shares_at keep
here_none ridge = refl

-- ---- the codes of what a facet adds: 4 × ridge orbit + amount for each ridge orbit where it adds something

unfoldable pub touched_code : ℕ → ℕ → List ℕ
touched_code ridge zero = []
touched_code ridge (suc amount) = (4 * ridge + suc amount) ∷ []

unfoldable pub touched_to : ℕ → List ℕ → List ℕ
touched_to zero codes = []
touched_to (suc ridge) codes = touched_to ridge codes ++ touched_code ridge (amount_of ridge codes)

-- those of facet x
abbrev pub touched_of : ℕ → List (List ℕ) → ℕ → List ℕ
touched_of ridges lists x = touched_to ridges (get_or lists x [])

pub touched_more : (ridge : ℕ) (codes : List ℕ)
    → touched_to (ridge + 1) codes ≡ touched_to ridge codes ++ touched_code ridge (amount_of ridge codes)
unfolding touched_to
touched_more ridge codes = ap (λ (r : ℕ). touched_to r codes) (add-one ridge)

pub code_some : (ridge amount : ℕ) → 0 < amount → touched_code ridge amount ≡ (4 * ridge + amount) ∷ []
unfolding touched_code
code_some ridge zero h = absurd (omega arith)
code_some ridge (suc amount) h = refl

pub code_none : (ridge amount : ℕ) → amount ≡ 0 → touched_code ridge amount ≡ []
unfolding touched_code
code_none ridge zero h = refl
code_none ridge (suc amount) h = absurd (omega arith)

code_few : (ridge amount : ℕ) → length (touched_code ridge amount) ≤ 1
unfolding touched_code
code_few ridge zero = omega arith
code_few ridge (suc amount) = omega arith

pub touched_few : (ridges : ℕ) (codes : List ℕ) → length (touched_to ridges codes) ≤ ridges
unfolding touched_to
touched_few zero codes = omega arith
touched_few (suc ridge) codes =
    let l = length-append (touched_to ridge codes) (touched_code ridge (amount_of ridge codes)) in
    omega (arith, touched_few ridge codes, code_few ridge (amount_of ridge codes))

pub amount_small : (ridge : ℕ) (codes : List ℕ) → amount_of ridge codes ≤ 3
unfolding amount_of
amount_small ridge codes = omega arith

amount_append : (ridge : ℕ) (l k : List ℕ) → amount_in ridge (l ++ k) ≡ amount_in ridge l + amount_in ridge k
unfolding amount_in
amount_append ridge [] k = omega arith
amount_append ridge (c ∷ l) k = let h = amount_append ridge l k in omega arith

amount_one : (ridge at amount : ℕ) → amount ≤ 3
    → amount_in ridge (touched_code at amount) ≡ cond (eqb ridge at) amount 0
unfolding amount_in touched_code
amount_one ridge at zero h = none_here (eqb ridge at)
  where
    none_here : (b : Bool) → ◌≡◌ {A = ℕ} 0 (cond b 0 0)
    none_here true = refl
    none_here false = refl
amount_one ridge at (suc amount) h =
    let a : (4 * at + suc amount) / 4 ≡ at = omega arith in
    let b : (4 * at + suc amount) % 4 ≡ suc amount = omega arith in
    rw (a, b) (omega arith)

-- each amount stands among the codes once
amounts_behind : (ridges ridge : ℕ) (codes : List ℕ) → ridges ≤ ridge → amount_in ridge (touched_to ridges codes) ≡ 0
unfolding touched_to amount_in
amounts_behind zero ridge codes h = refl
amounts_behind (suc at) ridge codes h =
    let a = amount_append ridge (touched_to at codes) (touched_code at (amount_of at codes)) in
    let b = amount_one ridge at (amount_of at codes) (amount_small at codes) in
    let c : cond (eqb ridge at) (amount_of at codes) 0 ≡ 0 = rw (ne_eqb ridge at (λ e. omega arith)) refl in
    omega (arith, amounts_behind at ridge codes (omega arith))

pub amounts_are : (ridges ridge : ℕ) (codes : List ℕ) → ridge < ridges
    → amount_in ridge (touched_to ridges codes) ≡ amount_of ridge codes
unfolding touched_to
amounts_are zero ridge codes h = absurd (omega arith)
amounts_are (suc at) ridge codes h = go (ℕ_discrete ridge at) (amounts_are at ridge codes)
  where
    a : amount_in ridge (touched_to at codes ++ touched_code at (amount_of at codes))
        ≡ amount_in ridge (touched_to at codes) + amount_in ridge (touched_code at (amount_of at codes))
    a = amount_append ridge (touched_to at codes) (touched_code at (amount_of at codes))

    b : amount_in ridge (touched_code at (amount_of at codes)) ≡ cond (eqb ridge at) (amount_of at codes) 0
    b = amount_one ridge at (amount_of at codes) (amount_small at codes)

    go : Dec (ridge ≡ at) → (ridge < at → amount_in ridge (touched_to at codes) ≡ amount_of ridge codes)
        → amount_in ridge (touched_to at codes ++ touched_code at (amount_of at codes)) ≡ amount_of ridge codes
    go (yes e) ih =
        let c : cond (eqb ridge at) (amount_of at codes) 0 ≡ amount_of ridge codes = rw (eq-eqb ridge at e, e) refl in
        omega (arith, a, b, amounts_behind at ridge codes (omega arith))
    go (no n) ih =
        let c : cond (eqb ridge at) (amount_of at codes) 0 ≡ 0 = rw (ne_eqb ridge at n) refl in
        omega (arith, a, b, ih (omega (arith, n)))

within_more : (ridge amount : ℕ) (l : List ℕ) (i : ℕ) → amount ≤ 3 → (i < length l → get_or l i 0 / 4 < ridge)
    → i < length (l ++ touched_code ridge amount) → get_or (l ++ touched_code ridge amount) i 0 / 4 < suc ridge
unfolding touched_code
within_more ridge zero l i s f h = rw append-nil (omega (arith, f (rw append-nil at h)))
within_more ridge (suc amount) l i s f h =
    let n = length-append l ((4 * ridge + suc amount) ∷ []) in
    ⊎_elim
    (λ k.
    let e : i ≡ length l = omega arith in
    let g : get_or (l ++ ((4 * ridge + suc amount) ∷ [])) i 0 ≡ 4 * ridge + suc amount =
    ap (λ (j : ℕ). get_or (l ++ ((4 * ridge + suc amount) ∷ [])) j 0) e ∙ last_at l (4 * ridge + suc amount) 0 in
    omega arith)
    (λ k. rw (get_or-append l ((4 * ridge + suc amount) ∷ []) 0 i k) (omega (arith, f k)))
    (le_or_lt (length l) i)

pub touched_within : (ridges : ℕ) (codes : List ℕ) (i : ℕ) → i < length (touched_to ridges codes)
    → get_or (touched_to ridges codes) i 0 / 4 < ridges
unfolding touched_to
touched_within zero codes i h = absurd (omega arith)
touched_within (suc ridge) codes i h =
    within_more ridge (amount_of ridge codes) (touched_to ridge codes) i (amount_small ridge codes)
    (touched_within ridge codes i) h

-- ---- shares of 1

-- the facet, once for each share of 1 in a ridge orbit
unfoldable pub ones_in : ℕ → ℕ → List ℕ → List ℕ
ones_in ridge x [] = []
ones_in ridge x (c ∷ cs) = let rest = ones_in ridge x cs in cond (eqb (4 * ridge + 1) c) (x ∷ rest) rest

pub ones_append : (ridge x : ℕ) (l k : List ℕ) → ones_in ridge x (l ++ k) ≡ ones_in ridge x l ++ ones_in ridge x k
unfolding ones_in
ones_append ridge x [] k = refl
ones_append ridge x (c ∷ l) k = go (eqb (4 * ridge + 1) c) (ones_append ridge x l k)
  where
    go : (b : Bool) → ones_in ridge x (l ++ k) ≡ ones_in ridge x l ++ ones_in ridge x k
        → cond b (x ∷ ones_in ridge x (l ++ k)) (ones_in ridge x (l ++ k))
        ≡ cond b (x ∷ ones_in ridge x l) (ones_in ridge x l) ++ ones_in ridge x k
    go true e = ap (λ (r : List ℕ). x ∷ r) e
    go false e = e

pub one_joins : (ridge x c : ℕ) → 4 * ridge + 1 ≡ c → ones_in ridge x (c ∷ []) ≡ x ∷ []
unfolding ones_in
one_joins ridge x c e = rw (eq-eqb (4 * ridge + 1) c e) refl

pub one_stays : (ridge x c : ℕ) → (4 * ridge + 1 ≡ c → ⊥) → ones_in ridge x (c ∷ []) ≡ []
unfolding ones_in
one_stays ridge x c n = rw (ne_eqb (4 * ridge + 1) c n) refl

-- those are the shares that the search counts
pub ones_counted : (ridge x : ℕ) (codes : List ℕ)
    → ones_in ridge x codes ≡ replicate (length (keep (λ (s : Share). eqb 1 s.1) (shares_here ridge codes))) x
unfolding ones_in shares_here shares_at keep share_of
ones_counted ridge x [] = refl
ones_counted ridge x (c ∷ cs) =
    go (eqb (4 * ridge + 1) c) (eqb ridge (c / 4)) (eqb 1 (c % 4))
    (same (ℕ_discrete ridge (c / 4)) (ℕ_discrete 1 (c % 4))) (ones_counted ridge x cs)
    ∙ ap (λ (l : List Share). replicate (length l) x) (sym (under (eqb ridge (c / 4))))
  where
    ones : List Share → List Share
    ones = keep (λ (s : Share). eqb 1 s.1)

    same : Dec (ridge ≡ c / 4) → Dec (1 ≡ c % 4)
        → eqb (4 * ridge + 1) c ≡ cond (eqb ridge (c / 4)) (eqb 1 (c % 4)) false
    same (yes a) (yes b) =
        rw (eq-eqb ridge (c / 4) a, eq-eqb 1 (c % 4) b) (eq-eqb (4 * ridge + 1) c (omega arith))
    same (yes a) (no b) =
        rw (eq-eqb ridge (c / 4) a, ne_eqb 1 (c % 4) b) (ne_eqb (4 * ridge + 1) c (λ e. b (omega arith)))
    same (no a) b = rw (ne_eqb ridge (c / 4) a) (ne_eqb (4 * ridge + 1) c (λ e. a (omega arith)))

    under : (b : Bool) → ones (cond b (share_of c ∷ shares_here ridge cs) (shares_here ridge cs))
        ≡ cond b (cond (eqb 1 (c % 4)) (share_of c ∷ ones (shares_here ridge cs)) (ones (shares_here ridge cs)))
        (ones (shares_here ridge cs))
    under true = refl
    under false = refl

    go : (a b d : Bool) → a ≡ cond b d false → ones_in ridge x cs ≡ replicate (length (ones (shares_here ridge cs))) x
        → cond a (x ∷ ones_in ridge x cs) (ones_in ridge x cs)
        ≡ replicate (length (cond b (cond d (share_of c ∷ ones (shares_here ridge cs)) (ones (shares_here ridge cs)))
        (ones (shares_here ridge cs)))) x
    go a true true e f = rw e (ap (λ (l : List ℕ). x ∷ l) f)
    go a true false e f = rw e f
    go a false d e f = rw e f

-- ---- cutting shares off at 3 changes nothing that a search reads

-- a share keeps its ridge orbit
pub cut_at : (ridge : ℕ) (l : List Share) → shares_at ridge (map cut l) ≡ map cut (shares_at ridge l)
unfolding shares_at keep cut
cut_at ridge [] = refl
cut_at ridge (s ∷ l) = go (eqb ridge s.0) (cut_at ridge l)
  where
    go : (b : Bool) → shares_at ridge (map cut l) ≡ map cut (shares_at ridge l)
        → cond b (cut s ∷ shares_at ridge (map cut l)) (shares_at ridge (map cut l))
        ≡ map cut (cond b (s ∷ shares_at ridge l) (shares_at ridge l))
    go true e = ap (λ (r : List Share). cut s ∷ r) e
    go false e = e

cut_last : (before : ℕ) (l : List Share) → last_share (min before 3) (map cut l) ≡ min (last_share before l) 3
unfolding last_share cut
cut_last before [] = refl
cut_last before (s ∷ l) = cut_last s.1 l

-- a product cut off at 3 is the same if its factor was cut off at 3 before
cut_product : (a n : ℕ) → min (min a 3 * n) 3 ≡ min (a * n) 3
cut_product a zero = omega arith
cut_product a (suc n) = ⊎_elim
    (λ h. let e : min a 3 ≡ a = omega arith in rw e refl)
    (λ h.
    let e : min a 3 ≡ 3 = omega arith in
    let m : 3 * suc n ≤ a * suc n = mul-le-mul_right (suc n) (omega arith) in
    rw e (omega arith))
    (le_or_lt a 3)

pub cut_amount : (l : List Share)
    → min (last_share 0 (map cut l) * length (map cut l)) 3 ≡ min (last_share 0 l * length l) 3
cut_amount l = rw (cut_last 0 l, length-map l cut) (cut_product (last_share 0 l) (length l))

-- a share of 1 stays one
pub cut_ones : (l : List Share)
    → length (keep (λ (s : Share). eqb 1 s.1) (map cut l)) ≡ length (keep (λ (s : Share). eqb 1 s.1) l)
unfolding keep cut
cut_ones [] = refl
cut_ones (s ∷ l) = go (eqb 1 (min s.1 3)) (eqb 1 s.1) (same (ℕ_discrete 1 s.1)) (cut_ones l)
  where
    ones : List Share → List Share
    ones = keep (λ (s : Share). eqb 1 s.1)

    same : Dec (1 ≡ s.1) → eqb 1 (min s.1 3) ≡ eqb 1 s.1
    same (yes e) = rw (eq-eqb 1 s.1 e) (eq-eqb 1 (min s.1 3) (omega (arith, e)))
    same (no n) = rw (ne_eqb 1 s.1 n) (ne_eqb 1 (min s.1 3) (λ e. n (omega (arith, e))))

    go : (a b : Bool) → a ≡ b → length (ones (map cut l)) ≡ length (ones l)
        → length (cond a (cut s ∷ ones (map cut l)) (ones (map cut l))) ≡ length (cond b (s ∷ ones l) (ones l))
    go a true e f = rw e (ap suc f)
    go a false e f = rw e f

-- the facets with shares of 1 in a ridge orbit, of the first so many
unfoldable pub ones_to : ℕ → List (List ℕ) → ℕ → List ℕ
ones_to ridge lists zero = []
ones_to ridge lists (suc x) = ones_to ridge lists x ++ ones_in ridge x (get_or lists x [])

pub ones_more : (ridge : ℕ) (lists : List (List ℕ)) (x : ℕ)
    → ones_to ridge lists (x + 1) ≡ ones_to ridge lists x ++ ones_in ridge x (get_or lists x [])
unfolding ones_to
ones_more ridge lists x = ap (ones_to ridge lists) (add-one x)

-- those of each ridge orbit
abbrev pub ones_of : List (List ℕ) → ℕ → ℕ → List ℕ
ones_of lists facets ridge = ones_to ridge lists facets

-- ---- a place counts for one ridge orbit only

-- whether a share is 1 and its ridge orbit below a number
unfoldable pub counts : ℕ → ℕ → Bool
counts ridges c = eqb 1 (c % 4) && ltb (c / 4) ridges

unfoldable pub hits : ℕ → List ℕ → ℕ
hits ridges [] = 0
hits ridges (c ∷ cs) = cond (counts ridges c) 1 0 + hits ridges cs

-- of the first so many facets
unfoldable pub all_hits : ℕ → List (List ℕ) → ℕ → ℕ
all_hits ridges lists zero = 0
all_hits ridges lists (suc x) = all_hits ridges lists x + hits ridges (get_or lists x [])

-- the first facets have no more than all
pub ones_to_few : (ridge : ℕ) (lists : List (List ℕ)) (x facets : ℕ) → x < facets → length (ones_to ridge lists x)
    + length (ones_in ridge x (get_or lists x [])) ≤ length (ones_to ridge lists facets)
ones_to_few ridge lists x zero h = absurd (omega arith)
ones_to_few ridge lists x (suc y) h =
    ⊎_elim (λ k. later (ones_to_few ridge lists x y k)) (λ k. now_is (omega arith)) (le_or_lt (suc x) y)
  where
    split : length (ones_to ridge lists (suc y))
        ≡ length (ones_to ridge lists y) + length (ones_in ridge y (get_or lists y []))
    split =
        ap (λ (j : ℕ). length (ones_to ridge lists j)) (sym (add-one y)) ∙ (ap length (ones_more ridge lists y)
        ∙ length-append (ones_to ridge lists y) (ones_in ridge y (get_or lists y [])))

    later : length (ones_to ridge lists x) + length (ones_in ridge x (get_or lists x []))
        ≤ length (ones_to ridge lists y) → length (ones_to ridge lists x)
        + length (ones_in ridge x (get_or lists x [])) ≤ length (ones_to ridge lists (suc y))
    later k = omega (arith, split)

    now_is : x ≡ y → length (ones_to ridge lists x) + length (ones_in ridge x (get_or lists x []))
        ≤ length (ones_to ridge lists (suc y))
    now_is e = rw e (omega (arith, split))
