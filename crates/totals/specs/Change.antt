-- What a facet's codes change in the totals, and what the workspace holds when a facet joined the list or left it.
-- Leans on Layout and Sums.
use Rattle.std.specs.Prelude.{◌≡◌, refl, Bool, true, false, cond, ◌||◌, ℕ, zero, suc, ◌+◌, ◌-◌, ◌*◌, ◌/◌, ◌%◌, ◌≤◌, ◌<◌}
use Rattle.std.specs.Prelude.{ltb, eqb, take, drop}
use Rattle.std.proofs.Math.Path.{sym, ap}
use Rattle.std.proofs.Common.{◌∙◌, inl, inr, add-one, ltb→lt, nltb→le, eqb→eq, length-set, get_or-set_same}
use Rattle.std.proofs.Common.{get_or-set_other, take-suc, length-take-le, take_all, get_or-take, get_or-drop, drop-drop}
use Rattle.std.proofs.Common.{take-take}
use Rattle.std.proofs.Math.Bool.{or-true, or-false, or_assoc}
use mathlib.Core.List.{List, [], ◌∷◌, ◌++◌}
use native.Mathlib.Omega.{arith}
use Rattle.std.proofs.Math.Dec.{eqb_refl}
use Rattle.std.proofs.Math.ListN.{length, get_or, set}
use borrow.Rule.Slice.PartMut.{set_mid_at, put_same}
use Rattle.definitions.specs.Lists.{any_of}
use Rattle.definitions.specs.Job.{number_at}
use Rattle.definitions.specs.Search.{Table}
use Rattle.laws.specs.Bools.{true→holds, holds→true, false→fails, apart}
use Rattle.laws.specs.Segments.{part, placed, part_length, placed_length, part_placed, take_placed, drop_placed}
use Rattle.laws.specs.Segments.{part_placed_off, part_take}
use Rattle.words.specs.Words.{number_at_take}
use Rattle.pool.specs.Pool.{length_at, place_at, list_length, list_item, item_inside}
use Rattle.facets.specs.declared.Areas.{Areas}
use Rattle.facets.specs.Sums.{amount_small}
use Rattle.facets.specs.Layout.{Inputs, AreasFit, facet_of, amount_in, codes, touched_part, totals_part, used_part}
use Rattle.facets.specs.Layout.{frames_part, lists_part, changed, lifted, with_totals, with_use}

-- ---- the totals changed

pub changed_length : (by : ℕ → ℕ → ℕ) (ts cs : List ℕ) → length (changed by ts cs) ≡ length ts
unfolding changed
changed_length by ts [] = refl
changed_length by ts (c ∷ cs) =
    changed_length by (set ts (c / 4) (by (get_or ts (c / 4) 0) (c % 4))) cs
    ∙ length-set ts (c / 4) (by (get_or ts (c / 4) 0) (c % 4))

-- one code more
pub changed_last : (by : ℕ → ℕ → ℕ) (ts cs : List ℕ) (c : ℕ) → changed by ts (cs ++ (c ∷ []))
    ≡ set (changed by ts cs) (c / 4) (by (get_or (changed by ts cs) (c / 4) 0) (c % 4))
unfolding changed
changed_last by ts [] c = refl
changed_last by ts (d ∷ cs) c = changed_last by (set ts (d / 4) (by (get_or ts (d / 4) 0) (d % 4))) cs c

abbrev part_of : ℕ → ℕ → ℕ
part_of ridge c = cond (eqb ridge (c / 4)) (c % 4) 0

-- one code changes its own ridge orbit
one_code : (by : ℕ → ℕ → ℕ) → ((n : ℕ) → by n 0 ≡ n) → (ts : List ℕ) (c ridge : ℕ) → c / 4 < length ts
    → get_or (set ts (c / 4) (by (get_or ts (c / 4) 0) (c % 4))) ridge 0 ≡ by (get_or ts ridge 0) (part_of ridge c)
one_code by z ts c ridge h = go (eqb ridge (c / 4)) refl
  where
    go : (b : Bool) → eqb ridge (c / 4) ≡ b → get_or (set ts (c / 4) (by (get_or ts (c / 4) 0) (c % 4))) ridge 0
        ≡ by (get_or ts ridge 0) (cond b (c % 4) 0)
    go true e =
        let k = eqb→eq ridge (c / 4) (true→holds e) in
        rw k (get_or-set_same ts (c / 4) (by (get_or ts (c / 4) 0) (c % 4)) 0 h)
    go false e =
        get_or-set_other ts (c / 4) ridge (by (get_or ts (c / 4) 0) (c % 4)) 0 (apart ridge (c / 4) e)
        ∙ sym (z (get_or ts ridge 0))

abbrev Inside : ℕ → List ℕ → Type 0
Inside n cs = (i : ℕ) → i < length cs → get_or cs i 0 / 4 < n

pub added_at : (ts cs : List ℕ) (ridge : ℕ) → Inside (length ts) cs
    → get_or (changed ◌+◌ ts cs) ridge 0 ≡ get_or ts ridge 0 + amount_in ridge cs
unfolding changed amount_in
added_at ts [] ridge h = omega arith
added_at ts (c ∷ cs) ridge h =
    let l = length-set ts (c / 4) (get_or ts (c / 4) 0 + c % 4) in
    let e = added_at (set ts (c / 4) (get_or ts (c / 4) 0 + c % 4)) cs ridge (λ i k. let q =
    h (suc i) (omega arith) in omega arith) in
    let f = one_code ◌+◌ (λ n. omega arith) ts c ridge (h 0 (omega arith)) in
    omega arith

pub taken_at_holds : (ts cs : List ℕ) (ridge : ℕ) → Inside (length ts) cs
    → get_or (changed ◌-◌ ts cs) ridge 0 ≡ get_or ts ridge 0 - amount_in ridge cs
unfolding changed amount_in
taken_at_holds ts [] ridge h = omega arith
taken_at_holds ts (c ∷ cs) ridge h =
    let l = length-set ts (c / 4) (get_or ts (c / 4) 0 - c % 4) in
    let e = taken_at_holds (set ts (c / 4) (get_or ts (c / 4) 0 - c % 4)) cs ridge (λ i k. let q =
    h (suc i) (omega arith) in omega arith) in
    let f = one_code ◌-◌ (λ n. omega arith) ts c ridge (h 0 (omega arith)) in
    omega arith

-- the amounts of the first codes are part of all
amount_last : (ridge : ℕ) (cs : List ℕ) (c : ℕ)
    → amount_in ridge (cs ++ (c ∷ [])) ≡ amount_in ridge cs + part_of ridge c
unfolding amount_in
amount_last ridge [] c = omega arith
amount_last ridge (d ∷ cs) c = let e = amount_last ridge cs c in omega arith

amount_first : (ridge : ℕ) (cs : List ℕ) (i : ℕ) → amount_in ridge (take i cs) ≤ amount_in ridge cs
unfolding amount_in
amount_first ridge cs zero = omega arith
amount_first ridge [] (suc i) = omega arith
amount_first ridge (c ∷ cs) (suc i) = let e = amount_first ridge cs i in omega arith

-- the code at a place, and those before it
pub amount_next : (cs : List ℕ) (i : ℕ) → i < length cs
    → amount_in (get_or cs i 0 / 4) (take i cs) + get_or cs i 0 % 4 ≤ amount_in (get_or cs i 0 / 4) cs
amount_next cs i h =
    let r = get_or cs i 0 / 4 in
    let e : amount_in r (take (suc i) cs) ≡ amount_in r (take i cs) + part_of r (get_or cs i 0) =
    ap (amount_in r) (take-suc cs i 0 h) ∙ amount_last r (take i cs) (get_or cs i 0) in
    let f : part_of r (get_or cs i 0) ≡ get_or cs i 0 % 4 = rw (holds→true (eqb r r) (eqb_refl r)) refl in
    let g = amount_first r cs (suc i) in
    omega arith

-- ---- a total lifted above 2

-- one code more
lifted_last : (ts cs : List ℕ) (c : ℕ)
    → lifted ts (cs ++ (c ∷ [])) ≡ lifted ts cs || ltb 2 (get_or (changed ◌+◌ ts cs) (c / 4) 0 + c % 4)
unfolding lifted changed
lifted_last ts [] c = or-false (ltb 2 (get_or ts (c / 4) 0 + c % 4))
lifted_last ts (d ∷ cs) c =
    let n = get_or ts (d / 4) 0 + d % 4 in
    let new = set ts (d / 4) n in
    ap (λ (b : Bool). ltb 2 n || b) (lifted_last new cs c)
    ∙ sym (or_assoc (ltb 2 n) (lifted new cs) (ltb 2 (get_or (changed ◌+◌ new cs) (c / 4) 0 + c % 4)))

-- one total becomes larger
over_set : (ts : List ℕ) (i v : ℕ) → i < length ts → get_or ts i 0 ≤ v
    → any_of (ltb 2) (set ts i v) ≡ any_of (ltb 2) ts || ltb 2 v
unfolding any_of
over_set [] i v h k = absurd (omega arith)
over_set (x ∷ ts) zero v h k = go (ltb 2 x) refl (ltb 2 v) refl
  where
    go : (b : Bool) → ltb 2 x ≡ b → (c : Bool) → ltb 2 v ≡ c → c || any_of (ltb 2) ts ≡ b || any_of (ltb 2) ts || c
    go true p true q = refl
    go true p false q = absurd (let l = ltb→lt 2 x (true→holds p) in let m = nltb→le 2 v (false→fails q) in omega arith)
    go false p true q = sym (or-true (any_of (ltb 2) ts))
    go false p false q = sym (or-false (any_of (ltb 2) ts))
over_set (x ∷ ts) (suc i) v h k =
    ap (λ (b : Bool). ltb 2 x || b) (over_set ts i v (omega arith) k)
    ∙ sym (or_assoc (ltb 2 x) (any_of (ltb 2) ts) (ltb 2 v))

-- a total above 2 was there before, or was lifted
pub over_after : (ts cs : List ℕ) → Inside (length ts) cs
    → any_of (ltb 2) (changed ◌+◌ ts cs) ≡ any_of (ltb 2) ts || lifted ts cs
unfolding lifted changed
over_after ts [] h = sym (or-false (any_of (ltb 2) ts))
over_after ts (c ∷ cs) h =
    let n = get_or ts (c / 4) 0 + c % 4 in
    let new = set ts (c / 4) n in
    let l = length-set ts (c / 4) n in
    over_after new cs (λ i k. let q = h (suc i) (omega arith) in omega arith)
    ∙ (ap (λ (b : Bool). b || lifted new cs) (over_set ts (c / 4) n (h 0 (omega arith)) (omega arith))
    ∙ or_assoc (any_of (ltb 2) ts) (ltb 2 n) (lifted new cs))

-- ---- parts of the workspace

pub placed_placed : (a n : ℕ) (s p q : List ℕ) → a ≤ length s → length p ≡ n
    → placed a n (placed a n s p) q ≡ placed a n s q
placed_placed a n s p q h e =
    let t : take a (placed a n s p) ≡ take a s = take_placed a n s p a h (omega arith) in
    let d : drop n (drop a (placed a n s p)) ≡ drop n (drop a s) =
    drop-drop n a (placed a n s p) ∙ (drop_placed a n s p (a + n) h e (omega arith) ∙ sym (drop-drop n a s)) in
    rw (t, d) refl

pub part_at : (a n : ℕ) (s : List ℕ) (j : ℕ) → j < n → get_or s (a + j) 0 ≡ get_or (part a n s) j 0
part_at a n s j h = sym (get_or-take n (drop a s) j 0 h ∙ get_or-drop a s j 0)

-- ---- a facet's codes in the tables

module _ (t : Table) (a : Areas) (s : List ℕ) (h : Inputs t a s) (x : ℕ) (k : x < a.facets) where
  pub touched_length : length_at (touched_part a s) x ≡ length (codes a (touched_part a s) x)
  unfolding codes
  touched_length =
      let e = h.holds.touched_count in
      sym (list_length 2 a.facets (touched_part a s) h.holds.touched_sound x (omega arith))

  pub touched_room_holds : 16 + 4 * x ≤ length (touched_part a s)
  touched_room_holds = let f = h.holds.touched_sound.fits in omega arith

  pub touched_place : (i : ℕ) → i < length (codes a (touched_part a s) x)
      → (12 + 4 * x ≤ length (touched_part a s))
      × (place_at 2 a.facets (touched_part a s) x i + 2 ≤ length (touched_part a s))
  unfolding place_at
  touched_place i l =
      let e = h.holds.touched_count in
      let n = touched_length in
      let m = item_inside 2 a.facets (touched_part a s) h.holds.touched_sound x (omega arith) i (omega arith) in
      let f = h.holds.touched_sound.fits in
      (omega arith, omega arith)

  pub touched_item : (i : ℕ) → i < length (codes a (touched_part a s) x)
      → number_at (touched_part a s) (place_at 2 a.facets (touched_part a s) x i) 2
      ≡ get_or (codes a (touched_part a s) x) i 0
  unfolding codes
  touched_item i l =
      let e = h.holds.touched_count in
      let n = touched_length in
      sym (list_item 2 a.facets (touched_part a s) h.holds.touched_sound x (omega arith) i (omega arith))

-- ---- the loop over a facet's codes, i of them read

unfoldable pub after_codes : (ℕ → ℕ → ℕ) → Areas → List ℕ → ℕ → ℕ → List ℕ
after_codes by a s x i =
    placed a.totals (a.used - a.totals) s (changed by (totals_part a s) (take i (codes a (touched_part a s) x)))

module _ (by : ℕ → ℕ → ℕ) (a : Areas) (s : List ℕ) (f : AreasFit a (length s)) (x : ℕ) where
  abbrev cs : List ℕ
  cs = codes a (touched_part a s) x

  totals_length : length (totals_part a s) ≡ a.used - a.totals
  totals_length = part_length a.totals (a.used - a.totals) s (omega arith)

  new_length : (i : ℕ) → length (changed by (totals_part a s) (take i cs)) ≡ a.used - a.totals
  new_length i = changed_length by (totals_part a s) (take i cs) ∙ totals_length

  pub codes_none : s ≡ after_codes by a s x 0
  unfolding changed after_codes
  codes_none = sym (put_same a.totals (a.used - a.totals) s)

  pub codes_length : (i : ℕ) → length (after_codes by a s x i) ≡ length s
  unfolding after_codes
  codes_length i =
      placed_length a.totals (a.used - a.totals) s (changed by (totals_part a s) (take i cs)) (omega arith)
      (new_length i)

  pub codes_touched : (i : ℕ) → touched_part a (after_codes by a s x i) ≡ touched_part a s
  unfolding after_codes
  codes_touched i =
      part_placed_off a.totals (a.used - a.totals) s (changed by (totals_part a s) (take i cs)) a.touched
      (a.ones - a.touched) (omega arith) (new_length i) (inl (omega arith))

  -- the total that is read
  pub codes_read : (i ridge : ℕ) → ridge < a.ridges → get_or (after_codes by a s x i) (a.totals + ridge) 0
      ≡ get_or (changed by (totals_part a s) (take i cs)) ridge 0
  unfolding after_codes
  codes_read i ridge h =
      part_at a.totals (a.used - a.totals) (after_codes by a s x i) ridge (omega arith)
      ∙ ap (λ (p : List ℕ). get_or p ridge 0) (part_placed a.totals (a.used - a.totals) s
      (changed by (totals_part a s) (take i cs)) (omega arith) (new_length i))

  -- one code more
  pub codes_next : (i c v : ℕ) → i < length cs → c ≡ get_or cs i 0 → c / 4 < a.ridges
      → v ≡ by (get_or (after_codes by a s x i) (a.totals + c / 4) 0) (c % 4)
      → set (after_codes by a s x i) (a.totals + c / 4) v ≡ after_codes by a s x (suc i)
  unfolding after_codes
  codes_next i c v h e k q =
      let p = changed by (totals_part a s) (take i cs) in
      let m = part_placed a.totals (a.used - a.totals) s p (omega arith) (new_length i) in
      let l = ap length m ∙ new_length i in
      let w : v ≡ by (get_or p (c / 4) 0) (c % 4) = q ∙ ap (λ (n : ℕ). by n (c % 4)) (codes_read i (c / 4) k) in
      sym (set_mid_at a.totals (a.used - a.totals) (c / 4) (after_codes by a s x i) v (omega arith))
      ∙ (placed_placed a.totals (a.used - a.totals) s p (set (totals_part a (after_codes by a s x i)) (c / 4) v)
      (omega arith) (new_length i)
      ∙ ap (λ (r : List ℕ). placed a.totals (a.used - a.totals) s r)
      (ap (λ (r : List ℕ). set r (c / 4) v) m
      ∙ (ap (set p (c / 4)) w
      ∙ (rw e (sym (changed_last by (totals_part a s) (take i cs) (get_or cs i 0)))
      ∙ ap (changed by (totals_part a s)) (sym (take-suc cs i 0 h))))))

-- the code that is read, and the total that it changes
module _ (t : Table) (by : ℕ → ℕ → ℕ) (a : Areas) (s : List ℕ) (h : Inputs t a s) (x : ℕ) (k : x < a.facets)
    (ws : List ℕ) (i : ℕ) (e : ws ≡ after_codes by a s x i) where
  abbrev list : List ℕ
  list = codes a (touched_part a s) x

  pub code_length : length ws ≡ length s
  code_length = ap length e ∙ codes_length by a s h.fits x i

  same_touched : touched_part a ws ≡ touched_part a s
  same_touched = ap (touched_part a) e ∙ codes_touched by a s h.fits x i

  pub code_place : i < length list → (12 + 4 * x ≤ length (touched_part a ws))
      × (place_at 2 a.facets (touched_part a ws) x i + 2 ≤ length (touched_part a ws))
  code_place l = rw same_touched (touched_place t a s h x k i l)

  pub code_is : i < length list
      → number_at (touched_part a ws) (place_at 2 a.facets (touched_part a ws) x i) 2 ≡ get_or list i 0
  code_is l = rw same_touched (touched_item t a s h x k i l)

  pub code_next : (c v : ℕ) → i < length list → c ≡ get_or list i 0 → v ≡ by (get_or ws (a.totals + c / 4) 0) (c % 4)
      → set ws (a.totals + c / 4) v ≡ after_codes by a s x (i + 1)
  code_next c v l q r =
      let z : c / 4 < a.ridges = rw q (h.holds.within x k i l) in
      ap (λ (w : List ℕ). set w (a.totals + c / 4) v) e
      ∙ (codes_next by a s h.fits x i c v l q z
      (r ∙ ap (λ (w : List ℕ). by (get_or w (a.totals + c / 4) 0) (c % 4)) e)
      ∙ ap (after_codes by a s x) (sym (add-one i)))

  pub code_total : (c : ℕ) → i < length list → c ≡ get_or list i 0
      → get_or ws (a.totals + c / 4) 0 ≡ get_or (changed by (totals_part a s) (take i list)) (c / 4) 0
  code_total c l q =
      ap (λ (w : List ℕ). get_or w (a.totals + c / 4) 0) e
      ∙ codes_read by a s h.fits x i (c / 4) (rw q (h.holds.within x k i l))

  pub code_end : length list ≤ i → ws ≡ with_totals by a s x
  unfolding with_totals after_codes
  code_end l =
      e ∙ ap (λ (cs : List ℕ). placed a.totals (a.used - a.totals) s (changed by (totals_part a s) cs))
      (take_all i list l)

-- whether the codes read lift a total
pub lifted_next : (t : Table) (a : Areas) (s : List ℕ) (h : Inputs t a s) (x : ℕ) (k : x < a.facets) (ws : List ℕ)
    (i : ℕ) (e : ws ≡ after_codes ◌+◌ a s x i)
    (b : Bool) (c : ℕ) → i < length (codes a (touched_part a s) x) → c ≡ get_or (codes a (touched_part a s) x) i 0
    → b ≡ lifted (totals_part a s) (take i (codes a (touched_part a s) x))
    → b || ltb 2 (get_or ws (a.totals + c / 4) 0 + c % 4)
    ≡ lifted (totals_part a s) (take (i + 1) (codes a (touched_part a s) x))
lifted_next t a s h x k ws i e b c l q r =
    let ts = totals_part a s in
    let cs = codes a (touched_part a s) x in
    rw (r, code_total t ◌+◌ a s h x k ws i e c l q, q)
    (sym (lifted_last ts (take i cs) (get_or cs i 0))
    ∙ (ap (lifted ts) (sym (take-suc cs i 0 l)) ∙ ap (λ (j : ℕ). lifted ts (take j cs)) (sym (add-one i))))

-- the first codes lie inside, too
first_inside : (n : ℕ) (cs : List ℕ) (i : ℕ) → i < length cs → Inside n cs → Inside n (take i cs)
first_inside n cs i h f j k =
    let l = length-take-le i cs (omega arith) in
    rw (get_or-take i cs j 0 (omega arith)) (f j (omega arith))

module _ (t : Table) (a : Areas) (s : List ℕ) (h : Inputs t a s) (x : ℕ) (k : x < a.facets) (i : ℕ)
    (l : i < length (codes a (touched_part a s) x)) where
  abbrev code : ℕ
  code = get_or (codes a (touched_part a s) x) i 0

  inside : Inside (length (totals_part a s)) (take i (codes a (touched_part a s) x))
  inside =
      let f = h.fits in
      let e = part_length a.totals (a.used - a.totals) s (omega arith) in
      first_inside (length (totals_part a s)) (codes a (touched_part a s) x) i l (λ j m. let w =
      h.holds.within x k j m in omega arith)

  -- an amount more still fits a byte, and what is taken off is there
  pub add_fits : get_or (totals_part a s) (code / 4) 0 ≤ 252
      → get_or (changed ◌+◌ (totals_part a s) (take i (codes a (touched_part a s) x))) (code / 4) 0 + code % 4 ≤ 255
  add_fits q =
      let e = added_at (totals_part a s) (take i (codes a (touched_part a s) x)) (code / 4) inside in
      let n = amount_next (codes a (touched_part a s) x) i l in
      let m = h.holds.amounts x k (code / 4) (h.holds.within x k i l) in
      let z = amount_small t (code / 4) (facet_of t x) in
      omega arith

  pub take_fits : amount_in (code / 4) (codes a (touched_part a s) x) ≤ get_or (totals_part a s) (code / 4) 0
      → code % 4 ≤ get_or (changed ◌-◌ (totals_part a s) (take i (codes a (touched_part a s) x))) (code / 4) 0
  take_fits q =
      let e = taken_at_holds (totals_part a s) (take i (codes a (touched_part a s) x)) (code / 4) inside in
      let n = amount_next (codes a (touched_part a s) x) i l in
      omega arith

-- ---- what the areas hold afterwards

module _ (by : ℕ → ℕ → ℕ) (a : Areas) (s : List ℕ) (f : AreasFit a (length s)) (x v : ℕ) (h : x < a.facets) where
  abbrev s1 : List ℕ
  s1 = with_totals by a s x

  abbrev s2 : List ℕ
  s2 = with_use a s1 x v

  abbrev new : List ℕ
  new = changed by (totals_part a s) (codes a (touched_part a s) x)

  abbrev here : ℕ
  here = number_at s1 (2 * x) 2

  long : length new ≡ a.used - a.totals
  long =
      changed_length by (totals_part a s) (codes a (touched_part a s) x)
      ∙ part_length a.totals (a.used - a.totals) s (omega arith)

  length_1 : length s1 ≡ length s
  unfolding with_totals
  length_1 = placed_length a.totals (a.used - a.totals) s new (omega arith) long

  long_2 : length (set (used_part a s1) here v) ≡ a.lists - a.used
  long_2 = length-set (used_part a s1) here v ∙ part_length a.used (a.lists - a.used) s1 (omega (arith, length_1))

  pub change_length : length s2 ≡ length s
  unfolding with_use
  change_length =
      placed_length a.used (a.lists - a.used) s1 (set (used_part a s1) here v) (omega (arith, length_1)) long_2
      ∙ length_1

  take_1 : take a.totals s1 ≡ take a.totals s
  unfolding with_totals
  take_1 = take_placed a.totals (a.used - a.totals) s new a.totals (omega arith) (omega arith)

  pub change_front : take a.totals s2 ≡ take a.totals s
  unfolding with_use
  change_front =
      take_placed a.used (a.lists - a.used) s1 (set (used_part a s1) here v) a.totals (omega (arith, length_1))
      (omega arith) ∙ take_1

  -- the facet's orbit is read from the tables
  pub here_is : here ≡ number_at s (2 * x) 2
  here_is =
      sym (number_at_take s1 a.totals (2 * x) 2 (omega arith))
      ∙ (ap (λ (r : List ℕ). number_at r (2 * x) 2) take_1 ∙ number_at_take s a.totals (2 * x) 2 (omega arith))

  pub change_frames : frames_part a s2 ≡ frames_part a s
  change_frames =
      sym (part_take a.totals s2 a.frames (a.totals - a.frames) (omega arith))
      ∙ (ap (frames_part a) change_front ∙ part_take a.totals s a.frames (a.totals - a.frames) (omega arith))

  pub change_tables : take a.frames s2 ≡ take a.frames s
  change_tables =
      sym (take-take a.frames a.totals s2 (omega arith))
      ∙ (ap (take a.frames) change_front ∙ take-take a.frames a.totals s (omega arith))

  pub change_totals : totals_part a s2 ≡ new
  unfolding with_use with_totals
  change_totals =
      part_placed_off a.used (a.lists - a.used) s1 (set (used_part a s1) here v) a.totals (a.used - a.totals)
      (omega (arith, length_1)) long_2 (inl (omega arith))
      ∙ part_placed a.totals (a.used - a.totals) s new (omega arith) long

  used_1 : used_part a s1 ≡ used_part a s
  unfolding with_totals
  used_1 =
      part_placed_off a.totals (a.used - a.totals) s new a.used (a.lists - a.used) (omega arith) long
      (inr (omega arith))

  pub change_used : used_part a s2 ≡ set (used_part a s) (number_at s (2 * x) 2) v
  unfolding with_use
  change_used =
      part_placed a.used (a.lists - a.used) s1 (set (used_part a s1) here v) (omega (arith, length_1)) long_2
      ∙ (ap (λ (r : List ℕ). set r here v) used_1 ∙ ap (λ (o : ℕ). set (used_part a s) o v) here_is)

  pub change_lists : lists_part a s2 ≡ lists_part a s
  unfolding with_use with_totals
  change_lists =
      part_placed_off a.used (a.lists - a.used) s1 (set (used_part a s1) here v) a.lists (a.end - a.lists)
      (omega (arith, length_1)) long_2 (inr (omega arith))
      ∙ part_placed_off a.totals (a.used - a.totals) s new a.lists (a.end - a.lists) (omega arith) long
      (inr (omega arith))

  -- the store of the orbit's use
  pub change_use : (orbit : ℕ) → orbit ≡ here → orbit < a.orbits → set s1 (a.used + orbit) v ≡ s2
  unfolding with_use
  change_use orbit e k =
      let l = part_length a.used (a.lists - a.used) s1 (omega (arith, length_1)) in
      sym (set_mid_at a.used (a.lists - a.used) orbit s1 v (omega arith))
      ∙ ap (λ (o : ℕ). placed a.used (a.lists - a.used) s1 (set (used_part a s1) o v)) e

-- ---- the sizes while the codes are counted, and the orbit's place

module _ {t : Table} (by : ℕ → ℕ → ℕ) {a : Areas} {s : List ℕ} (x i : ℕ) (h : Inputs t a s) (k : x < a.facets)
    (w : List ℕ) (e : w ≡ after_codes by a s x i) where
  pub codes_fit : AreasFit a (length w)
  codes_fit = rw (code_length t by a s h x k w i e) h.fits
