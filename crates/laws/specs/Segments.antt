-- Segments of a list: runs of stores and copies (`sets`, `paste` of lib.Seq), parts and parts put back, a list over the
-- front of another, and the turns of loops that copy.
-- What lib.Seq lacks of take, drop, set, get_or and append. Leans on the library's lists alone. Assumes nothing.
use Rattle.std.specs.Prelude.{◌≡◌, refl, List, [], ◌∷◌, ◌++◌, ◌⊎◌, ℕ, zero, suc, ◌+◌, ◌-◌, ◌≤◌, ◌<◌, length, get_or}
use Rattle.std.specs.Prelude.{set, take, replicate}
use Rattle.std.proofs.Common.{sym, ◌∙◌, append_assoc, inl, inr, ⊎_elim, add-suc, suc-add, add-one, arith, length-append}
use Rattle.std.proofs.Common.{length-drop, length-set, take-append-drop, drop-drop, drop-cons, get_or-take, get_or-drop}
use Rattle.std.proofs.Common.{drop-set-lt, take-suc-set, length-take-le, take-take}
use Rattle.std.proofs.Math.Path.{ap}
use Rattle.std.proofs.Math.ListN.{drop, get_or-append}
use Rattle.std.proofs.lemmas.List.Edits.{sets, sets-eq, drop-paste}
use Rattle.std.proofs.lemmas.List.{take-append-le, set-append_left, take-set-le, drop-set-add}
use Rattle.std.proofs.Math.Seq.{paste, paste-zero, paste-suc, append_snoc, take-set-lt, take_at, drop_at, take-nil}

-- ---- two numbers

pub le_or_lt : (a b : ℕ) → (a ≤ b) ⊎ (b < a)
le_or_lt zero b = inl (omega arith)
le_or_lt (suc a) zero = inr (omega arith)
le_or_lt (suc a) (suc b) = ⊎_elim (λ h. inl (omega arith)) (λ h. inr (omega arith)) (le_or_lt a b)

module _ {A : Type 0} where
  -- ---- a run of stores

  -- what lies before the run
  pub take_sets_le : (vs l : List A) (n i : ℕ) → n ≤ i → take n (sets l i vs) ≡ take n l
  take_sets_le [] l n i h = refl
  take_sets_le (a ∷ vs) l n i h = take_sets_le vs (set l i a) n (suc i) (omega arith) ∙ take-set-le n l i a h

  -- what lies behind it
  pub drop_sets_ge : (vs l : List A) (n i : ℕ) → i + length vs ≤ n → drop n (sets l i vs) ≡ drop n l
  drop_sets_ge [] l n i h = refl
  drop_sets_ge (a ∷ vs) l n i h = drop_sets_ge vs (set l i a) n (suc i) (omega arith)
      ∙ drop-set-lt n l i a (omega arith)

  -- a run within the front, and within the rest
  pub take_sets_ge : (vs l : List A) (n i : ℕ) → i + length vs ≤ n → take n (sets l i vs) ≡ sets (take n l) i vs
  take_sets_ge [] l n i h = refl
  take_sets_ge (a ∷ vs) l n i h =
      take_sets_ge vs (set l i a) n (suc i) (omega arith)
      ∙ ap (λ (r : List A). sets r (suc i) vs) (take-set-lt n l i a (omega arith))

  pub drop_sets_add : (vs l : List A) (n i : ℕ) → drop n (sets l (n + i) vs) ≡ sets (drop n l) i vs
  drop_sets_add [] l n i = refl
  drop_sets_add (a ∷ vs) l n i =
      ap (λ (k : ℕ). drop n (sets (set l (n + i) a) k vs)) (sym (add-suc n i))
      ∙ (drop_sets_add vs (set l (n + i) a) n (suc i) ∙ ap (λ (r : List A). sets r (suc i) vs) (drop-set-add n l i a))

  -- the run itself
  pub part_sets : (vs l : List A) (i : ℕ) → i + length vs ≤ length l → take (length vs) (drop i (sets l i vs)) ≡ vs
  part_sets vs l i h =
      ap (λ (r : List A). take (length vs) (drop i r))
      (sets-eq vs l i h ∙ append_assoc (take i l) vs (drop (i + length vs) l))
      ∙ (ap (take (length vs)) (drop_at (take i l) (vs ++ drop (i + length vs) l) i (length-take-le i l (omega arith)))
      ∙ take_at vs (drop (i + length vs) l) (length vs) refl)

  -- a run at the very front, and behind a list
  pub sets_front : (vs l : List A) → length vs ≤ length l → sets l 0 vs ≡ vs ++ drop (length vs) l
  sets_front vs l h =
      let e : 0 + length vs ≡ length vs = omega arith in
      sets-eq vs l 0 (omega arith) ∙ ap (λ (k : ℕ). vs ++ drop k l) e

  pub sets_behind : (l r vs : List A) (i : ℕ) → sets (l ++ r) (length l + i) vs ≡ l ++ sets r i vs
  sets_behind [] r vs i = ap (λ (k : ℕ). sets r k vs) (omega arith)
  sets_behind (x ∷ l) r vs i = ap (λ (k : ℕ). sets (x ∷ (l ++ r)) k vs) (suc-add (length l) i)
      ∙ (under x vs (l ++ r) (length l + i) ∙ ap (λ (k : List A). x ∷ k) (sets_behind l r vs i))
    where
      under : (x : A) (vs l : List A) (i : ℕ) → sets (x ∷ l) (suc i) vs ≡ x ∷ sets l i vs
      under x [] l i = refl
      under x (a ∷ vs) l i = under x vs (set l i a) (suc i)

  -- two runs, one behind the other, are one
  pub sets_append : (us vs l : List A) (i : ℕ) → sets (sets l i us) (i + length us) vs ≡ sets l i (us ++ vs)
  sets_append [] vs l i = ap (λ (k : ℕ). sets l k vs) (omega arith)
  sets_append (a ∷ us) vs l i =
      ap (λ (k : ℕ). sets (sets (set l i a) (suc i) us) k vs) (omega arith) ∙ sets_append us vs (set l i a) (suc i)

  -- ---- parts

  pub cons_same : {x y : A} {xs ys : List A} → x ≡ y → xs ≡ ys → x ∷ xs ≡ y ∷ ys
  cons_same p q = cc

  pub drop_take : (m n : ℕ) (l : List A) → m ≤ n → drop m (take n l) ≡ take (n - m) (drop m l)
  drop_take zero n l h = let e : n ≡ n - 0 = omega arith in ap (λ (k : ℕ). take k l) e
  drop_take (suc m) zero l h = absurd (omega arith)
  drop_take (suc m) (suc n) [] h = sym (take-nil (suc n - suc m))
  drop_take (suc m) (suc n) (x ∷ l) h = let e : n - m ≡ suc n - suc m = omega arith in drop_take m n l (omega arith)
      ∙ ap (λ (k : ℕ). take k (drop m l)) e

  -- a part of the front is that part of the whole
  pub part_take : (n : ℕ) (l : List A) (a m : ℕ) → a + m ≤ n → take m (drop a (take n l)) ≡ take m (drop a l)
  part_take n l a m h = ap (take m) (drop_take a n l (omega arith)) ∙ take-take m (n - a) (drop a l) (omega arith)

  pub drop_replicate : (m n : ℕ) (a : A) → drop m (replicate n a) ≡ replicate (n - m) a
  drop_replicate zero n a = let e : n ≡ n - 0 = omega arith in ap (λ (k : ℕ). replicate k a) e
  drop_replicate (suc m) zero a = let e : 0 ≡ 0 - suc m = omega arith in ap (λ (k : ℕ). replicate k a) e
  drop_replicate (suc m) (suc n) a = let e : n - m ≡ suc n - suc m = omega arith in drop_replicate m n a
      ∙ ap (λ (k : ℕ). replicate k a) e

  -- ---- a copy (`paste` of lib.Seq): what it leaves alone, and one element more at its front

  pub get_d_paste_before : (d : List A) (at : ℕ) (s : List A) (n j : ℕ) (z : A) → at ≤ length d → j < at
      → get_or (paste d at s n) j z ≡ get_or d j z
  get_d_paste_before d at s n j z h l =
      let t : length (take at d) ≡ at = length-take-le at d h in
      let u : j < length (take at d ++ take n s) = rw (length-append, t) (omega arith) in
      get_or-append (take at d ++ take n s) (drop (at + n) d) z j u
      ∙ (get_or-append (take at d) (take n s) z j (omega arith) ∙ get_or-take at d j z l)

  pub get_d_paste_behind : (d : List A) (at : ℕ) (s : List A) (n j : ℕ) (z : A) → at ≤ length d → n ≤ length s
      → at + n ≤ j → get_or (paste d at s n) j z ≡ get_or d j z
  get_d_paste_behind d at s n j z h k l =
      let e : at + n + (j - (at + n)) ≡ j = omega arith in
      ap (λ (i : ℕ). get_or (paste d at s n) i z) (sym e)
      ∙ (sym (get_or-drop (at + n) (paste d at s n) (j - (at + n)) z)
      ∙ (ap (λ (r : List A). get_or r (j - (at + n)) z) (drop-paste d at s n h k)
      ∙ (get_or-drop (at + n) d (j - (at + n)) z ∙ ap (λ (i : ℕ). get_or d i z) e)))

  pub paste_front : (d : List A) (at : ℕ) (s : List A) (n : ℕ) (a : A) → at < length d → set (paste d (suc at) s n) at a
      ≡ paste d at (a ∷ s) (suc n)
  paste_front d at s n a h =
      let t : length (take (suc at) d) ≡ suc at = length-take-le (suc at) d h in
      let u : at < length (take (suc at) d ++ take n s) = rw (length-append, t) (omega arith) in
      let e : suc at + n ≡ at + suc n = omega arith in
      set-append_left (take (suc at) d ++ take n s) (drop (suc at + n) d) at a u
      ∙ (ap (λ (r : List A). r ++ drop (suc at + n) d)
      (set-append_left (take (suc at) d) (take n s) at a (omega arith)
      ∙ (ap (λ (r : List A). r ++ take n s) (sym (take-set-lt (suc at) d at a (omega arith)) ∙ take-suc-set d at a h)
      ∙ append_snoc (take at d) a (take n s)))
      ∙ ap (λ (k : ℕ). take at d ++ a ∷ take n s ++ drop k d) e)

  -- ---- a part of a list, and the list with another in the part's place: what `&mut s[a..a + n]` lends, and what comes
  -- back

  abbrev pub part : ℕ → ℕ → List A → List A
  part a n s = take n (drop a s)

  abbrev pub placed : ℕ → ℕ → List A → List A → List A
  placed a n s p = take a s ++ (p ++ drop n (drop a s))

  pub part_length : (a n : ℕ) (s : List A) → a + n ≤ length s → length (part a n s) ≡ n
  part_length a n s h = length-take-le n (drop a s) (rw length-drop (omega arith))

  pub placed_length : (a n : ℕ) (s p : List A) → a + n ≤ length s → length p ≡ n → length (placed a n s p) ≡ length s
  placed_length a n s p h e =
      rw (length-append, length-append, length-drop, length-drop, length-take-le a s (omega arith)) (omega arith)

  -- a part of a part
  pub part_part : (b m a n : ℕ) (s : List A) → b + m ≤ n → part b m (part a n s) ≡ part (a + b) m s
  part_part b m a n s h = part_take n (drop a s) b m h ∙ ap (take m) (drop-drop b a s)

  -- the part's own place
  pub part_placed : (a n : ℕ) (s p : List A) → a ≤ length s → length p ≡ n → part a n (placed a n s p) ≡ p
  part_placed a n s p h e =
      ap (take n) (drop_at (take a s) (p ++ drop n (drop a s)) a (length-take-le a s h))
      ∙ take_at p (drop n (drop a s)) n e

  -- what lies before it and behind it
  pub take_placed : (a n : ℕ) (s p : List A) (k : ℕ) → a ≤ length s → k ≤ a → take k (placed a n s p) ≡ take k s
  take_placed a n s p k h l =
      let t : length (take a s) ≡ a = length-take-le a s h in
      take-append-le k (take a s) (p ++ drop n (drop a s)) (omega arith) ∙ take-take k a s l

  pub drop_placed : (a n : ℕ) (s p : List A) (k : ℕ) → a ≤ length s → length p ≡ n → a + n ≤ k → drop k (placed a n s p)
      ≡ drop k s
  drop_placed a n s p k h e l =
      let q : a + (n + (k - (a + n))) ≡ k = omega arith in
      let rest = drop n (drop a s) in
      ap (λ (i : ℕ). drop i (placed a n s p)) (sym q)
      ∙ (sym (drop-drop (n + (k - (a + n))) a (placed a n s p))
      ∙ (ap (drop (n + (k - (a + n)))) (drop_at (take a s) (p ++ rest) a (length-take-le a s h))
      ∙ (sym (drop-drop (k - (a + n)) n (p ++ rest))
      ∙ (ap (drop (k - (a + n))) (drop_at p rest n e)
      ∙ (drop-drop (k - (a + n)) n (drop a s) ∙ (drop-drop (n + (k - (a + n))) a s ∙ ap (λ (i : ℕ). drop i s) q))))))

  -- any other part is as it was
  pub part_placed_off : (a n : ℕ) (s p : List A) (b m : ℕ) → a ≤ length s → length p ≡ n → (b + m ≤ a) ⊎ (a + n ≤ b)
      → part b m (placed a n s p) ≡ part b m s
  part_placed_off a n s p b m h e (inl o) =
      sym (part_take (b + m) (placed a n s p) b m (omega arith))
      ∙ (ap (part b m) (take_placed a n s p (b + m) h o) ∙ part_take (b + m) s b m (omega arith))
  part_placed_off a n s p b m h e (inr o) = ap (take m) (drop_placed a n s p b h e o)

  -- ---- a list over the front of another

  unfoldable pub onto : List A → List A → List A
  onto l s = l ++ drop (length l) s

  pub take_onto : (l s : List A) (n : ℕ) → n ≡ length l → take n (onto l s) ≡ l
  unfolding onto
  take_onto l s n e = take_at l (drop (length l) s) n (sym e)

  pub drop_onto : (l s : List A) (n : ℕ) → n ≡ length l → drop n (onto l s) ≡ drop n s
  unfolding onto
  drop_onto l s n e = drop_at l (drop (length l) s) n (sym e) ∙ ap (λ (k : ℕ). drop k s) (sym e)

  pub onto_length : (l s : List A) → length l ≤ length s → length (onto l s) ≡ length s
  unfolding onto
  onto_length l s h = rw (length-append, length-drop) (omega arith)

  -- the front of a list over itself
  pub onto_front : (n : ℕ) (s : List A) → n ≤ length s → onto (take n s) s ≡ s
  unfolding onto
  onto_front n s h = rw (length-take-le n s h) (take-append-drop n s)

-- ---- the turns of a loop that copies numbers, from either end

-- t with the first i of n elements of `from` at a place
pub record Copied (t : List ℕ) (at : ℕ) (from : List ℕ) (n : ℕ) (s : List ℕ) (i : ℕ) : Type 0 where
  pub is : s ≡ paste t at from i
  pub within : i ≤ n
  pub long : length s ≡ length t

pub copy_start : (t : List ℕ) (at : ℕ) (from : List ℕ) (n : ℕ) → Copied t at from n t 0
copy_start t at from n = record { is = paste-zero t at from; within = omega arith; long = refl }

module _ {t : List ℕ} {at : ℕ} {from : List ℕ} {n : ℕ} {s : List ℕ} {i : ℕ} (r : Copied t at from n s i) where
  pub copy_turn : (v : ℕ) → v ≡ get_or from i 0 → n ≤ length from → at + n ≤ length t → i < n
      → Copied t at from n (set s (at + i) v) (i + 1)
  copy_turn v e f h l = record {
    is = rw (e, r.is, add-one) (paste-suc t at from i 0 (omega arith) (omega arith));
    within = omega arith;
    long = length-set s (at + i) v ∙ r.long;
  }

  pub copy_end : n ≤ i → s ≡ paste t at from n
  copy_end h = let e : i ≡ n = omega (arith, r.within) in r.is ∙ ap (paste t at from) e

-- downwards, what is read lies behind what was written
pub down_turn : {t : List ℕ} {from to n : ℕ} {s : List ℕ} {i : ℕ} → Copied t to (drop from t) n s i → to ≤ from
    → from + n ≤ length t → i < n → Copied t to (drop from t) n (set s (to + i) (get_or s (from + i) 0)) (i + 1)
down_turn {t} {from} {to} {n} {s} {i} r d h l =
    let k = length-drop from t in
    let v : get_or s (from + i) 0 ≡ get_or (drop from t) i 0 =
    ap (λ (x : List ℕ). get_or x (from + i) 0) r.is
    ∙ (get_d_paste_behind t to (drop from t) i (from + i) 0 (omega arith) (omega arith) (omega arith)
    ∙ sym (get_or-drop from t i 0)) in
    copy_turn r (get_or s (from + i) 0) v (omega arith) (omega arith) l

-- upwards: t with the last n - i of the n elements in their places, and what is read lies before what was written
pub record Raised (t : List ℕ) (from to n : ℕ) (s : List ℕ) (i : ℕ) : Type 0 where
  pub is : s ≡ paste t (to + i) (drop (from + i) t) (n - i)
  pub within : i ≤ n
  pub long : length s ≡ length t

pub up_start : (t : List ℕ) (from to n : ℕ) → Raised t from to n t n
up_start t from to n = record {
  is = let e : n - n ≡ 0 = omega arith in rw e (paste-zero t (to + n) (drop (from + n) t));
  within = omega arith;
  long = refl;
}

module _ {t : List ℕ} {from to n : ℕ} {s : List ℕ} {i : ℕ} (r : Raised t from to n s i) where
  up_is : (j : ℕ) → i ≡ suc j → from ≤ to → to + n ≤ length t → set s (to + j) (get_or s (from + j) 0)
      ≡ paste t (to + j) (drop (from + j) t) (n - j)
  up_is j q d h =
      let l = r.within in
      let a : to + i ≡ suc (to + j) = omega arith in
      let b : from + i ≡ suc (from + j) = omega arith in
      let m : suc (n - i) ≡ n - j = omega arith in
      let v : get_or s (from + j) 0 ≡ get_or t (from + j) 0 =
      ap (λ (x : List ℕ). get_or x (from + j) 0) r.is
      ∙ get_d_paste_before t (to + i) (drop (from + i) t) (n - i) (from + j) 0 (omega arith) (omega arith) in
      let f : s ≡ paste t (suc (to + j)) (drop (suc (from + j)) t) (n - i) =
      r.is ∙ (ap (λ (k : ℕ). paste t k (drop (from + i) t) (n - i)) a
      ∙ ap (λ (k : ℕ). paste t (suc (to + j)) (drop k t) (n - i)) b) in
      rw (v, f, ← m, drop-cons t (from + j) 0 (omega arith))
      (paste_front t (to + j) (drop (suc (from + j)) t) (n - i) (get_or t (from + j) 0) (omega arith))

  pub up_turn : 0 < i → from ≤ to → to + n ≤ length t
      → Raised t from to n (set s (to + (i - 1)) (get_or s (from + (i - 1)) 0)) (i - 1)
  up_turn p d h = record {
    is = up_is (i - 1) (omega arith) d h;
    within = omega (arith, r.within);
    long = length-set s (to + (i - 1)) (get_or s (from + (i - 1)) 0) ∙ r.long;
  }

  pub up_end : i ≤ 0 → s ≡ paste t to (drop from t) n
  up_end h =
      let a : to + i ≡ to = omega arith in
      let b : from + i ≡ from = omega arith in
      let m : n - i ≡ n = omega arith in
      r.is ∙ (rw (a, b, m) refl)
