-- Marks as numbers: 256 · key + tally, in an ascending list. A key's latest mark is its largest number, since tallies
-- are numbered as they open. Leans on the sorted sets. Assumes nothing.
use Rattle.std.specs.Prelude.{◌≡◌, Bool, true, false, ◌||◌, List, [], ◌∷◌, ◌++◌, map, ◌⊎◌, leb, eqb, length, get_or}
use Rattle.std.proofs.Math.Path.{refl}
use Rattle.std.proofs.Common.{sym, ap, ◌∙◌, inl, inr, arith, lt-ltb, le-ltb, eq-eqb, ne_eqb, leb→le}
use Rattle.std.proofs.Math.Bool.{cond}
use Rattle.std.specs.Prelude.{Option, Some, None}
use Prim.Native.Nat.{ℕ, zero, suc, ◌+◌, ◌*◌, ◌-◌, ◌/◌, ◌%◌, ◌≤◌, ◌<◌}
use Rattle.std.proofs.Math.Decide.{ℕ_discrete}
use Rattle.std.proofs.Math.Dec.{nleb→lt}
use Rattle.std.proofs.lemmas.List.{length-map}
use Rattle.definitions.specs.Lists.{any_of, member_nat, place_of}
use Rattle.laws.specs.Lists.{map_at_holds, place_hit, place_miss}
use Rattle.laws.specs.Segments.{le_or_lt}
use Rattle.sorted.specs.Ascending.{Ascending, insert_new, union, Order, less, same, more, order, up_to, member_union}
use Rattle.sorted.specs.Ascending.{apart}
use Rattle.laws.specs.Merging.{place_le}
use Rattle.sorted.specs.Found.{member_at, member_none}
use Rattle.sorted.specs.Gathering.{added, added_more}

-- the number of a mark
unfoldable pub mark_number : ℕ → ℕ → ℕ
mark_number tally key = 256 * key + tally

-- the largest tally below a bound with which a key is marked
unfoldable pub latest : ℕ → List ℕ → ℕ → Option ℕ
latest zero l key = None
latest (suc k) l key = let earlier = latest k l key in cond (member_nat (256 * key + k) l) (Some k) earlier

-- ---- where the latest mark is

pub latest_none : (n : ℕ) (l : List ℕ) (key : ℕ) → ((k : ℕ) → k < n → member_nat (256 * key + k) l ≡ false)
    → latest n l key ≡ None
unfolding latest
latest_none zero l key h = refl
latest_none (suc n) l key h = rw (h n (omega arith)) (latest_none n l key (λ k q. h k (omega arith)))

pub latest_some : (n : ℕ) (l : List ℕ) (key k : ℕ) → k < n → member_nat (256 * key + k) l ≡ true
    → ((j : ℕ) → k < j → j < n → member_nat (256 * key + j) l ≡ false) → latest n l key ≡ Some k
unfolding latest
latest_some zero l key k h m f = absurd (omega arith)
latest_some (suc n) l key k h m f = go (ℕ_discrete k n) (λ q. latest_some n l key k q m (λ j a b. f j a (omega arith)))
  where
    go : Dec (k ≡ n) → (k < n → latest n l key ≡ Some k)
        → cond (member_nat (256 * key + n) l) (Some n) (latest n l key) ≡ Some k
    go (yes e) ih = rw (← e) (rw m refl)
    go (no e) ih = rw (f n (omega arith) (omega arith)) (ih (omega arith))

-- what it says: a mark with it is there
pub record LatestIs (n : ℕ) (l : List ℕ) (key k : ℕ) : Type 0 where
  pub below : k < n
  pub there : member_nat (256 * key + k) l ≡ true

pub latest_is : (n : ℕ) (l : List ℕ) (key k : ℕ) → latest n l key ≡ Some k → LatestIs n l key k
unfolding latest
latest_is zero l key k e = let z : ◌≡◌ {A = ℕ} 0 1 = cc in absurd (omega arith)
latest_is (suc n) l key k e = go (member_nat (256 * key + n) l) refl e (latest_is n l key k)
  where
    go : (b : Bool) → member_nat (256 * key + n) l ≡ b → cond b (Some n) (latest n l key) ≡ Some k
        → (latest n l key ≡ Some k → LatestIs n l key k) → LatestIs (suc n) l key k
    go true m q ih =
        let z : n ≡ k = cc in
        record { below = omega arith; there = ap (λ (j : ℕ). member_nat (256 * key + j) l) (sym z) ∙ m }
    go false m q ih = let r = ih q in record { below = omega (arith, r.below); there = r.there }

-- ---- found by the place of the next key's first number

module _ (l : List ℕ) (key : ℕ) (a : Ascending l) where
  abbrev end : ℕ
  end = place_of (leb (256 * (key + 1))) l

  -- the numbers before that place are below the next key's, and those from it on are not
  before_end : (i : ℕ) → i < end → i < length l → get_or l i 0 < 256 * (key + 1)
  before_end i h g = nleb→lt (256 * (key + 1)) (get_or l i 0) (place_miss (leb (256 * (key + 1))) 0 l i h g)

  from_end : (i : ℕ) → end ≤ i → i < length l → 256 * (key + 1) ≤ get_or l i 0
  from_end i h g =
      let q = leb→le (256 * (key + 1)) (get_or l end 0) (place_hit (leb (256 * (key + 1))) 0 l (omega arith)) in
      let r = up_to l end i a h g in
      omega arith

  -- a number of this key is at most the last of those before
  not_there : (x : ℕ) → x < 256 * (key + 1) → ((i : ℕ) → i < end → get_or l i 0 < x) → member_nat x l ≡ false
  not_there x small above = member_none x l away
    where
      away : (i : ℕ) → i < length l → get_or l i 0 ≡ x → ⊥
      away i g e = go (le_or_lt end i)
        where
          go : (end ≤ i) ⊎ (i < end) → ⊥
          go (inl h) = let q = from_end i h g in omega arith
          go (inr h) = let q = above i h in omega arith

  pub none_before : end ≡ 0 → latest 256 l key ≡ None
  none_before e = latest_none 256 l key (λ k h. not_there (256 * key + k) (omega arith) (λ i g. absurd (omega arith)))

  module _ (last : ℕ) (some_before : 0 < end) (is_last : get_or l (end - 1) 0 ≡ last) where
    up_to_last : (i : ℕ) → i < end → get_or l i 0 ≤ last
    up_to_last i h =
        let q = place_le (leb (256 * (key + 1))) l in
        let r = up_to l i (end - 1) a (omega arith) (omega arith) in
        omega arith

    last_below : last < 256 * (key + 1)
    last_below =
        let q = place_le (leb (256 * (key + 1))) l in
        let r = before_end (end - 1) (omega arith) (omega arith) in
        omega arith

    pub last_marks : last / 256 ≡ key → latest 256 l key ≡ Some (last % 256)
    last_marks e =
        let q = place_le (leb (256 * (key + 1))) l in
        let w : 256 * key + last % 256 ≡ last = omega arith in
        latest_some 256 l key (last % 256) (omega arith)
        (member_at (256 * key + last % 256) l (end - 1) (omega arith) (is_last ∙ sym w))
        (λ j b c. not_there (256 * key + j) (omega arith) (λ i h. let u = up_to_last i h in omega arith))

    pub last_other : (last / 256 ≡ key → ⊥) → latest 256 l key ≡ None
    last_other n =
        let b = last_below in
        let w : last < 256 * key = small in
        latest_none 256 l key
        (λ k h. not_there (256 * key + k) (omega arith) (λ i g. let u = up_to_last i g in omega arith))
      where
        small : last < 256 * key
        small = go (le_or_lt (256 * key) last)
          where
            go : (256 * key ≤ last) ⊎ (last < 256 * key) → last < 256 * key
            go (inl h) = let b = last_below in let e : last / 256 ≡ key = omega arith in absurd (n e)
            go (inr h) = h

-- ---- marks with one tally

mark_insert : (tally x : ℕ) (l : List ℕ)
    → insert_new (mark_number tally x) (map (mark_number tally) l) ≡ map (mark_number tally) (insert_new x l)
unfolding insert_new mark_number
mark_insert tally x [] = refl
mark_insert tally x (y ∷ l) = go (order x y) (mark_insert tally x l)
  where
    go : Order x y → insert_new (256 * x + tally) (map (mark_number tally) l) ≡ map (mark_number tally) (insert_new x l)
        → insert_new (256 * x + tally) ((256 * y + tally) ∷ map (mark_number tally) l)
        ≡ map (mark_number tally) (insert_new x (y ∷ l))
    go (less h) e = rw (lt-ltb (256 * x + tally) (256 * y + tally) (omega arith), lt-ltb x y h) refl
    go (same h) e =
        rw (
          le-ltb (256 * x + tally) (256 * y + tally) (omega arith),
          eq-eqb (256 * x + tally) (256 * y + tally) (omega arith),
          le-ltb x y (omega arith),
          eq-eqb x y h,
        ) refl
    go (more h) e =
        rw (
          le-ltb (256 * x + tally) (256 * y + tally) (omega arith),
          ne_eqb (256 * x + tally) (256 * y + tally) (λ z. omega arith),
          le-ltb x y (omega arith),
          ne_eqb x y (λ z. omega arith),
        )
        (ap (λ (r : List ℕ). (256 * y + tally) ∷ r) e)

-- one image more
pub mark_more : (tally x : ℕ) (l xs : List ℕ) → l ≡ map (mark_number tally) (added [] xs)
    → insert_new (256 * x + tally) l ≡ map (mark_number tally) (added [] (xs ++ (x ∷ [])))
unfolding mark_number
mark_more tally x l xs e =
    ap (insert_new (256 * x + tally)) e ∙ mark_insert tally x (added [] xs)
    ∙ ap (map (mark_number tally)) (sym (added_more [] xs x))

pub marks_ascend : (tally : ℕ) (l : List ℕ) → Ascending l → Ascending (map (mark_number tally) l)
unfolding mark_number
marks_ascend tally l a = record { rise = go }
  where
    go : (i j : ℕ) → i < j → j < length (map (mark_number tally) l)
        → get_or (map (mark_number tally) l) i 0 < get_or (map (mark_number tally) l) j 0
    go i j h g =
        let n = length-map l (mark_number tally) in
        let p = map_at_holds (mark_number tally) l i 0 0 (omega arith) in
        let q = map_at_holds (mark_number tally) l j 0 0 (omega arith) in
        let r = a.rise i j h (omega arith) in
        omega arith

-- whether a number is among them
pub mark_member : (tally key : ℕ) (l : List ℕ)
    → member_nat (256 * key + tally) (map (mark_number tally) l) ≡ member_nat key l
unfolding member_nat any_of mark_number
mark_member tally key [] = refl
mark_member tally key (y ∷ l) =
    rw (mark_member tally key l) (ap (λ (b : Bool). b || member_nat key l) (go (ℕ_discrete key y)))
  where
    go : Dec (key ≡ y) → eqb (256 * key + tally) (256 * y + tally) ≡ eqb key y
    go (yes e) = rw (eq-eqb (256 * key + tally) (256 * y + tally) (omega arith), eq-eqb key y e) refl
    go (no n) = rw (ne_eqb (256 * key + tally) (256 * y + tally) (λ e. n (omega arith)), ne_eqb key y n) refl

pub mark_other : (tally key k : ℕ) (l : List ℕ) → k < 256 → tally < 256 → (k ≡ tally → ⊥)
    → member_nat (256 * key + k) (map (mark_number tally) l) ≡ false
unfolding member_nat any_of mark_number
mark_other tally key k [] h g n = refl
mark_other tally key k (y ∷ l) h g n =
    rw (ne_eqb (256 * key + k) (256 * y + tally) (λ e. n (omega arith))) (mark_other tally key k l h g n)

-- and a number that is has this tally
pub mark_tally : (tally z : ℕ) (l : List ℕ) → tally < 256 → member_nat z (map (mark_number tally) l) ≡ true
    → z % 256 ≡ tally
mark_tally tally z l h m = go (ℕ_discrete (z % 256) tally)
  where
    go : Dec (z % 256 ≡ tally) → z % 256 ≡ tally
    go (yes e) = e
    go (no n) =
        let w : 256 * (z / 256) + z % 256 ≡ z = omega arith in
        let f = mark_other tally (z / 256) (z % 256) l (omega arith) h n in
        absurd (apart (sym m ∙ (ap (λ (x : ℕ). member_nat x (map (mark_number tally) l)) (sym w) ∙ f)))

-- ---- marks with a new tally, among the marks that are there

pub record TalliesBelow (n : ℕ) (l : List ℕ) : Type 0 where
  pub under : (y : ℕ) → member_nat y l ≡ true → y % 256 < n

module _ (tally : ℕ) (l keys : List ℕ) (small : tally < 256) (below : TalliesBelow tally l) where
  abbrev with_new : List ℕ
  with_new = union l (map (mark_number tally) keys)

  -- no mark with a tally from this on is there
  not_yet : (key k : ℕ) → tally ≤ k → k < 256 → member_nat (256 * key + k) l ≡ false
  not_yet key k h g = go (member_nat (256 * key + k) l) refl
    where
      go : (b : Bool) → member_nat (256 * key + k) l ≡ b → b ≡ false
      go true e =
          let q = below.under (256 * key + k) e in
          let w : (256 * key + k) % 256 ≡ k = omega arith in
          absurd (omega arith)
      go false e = refl

  member_other : (key k : ℕ) → k < 256 → (k ≡ tally → ⊥)
      → member_nat (256 * key + k) with_new ≡ member_nat (256 * key + k) l
  member_other key k h n =
      member_union (256 * key + k) l (map (mark_number tally) keys)
      ∙ ap (λ (b : Bool). b || member_nat (256 * key + k) l) (mark_other tally key k keys h small n)

  member_own : (key : ℕ) → member_nat (256 * key + tally) with_new ≡ member_nat key keys
  member_own key =
      member_union (256 * key + tally) l (map (mark_number tally) keys)
      ∙ (rw (mark_member tally key keys, not_yet key tally (omega arith) small) (or_false (member_nat key keys)))
    where
      or_false : (b : Bool) → (b || false) ≡ b
      or_false true = refl
      or_false false = refl

  latest_under : (n key : ℕ) → n ≤ tally → latest n with_new key ≡ latest n l key
  unfolding latest
  latest_under zero key h = refl
  latest_under (suc n) key h =
      rw (member_other key n (omega arith) (λ e. omega arith), latest_under n key (omega arith)) refl

  latest_over : (n key : ℕ) → tally < n → n ≤ 256
      → latest n with_new key ≡ cond (member_nat key keys) (Some tally) (latest n l key)
  unfolding latest
  latest_over zero key h g = absurd (omega arith)
  latest_over (suc n) key h g = go (ℕ_discrete n tally) (λ q. latest_over n key q (omega arith))
    where
      go : Dec (n ≡ tally)
          → (tally < n → latest n with_new key ≡ cond (member_nat key keys) (Some tally) (latest n l key))
          → cond (member_nat (256 * key + n) with_new) (Some n) (latest n with_new key)
          ≡ cond (member_nat key keys) (Some tally) (cond (member_nat (256 * key + n) l) (Some n) (latest n l key))
      go (yes e) ih =
          rw (e, member_own key, not_yet key tally (omega arith) small, latest_under tally key (omega arith)) refl
      go (no e) ih =
          rw (member_other key n (omega arith) e, not_yet key n (omega arith) (omega arith)) (ih (omega arith))

  -- the new tally where the key is among the new ones, and else what it was
  pub latest_new : (key : ℕ) → latest 256 with_new key ≡ cond (member_nat key keys) (Some tally) (latest 256 l key)
  latest_new key = latest_over 256 key small (omega arith)

  pub tallies_new : TalliesBelow (suc tally) with_new
  tallies_new = record {
    under = λ y m. go y (member_nat y (map (mark_number tally) keys)) refl
        (sym (member_union y l (map (mark_number tally) keys)) ∙ m);
  }
    where
      go : (y : ℕ) (b : Bool) → member_nat y (map (mark_number tally) keys) ≡ b
          → (member_nat y (map (mark_number tally) keys) || member_nat y l) ≡ true → y % 256 < suc tally
      go y true e m = let q = mark_tally tally y keys small e in omega arith
      go y false e m = let q = below.under y (sym (ap (λ (b : Bool). b || member_nat y l) e) ∙ m) in omega arith

  pub new_marks : (z : ℕ) → member_nat z (map (mark_number tally) keys) ≡ true → member_nat z l ≡ false
  new_marks z m = go (member_nat z l) refl
    where
      go : (b : Bool) → member_nat z l ≡ b → b ≡ false
      go true e = let q = below.under z e in let w = mark_tally tally z keys small m in absurd (omega arith)
      go false e = refl
