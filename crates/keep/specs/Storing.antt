-- Storing in one area of the workspace: everything beside it stays, and its pool takes items and lists. Leans on
-- parts of lists and on pools.
use Rattle.std.specs.Prelude.{◌≡◌, refl, ◌⊎◌, ℕ, ◌+◌, ◌*◌, ◌-◌, ◌^◌, ◌≤◌, ◌<◌, length, get_or, take, drop}
use Rattle.std.proofs.Common.{sym, ap, ◌∙◌, inl, inr, mul-le-mul_left, arith, length-append, length-drop, drop-drop}
use Rattle.std.proofs.Common.{take-take, take_all, length-take-le}
use mathlib.Core.List.{List, [], ◌∷◌, ◌++◌, flat_map, append-nil}
use Rattle.laws.specs.Parts.{take_more}
use Rattle.laws.specs.Lists.{flat_map_append}
use Rattle.laws.specs.Segments.{part, placed, part_take, part_length, part_placed, placed_length, take_placed}
use Rattle.laws.specs.Segments.{drop_placed}
use Rattle.words.specs.Words.{put, put_length, take_put, drop_put}
use Rattle.pool.specs.Pool.{base, count, used, pushed, ended, pushed_length, ended_length}
use Rattle.pool.specs.Holds.{Holds, holds_count, holds_push, holds_end, push_room, end_room}
use Rattle.layout.specs.Keeps.{Lists, joined}

-- ---- beside an area

-- t is s but for n bytes from a place on
pub record Beside (a n : ℕ) (s t : List ℕ) : Type 0 where
  pub long : length t ≡ length s
  pub front : take a t ≡ take a s
  pub behind : drop (a + n) t ≡ drop (a + n) s

pub beside_self : (a n : ℕ) (s : List ℕ) → Beside a n s s
beside_self a n s = record { long = refl; front = refl; behind = refl }

-- one step behind another, each in a part of the bytes
pub beside_both : {b m a n : ℕ} {s t u : List ℕ} → Beside a n s t → Beside b m t u → a ≤ b → b + m ≤ a + n
    → Beside a n s u
beside_both {b} {m} {a} {n} {s} {t} {u} p q h k =
    let e : b + m + (a + n - (b + m)) ≡ a + n = omega arith in
    let rest : (r : List ℕ) → drop (a + n - (b + m)) (drop (b + m) r)
    ≡ drop (a + n) r = λ r. drop-drop (a + n - (b + m)) (b + m) r ∙ ap (λ (i : ℕ). drop i r) e in
    record {
      long = q.long ∙ p.long;
      front = sym (take-take a b u h) ∙ (ap (take a) q.front ∙ (take-take a b t h ∙ p.front));
      behind = sym (rest u) ∙ (ap (drop (a + n - (b + m))) q.behind ∙ (rest t ∙ p.behind));
    }

-- less is said of more bytes
pub beside_wider : {b m a n : ℕ} {s t : List ℕ} → Beside b m s t → a ≤ b → b + m ≤ a + n → Beside a n s t
beside_wider {b} {m} {a} {n} {s} {t} q h k = beside_both (beside_self a n s) q h k

-- what lies before or behind is as it was
pub beside_take : {a n : ℕ} {s t : List ℕ} → Beside a n s t → (k : ℕ) → k ≤ a → take k t ≡ take k s
beside_take {a} {n} {s} {t} q k h = sym (take-take k a t h) ∙ (ap (take k) q.front ∙ take-take k a s h)

pub beside_drop : {a n : ℕ} {s t : List ℕ} → Beside a n s t → (k : ℕ) → a + n ≤ k → drop k t ≡ drop k s
beside_drop {a} {n} {s} {t} q k h =
    let e : a + n + (k - (a + n)) ≡ k = omega arith in
    let rest : (r : List ℕ) → drop (k - (a + n)) (drop (a + n) r) ≡ drop k r = λ r. drop-drop (k - (a + n)) (a + n) r
    ∙ ap (λ (i : ℕ). drop i r) e in
    sym (rest t) ∙ (ap (drop (k - (a + n))) q.behind ∙ rest s)

pub beside_part : {a n : ℕ} {s t : List ℕ} → Beside a n s t → (b m : ℕ) → (b + m ≤ a) ⊎ (a + n ≤ b)
    → part b m t ≡ part b m s
beside_part {a} {n} {s} {t} q b m (inl h) =
    sym (part_take (b + m) t b m (omega arith))
    ∙ (ap (part b m) (beside_take q (b + m) h) ∙ part_take (b + m) s b m (omega arith))
beside_part {a} {n} {s} {t} q b m (inr h) = ap (take m) (beside_drop q b h)

-- a part lent and given back
pub beside_placed : (a n : ℕ) (s p : List ℕ) → a + n ≤ length s → length p ≡ n → Beside a n s (placed a n s p)
beside_placed a n s p h e = record {
  long = placed_length a n s p h e;
  front = take_placed a n s p a (omega arith) (omega arith);
  behind = drop_placed a n s p (a + n) (omega arith) e (omega arith);
}

-- a number written
pub beside_put : (w : ℕ) (s : List ℕ) (at v : ℕ) → Beside at w s (put w s at v)
beside_put w s at v = record {
  long = put_length w s at v;
  front = take_put w s at v at (omega arith);
  behind = drop_put w s at v (at + w) (omega arith);
}

-- ---- one list more in the pool of an area

-- the pool has room for one list more, of so many items
pub record ListRoom (w most a n : ℕ) (s : List ℕ) (items : ℕ) : Type 0 where
  pub inside : a + n ≤ length s
  pub lists : List (List ℕ)
  pub holds : Lists w most (part a n s) lists
  pub few : length lists < most
  pub most_fits : most < 4294967296
  pub fits : base most + w * (length (joined lists) + items) ≤ n
  pub small : length (joined lists) + items < 4294967296

-- t is s with one list more in the pool of the area
pub record Stored (w most a n : ℕ) (s t l : List ℕ) : Type 0 where
  pub beside : Beside a n s t
  pub more : (lists : List (List ℕ)) → Lists w most (part a n s) lists → Lists w most (part a n t) (lists ++ (l ∷ []))

-- t is s with these items in the open list of the pool
pub record Growing (w most a n : ℕ) (s t l : List ℕ) : Type 0 where
  pub beside : Beside a n s t
  pub holds : (lists : List (List ℕ)) → Lists w most (part a n s) lists
      → Holds w most (part a n t) lists l (length (joined lists) + length l)

pub growing_none : (w most a n : ℕ) (s : List ℕ) → Growing w most a n s s []
growing_none w most a n s = record {
  beside = beside_self a n s;
  holds = λ lists h. let e : length (joined lists) ≡ length (joined lists) + 0 = omega arith in rw (← e) h;
}

joined_more : (lists : List (List ℕ)) (l : List ℕ)
    → length (joined (lists ++ (l ∷ []))) ≡ length (joined lists) + length l
unfolding flat_map
joined_more lists l =
    ap length (flat_map_append (λ (m : List ℕ). m) lists (l ∷ [])
    ∙ ap (λ (m : List ℕ). joined lists ++ m) (append-nil l))
    ∙ length-append (joined lists) l

-- however many lists it is said to hold, there are as many
same_many : {w most : ℕ} {s : List ℕ} {ls ms : List (List ℕ)} {l m : List ℕ} {i j : ℕ} → Holds w most s ls l i
    → Holds w most s ms m j → (length ms ≡ length ls) × (j ≡ i)
same_many p q = (ap length (sym q.lists_are ∙ p.lists_are), sym q.many_are ∙ p.many_are)

module _ {w most a n : ℕ} {s t l : List ℕ} {items : ℕ} (room : ListRoom w most a n s items)
    (g : Growing w most a n s t l) where
  inside_now : a + n ≤ length t
  inside_now = omega (arith, room.inside, g.beside.long)

  pub area_length : length (part a n t) ≡ n
  area_length = part_length a n t inside_now

  own : Holds w most (part a n t) room.lists l (length (joined room.lists) + length l)
  own = g.holds room.lists room.holds

  module _ (h : length l < items) where
    fits_one : base most + w * (length (joined room.lists) + length l + 1) ≤ length (part a n t)
    fits_one =
        let j : length (joined room.lists) + length l + 1 ≤ length (joined room.lists) + items = omega arith in
        let k : w * (length (joined room.lists) + length l + 1)
        ≤ w * (length (joined room.lists) + items) = mul-le-mul_left w j in
        omega (arith, room.fits, area_length)

    few_one : length (joined room.lists) + length l + 1 < 4294967296
    few_one = omega (arith, room.small)

    -- what a push requires
    pub growing_room : (base most + w * (used (part a n t) + 1) ≤ length (part a n t))
        × (used (part a n t) + 1 < 4294967296)
    growing_room = push_room own fits_one few_one

    -- and what it leaves
    pub growing_push : (v : ℕ) (p : List ℕ) → v < 256 ^ w → p ≡ pushed w most (part a n t) v
        → Growing w most a n s (placed a n t p) (l ++ (v ∷ []))
    growing_push v p small e =
        let long : length p ≡ n = ap length e
        ∙ (pushed_length w most (part a n t) v own.sound growing_room.0 growing_room.1 small ∙ area_length) in
        let now : part a n (placed a n t p) ≡ p = part_placed a n t p (omega (arith, inside_now)) long in
        record {
          beside = beside_both g.beside (beside_placed a n t p inside_now long) (omega arith) (omega arith);
          holds = λ lists h.
              let its = g.holds lists h in
              let same = (same_many own its).1 in
              let many : length (joined lists) + length l + 1
              ≡ length (joined lists) + length (l ++ (v ∷ [])) = omega (arith, length-append l (v ∷ [])) in
              rw (now, ← many) (holds_push its v p e (omega (
                arith,
                fits_one,
                ap (λ (k : ℕ). w * (k + 1)) same,
              )) (omega (arith, few_one)) small);
        }

  -- what closing the list requires
  pub growing_end_room : (16 + 4 * count (part a n t) ≤ length (part a n t)) × (count (part a n t) + 1 < 4294967296)
  growing_end_room = end_room own room.few room.most_fits

  -- and what it leaves
  pub growing_end : (p : List ℕ) → p ≡ ended (part a n t) → Stored w most a n s (placed a n t p) l
  growing_end p e =
      let more : count (part a n t) < most = omega (arith, holds_count own, room.few) in
      let long : length p ≡ n = ap length e
      ∙ (ended_length w most (part a n t) own.sound more room.most_fits ∙ area_length) in
      let now : part a n (placed a n t p) ≡ p = part_placed a n t p (omega (arith, inside_now)) long in
      record {
        beside = beside_both g.beside (beside_placed a n t p inside_now long) (omega arith) (omega arith);
        more = λ lists h.
            let its = g.holds lists h in
            let same = (same_many own its).0 in
            rw (now, joined_more lists l) (holds_end its p e (omega (arith, room.few)) room.most_fits);
      }

-- room for fewer items, and room that a step elsewhere leaves
pub room_fewer : {w most a n : ℕ} {s : List ℕ} {items : ℕ} → ListRoom w most a n s items → (less : ℕ) → less ≤ items
    → ListRoom w most a n s less
room_fewer {w} {most} {a} {n} {s} {items} r less h =
    let j : length (joined r.lists) + less ≤ length (joined r.lists) + items = omega arith in
    let k : w * (length (joined r.lists) + less) ≤ w * (length (joined r.lists) + items) = mul-le-mul_left w j in
    record {
      inside = r.inside;
      lists = r.lists;
      holds = r.holds;
      few = r.few;
      most_fits = r.most_fits;
      fits = omega (arith, r.fits);
      small = omega (arith, r.small);
    }

pub room_beside : {w most a n : ℕ} {s : List ℕ} {items b m : ℕ} {t : List ℕ} → ListRoom w most a n s items
    → Beside b m s t → (a + n ≤ b) ⊎ (b + m ≤ a) → ListRoom w most a n t items
room_beside {w} {most} {a} {n} {s} {items} r q o = record {
  inside = omega (arith, r.inside, q.long);
  lists = r.lists;
  holds = rw (beside_part q a n o) r.holds;
  few = r.few;
  most_fits = r.most_fits;
  fits = r.fits;
  small = r.small;
}

-- ---- a list that is pushed item by item

module _ {w most a n : ℕ} {s t : List ℕ} {items : ℕ} (room : ListRoom w most a n s items) (list : List ℕ) (i : ℕ)
    (g : Growing w most a n s t (take i list)) where
  module _ (h : i < length list) (few : length list ≤ items) where
    pub taking_room : (base most + w * (used (part a n t) + 1) ≤ length (part a n t))
        × (used (part a n t) + 1 < 4294967296)
    taking_room = growing_room room g (omega (arith, length-take-le i list (omega arith)))

    pub taking_push : (v : ℕ) (p : List ℕ) → v ≡ get_or list i 0 → v < 256 ^ w → p ≡ pushed w most (part a n t) v
        → Growing w most a n s (placed a n t p) (take (i + 1) list)
    taking_push v p e small q =
        rw (take_more list i 0 h, ← e)
        (growing_push room g (omega (arith, length-take-le i list (omega arith))) v p small q)

  pub taking_end : length list ≤ i → (p : List ℕ) → p ≡ ended (part a n t) → Stored w most a n s (placed a n t p) list
  taking_end h p q = rw (take_all i list h) at (growing_end room g p q)

-- what lies behind the area, lent to the end
pub behind_lent : {w most a n : ℕ} {s t l : List ℕ} → Growing w most a n s t l → (at : ℕ) → a + n ≤ at
    → take (length t - at) (drop at t) ≡ drop at s
behind_lent {w} {most} {a} {n} {s} {t} g at h =
    let l = length-drop at t in
    take_all (length t - at) (drop at t) (omega arith) ∙ beside_drop g.beside at h
