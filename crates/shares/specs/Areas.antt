-- Pools in areas of a workspace, each written behind all that is read: what joins the open list, and what lists are
-- more. What lies before the area is as it was. Leans on Pool and Holds. Assumes nothing.
use Rattle.std.specs.Prelude.{◌≡◌, take}
use Rattle.std.proofs.Math.Path.{refl, sym, ap}
use Rattle.std.proofs.Common.{◌∙◌, arith, mul-le-mul_left, add-one, take-take}
use mathlib.Core.List.{List, [], ◌∷◌, ◌++◌, flat_map, append_assoc, append-nil}
use Rattle.std.proofs.Math.Logic.{⊎_elim}
use Prim.Native.Nat.{ℕ, zero, suc, ◌+◌, ◌-◌, ◌*◌, ◌^◌, ◌≤◌, ◌<◌}
use Rattle.std.proofs.Math.ListN.{length, get_or, length-append, get_or-append}
use Rattle.laws.specs.Lists.{flat_map_append}
use Rattle.laws.specs.Segments.{part, placed, le_or_lt, part_take, part_length, placed_length, part_placed, take_placed}
use Rattle.pool.specs.Pool.{base, count, used, closed_lists, opened, emptied, pushed, ended, Sound, pushed_length}
use Rattle.pool.specs.Pool.{ended_length}
use Rattle.pool.specs.Holds.{Holds, holds_none, holds_push, holds_end, holds_count}
use Rattle.words.specs.Words.{put_length}

abbrev pub area : ℕ → ℕ → List ℕ → List ℕ
area from to s = part from (to - from) s

-- all lists, one behind another
abbrev pub flat : List (List ℕ) → List ℕ
flat ls = flat_map (λ (l : List ℕ). l) ls

-- a pool in an area, with room for so many items and lists more
pub record AreaRoom (from to w most : ℕ) (s : List ℕ) (items lists : ℕ) : Type 0 where
  pub order : from ≤ to
  pub inside : to ≤ length s
  pub sound : Sound w most (area from to s)
  pub room : base most + w * (used (area from to s) + items) ≤ to - from
  pub small : used (area from to s) + items < 4294967296
  pub few : count (area from to s) + lists ≤ most
  pub most_few : most < 4294967296

-- and with an empty open list
pub record AreaEmpty (from to w most : ℕ) (s : List ℕ) (items lists : ℕ) : Type 0 where
  pub space : AreaRoom from to w most s items lists
  pub empty : opened w most (area from to s) ≡ []

-- items joined the open list
pub record Joined (from to w most : ℕ) (s t new : List ℕ) : Type 0 where
  pub long : length t ≡ length s
  pub front : take from t ≡ take from s
  pub pool : Holds w most (area from to t) (closed_lists w most (area from to s))
      (opened w most (area from to s) ++ new) (used (area from to s) + length new)

-- lists are more, the open list being empty before and after
pub record AreaGrown (from to w most : ℕ) (s t : List ℕ) (new : List (List ℕ)) : Type 0 where
  pub long : length t ≡ length s
  pub front : take from t ≡ take from s
  pub pool : Holds w most (area from to t) (closed_lists w most (area from to s) ++ new) []
      (used (area from to s) + length (flat new))

-- an area before the one that is written
pub area_kept : (from a b : ℕ) (s t : List ℕ) → take from t ≡ take from s → a ≤ b → b ≤ from → area a b t ≡ area a b s
area_kept from a b s t e o h =
    sym (part_take from t a (b - a) (omega arith)) ∙ (ap (area a b) e ∙ part_take from s a (b - a) (omega arith))

pub take_kept : (from a : ℕ) (s t : List ℕ) → take from t ≡ take from s → a ≤ from → take a t ≡ take a s
take_kept from a s t e h = sym (take-take a from t h) ∙ (ap (take a) e ∙ take-take a from s h)

module _ (from to w most : ℕ) (s : List ℕ) (order : from ≤ to) (inside : to ≤ length s) where
  pub area_long : length (area from to s) ≡ to - from
  area_long = part_length from (to - from) s (omega arith)

  module _ (p : List ℕ) (e : length p ≡ to - from) where
    pub back_long : length (placed from (to - from) s p) ≡ length s
    back_long = placed_length from (to - from) s p (omega arith) e

    pub back_front : take from (placed from (to - from) s p) ≡ take from s
    back_front = take_placed from (to - from) s p from (omega arith) (omega arith)

    pub back_area : area from to (placed from (to - from) s p) ≡ p
    back_area = part_placed from (to - from) s p (omega arith) e

-- a pool is emptied
module _ (from to w most : ℕ) (s : List ℕ) (order : from ≤ to) (inside : to ≤ length s)
    (room : base most ≤ to - from) where
  pub emptied_long : length (emptied (area from to s)) ≡ to - from
  unfolding emptied
  emptied_long =
      let e : length (emptied (area from to s)) ≡ length (area from to s) = simp put_length in
      e ∙ area_long from to w most s order inside

  pub cleared : (p : List ℕ) → p ≡ emptied (area from to s)
      → Holds w most (area from to (placed from (to - from) s p)) [] [] 0
  cleared p e =
      let l = area_long from to w most s order inside in
      rw (back_area from to w most s order inside p (ap length e ∙ emptied_long))
      (holds_none w most (area from to s) p e (omega arith))

module _ {from to w most : ℕ} {s : List ℕ} {items lists : ℕ} (r : AreaRoom from to w most s items lists) where
  own_pool : Holds w most (area from to s) (closed_lists w most (area from to s)) (opened w most (area from to s))
      (used (area from to s))
  own_pool = record { sound = r.sound; lists_are = refl; open_is = refl; many_are = refl }

  pub joined_none : Joined from to w most s s []
  joined_none = record {
    long = refl;
    front = refl;
    pool = record {
      sound = r.sound;
      lists_are = refl;
      open_is = sym (append-nil (opened w most (area from to s)));
      many_are = omega arith;
    };
  }

  module _ {t new : List ℕ} (j : Joined from to w most s t new) where
    within : to ≤ length t
    within = omega (arith, j.long, r.inside)

    t_long : length (area from to t) ≡ to - from
    t_long = area_long from to w most t r.order within

    -- what `push_u16`, `push_u32` ask
    module _ (h : length new < items) where
      room_here : base most + w * (used (area from to s) + length new + 1) ≤ length (area from to t)
      room_here =
          let m : w * (used (area from to s) + length new + 1)
          ≤ w * (used (area from to s) + items) = mul-le-mul_left w (omega arith) in
          omega (arith, t_long, r.room)

      small_here : used (area from to s) + length new + 1 < 4294967296
      small_here = omega (arith, r.small)

      pub push_asks : (base most + w * (used (area from to t) + 1) ≤ length (area from to t))
          × (used (area from to t) + 1 < 4294967296)
      push_asks = rw j.pool.many_are (room_here, small_here)

      pub joined_push : (v : ℕ) (p : List ℕ) → v < 256 ^ w → p ≡ pushed w most (area from to t) v
          → Joined from to w most s (placed from (to - from) t p) (new ++ (v ∷ []))
      joined_push v p small e =
          let n : length p ≡ to - from = ap length e
          ∙ (pushed_length w most (area from to t) v j.pool.sound push_asks.0 push_asks.1 small ∙ t_long) in
          let k : used (area from to s) + length new + 1
          ≡ used (area from to s) + length (new ++ (v ∷ [])) = rw length-append (omega arith) in
          record {
            long = back_long from to w most t r.order within p n ∙ j.long;
            front = back_front from to w most t r.order within p n ∙ j.front;
            pool =
                rw (
                  back_area from to w most t r.order within p n,
                  ← append_assoc (opened w most (area from to s)) new (v ∷ []),
                  ← k,
                )
                (holds_push j.pool v p e room_here small_here small);
          }

    pub joined_room : (k : ℕ) → length new + k ≤ items → AreaRoom from to w most t k lists
    joined_room k h =
        let c = holds_count j.pool in
        let d = holds_count own_pool in
        let m : w * (used (area from to t) + k)
        ≤ w * (used (area from to s) + items) = mul-le-mul_left w (omega (arith, j.pool.many_are)) in
        record {
          order = r.order;
          inside = within;
          sound = j.pool.sound;
          room = omega (arith, r.room);
          small = omega (arith, j.pool.many_are, r.small);
          few = omega (arith, r.few);
          most_few = r.most_few;
        }

    pub joined_more : {u more : List ℕ} → Joined from to w most t u more → Joined from to w most s u (new ++ more)
    joined_more {u} {more} k =
        let f = length-append new more in
        record {
          long = k.long ∙ j.long;
          front = k.front ∙ j.front;
          pool = record {
            sound = k.pool.sound;
            lists_are = k.pool.lists_are ∙ j.pool.lists_are;
            open_is =
                k.pool.open_is ∙ (ap (λ (o : List ℕ). o ++ more) j.pool.open_is
                ∙ append_assoc (opened w most (area from to s)) new more);
            many_are = omega (arith, k.pool.many_are, j.pool.many_are);
          };
        }

module _ {from to w most : ℕ} {s : List ℕ} {items lists : ℕ} (ready : AreaEmpty from to w most s items lists) where
  pub grown_none : AreaGrown from to w most s s []
  unfolding flat_map
  grown_none = record {
    long = refl;
    front = refl;
    pool = record {
      sound = ready.space.sound;
      lists_are = sym (append-nil (closed_lists w most (area from to s)));
      open_is = ready.empty;
      many_are = omega arith;
    };
  }

  module _ {t new : List ℕ} (j : Joined from to w most s t new) where
    -- what `end_list` asks
    module _ (h : 0 < lists) where
      free : length (closed_lists w most (area from to s)) < most
      free = omega (arith, ready.space.few, holds_count (own_pool ready.space))

      pub end_asks : (16 + 4 * count (area from to t) ≤ length (area from to t))
          × (count (area from to t) + 1 < 4294967296)
      end_asks =
          let c = holds_count j.pool in
          (omega (arith, free, j.pool.sound.fits), omega (arith, free, ready.space.most_few))

      pub joined_end : (p : List ℕ) → p ≡ ended (area from to t)
          → AreaGrown from to w most s (placed from (to - from) t p) (new ∷ [])
      unfolding flat_map
      joined_end p e =
          let c = holds_count j.pool in
          let n : length p ≡ to - from = ap length e
          ∙ (ended_length w most (area from to t) j.pool.sound (omega (arith, free)) ready.space.most_few
          ∙ t_long ready.space j) in
          let g = holds_end j.pool p e free ready.space.most_few in
          record {
            long = back_long from to w most t ready.space.order (within ready.space j) p n ∙ j.long;
            front = back_front from to w most t ready.space.order (within ready.space j) p n ∙ j.front;
            pool = rw (back_area from to w most t ready.space.order (within ready.space j) p n, append-nil new) record {
              sound = g.sound;
              lists_are =
                  g.lists_are
                  ∙ ap (λ (o : List ℕ). closed_lists w most (area from to s) ++ ((o ++ new) ∷ [])) ready.empty;
              open_is = g.open_is;
              many_are = g.many_are;
            };
          }

  -- lists and then lists
  module _ {t : List ℕ} {new : List (List ℕ)} (g : AreaGrown from to w most s t new) where
    pub grown_ready : (k l : ℕ) → length (flat new) + k ≤ items → length new + l ≤ lists
        → AreaEmpty from to w most t k l
    grown_ready k l h f =
        let c = holds_count g.pool in
        let d = holds_count (own_pool ready.space) in
        let a = length-append (closed_lists w most (area from to s)) new in
        let m : w * (used (area from to t) + k)
        ≤ w * (used (area from to s) + items) = mul-le-mul_left w (omega (arith, g.pool.many_are)) in
        record {
          empty = g.pool.open_is;
          space = record {
            order = ready.space.order;
            inside = omega (arith, g.long, ready.space.inside);
            sound = g.pool.sound;
            room = omega (arith, ready.space.room);
            small = omega (arith, g.pool.many_are, ready.space.small);
            few = omega (arith, ready.space.few);
            most_few = ready.space.most_few;
          };
        }

    pub grown_more : {u : List ℕ} {more : List (List ℕ)} → AreaGrown from to w most t u more
        → AreaGrown from to w most s u (new ++ more)
    grown_more {u} {more} k =
        let h = k.pool in
        let f : length (flat (new ++ more)) ≡ length (flat new) + length (flat more) =
        ap length (flat_map_append (λ (l : List ℕ). l) new more) ∙ length-append (flat new) (flat more) in
        record {
          long = k.long ∙ g.long;
          front = k.front ∙ g.front;
          pool = record {
            sound = h.sound;
            lists_are =
                h.lists_are ∙ (ap (λ (l : List (List ℕ)). l ++ more) g.pool.lists_are
                ∙ append_assoc (closed_lists w most (area from to s)) new more);
            open_is = h.open_is;
            many_are = omega (arith, h.many_are, g.pool.many_are);
          };
        }

-- ---- a pool from its first list on

-- what an area must have for a pool of so many items and lists
pub record Space (from to w most size items lists : ℕ) : Type 0 where
  pub order : from ≤ to
  pub inside : to ≤ size
  pub room : base most + w * items ≤ to - from
  pub small : items < 4294967296
  pub few : lists ≤ most
  pub most_few : most < 4294967296

-- `clear` makes it ready
module _ {from to w most : ℕ} (s : List ℕ) {items lists : ℕ} (h : Space from to w most (length s) items lists)
    (p : List ℕ) (e : p ≡ emptied (area from to s)) where
  clear_long : length p ≡ to - from
  clear_long = ap length e ∙ emptied_long from to w most s h.order h.inside (omega (arith, h.room))

  pub clear_kept : (length (placed from (to - from) s p) ≡ length s)
      × (take from (placed from (to - from) s p) ≡ take from s)
  clear_kept = (
    back_long from to w most s h.order h.inside p clear_long,
    back_front from to w most s h.order h.inside p clear_long,
  )

  pub clear_holds : Holds w most (area from to (placed from (to - from) s p)) [] [] 0
  clear_holds = cleared from to w most s h.order h.inside (omega (arith, h.room)) p e

  pub clear_ready : AreaEmpty from to w most (placed from (to - from) s p) items lists
  clear_ready =
      let c = holds_count clear_holds in
      let z : used (area from to (placed from (to - from) s p)) + items ≡ items = omega (arith, clear_holds.many_are) in
      record {
        empty = clear_holds.open_is;
        space = record {
          order = h.order;
          inside = omega (arith, h.inside, clear_kept.0);
          sound = clear_holds.sound;
          room = rw z h.room;
          small = omega (arith, h.small);
          few = omega (arith, h.few);
          most_few = h.most_few;
        };
      }

-- a pool that grew from none
pub grown_all : {from to w most : ℕ} {s t : List ℕ} {new : List (List ℕ)} → Holds w most (area from to s) [] [] 0
    → AreaGrown from to w most s t new → Holds w most (area from to t) new [] (length (flat new))
grown_all {from} {to} {w} {most} {s} {t} {new} h g = record {
  sound = g.pool.sound;
  lists_are = g.pool.lists_are ∙ ap (λ (l : List (List ℕ)). l ++ new) h.lists_are;
  open_is = g.pool.open_is;
  many_are = omega (arith, g.pool.many_are, h.many_are);
}

-- the items of the first lists, and of one more
pub flat_more : (lists : List (List ℕ)) (k : ℕ) → k < length lists
    → length (flat (take k lists)) + length (get_or lists k []) ≤ length (flat lists)
unfolding flat_map
flat_more [] k h = absurd (omega arith)
flat_more (l ∷ lists) zero h = let e = length-append l (flat lists) in omega arith
flat_more (l ∷ lists) (suc k) h =
    let e = length-append l (flat lists) in
    let f = length-append l (flat (take k lists)) in
    omega (arith, flat_more lists k (omega arith))

-- lists of a bounded length
pub flat_few : (lists : List (List ℕ)) (most : ℕ) → ((k : ℕ) → k < length lists → length (get_or lists k []) ≤ most)
    → length (flat lists) ≤ length lists * most
unfolding flat_map
flat_few [] most h = omega arith
flat_few (l ∷ lists) most h =
    let e = length-append l (flat lists) in
    let f : suc (length lists) * most ≡ length lists * most + most = omega arith in
    omega (arith, h 0 (omega arith), flat_few lists most (λ k i. h (suc k) (omega arith)))

-- ---- lists by their numbers

module _ {A : Type 0} where
  -- the item behind a list, and where there is none
  pub last_at : (l : List A) (v d : A) → get_or (l ++ (v ∷ [])) (length l) d ≡ v
  last_at [] v d = refl
  last_at (x ∷ l) v d = last_at l v d

  pub none_behind : (l : List A) (k : ℕ) (d : A) → length l ≤ k → get_or l k d ≡ d
  none_behind [] k d h = refl
  none_behind (x ∷ l) zero d h = absurd (omega arith)
  none_behind (x ∷ l) (suc k) d h = none_behind l k d (omega arith)

  unfoldable pub lists_to : (ℕ → A) → ℕ → List A
  lists_to at zero = []
  lists_to at (suc n) = lists_to at n ++ (at n ∷ [])

  pub lists_more : (at : ℕ → A) (n : ℕ) → lists_to at (n + 1) ≡ lists_to at n ++ (at n ∷ [])
  unfolding lists_to
  lists_more at n = ap (lists_to at) (add-one n)

  pub lists_long : (at : ℕ → A) (n : ℕ) → length (lists_to at n) ≡ n
  unfolding lists_to
  lists_long at zero = refl
  lists_long at (suc n) = length-append (lists_to at n) (at n ∷ []) ∙ omega (arith, lists_long at n)

  pub lists_at_holds : (at : ℕ → A) (n k : ℕ) (d : A) → k < n → get_or (lists_to at n) k d ≡ at k
  unfolding lists_to
  lists_at_holds at zero k d h = absurd (omega arith)
  lists_at_holds at (suc n) k d h = ⊎_elim
      (λ l. let e : k ≡ length (lists_to at n) = omega (arith, lists_long at n) in
      ap (λ (j : ℕ). get_or (lists_to at n ++ (at n ∷ [])) j d) e
      ∙ (last_at (lists_to at n) (at n) d ∙ ap at (omega (arith, lists_long at n))))
      (λ l. get_or-append (lists_to at n) (at n ∷ []) d k (omega (arith, lists_long at n)) ∙ lists_at_holds at n k d l)
      (le_or_lt n k)

-- a pool made from none: what lies before it is as it was
pub record Made (from to w most : ℕ) (s t : List ℕ) (lists : List (List ℕ)) : Type 0 where
  pub long : length t ≡ length s
  pub front : take from t ≡ take from s
  pub pool : Holds w most (area from to t) lists [] (length (flat lists))
