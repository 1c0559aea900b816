-- Lists of a pool, read one by one, and pools of an area that are laid list by list: from an empty pool on, a list
-- more at each turn. Leans on Areas, Pool and Holds. Assumes nothing.
use Rattle.std.specs.Prelude.{◌≡◌, refl, List, [], ◌∷◌, ℕ, ◌+◌, ◌*◌, ◌-◌, ◌≤◌, ◌<◌, length, get_or}
use Rattle.std.proofs.Common.{sym, ◌∙◌, arith}
use Rattle.definitions.specs.Job.{number_at}
use Rattle.laws.specs.Segments.{placed}
use Rattle.pool.specs.Pool.{count, used, closed_lists, opened, emptied, length_at, place_at, Sound}
use Rattle.pool.specs.Holds.{Holds, holds_length, holds_item, item_room, holds_count}
use Rattle.shares.specs.Areas.{area, flat, Space, Made, AreaEmpty, AreaGrown, area_kept, clear_kept, clear_ready}
use Rattle.shares.specs.Areas.{clear_holds, grown_none, grown_more, grown_ready, grown_all, lists_to, lists_more}
use Rattle.shares.specs.Areas.{lists_long}

-- ---- lists of a pool, read

-- a sound pool holds what it holds
pub own : (w most : ℕ) (s : List ℕ) → Sound w most s → Holds w most s (closed_lists w most s) (opened w most s) (used s)
own w most s h = record { sound = h; lists_are = refl; open_is = refl; many_are = refl }

module _ (w most : ℕ) (s : List ℕ) (sound : Sound w most s) (k : ℕ) (h : k < count s) where
  inside : k < length (closed_lists w most s)
  inside = omega (arith, holds_count (own w most s sound))

  pub length_asks : 16 + 4 * k ≤ length s
  length_asks = omega (arith, sound.few, sound.fits)

  pub length_read : length_at s k ≡ length (get_or (closed_lists w most s) k [])
  length_read = sym (holds_length (own w most s sound) k inside)

  module _ (i : ℕ) (g : i < length (get_or (closed_lists w most s) k [])) where
    pub item_asks : (12 + 4 * k ≤ length s) × (place_at w most s k i + w ≤ length s)
    item_asks = item_room (own w most s sound) k i inside g

    pub item_read : number_at s (place_at w most s k i) w ≡ get_or (get_or (closed_lists w most s) k []) i 0
    item_read = sym (holds_item (own w most s sound) k i inside g)

-- ---- pools laid list by list

module _ {from to w most : ℕ} (s : List ℕ) {items lists : ℕ} (space : Space from to w most (length s) items lists)
    (p : List ℕ) (e : p ≡ emptied (area from to s)) (at : ℕ → List ℕ) where
  pub laid_start : AreaGrown from to w most (placed from (to - from) s p) (placed from (to - from) s p) (lists_to at 0)
  unfolding lists_to
  laid_start = grown_none (clear_ready s space p e)

  module _ {ws : List ℕ} (n : ℕ) (g : AreaGrown from to w most (placed from (to - from) s p) ws (lists_to at n)) where
    pub laid_more : {t : List ℕ} → AreaGrown from to w most ws t (at n ∷ [])
        → AreaGrown from to w most (placed from (to - from) s p) t (lists_to at (n + 1))
    laid_more {t} k = rw (lists_more at n) (grown_more (clear_ready s space p e) g k)

    pub laid_ready : (k : ℕ) → length (flat (lists_to at n)) + k ≤ items → n < lists → AreaEmpty from to w most ws k 1
    laid_ready k h l = grown_ready (clear_ready s space p e) g k 1 h (omega (arith, lists_long at n))

    pub laid_end : Made from to w most s ws (lists_to at n)
    laid_end =
        let k = clear_kept s space p e in
        record { long = g.long ∙ k.0; front = g.front ∙ k.1; pool = grown_all (clear_holds s space p e) g }

    -- an area before it
    pub laid_area : (a b : ℕ) → a ≤ b → b ≤ from → area a b ws ≡ area a b s
    laid_area a b o h = area_kept from a b s ws (g.front ∙ (clear_kept s space p e).1) o h

  pub clear_area : (a b : ℕ) → a ≤ b → b ≤ from → area a b (placed from (to - from) s p) ≡ area a b s
  clear_area a b o h = area_kept from a b s (placed from (to - from) s p) (clear_kept s space p e).1 o h
