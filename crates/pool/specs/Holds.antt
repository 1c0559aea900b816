-- What a region of lists holds, said at once: these closed lists, this open one, so many items in all. Each
-- function's effect, and each reading, is one law. Leans on Pool. Assumes nothing.
use Rattle.std.specs.Prelude.{◌≡◌, refl, List, [], ◌∷◌, ◌++◌, ℕ, ◌+◌, ◌*◌, ◌^◌, ◌≤◌, ◌<◌, length, get_or}
use Rattle.std.proofs.Common.{sym, ap, ◌∙◌}
use Rattle.std.proofs.Math.Nat.{mul-le-mul_left}
use native.Mathlib.Omega.{arith}
use Rattle.definitions.specs.Job.{number_at}
use Rattle.pool.specs.Pool.{base, count, used, start, closed_lists, opened, emptied, pushed, ended, length_at, place_at}
use Rattle.pool.specs.Pool.{Sound, closed_length, list_length, list_item, item_inside, emptied_sound, emptied_closed}
use Rattle.pool.specs.Pool.{emptied_opened, emptied_used, pushed_sound, pushed_closed, pushed_opened, pushed_used}
use Rattle.pool.specs.Pool.{ended_sound, ended_closed, ended_opened, ended_used}

pub record Holds (w most : ℕ) (s : List ℕ) (lists : List (List ℕ)) (open_list : List ℕ) (many : ℕ) : Type 0 where
  pub sound : Sound w most s
  pub lists_are : closed_lists w most s ≡ lists
  pub open_is : opened w most s ≡ open_list
  pub many_are : used s ≡ many

-- `clear`
pub holds_none : (w most : ℕ) (s t : List ℕ) → t ≡ emptied s → base most ≤ length s → Holds w most t [] [] 0
holds_none w most s t e h =
    rw e
    record {
      sound = emptied_sound w most s h;
      lists_are = emptied_closed w most s h;
      open_is = emptied_opened w most s h;
      many_are = emptied_used w most s h;
    }

module _ {w most : ℕ} {s : List ℕ} {lists : List (List ℕ)} {open_list : List ℕ} {many : ℕ}
    (r : Holds w most s lists open_list many) where
  pub holds_count : count s ≡ length lists
  holds_count = sym (closed_length w most s) ∙ ap length r.lists_are

  -- what the functions require
  pub push_room : base most + w * (many + 1) ≤ length s → many + 1 < 4294967296
      → (base most + w * (used s + 1) ≤ length s) × (used s + 1 < 4294967296)
  push_room h f = rw r.many_are (h, f)

  pub end_room : length lists < most → most < 4294967296 → (16 + 4 * count s ≤ length s) × (count s + 1 < 4294967296)
  end_room h f = (omega (arith, holds_count, r.sound.fits), omega (arith, holds_count))

  -- `push_u16`, `push_u32`
  pub holds_push : (v : ℕ) (t : List ℕ) → t ≡ pushed w most s v → base most + w * (many + 1) ≤ length s
      → many + 1 < 4294967296 → v < 256 ^ w → Holds w most t lists (open_list ++ (v ∷ [])) (many + 1)
  holds_push v t e h f small =
      let room = (push_room h f).0 in
      let few = (push_room h f).1 in
      rw e
      record {
        sound = pushed_sound w most s v r.sound room few small;
        lists_are = pushed_closed w most s v r.sound room few small ∙ r.lists_are;
        open_is = pushed_opened w most s v r.sound room few small ∙ ap (λ (l : List ℕ). l ++ (v ∷ [])) r.open_is;
        many_are = pushed_used w most s v r.sound room few small ∙ ap (λ (k : ℕ). k + 1) r.many_are;
      }

  -- `end_list`
  pub holds_end : (t : List ℕ) → t ≡ ended s → length lists < most → most < 4294967296
      → Holds w most t (lists ++ (open_list ∷ [])) [] many
  holds_end t e h f =
      let more : count s < most = omega (arith, holds_count) in
      rw e
      record {
        sound = ended_sound w most s r.sound more f;
        lists_are = ended_closed w most s r.sound more f ∙ (rw (r.lists_are, r.open_is) refl);
        open_is = ended_opened w most s r.sound more f;
        many_are = ended_used w most s r.sound more f ∙ r.many_are;
      }

  -- `list_length`, and `item_u16`, `item_u32`
  pub holds_length : (k : ℕ) → k < length lists → length (get_or lists k []) ≡ length_at s k
  holds_length k h =
      ap (λ (l : List (List ℕ)). length (get_or l k [])) (sym r.lists_are)
      ∙ list_length w most s r.sound k (omega (arith, holds_count))

  module _ (k i : ℕ) (h : k < length lists) (g : i < length (get_or lists k [])) where
    inside : i < length_at s k
    inside = omega (arith, holds_length k h)

    pub holds_item : get_or (get_or lists k []) i 0 ≡ number_at s (place_at w most s k i) w
    holds_item =
        ap (λ (l : List (List ℕ)). get_or (get_or l k []) i 0) (sym r.lists_are)
        ∙ list_item w most s r.sound k (omega (arith, holds_count)) i inside

    -- what reading it requires
    pub item_room : (12 + 4 * k ≤ length s) × (place_at w most s k i + w ≤ length s)
    unfolding place_at
    item_room =
        let n : start s k + i + 1
        ≤ used s = omega (arith, item_inside w most s r.sound k (omega (arith, holds_count)) i inside) in
        let m : w * (start s k + i + 1) ≤ w * used s = mul-le-mul_left w n in
        let e : w * (start s k + i + 1) ≡ w * (start s k + i) + w = omega arith in
        (omega (arith, holds_count, r.sound.few, r.sound.fits), omega (arith, r.sound.fits))
