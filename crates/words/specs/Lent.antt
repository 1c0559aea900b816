-- The rest of a slice from a place on, lent and given back: what `&mut s[to..]` lends, and what the whole is then.
-- Leans on the library's lists alone. Assumes nothing.
use Rattle.std.specs.Prelude.{◌≡◌, refl, List, [], ◌++◌, ℕ, ◌-◌, ◌≤◌, length, take, drop}
use Rattle.std.proofs.Common.{◌∙◌, append-nil, arith, length-append, length-drop, drop_of_length-le, take_all, take_at}
use Rattle.std.proofs.Common.{drop_at, length-take-le}

pub lent_tail : (to : ℕ) (ws : List ℕ) → take (length ws - to) (drop to ws) ≡ drop to ws
lent_tail to ws = let n = length-drop to ws in take_all (length ws - to) (drop to ws) (omega arith)

module _ (to : ℕ) (ws p : List ℕ) (h : to ≤ length ws) (n : length p ≡ length (drop to ws)) where
  abbrev back : List ℕ
  back = take to ws ++ (p ++ drop (length ws - to) (drop to ws))

  pub back_front : take to back ≡ take to ws
  back_front = take_at (take to ws) (p ++ drop (length ws - to) (drop to ws)) to (length-take-le to ws h)

  pub back_tail : drop to back ≡ p
  back_tail =
      let e : drop (length ws - to) (drop to ws)
      ≡ [] = drop_of_length-le (drop to ws) {i = length ws - to} (omega (arith, length-drop to ws)) in
      drop_at (take to ws) (p ++ drop (length ws - to) (drop to ws)) to (length-take-le to ws h)
      ∙ rw (e, append-nil) refl

  pub back_whole : back ≡ take to ws ++ p
  back_whole =
      let e : drop (length ws - to) (drop to ws)
      ≡ [] = drop_of_length-le (drop to ws) {i = length ws - to} (omega (arith, length-drop to ws)) in
      rw (e, append-nil) refl

  pub back_length : length back ≡ length ws
  back_length =
      let e : drop (length ws - to) (drop to ws)
      ≡ [] = drop_of_length-le (drop to ws) {i = length ws - to} (omega (arith, length-drop to ws)) in
      rw (e, append-nil) (length-append (take to ws) p ∙ omega (arith, length-take-le to ws h, length-drop to ws))
