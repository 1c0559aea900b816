-- The walk along pairs, one pair more. Leans on Answers.
use mathlib.Core.Path.{◌≡◌, sym, ap, subst, ◌∙◌}
use mathlib.Core.List.{List, [], ◌∷◌, ◌++◌, flat_map, append-nil}
use Prim.Native.Nat.{ℕ, ◌+◌, ◌<◌}
use lib.ListN.{length, get_or, take, drop, take-append-drop}
use lib.Ieee.{Float}
use Rattle.definitions.specs.Lists.{Pair}
use Rattle.definitions.specs.Vectors.{Vec}
use Rattle.definitions.specs.Orbits.{Row, Limits, point_at}
use Rattle.laws.specs.Lists.{flat_map_append}
use Rattle.laws.specs.Parts.{take_more}
use Rattle.orbits.specs.Workspace.{OrbitsRoom}
use Rattle.orbits.specs.Walks.{Walked, walked_none, walked_append, walked_refused, extensions, keeps_limits}
use Rattle.orbits.specs.Answers.{tuples_of, pair_tuples}
use Rattle.orbits.specs.declared.Progress.{Progress}
use Rattle.std.specs.Prelude.{Result, Ok, Err}
use Rattle.refusals.specs.declared.Refusal.{Refusal}

module _ (tolerance : Float) (most : ℕ) (limits : Limits) (points flat : List Vec) (n more : ℕ) (rows : List Row)
    (bound : ℕ) (state : Progress) (ws : List ℕ) where
  pub walk_start : (l : List Pair) → OrbitsRoom bound state.known state.count ws
      → Walked tolerance most flat rows bound state ws (pair_tuples tolerance limits points flat n more (take 0 l))
      (Ok state) ws
  unfolding pair_tuples flat_map
  walk_start l room = walked_none tolerance most flat rows bound state ws room

  next_pair : (l : List Pair) (k : ℕ) → k < length l
      → pair_tuples tolerance limits points flat n more (take (k + 1) l)
      ≡ pair_tuples tolerance limits points flat n more (take k l)
      ++ tuples_of tolerance limits points flat n more (get_or l k (0, 0))
  unfolding pair_tuples flat_map
  next_pair l k h =
      let f = tuples_of tolerance limits points flat n more in
      ap (flat_map f) (take_more l k (0, 0) h) ∙ (flat_map_append f (take k l) (get_or l k (0, 0) ∷ [])
      ∙ ap (λ (r : List (List Vec)). flat_map f (take k l) ++ r) (append-nil (f (get_or l k (0, 0)))))

  pub walk_turn : (l : List Pair) (k v w : ℕ) (tuple : List Vec) (reached : Progress) (now : List ℕ)
      (next : Result Progress Refusal) (after : List ℕ) → k < length l → get_or l k (0, 0) ≡ (v, w)
      → tuple ≡ point_at flat v ∷ point_at flat w ∷ []
      → Walked tolerance most flat rows bound state ws (pair_tuples tolerance limits points flat n more (take k l))
      (Ok reached) now
      → Walked tolerance most flat rows bound reached now
      (extensions (keeps_limits tolerance limits points v) flat tuple n (w + 1) more) next after
      → Walked tolerance most flat rows bound state ws
      (pair_tuples tolerance limits points flat n more (take (k + 1) l)) next after
  unfolding tuples_of
  walk_turn l k v w tuple reached now next after h e t a b =
      let here : tuples_of tolerance limits points flat n more (get_or l k (0, 0))
      ≡ extensions (keeps_limits tolerance limits points v) flat tuple n (w + 1) more =
      ap (tuples_of tolerance limits points flat n more) e ∙ ap (λ (x : List Vec).
      extensions (keeps_limits tolerance limits points v) flat x n (w + 1) more) (sym t) in
      rw (next_pair l k h, here) (walked_append tolerance most flat rows bound state ws _ reached now _ next after a b)

  -- behind a refusal nothing changes
  pub walk_ends_holds : (l : List Pair) (k : ℕ) (e : Refusal) (now : List ℕ)
      → Walked tolerance most flat rows bound state ws (pair_tuples tolerance limits points flat n more (take k l))
      (Err e) now
      → Walked tolerance most flat rows bound state ws (pair_tuples tolerance limits points flat n more l) (Err e) now
  unfolding pair_tuples
  walk_ends_holds l k e now a =
      let f = tuples_of tolerance limits points flat n more in
      let both : flat_map f (take k l) ++ flat_map f (drop k l)
      ≡ flat_map f l = sym (flat_map_append f (take k l) (drop k l)) ∙ ap (flat_map f) (take-append-drop k l) in
      subst (λ (ts : List (List Vec)). Walked tolerance most flat rows bound state ws ts (Err e) now) both
      (walked_refused tolerance most flat rows bound state ws (flat_map f (take k l)) (flat_map f (drop k l)) e now a)
