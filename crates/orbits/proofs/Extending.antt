-- The turns of the loop that extends a tuple: what is done, and what is left. Leans on Walks.
use mathlib.Core.Path.{◌≡◌, refl, sym, ap, subst, ◌∙◌}
use mathlib.Core.Bool.{Bool, true, false}
use mathlib.Core.List.{List, [], ◌∷◌, ◌++◌, append-nil, append_assoc}
use Prim.Native.Nat.{ℕ, zero, suc, ◌+◌, ◌-◌, ◌≤◌, ◌<◌}
use native.Mathlib.Omega.{arith}
use lib.Ieee.{Float}
use Rattle.definitions.specs.Vectors.{Vec}
use Rattle.definitions.specs.Orbits.{Row, Limits, point_at, breaks_limit}
use Rattle.orbits.specs.Workspace.{OrbitsRoom}
use Rattle.orbits.specs.Walks.{keeps_limits, Walked, walked_none, walked_append, walked_refused, extensions}
use Rattle.orbits.specs.Walks.{extensions_none, extensions_end, extensions_skip, extensions_take}
use Rattle.std.specs.Prelude.{Ok, Err}
use Rattle.refusals.specs.declared.Refusal.{Refusal}
use Rattle.orbits.specs.declared.Progress.{Progress}

-- some of the tuples were walked along, and the rest is left
pub record Extending (tolerance : Float) (most : ℕ) (flat : List Vec) (rows : List Row) (bound : ℕ) (state : Progress)
    (ws : List ℕ) (all rest : List (List Vec)) (reached : Progress) (now : List ℕ) : Type 0 where
  pub done : List (List Vec)
  pub whole : done ++ rest ≡ all
  pub walked : Walked tolerance most flat rows bound state ws done (Ok reached) now

module _ (tolerance : Float) (most : ℕ) (flat : List Vec) (rows : List Row) (bound : ℕ) (state : Progress)
    (ws : List ℕ) where
  pub extend_start : (all : List (List Vec)) → OrbitsRoom bound state.known state.count ws
      → Extending tolerance most flat rows bound state ws all all state ws
  extend_start all room = record {
    done = [];
    whole = refl;
    walked = walked_none tolerance most flat rows bound state ws room;
  }

  -- more of them are walked along
  pub extend_turn : (all rest ts later : List (List Vec)) (reached : Progress) (now : List ℕ) (next : Progress)
      (after : List ℕ) → Extending tolerance most flat rows bound state ws all rest reached now
      → rest ≡ ts ++ later → Walked tolerance most flat rows bound reached now ts (Ok next) after
      → Extending tolerance most flat rows bound state ws all later next after
  extend_turn all rest ts later reached now next after x e w = record {
    done = x.done ++ ts;
    whole = append_assoc x.done ts later ∙ (ap (λ (l : List (List Vec)). x.done ++ l) (sym e) ∙ x.whole);
    walked = walked_append tolerance most flat rows bound state ws x.done reached now ts (Ok next) after x.walked w;
  }

  -- a refusal on the way ends it
  pub extend_refused : (all rest ts later : List (List Vec)) (reached : Progress) (now : List ℕ) (e : Refusal)
      (after : List ℕ) → Extending tolerance most flat rows bound state ws all rest reached now
      → rest ≡ ts ++ later → Walked tolerance most flat rows bound reached now ts (Err e) after
      → Walked tolerance most flat rows bound state ws all (Err e) after
  extend_refused all rest ts later reached now e after x q w =
      let whole : (x.done ++ ts) ++ later ≡ all = append_assoc x.done ts later
      ∙ (ap (λ (l : List (List Vec)). x.done ++ l) (sym q) ∙ x.whole) in
      let so_far =
      walked_append tolerance most flat rows bound state ws x.done reached now ts (Err e) after x.walked w in
      subst (λ (l : List (List Vec)). Walked tolerance most flat rows bound state ws l (Err e) after) whole
      (walked_refused tolerance most flat rows bound state ws (x.done ++ ts) later e after so_far)

  pub extend_end : (all rest : List (List Vec)) (reached : Progress) (now : List ℕ)
      → Extending tolerance most flat rows bound state ws all rest reached now → rest ≡ []
      → Walked tolerance most flat rows bound state ws all (Ok reached) now
  extend_end all rest reached now x e =
      let done : x.done ≡ all = sym (append-nil x.done)
      ∙ (ap (λ (l : List (List Vec)). x.done ++ l) (sym e) ∙ x.whole) in
      subst (λ (l : List (List Vec)). Walked tolerance most flat rows bound state ws l (Ok reached) now) done x.walked

module _ (passes : ℕ → Bool) (flat tuple : List Vec) (n : ℕ) where
  pub none_added : (from more : ℕ) → more ≡ 0 → extensions passes flat tuple n from more ≡ tuple ∷ []
  none_added from more e = ap (extensions passes flat tuple n from) e ∙ extensions_none passes flat n tuple from

  pub none_left : (u more : ℕ) → 0 < more → n ≤ u → extensions passes flat tuple n u more ≡ []
  none_left u zero p h = absurd (omega arith)
  none_left u (suc k) p h = extensions_end passes flat n tuple u k h

  pub vertex_fails : (u more : ℕ) → 0 < more → u < n → passes u ≡ false
      → extensions passes flat tuple n u more ≡ extensions passes flat tuple n (u + 1) more
  vertex_fails u zero p h e = absurd (omega arith)
  vertex_fails u (suc k) p h e = extensions_skip passes flat n tuple u k h e

  pub vertex_joins : (u more : ℕ) (longer : List Vec) → 0 < more → u < n → passes u ≡ true
      → longer ≡ tuple ++ (point_at flat u ∷ [])
      → extensions passes flat tuple n u more
      ≡ extensions passes flat longer n (u + 1) (more - 1) ++ extensions passes flat tuple n (u + 1) more
  vertex_joins u zero longer p h e l = absurd (omega arith)
  vertex_joins u (suc k) longer p h e l =
      let j : suc k - 1 ≡ k = omega arith in
      extensions_take passes flat n tuple u k h e
      ∙ ap (λ (ts : List (List Vec)). ts ++ extensions passes flat tuple n (u + 1) (suc k))
      (ap (λ (t : List Vec). extensions passes flat t n (u + 1) k) (sym l)
      ∙ ap (extensions passes flat longer n (u + 1)) (sym j))

module _ (tolerance : Float) (limits : Limits) (points : List Vec) (v u : ℕ) where
  pub kept : breaks_limit tolerance limits points v u ≡ false → keeps_limits tolerance limits points v u ≡ true
  unfolding keeps_limits
  kept e = rw e refl

  pub not_kept : breaks_limit tolerance limits points v u ≡ true → keeps_limits tolerance limits points v u ≡ false
  unfolding keeps_limits
  not_kept e = rw e refl
