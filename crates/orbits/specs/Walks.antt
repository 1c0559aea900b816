-- A walk along tuples of points: what it leaves in the workspace, and which tuples extend one. Leans on Workspace and
-- Numbers.
use Rattle.std.specs.Prelude.{◌≡◌, Bool, not, length, Float, Result, Ok, Err}
use Rattle.std.proofs.Math.Path.{refl, ap}
use Rattle.std.proofs.Common.{sym, ◌∙◌, add-one, length-append}
use Rattle.std.proofs.Math.Bool.{true, false, cond}
use mathlib.Core.List.{List, [], ◌∷◌, ◌++◌, map, append-nil, append_assoc, map-append}
use Prim.Native.Nat.{ℕ, suc, ◌+◌, ◌-◌, ◌≤◌, ◌<◌}
use native.Mathlib.Omega.{arith}
use Rattle.definitions.specs.Lists.{Pair, keep, all_of, choose, count_from}
use Rattle.definitions.specs.Vectors.{Vec}
use Rattle.definitions.specs.Orbits.{Row, Limits, point_at, breaks_limit}
use Rattle.laws.specs.Lists.{keep_append}
use Rattle.laws.specs.Segments.{cons_same}
use Rattle.orbits.specs.Numbers.{image_numbers, near_number, opens_orbit, with_images, orbits_from, seen_after}
use Rattle.orbits.specs.Numbers.{orbits_append, seen_append, one_closed, one_opened}
use Rattle.orbits.specs.Workspace.{seen_in, OrbitsRoom, HoldsOrbits, Reached, KeepsRoom, Opened}
use Rattle.orbits.specs.declared.Progress.{Progress}
use Rattle.refusals.specs.declared.Refusal.{Refusal}

-- a walk along tuples of points, from a state on
pub record Walked (tolerance : Float) (most : ℕ) (flat : List Vec) (rows : List Row) (bound : ℕ) (state : Progress)
    (ws : List ℕ) (tuples : List (List Vec)) (r : Result Progress Refusal) (after : List ℕ) : Type 0 where
  pub room : KeepsRoom bound r after
  pub reached : (seen : List ℕ) (orbits : List Pair) → HoldsOrbits state.known state.count ws seen orbits
      → Reached bound r after (seen_after tolerance most flat rows seen tuples)
      (orbits ++ orbits_from tolerance most flat rows seen tuples)

-- [5.5] an added vertex that breaks a limit takes its tuples with it
unfoldable pub keeps_limits : Float → Limits → List Vec → ℕ → ℕ → Bool
keeps_limits tolerance limits points v u = not (breaks_limit tolerance limits points v u)

-- a tuple's points with those of `more` vertices, ascending from one on, all of which pass
unfoldable pub extensions : (ℕ → Bool) → List Vec → List Vec → ℕ → ℕ → ℕ → List (List Vec)
extensions passes flat tuple n from more =
    map (λ (joining : List ℕ). tuple ++ map (point_at flat) joining)
    (keep (all_of passes) (choose (count_from from (n - from)) more))

-- ---- walks

module _ (tolerance : Float) (most : ℕ) (flat : List Vec) (rows : List Row) (bound : ℕ) where
  pub walked_none : (state : Progress) (ws : List ℕ) → OrbitsRoom bound state.known state.count ws
      → Walked tolerance most flat rows bound state ws [] (Ok state) ws
  unfolding seen_after orbits_from
  walked_none state ws room = record { room = room; reached = λ seen orbits h. rw append-nil h }

  pub walked_append : (s₀ : Progress) (w₀ : List ℕ) (ts : List (List Vec)) (s₁ : Progress) (w₁ : List ℕ)
      (us : List (List Vec)) (r : Result Progress Refusal) (w₂ : List ℕ)
      → Walked tolerance most flat rows bound s₀ w₀ ts (Ok s₁) w₁
      → Walked tolerance most flat rows bound s₁ w₁ us r w₂
      → Walked tolerance most flat rows bound s₀ w₀ (ts ++ us) r w₂
  walked_append s₀ w₀ ts s₁ w₁ us r w₂ a b = record {
    room = b.room;
    reached = λ seen orbits h.
        rw (
          orbits_append tolerance most flat rows seen ts us,
          seen_append tolerance most flat rows seen ts us,
          ← (append_assoc orbits (orbits_from tolerance most flat rows seen ts)
              (orbits_from tolerance most flat rows (seen_after tolerance most flat rows seen ts) us)),
        )
        (b.reached (seen_after tolerance most flat rows seen ts)
        (orbits ++ orbits_from tolerance most flat rows seen ts) (a.reached seen orbits h));
  }

  -- a walk that is refused ends: the tuples behind change nothing
  pub walked_refused : (state : Progress) (ws : List ℕ) (ts us : List (List Vec)) (e : Refusal) (after : List ℕ)
      → Walked tolerance most flat rows bound state ws ts (Err e) after
      → Walked tolerance most flat rows bound state ws (ts ++ us) (Err e) after
  walked_refused state ws ts us e after a = record {
    room = a.room;
    reached = λ seen orbits h.
        let more = orbits_from tolerance most flat rows (seen_after tolerance most flat rows seen ts) us in
        let known = orbits ++ orbits_from tolerance most flat rows seen ts in
        let k = a.reached seen orbits h in (
          k.0,
          rw (
            orbits_append tolerance most flat rows seen ts us,
            ← (append_assoc orbits (orbits_from tolerance most flat rows seen ts) more),
          ) (omega (arith, k.1, length-append known more)),
        );
  }

  -- a tuple that opens nothing
  pub walked_closed : (state : Progress) (ws : List ℕ) (points : List Vec)
      → OrbitsRoom bound state.known state.count ws
      → opens_orbit tolerance most flat rows (seen_in state.known ws) points ≡ false
      → Walked tolerance most flat rows bound state ws (points ∷ []) (Ok state) ws
  walked_closed state ws points room e = record {
    room = room;
    reached = λ seen orbits h.
        let shut : opens_orbit tolerance most flat rows seen points
        ≡ false = ap (λ (l : List ℕ). opens_orbit tolerance most flat rows l points) (sym h.seen_are) ∙ e in
        let one = one_closed tolerance most flat rows seen points shut in
        rw (one.0, one.1, append-nil) h;
  }

  -- one that opens an orbit
  pub walked_opened : (state : Progress) (ws : List ℕ) (points : List Vec) (r : Result Progress Refusal)
      (after : List ℕ) → opens_orbit tolerance most flat rows (seen_in state.known ws) points ≡ true
      → Opened bound state.known state.count ws (near_number tolerance most flat rows points)
      (image_numbers (length flat) (near_number tolerance most flat rows points) rows) r after
      → Walked tolerance most flat rows bound state ws (points ∷ []) r after
  unfolding with_images
  walked_opened state ws points r after e o = record {
    room = o.room;
    reached = λ seen orbits h.
        let opens : opens_orbit tolerance most flat rows seen points
        ≡ true = ap (λ (l : List ℕ). opens_orbit tolerance most flat rows l points) (sym h.seen_are) ∙ e in
        let one = one_opened tolerance most flat rows seen points opens in
        rw (one.0, one.1) (o.reached seen orbits h);
  }

-- ---- tuples extended

module _ (passes : ℕ → Bool) where
  keep_passing : (x : ℕ) (cs : List (List ℕ)) → passes x ≡ true
      → keep (all_of passes) (map (λ (c : List ℕ). x ∷ c) cs) ≡ map (λ (c : List ℕ). x ∷ c) (keep (all_of passes) cs)
  unfolding keep all_of
  keep_passing x [] e = refl
  keep_passing x (c ∷ cs) e = rw e (go (all_of passes c) (keep_passing x cs e))
    where
      go : (b : Bool) → keep (all_of passes) (map (λ (d : List ℕ). x ∷ d) cs)
          ≡ map (λ (d : List ℕ). x ∷ d) (keep (all_of passes) cs)
          → cond b ((x ∷ c) ∷ keep (all_of passes) (map (λ (d : List ℕ). x ∷ d) cs))
          (keep (all_of passes) (map (λ (d : List ℕ). x ∷ d) cs))
          ≡ map (λ (d : List ℕ). x ∷ d) (cond b (c ∷ keep (all_of passes) cs) (keep (all_of passes) cs))
      go true f = ap (λ (k : List (List ℕ)). (x ∷ c) ∷ k) f
      go false f = f

  keep_failing : (x : ℕ) (cs : List (List ℕ)) → passes x ≡ false
      → keep (all_of passes) (map (λ (c : List ℕ). x ∷ c) cs) ≡ []
  unfolding keep all_of
  keep_failing x [] e = refl
  keep_failing x (c ∷ cs) e = rw e (keep_failing x cs e)

  module _ (flat : List Vec) where
    abbrev joins : List Vec → List ℕ → List Vec
    joins tuple joining = tuple ++ map (point_at flat) joining

    joins_more : (tuple : List Vec) (x : ℕ) (cs : List (List ℕ))
        → map (joins tuple) (map (λ (c : List ℕ). x ∷ c) cs) ≡ map (joins (tuple ++ (point_at flat x ∷ []))) cs
    joins_more tuple x [] = refl
    joins_more tuple x (c ∷ cs) =
        cons_same (sym (append_assoc tuple (point_at flat x ∷ []) (map (point_at flat) c))) (joins_more tuple x cs)

    module _ (n : ℕ) where
      -- by no vertex
      pub extensions_none : (tuple : List Vec) (from : ℕ) → extensions passes flat tuple n from 0 ≡ tuple ∷ []
      unfolding extensions keep all_of choose
      extensions_none tuple from = go (count_from from (n - from))
        where
          go : (l : List ℕ) → map (joins tuple) (keep (all_of passes) (choose l 0)) ≡ tuple ∷ []
          go [] = ap (λ (t : List Vec). t ∷ []) (append-nil tuple)
          go (x ∷ l) = ap (λ (t : List Vec). t ∷ []) (append-nil tuple)

      -- where no vertex is left
      pub extensions_end : (tuple : List Vec) (u k : ℕ) → n ≤ u → extensions passes flat tuple n u (suc k) ≡ []
      unfolding extensions keep choose count_from
      extensions_end tuple u k h = let e : n - u ≡ 0 = omega arith in rw e refl

      from_next : (u : ℕ) → u < n → count_from u (n - u) ≡ u ∷ count_from (u + 1) (n - (u + 1))
      unfolding count_from
      from_next u h =
          let e : n - u ≡ suc (n - (u + 1)) = omega arith in
          ap (count_from u) e ∙ ap (λ (j : ℕ). u ∷ count_from j (n - (u + 1))) (sym (add-one u))

      split : (tuple : List Vec) (u k : ℕ) → u < n
          → extensions passes flat tuple n u (suc k) ≡ map (joins tuple)
          (keep (all_of passes) (map (λ (c : List ℕ). u ∷ c) (choose (count_from (u + 1) (n - (u + 1))) k)))
          ++ extensions passes flat tuple n (u + 1) (suc k)
      unfolding extensions choose
      split tuple u k h =
          let rest = count_from (u + 1) (n - (u + 1)) in
          let first = map (λ (c : List ℕ). u ∷ c) (choose rest k) in
          ap (λ (l : List ℕ). map (joins tuple) (keep (all_of passes) (choose l (suc k)))) (from_next u h)
          ∙ (ap (map (joins tuple)) (keep_append (all_of passes) first (choose rest (suc k)))
          ∙ map-append (joins tuple) (keep (all_of passes) first) (keep (all_of passes) (choose rest (suc k))))

      -- a vertex that fails
      pub extensions_skip : (tuple : List Vec) (u k : ℕ) → u < n → passes u ≡ false
          → extensions passes flat tuple n u (suc k) ≡ extensions passes flat tuple n (u + 1) (suc k)
      extensions_skip tuple u k h e =
          split tuple u k h
          ∙ ap (λ (l : List (List ℕ)). map (joins tuple) l ++ extensions passes flat tuple n (u + 1) (suc k))
          (keep_failing u (choose (count_from (u + 1) (n - (u + 1))) k) e)

      -- a vertex that joins
      pub extensions_take : (tuple : List Vec) (u k : ℕ) → u < n → passes u ≡ true
          → extensions passes flat tuple n u (suc k) ≡ extensions passes flat (tuple ++ (point_at flat u ∷ [])) n
          (u + 1) k ++ extensions passes flat tuple n (u + 1) (suc k)
      unfolding extensions
      extensions_take tuple u k h e =
          split tuple u k h
          ∙ ap (λ (l : List (List Vec)). l ++ extensions passes flat tuple n (u + 1) (suc k))
          (ap (map (joins tuple)) (keep_passing u (choose (count_from (u + 1) (n - (u + 1))) k) e) ∙ first_is)
        where
          first_is : map (joins tuple)
              (map (λ (c : List ℕ). u ∷ c) (keep (all_of passes) (choose (count_from (u + 1) (n - (u + 1))) k)))
              ≡ extensions passes flat (tuple ++ (point_at flat u ∷ [])) n (u + 1) k
          first_is = joins_more tuple u (keep (all_of passes) (choose (count_from (u + 1) (n - (u + 1))) k))
