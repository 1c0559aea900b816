-- `find` over the numbers of a range from the last one down, said of the numbers themselves; and the last place that
-- is free, found so. Leans on Latest.
use mathlib.Core.Path.{◌≡◌, refl, sym, ap, ◌∙◌, subst}
use mathlib.Core.Bool.{Bool, true, false}
use mathlib.Core.List.{List, [], ◌∷◌}
use mathlib.Core.Logic.{⊎_elim}
use Prim.Native.Nat.{ℕ, zero, suc, ◌+◌, ◌-◌, ◌≤◌, ◌<◌}
use native.Mathlib.Omega.{arith}
use denote.Ref.{Bor}
use denote.Param.Members.{Mut}
use lib.ListN.{length, get_or}
use Rattle.std.specs.Prelude.{Option, Some, None, MatchOption, HoldsAt}
use Rattle.std.specs.Bool.{⊤}
use Rattle.std.specs.Fn.{CalledAt}
use Rattle.std.specs.List.{FoldsTo, AllWithin}
use Rattle.std.specs.Iterator.{YieldsThen, CallableAtEachTurn}
use Rattle.std.specs.Iterator.Adapters.{rev_source, rev_steps}
use Rattle.std.specs.declared.iter.Rev.{Rev}
use Rattle.std.specs.declared.ops.Range.{Range}
use Rattle.std.proofs.iter.Serving.{same, rev_range}
use Rattle.std.proofs.iter.runs.Sources.{nat_range_steps_back}
use Rattle.std.proofs.lemmas.Iterator.{YieldsList, first_from_find}
use Rattle.std.proofs.lemmas.Iterator.Consumers.{YieldsList-from_shown}
use Rattle.definitions.specs.Search.{Table, Facet}
use Rattle.laws.specs.Segments.{le_or_lt}
use Rattle.facets.specs.declared.Areas.{Areas}
use Rattle.facets.specs.Layout.{Inputs, numbers, Uses, used_part}
use Rattle.facets.specs.Frames.{candidates}
use Rattle.candidates.specs.Latest.{last_free, candidate_unused, candidate_used, free_stop, free_found, free_pass}

-- n numbers, the last of them `low`
abbrev down : ℕ → ℕ → List ℕ
down low zero = []
down low (suc n) = (low + n) ∷ down low n

down_length : (low n : ℕ) → length (down low n) ≡ n
down_length low zero = refl
down_length low (suc n) = ap suc (down_length low n)

down_at : (low n k : ℕ) → k < n → get_or (down low n) k 0 + k + 1 ≡ low + n
down_at low zero k h = absurd (omega arith)
down_at low (suc n) zero h = omega arith
down_at low (suc n) (suc k) h = omega (arith, down_at low n k (omega arith))

-- a range that is read from its end
module _ (low high : ℕ) (s : Rev (Range ℕ)) (is : rev_source s ≡ record { start = low; end = high }) where
  first : (rev_source s).start ≡ low
  first = ap (λ (r : Range ℕ). r.start) is

  behind : (rev_source s).end ≡ high
  behind = ap (λ (r : Range ℕ). r.end) is

  left : Rev (Range ℕ) → List ℕ
  left u = down (rev_source u).start ((rev_source u).end - (rev_source u).start)

  runs : YieldsList (rev_steps nat_range_steps_back) (λ x. x) s (down low (high - low))
  unfolding left
  runs =
      subst
      (λ (r : Range ℕ). YieldsList (rev_steps nat_range_steps_back) (λ x. x) s (down r.start (r.end - r.start))) is
      (YieldsList-from_shown (rev_steps nat_range_steps_back) (λ x. x) left (λ u t p. down_length _ _ ∙ p.1.0)
      (λ u x t p. turn (rev_source u).start (rev_source u).end (rev_source t).start
      (rev_source t).end x p.0 p.1.0 p.1.1 p.1.2) s)
    where
      turn : (a b c d x : ℕ) → c ≡ a → 0 < b - a → x ≡ d → b ≡ d + 1 → down a (b - a) ≡ x ∷ down c (d - c)
      turn a b c d x p q r e =
          let n : b - a ≡ suc (d - a) = omega arith in
          let y : a + (d - a) ≡ x = omega arith in
          rw (p, n) (ap (λ (z : ℕ). z ∷ down a (d - a)) y)

  -- a closure that no call changes may be asked at each number, if it may be asked at those of the range
  pub serves_down : {P : Type 0} {R : P → ℕ → P → Type 0} {Q : P → ℕ → Type 0} {p : P}
      → ((f : P) (x : ℕ) (q : P) → R f x q → q ≡ f) → ((x : ℕ) → low ≤ x → x < high → Q p x)
      → CallableAtEachTurn (rev_steps nat_range_steps_back) R Q s p
  serves_down {R = R} {Q = Q} {p = p} stays h = record {
    at = λ xs t q x u y c e.
        let w = rev_range (rev_steps nat_range_steps_back) (λ a z b k. (omega arith, omega arith)) xs s t y in
        subst (λ k. Q k x) (sym (same R stays xs p q c))
        (h x (omega (arith, w.0, e.0, e.1.0, e.1.1, e.1.2, first)) (omega (arith, w.1, e.1.1, e.1.2, behind)));
  }

  -- the last number from `low` to below `high` at which the test holds, or that it holds at none
  pub last_from_Range : {F : Type 0} {g : Mut F (Bor ℕ × Unit {0}) Bool} (u : Rev (Range ℕ)) (f : F) (r : Option ℕ)
      (Yes No : ℕ → Type 0)
      → (xs : List ℕ) × (j : F) × YieldsThen (rev_steps nat_range_steps_back) s xs r u
      × FoldsTo (λ p x q. CalledAt g p x false q) f xs j × MatchOption r ⊤ (λ x. (h : F) × CalledAt g j x true h)
      → ((x : ℕ) (q : F) → CalledAt g f x true q → Yes x) → ((x : ℕ) (q : F) → CalledAt g f x false q → (q ≡ f) × No x)
      → MatchOption r ((k : ℕ) → low ≤ k → k < high → No k)
      (λ i. (low ≤ i) × (i < high) × Yes i × ((k : ℕ) → i < k → k < high → No k))
  last_from_Range u f r Yes No d yes' no' = by r (first_from_find u f r Yes No d runs yes' no')
    where
      all : List ℕ
      all = down low (high - low)

      above : (n : ℕ) → n ≤ high - low → AllWithin No all 0 n → (k : ℕ) → low ≤ k → k < high → high ≤ k + n → No k
      above n l h k a b m =
          subst No {x = get_or all (high - 1 - k) 0} {y = k} (omega (
            arith,
            down_at low (high - low) (high - 1 - k) (omega arith),
          )) (h (high - 1 - k) 0 (omega arith) (omega arith))

      by : (o : Option ℕ) → MatchOption o (AllWithin No all 0 (length all))
          (λ x. Yes x × (i : ℕ) × (i < length all) × HoldsAt (λ y. y ≡ x) all i × AllWithin No all 0 i)
          → MatchOption o ((k : ℕ) → low ≤ k → k < high → No k)
          (λ i. (low ≤ i) × (i < high) × Yes i × ((k : ℕ) → i < k → k < high → No k))
      by None h =
          let long = down_length low (high - low) in
          λ k a b. above (length all) (omega (arith, long)) h k a b (omega (arith, long))
      by (Some x) h =
          let i : h.1 < high - low = omega (arith, down_length low (high - low), h.2) in
          let at : x + h.1 + 1 ≡ low + (high - low) =
          subst (λ (z : ℕ). z + h.1 + 1 ≡ low + (high - low)) (h.3 0) (down_at low (high - low) h.1 i) in
          (omega arith, omega arith, h.0, λ k a b. above h.1 (omega arith) h.4 k (omega arith) b (omega arith))

-- ---- the last place that is free

-- the flag of the candidate's orbit at a place
module _ (t : Table) (a : Areas) (s : List ℕ) (kind : Option ℕ) where
  abbrev pub flag_at : ℕ → ℕ
  flag_at k = get_or s (a.used + (get_or (candidates t kind) k (0, 0)).0) 0

  module _ (list : List Facet) (low : ℕ) (h : Inputs t a s) (u : Uses a list (used_part a s)) where
    passed : (i n : ℕ) → low ≤ i → i + n ≤ length (numbers t kind) → ((k : ℕ) → i ≤ k → k < i + n → flag_at k ≡ 0 → ⊥)
        → last_free t list kind low (i + n) ≡ last_free t list kind low i
    passed i zero b l taken = let e : i + 0 ≡ i = omega arith in ap (last_free t list kind low) e
    passed i (suc n) b l taken =
        let e : i + suc n - 1 ≡ i + n = omega arith in
        let top = candidate_used t a s kind (i + suc n - 1) _ h (omega arith) refl list u
        (taken (i + suc n - 1) (omega arith) (omega arith)) in
        free_pass t list kind low (i + suc n) (omega arith) top
        ∙ (ap (last_free t list kind low) e ∙ passed i n b (omega arith) (λ k x y. taken k x (omega arith)))

    -- none from i on is free
    down_to : (i high : ℕ) → low ≤ i → i ≤ high → high ≤ length (numbers t kind)
        → ((k : ℕ) → i ≤ k → k < high → flag_at k ≡ 0 → ⊥)
        → last_free t list kind low high ≡ last_free t list kind low i
    down_to i high b m l taken =
        let e : high ≡ i + (high - i) = omega arith in
        ap (last_free t list kind low) e ∙ passed i (high - i) b (omega arith) (λ k x y. taken k x (omega arith))

    pub last_is : (high : ℕ) (r : Option ℕ) → high ≤ length (numbers t kind)
        → MatchOption r ((k : ℕ) → low ≤ k → k < high → flag_at k ≡ 0 → ⊥)
        (λ i. (low ≤ i) × (i < high) × (flag_at i ≡ 0) × ((k : ℕ) → i < k → k < high → flag_at k ≡ 0 → ⊥))
        → r ≡ last_free t list kind low high
    last_is high None l taken =
        ⊎_elim (λ b. sym (free_stop t list kind low high b))
        (λ b. sym (down_to low high (omega arith) (omega arith) l taken
        ∙ free_stop t list kind low low (omega arith))) (le_or_lt high low)
    last_is high (Some i) l m =
        let e : i + 1 - 1 ≡ i = omega arith in
        let free = candidate_unused t a s kind (i + 1 - 1) _ h (omega (arith, m.1)) refl list u (rw e m.2) in
        sym (down_to (i + 1) high (omega (arith, m.0)) (omega (arith, m.1)) l (λ k x y. m.3 k (omega arith) y)
        ∙ (free_found t list kind low (i + 1) (omega (arith, m.0)) free ∙ ap Some e))
