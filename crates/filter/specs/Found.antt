-- `filter_irc` turn by turn: a list is looked through for the others one by one, and the places that are kept stand
-- in the workspace, each behind the one before. Leans on the definition and on lists in an area.
use Rattle.std.specs.Prelude.{◌≡◌, cond, ◌&&◌, leb, eqb, get_or, take, drop}
use Rattle.std.proofs.Math.Path.{refl, sym, ap, subst}
use Rattle.std.proofs.Common.{◌∙◌, ⊎_elim, ne_eqb, length-append, length-drop}
use Rattle.std.proofs.Math.Bool.{Bool, true, false, not}
use mathlib.Core.List.{List, [], ◌∷◌, ◌++◌, flat_map, append-nil}
use Prim.Native.Nat.{ℕ, ◌+◌, ◌*◌, ◌≤◌, ◌<◌, compare}
use native.Mathlib.Omega.{arith}
use Rattle.std.proofs.Math.Dec.{T}
use Rattle.std.proofs.Math.ListN.{length}
use Rattle.std.proofs.Math.Seq.{sets, length-sets}
use Rattle.definitions.specs.Lists.{any_of, keep, count_from}
use Rattle.definitions.specs.Figures.{walk, first_above}
use Rattle.definitions.specs.Plain.{is_found, finds, finds_other, filter_irc}
use Rattle.laws.specs.Bools.{true→holds, holds→true, fails→false, first, second, apart}
use Rattle.laws.specs.Lists.{any_of_holds, any_witness, keep_append, keep_few, in_count, of_count, count_more}
use Rattle.laws.specs.Lists.{count_length}
use Rattle.laws.specs.Segments.{take_sets_le, sets_append, le_or_lt}
use Rattle.words.specs.Words.{put, bytes_of}
use Rattle.words.specs.Runs.{run, run_length, run_append}
use Rattle.order.specs.declared.Area.{Area}
use Rattle.order.specs.Areas.{Holding, lists_of, lists_length, lists_kept, holds_kept}
use Rattle.order.specs.Numbers.{AllAscending}
use Rattle.labels.specs.Labels.{search_from}
use Rattle.filter.specs.Noted.{Noted}
use Rattle.labels.specs.Begins.{above_later, not_above, walk_below, search_few, search_below}

-- ---- a list that begins above or below another is not found in it

module _ (a b : List ℕ) where
  pub above : first_above compare b a ≡ true → finds compare a b ≡ false
  unfolding finds
  above f = rw f (go (leb (length b) (length a)))
    where
      go : (t : Bool) → t && false && is_found (walk compare a b) ≡ false
      go true = refl
      go false = refl

  below : first_above compare a b ≡ true → finds compare a b ≡ false
  unfolding finds is_found
  below f = rw (walk_below a b f) (go (leb (length b) (length a) && not (first_above compare b a)))
    where
      go : (t : Bool) → t && false ≡ false
      go true = refl
      go false = refl

-- ---- what is asked: lists in order, and room behind them for as many numbers

pub record Filters (area : Area) (at : ℕ) (s : List ℕ) : Type 0 where
  pub holds : Holding area s
  pub ascends : AllAscending (lists_of area s)
  pub few : area.count ≤ 1024
  pub behind : area.bytes + 2 * area.count ≤ at
  pub room : at + 4 * area.count ≤ length s

-- ---- the others, one by one

-- none of the lists before place b, but for a itself, is found in list a
abbrev pub NoneBefore : List (List ℕ) → ℕ → ℕ → Type 0
NoneBefore lists a b = (k : ℕ) → k < b → (a ≡ k → ⊥) → finds compare (get_or lists a []) (get_or lists k []) ≡ false

-- from list a on: none of the lists before the start is found in any of them
pub record Begun (lists : List (List ℕ)) (a start : ℕ) : Type 0 where
  pub few : start ≤ length lists
  pub passed : (j : ℕ) → a ≤ j → j < length lists → (k : ℕ) → k < start
      → finds compare (get_or lists j []) (get_or lists k []) ≡ false

pub begun_first : (lists : List (List ℕ)) → Begun lists 0 0
begun_first lists = record { few = omega arith; passed = λ j h l k below. absurd (omega arith) }

pub begun_next : (lists : List (List ℕ)) (a start : ℕ) → Begun lists a start → Begun lists (a + 1) start
begun_next lists a start b = record { few = b.few; passed = λ j h l k below. b.passed j (omega arith) l k below }

-- where the search for list a starts
pub begun_search : (lists : List (List ℕ)) → AllAscending lists → (a start r : ℕ) → Begun lists a start
    → a < length lists → r ≡ search_from (get_or lists a []) (drop start lists) start → Begun lists a r
begun_search lists up a start r b h e = record {
  few = omega (arith, e, search_few (get_or lists a []) (drop start lists) start, length-drop start lists, b.few);
  passed = λ j i l k inside. ⊎_elim
      (λ behind. below (get_or lists j []) (get_or lists k [])
      (above_later (get_or lists k []) (get_or lists a []) (get_or lists j []) (search_below lists
      (get_or lists a []) (drop start lists) start refl k behind (omega arith)) (not_above lists up a j i l)))
      (λ before. b.passed j i l k before)
      (le_or_lt start k);
}

module _ (lists : List (List ℕ)) (a : ℕ) where
  abbrev test : ℕ → Bool
  test k = not (eqb a k) && finds compare (get_or lists a []) (get_or lists k [])

  pub none_begun : (start : ℕ) → a < length lists → Begun lists a start → NoneBefore lists a start
  none_begun start h b k below other = b.passed a (omega arith) h k below

  -- one place further
  further : (b : ℕ) → NoneBefore lists a b
      → ((a ≡ b → ⊥) → finds compare (get_or lists a []) (get_or lists b []) ≡ false) → NoneBefore lists a (b + 1)
  further b none here k below other = ⊎_elim
      (λ last. let e : b ≡ k = omega arith in subst (λ (n : ℕ). finds compare (get_or lists a []) (get_or lists n [])
      ≡ false) e (here (λ same. other (same ∙ e))))
      (λ before. none k before other)
      (le_or_lt b k)

  pub itself : (b : ℕ) → NoneBefore lists a b → a ≡ b → NoneBefore lists a (b + 1)
  itself b none s = further b none (λ other. absurd (other s))

  pub not_found : (b : ℕ) → NoneBefore lists a b → false ≡ finds compare (get_or lists a []) (get_or lists b [])
      → NoneBefore lists a (b + 1)
  not_found b none f = further b none (λ other. sym f)

  pub is_found_holds : (b : ℕ) → b < length lists → (a ≡ b → ⊥)
      → true ≡ finds compare (get_or lists a []) (get_or lists b []) → true ≡ finds_other compare lists a
  unfolding finds_other
  is_found_holds b h n f =
      let here_is : test b ≡ true = rw (ne_eqb a b n, ← f) refl in
      sym (holds→true (any_of test (count_from 0 (length lists))) (any_of_holds test b (count_from 0 (length lists))
      (in_count 0 (length lists) b (omega arith) (omega arith)) (true→holds here_is)))

  pub none_found : (b : ℕ) → NoneBefore lists a b → length lists ≤ b → false ≡ finds_other compare lists a
  unfolding finds_other
  none_found b none h = sym (go (any_of test (count_from 0 (length lists))) refl)
    where
      no : T (any_of test (count_from 0 (length lists))) → ⊥
      no t =
          let w = any_witness test (count_from 0 (length lists)) t in
          let k = w.0 in
          let inside = (of_count 0 (length lists) k w.1).1 in
          let found = second (not (eqb a k)) (finds compare (get_or lists a []) (get_or lists k [])) w.2 in
          let differs = first (not (eqb a k)) (finds compare (get_or lists a []) (get_or lists k [])) w.2 in
          subst (λ (t : Bool). T t) (none k (omega arith) (apart a k (fails→false (eqb a k) differs))) found

      go : (t : Bool) → any_of test (count_from 0 (length lists)) ≡ t
          → any_of test (count_from 0 (length lists)) ≡ false
      go true e = absurd (no (true→holds e))
      go false e = e

  -- a list that begins above list a: it and every later one are passed over
  pub stopped : AllAscending lists → (b : ℕ) → b < length lists → NoneBefore lists a b
      → first_above compare (get_or lists b []) (get_or lists a []) ≡ true → false ≡ finds_other compare lists a
  stopped up b h none f = none_found (length lists) all (omega arith)
    where
      all : NoneBefore lists a (length lists)
      all k inside other = ⊎_elim
          (λ behind. above (get_or lists a []) (get_or lists k []) (above_later (get_or lists a [])
          (get_or lists b []) (get_or lists k []) f (not_above lists up b k behind inside)))
          (λ before. none k before other)
          (le_or_lt b k)

-- ---- the places that are kept

-- those before place a
unfoldable pub kept_before : List (List ℕ) → ℕ → List ℕ
kept_before lists a = keep (λ (k : ℕ). not (finds_other compare lists k)) (count_from 0 a)

module _ (lists : List (List ℕ)) where
  kept_step : (a : ℕ)
      → kept_before lists (a + 1) ≡ kept_before lists a ++ cond (not (finds_other compare lists a)) (a ∷ []) []
  unfolding kept_before keep
  kept_step a =
      let p : ℕ → Bool = λ k. not (finds_other compare lists k) in
      let e : 0 + a ≡ a = omega arith in
      ap (keep p) (count_more 0 a) ∙ (keep_append p (count_from 0 a) ((0 + a) ∷ []) ∙ rw e refl)

  kept_out : (a : ℕ) → true ≡ finds_other compare lists a → kept_before lists (a + 1) ≡ kept_before lists a
  kept_out a e = kept_step a ∙ rw (← e) (append-nil (kept_before lists a))

  kept_in_holds : (a : ℕ) → false ≡ finds_other compare lists a
      → kept_before lists (a + 1) ≡ kept_before lists a ++ (a ∷ [])
  kept_in_holds a e = kept_step a ∙ rw (← e) refl

  kept_few : (a : ℕ) → length (kept_before lists a) ≤ a
  unfolding kept_before
  kept_few a =
      let f = keep_few (λ (k : ℕ). not (finds_other compare lists k)) (count_from 0 a) in
      let n = count_length 0 a in
      omega arith

-- before place a: what is kept of the places before it is written, so many of them
pub record Going (area : Area) (at : ℕ) (ws₀ : List ℕ) (many : ℕ) (ws : List ℕ) (a : ℕ) : Type 0 where
  pub few : a ≤ area.count
  pub fewer : many ≤ a
  pub many_is : many ≡ length (kept_before (lists_of area ws₀) a)
  pub wrote : ws ≡ sets ws₀ at (run 4 (kept_before (lists_of area ws₀) a))
  pub long : length ws ≡ length ws₀
  pub holds : Holding area ws
  pub same : lists_of area ws ≡ lists_of area ws₀

module _ (area : Area) (at : ℕ) (ws₀ : List ℕ) (ok : Holding area ws₀) (behind : area.bytes + 2 * area.count ≤ at) where
  going : (many : ℕ) (ws : List ℕ) (a : ℕ) → a ≤ area.count → many ≡ length (kept_before (lists_of area ws₀) a)
      → ws ≡ sets ws₀ at (run 4 (kept_before (lists_of area ws₀) a)) → Going area at ws₀ many ws a
  going many ws a h n w =
      let vs = run 4 (kept_before (lists_of area ws₀) a) in
      let l : length ws ≡ length ws₀ = ap length w ∙ length-sets ws₀ at vs in
      let k : take (area.bytes + 2 * area.count) ws ≡ take (area.bytes + 2 * area.count) ws₀ =
      ap (take (area.bytes + 2 * area.count)) w ∙ take_sets_le vs ws₀ (area.bytes + 2 * area.count) at behind in
      record {
        few = h;
        fewer = let f = kept_few (lists_of area ws₀) a in omega arith;
        many_is = n;
        wrote = w;
        long = l;
        holds = holds_kept area.most area.bytes area.count ws₀ ws k l ok;
        same = lists_kept area.most area.bytes area.count ws₀ ws k l;
      }

  pub going_starts : Going area at ws₀ 0 ws₀ 0
  unfolding kept_before keep count_from run flat_map
  going_starts = going 0 ws₀ 0 (omega arith) refl refl

  module _ (many : ℕ) (ws : List ℕ) (a : ℕ) (g : Going area at ws₀ many ws a) (h : a < area.count) where
    pub left_out_holds : true ≡ finds_other compare (lists_of area ws) a → Going area at ws₀ many ws (a + 1)
    left_out_holds e =
        let q = kept_out (lists_of area ws₀) a (e ∙ ap (λ (ls : List (List ℕ)). finds_other compare ls a) g.same) in
        going many ws (a + 1) (omega arith) (g.many_is ∙ ap length (sym q))
        (g.wrote ∙ ap (λ (l : List ℕ). sets ws₀ at (run 4 l)) (sym q))

    pub kept_too : false ≡ finds_other compare (lists_of area ws) a → (t : List ℕ) → t ≡ put 4 ws (at + 4 * many) a
        → Going area at ws₀ (many + 1) t (a + 1)
    unfolding put run flat_map
    kept_too e t p =
        let up = kept_before (lists_of area ws₀) a in
        let q =
        kept_in_holds (lists_of area ws₀) a (e ∙ ap (λ (ls : List (List ℕ)). finds_other compare ls a) g.same) in
        let n : 4 * many ≡ length (run 4 up) = ap (λ (k : ℕ). 4 * k) g.many_is ∙ sym (run_length 4 up) in
        let one : run 4 up ++ bytes_of 4 a ≡ run 4 (up ++ (a ∷ [])) =
        ap (λ (l : List ℕ). run 4 up ++ l) (sym (append-nil (bytes_of 4 a))) ∙ sym (run_append 4 up (a ∷ [])) in
        let many_are : many + 1 ≡ length (up ++ (a ∷ [])) = ap (λ (k : ℕ). k + 1) g.many_is
        ∙ sym (length-append up (a ∷ [])) in
        going (many + 1) t (a + 1) (omega arith) (many_are ∙ ap length (sym q))
        (p ∙ (ap (λ (s : List ℕ). sets s (at + 4 * many) (bytes_of 4 a)) g.wrote
        ∙ (ap (λ (k : ℕ). sets (sets ws₀ at (run 4 up)) (at + k) (bytes_of 4 a)) n
        ∙ (sets_append (run 4 up) (bytes_of 4 a) ws₀ at
        ∙ (ap (sets ws₀ at) one ∙ ap (λ (l : List ℕ). sets ws₀ at (run 4 l)) (sym q))))))

  -- the start of the search for list a, in the workspace as it stands
  module _ (up : AllAscending (lists_of area ws₀)) (many : ℕ) (ws : List ℕ) (a : ℕ) (g : Going area at ws₀ many ws a)
      (start : ℕ) (b : Begun (lists_of area ws₀) a start) (h : a < area.count)
      (r : ℕ) (e : r ≡ search_from (get_or (lists_of area ws) a []) (drop start (lists_of area ws)) start) where
    pub begun : Begun (lists_of area ws₀) a r
    begun =
        let n = lists_length area.most area.bytes area.count ws₀ in
        begun_search (lists_of area ws₀) up a start r b (omega arith) (rw g.same at e)

    -- what `finds_other` is asked
    pub asked : (notes : List ℕ) → area.count ≤ 1024 → Noted (lists_of area ws₀) area.count notes
        → AllAscending (lists_of area ws) × (a < area.count) × Begun (lists_of area ws) a r × (area.count ≤ 1024)
        × Noted (lists_of area ws) area.count notes
    asked notes few n = (
      subst AllAscending (sym g.same) up,
      h,
      subst (λ (ls : List (List ℕ)). Begun ls a r) (sym g.same) begun,
      few,
      subst (λ (ls : List (List ℕ)). Noted ls area.count notes) (sym g.same) n,
    )

  pub all_kept : (many : ℕ) (ws : List ℕ) (a : ℕ) → Going area at ws₀ many ws a → area.count ≤ a
      → (many ≡ length (filter_irc compare (lists_of area ws₀)))
      × (ws ≡ sets ws₀ at (run 4 (filter_irc compare (lists_of area ws₀))))
  unfolding filter_irc kept_before
  all_kept many ws a g h =
      let n = lists_length area.most area.bytes area.count ws₀ in
      let e : a ≡ length (lists_of area ws₀) = omega (arith, g.few) in (
        g.many_is ∙ ap (λ (k : ℕ).
            length (keep (λ (i : ℕ). not (finds_other compare (lists_of area ws₀) i)) (count_from 0 k))) e,
        g.wrote ∙ ap (λ (k : ℕ).
            sets ws₀ at (run 4 (keep (λ (i : ℕ). not (finds_other compare (lists_of area ws₀) i)) (count_from 0 k)))) e,
      )
