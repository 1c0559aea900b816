-- `filter_irc` [18.2] on lists of any items: a list that is found stands inside (`finds_inside`), so that every place
-- left out has another list inside its own (`left_out_holds`); a list with a label is left out (`labelled_left_out`);
-- and a numbering that keeps the order keeps what is found (`filter_numbered`). Its walk is that of `label_irc`.
-- Leans on the definitions and on Walks.
use Rattle.std.specs.Prelude.{◌≡◌, Bool, ◌&&◌, leb, eqb, get_or}
use Rattle.std.proofs.Math.Path.{refl, ap, subst}
use Rattle.std.proofs.Common.{◌∙◌, ne_eqb, le→leb}
use Rattle.std.proofs.Math.Bool.{true, false, cond, not}
use mathlib.Core.List.{List, [], ◌∷◌, map}
use Rattle.std.specs.Prelude.{Option, Some, None}
use Prim.Native.Nat.{ℕ, ◌<◌, Ordering}
use native.Mathlib.Omega.{arith}
use Rattle.std.proofs.Math.Dec.{T, ltb, ltb→lt, eqb_refl}
use Rattle.std.proofs.Math.ListN.{length, length-map}
use Rattle.definitions.specs.Lists.{Pair, any_of, keep, count_from}
use Rattle.definitions.specs.Figures.{cons_in, walk, first_above, found_inside, label_from}
use Rattle.definitions.specs.Plain.{is_found, finds, finds_other, filter_irc, Inside, nothing, passed, taken}
use Rattle.definitions.specs.Plain.{OtherInside, LeftOut}
use Rattle.laws.specs.Bools.{true→holds, false→fails, both, first, second}
use Rattle.laws.specs.Options.{none_is_not_some}
use Rattle.laws.specs.Lists.{Mem, here, there, member_at, map_at_holds, any_of_holds, any_witness, in_keep, kept}
use Rattle.laws.specs.Lists.{in_count, of_count}
use Rattle.laws.specs.Orders.{Linear}
use Rattle.laws.specs.Walks.{map_rest, walk_numbered, first_numbered, labelled}

-- ---- what is found stands inside

module _ {A : Type 0} (c : A → A → Ordering) (order : Linear c) where
  found_behind : (x : A) (o : Option (List A)) → T (is_found (cons_in x o)) → T (is_found o)
  unfolding is_found cons_in
  found_behind x None t = t
  found_behind x (Some rest) t = t

  pub walk_inside : (a b : List A) → T (is_found (walk c a b)) → Inside b a
  unfolding walk is_found
  walk_inside [] [] t = nothing []
  walk_inside [] (y ∷ b) t = absurd t
  walk_inside (x ∷ a) [] t = nothing (x ∷ a)
  walk_inside (x ∷ a) (y ∷ b) t = go (c x y) refl t (walk_inside a (y ∷ b)) (walk_inside a b)
    where
      go : (o : Ordering) → c x y ≡ o → T (is_found {A = A} (elim o [
        | Ordering.lt ↦
            cons_in x (walk c a (y ∷ b))
        | Ordering.eq ↦ walk c a b
        | Ordering.gt ↦ None
      ]))
          → (T (is_found (walk c a (y ∷ b))) → Inside (y ∷ b) a) → (T (is_found (walk c a b)) → Inside b a)
          → Inside (y ∷ b) (x ∷ a)
      go Ordering.lt e u over on = passed x (y ∷ b) a (over (found_behind x (walk c a (y ∷ b)) u))
      go Ordering.eq e u over on = subst (λ (z : A). Inside (z ∷ b) (x ∷ a)) (order.equal x y e) (taken x b a (on u))
      go Ordering.gt e u over on = absurd u

  pub finds_inside : (a b : List A) → T (finds c a b) → Inside b a
  unfolding finds
  finds_inside a b t =
      walk_inside a b (second (leb (length b) (length a) && not (first_above c b a)) (is_found (walk c a b)) t)

  -- what `label_irc` finds inside a list is shorter, and `filter_irc` finds it too
  inside_finds : (a b rest : List A) → found_inside c a b ≡ Some rest → (length b < length a) × T (finds c a b)
  unfolding found_inside finds is_found
  inside_finds a b rest e = go (ltb (length b) (length a) && not (first_above c b a)) refl e
    where
      go : (t : Bool) → ltb (length b) (length a) && not (first_above c b a) ≡ t
          → cond t (walk c a b) None ≡ Some rest → (length b < length a) × T (finds c a b)
      go true q w =
          let h = ltb→lt (length b) (length a)
          (first (ltb (length b) (length a)) (not (first_above c b a)) (true→holds q)) in (
            h,
            both (leb (length b) (length a) && not (first_above c b a)) (is_found (walk c a b))
                (both (leb (length b) (length a)) (not (first_above c b a)) (le→leb (length b) (length a) (omega arith))
                (second (ltb (length b) (length a)) (not (first_above c b a)) (true→holds q))) (rw w tt),
          )
      go false q w = absurd (none_is_not_some rest w)

  -- ---- the places that are left out

  module _ (lists : List (List A)) where
    abbrev test : ℕ → ℕ → Bool
    test a b = not (eqb a b) && finds c (get_or lists a []) (get_or lists b [])

    other_inside : (a : ℕ) → T (finds_other c lists a) → OtherInside lists a
    unfolding finds_other
    other_inside a t =
        let w = any_witness (test a) (count_from 0 (length lists)) t in
        let b = w.0 in
        let differs = first (not (eqb a b)) (finds c (get_or lists a []) (get_or lists b [])) w.2 in
        let k = (of_count 0 (length lists) b w.1).1 in
        record {
          place = b;
          below = omega arith;
          other = λ e. fails (eqb a b) differs (subst (λ (z : ℕ). T (eqb a z)) e (eqb_refl a));
          inside =
              finds_inside (get_or lists a []) (get_or lists b [])
              (second (not (eqb a b)) (finds c (get_or lists a []) (get_or lists b [])) w.2);
        }
      where
        fails : (x : Bool) → T (not x) → T x → ⊥
        fails true t u = t
        fails false t u = u

    -- a place where another is found is left out, and no other is
    pub found_left_out : (a : ℕ) → T (finds_other c lists a) → Mem a (filter_irc c lists) → ⊥
    unfolding filter_irc
    found_left_out a t m =
        go (finds_other c lists a) t
        (kept (λ (n : ℕ). not (finds_other c lists n)) a (count_from 0 (length lists)) m).1
      where
        go : (x : Bool) → T x → T (not x) → ⊥
        go true t u = u
        go false t u = t

    pub left_out_holds : LeftOut lists (filter_irc c lists)
    unfolding filter_irc
    left_out_holds = record { each = λ a h out. go a h out (finds_other c lists a) refl }
      where
        go : (a : ℕ) → a < length lists → (Mem a (filter_irc c lists) → ⊥) → (x : Bool) → finds_other c lists a ≡ x
            → OtherInside lists a
        go a h out true e = other_inside a (true→holds e)
        go a h out false e =
            absurd (out (in_keep (λ (n : ℕ). not (finds_other c lists n)) a (count_from 0 (length lists))
            (in_count 0 (length lists) a (omega arith) (omega arith)) (false→fails e)))

    -- a list with a label is left out
    pub labelled_left_out : (a : ℕ) (label : Pair) → label_from c (get_or lists a []) lists 0 ≡ Some label
        → Mem a (filter_irc c lists) → ⊥
    unfolding finds_other
    labelled_left_out a label e =
        let l = labelled c order (get_or lists a []) lists 0 label e in
        let f = inside_finds (get_or lists a []) (get_or lists l.one []) (get_or lists l.other []) l.found in
        let other : a ≡ l.one → ⊥ = λ same. let n = ap (λ (k : ℕ). length (get_or lists k [])) same in let s = f.0 in
        omega arith in
        let here_is = in_count 0 (length lists) l.one (omega arith) (omega (arith, l.behind, l.below)) in
        found_left_out a (any_of_holds (test a) l.one (count_from 0 (length lists)) here_is (both (not (eqb a l.one))
        (finds c (get_or lists a []) (get_or lists l.one [])) (rw (ne_eqb a l.one other) tt) f.1))

-- ---- a numbering that keeps the order

module _ {A B : Type 0} (c : A → A → Ordering) (d : B → B → Ordering) (to : A → B) (Good : A → Type 0)
    (ordered : (x y : A) → Good x → Good y → d (to x) (to y) ≡ c x y) where
  abbrev AllGood : List A → Type 0
  AllGood l = (x : A) → Mem x l → Good x

  rest_found : (o : Option (List A)) → is_found (map_rest c d to Good ordered o) ≡ is_found o
  unfolding is_found map_rest
  rest_found None = refl
  rest_found (Some l) = refl

  finds_numbered : (a b : List A) → AllGood a → AllGood b → finds d (map to a) (map to b) ≡ finds c a b
  unfolding finds
  finds_numbered a b g h =
      rw (
        length-map a to,
        length-map b to,
        first_numbered c d to Good ordered b a g h,
        walk_numbered c d to Good ordered a b g h,
        rest_found (walk c a b),
      ) refl

  any_same : (p q : ℕ → Bool) (l : List ℕ) → ((n : ℕ) → Mem n l → p n ≡ q n) → any_of p l ≡ any_of q l
  unfolding any_of
  any_same p q [] f = refl
  any_same p q (x ∷ l) f = rw (f x (here refl), any_same p q l (λ n m. f n (there m))) refl

  keep_same : (p q : ℕ → Bool) (l : List ℕ) → ((n : ℕ) → Mem n l → p n ≡ q n) → keep p l ≡ keep q l
  unfolding keep
  keep_same p q [] f = refl
  keep_same p q (x ∷ l) f = rw (f x (here refl), keep_same p q l (λ n m. f n (there m))) refl

  module _ (lists : List (List A)) (good : (l : List A) → Mem l lists → AllGood l) where
    inside : (k : ℕ) → Mem k (count_from 0 (length lists)) → k < length lists
    inside k i = let r = (of_count 0 (length lists) k i).1 in omega arith

    pair_numbered : (a b : ℕ) → a < length lists → b < length lists
        → not (eqb a b) && finds d (get_or (map (map to) lists) a []) (get_or (map (map to) lists) b [])
        ≡ (not (eqb a b) && finds c (get_or lists a []) (get_or lists b []))
    pair_numbered a b h k =
        rw (
          map_at_holds (map to) lists a [] [] h,
          map_at_holds (map to) lists b [] [] k,
          finds_numbered (get_or lists a []) (get_or lists b []) (good (get_or lists a []) (member_at lists a [] h))
              (good (get_or lists b []) (member_at lists b [] k)),
        ) refl

    other_numbered : (a : ℕ) → a < length lists → finds_other d (map (map to) lists) a ≡ finds_other c lists a
    unfolding finds_other
    other_numbered a h =
        ap (λ (n : ℕ). any_of (λ (b : ℕ). not (eqb a b)
        && finds d (get_or (map (map to) lists) a []) (get_or (map (map to) lists) b [])) (count_from 0 n))
        (length-map lists (map to))
        ∙ any_same _ _ (count_from 0 (length lists)) (λ b i. pair_numbered a b h (inside b i))

    -- the same places are kept
    pub filter_numbered : filter_irc d (map (map to) lists) ≡ filter_irc c lists
    unfolding filter_irc
    filter_numbered =
        ap (λ (n : ℕ). keep (λ (a : ℕ). not (finds_other d (map (map to) lists) a)) (count_from 0 n))
        (length-map lists (map to))
        ∙ keep_same _ _ (count_from 0 (length lists)) (λ a i. ap not (other_numbered a (inside a i)))
