-- `label_irc` [8.7] [8.8] on lists of any items: what the walk leaves are items of the list; with what was found they
-- make up the list; a label names two lists so found (`labelled`); and a numbering that keeps the order keeps the
-- walk, what is found inside and the compounds (`labels_numbered`). The definitions speak of pairs and the program of
-- numbers: both are the one text with another comparison. Leans on the definitions and on the laws of orders and
-- lists.
use Rattle.std.specs.Prelude.{◌≡◌, Bool, ◌&&◌, get_or}
use Rattle.std.proofs.Math.Path.{refl, sym, ap, subst}
use Rattle.std.proofs.Common.{◌∙◌, arith, ltb→lt}
use Rattle.std.proofs.Math.Bool.{true, false, cond, not}
use mathlib.Core.List.Permᴰ
use mathlib.Core.List.{List, [], ◌∷◌, ◌++◌, map, Memᴰ, Permᴰ}
use Rattle.std.specs.Prelude.{Option, Some, None}
use Prim.Native.Nat.{ℕ, suc, ◌+◌, ◌<◌, Ordering}
use Rattle.std.proofs.Math.Dec.{ltb, compare_is_eq}
use Rattle.std.proofs.Math.ListN.{length, length-map}
use Rattle.definitions.specs.Lists.{Pair, is_gt, then_by, compare_list}
use Rattle.definitions.specs.Figures.{cons_in, with_second, compounds_from, walk, first_above, found_inside, seek}
use Rattle.definitions.specs.Figures.{label_from, labels_of, label_irc}
use Rattle.laws.specs.Bools.{true→holds, first}
use Rattle.laws.specs.Options.{some_equal, none_is_not_some}
use Rattle.laws.specs.Lists.{Mem, here, there}
use Rattle.laws.specs.Orders.{Linear, lists}
use Rattle.laws.specs.Ascending.{tested_equal}

-- ---- what the walk leaves

module _ {A : Type 0} (c : A → A → Ordering) where
  cons_some : (x : A) (o : Option (List A)) (rest : List A) → cons_in x o ≡ Some rest
      → (r : List A) × (o ≡ Some r) × (x ∷ r ≡ rest)
  unfolding cons_in
  cons_some x None rest e = absurd (none_is_not_some rest e)
  cons_some x (Some r) rest e = (r, refl, some_equal (x ∷ r) rest e)

  -- one turn of the walk, by how the two items compare
  abbrev turn : A → List A → A → List A → Ordering → Option (List A)
  turn x xs y ys o =
      elim o [ Ordering.lt ↦ cons_in x (walk c xs (y ∷ ys)) | Ordering.eq ↦ walk c xs ys | Ordering.gt ↦ None ]

  -- the rest are items of the list
  pub walk_members : (a b rest : List A) → walk c a b ≡ Some rest → (x : A) → Mem x rest → Mem x a
  unfolding walk
  walk_members [] [] rest e x m = subst (Mem x) (some_equal rest [] (sym e)) m
  walk_members [] (y ∷ b) rest e x m = absurd (none_is_not_some rest e)
  walk_members (z ∷ a) [] rest e x m = subst (Mem x) (sym (some_equal (z ∷ a) rest e)) m
  walk_members (z ∷ a) (y ∷ b) rest e x m = go (c z y) e (walk_members a (y ∷ b)) (walk_members a b)
    where
      first_or : (r : List A) → Mem x (z ∷ r) → (Mem x r → Mem x a) → Mem x (z ∷ a)
      first_or r (Memᴰ.head q) f = here q
      first_or r (Memᴰ.tail i) f = there (f i)

      go : (o : Ordering) → turn z a y b o ≡ Some rest
          → ((r : List A) → walk c a (y ∷ b) ≡ Some r → (x : A) → Mem x r → Mem x a)
          → ((r : List A) → walk c a b ≡ Some r → (x : A) → Mem x r → Mem x a) → Mem x (z ∷ a)
      go Ordering.lt q over on =
          let s = cons_some z (walk c a (y ∷ b)) rest q in
          first_or s.0 (subst (Mem x) (sym s.2) m) (over s.0 s.1 x)
      go Ordering.eq q over on = there (on rest q x m)
      go Ordering.gt q over on = absurd (none_is_not_some rest q)

  pub inside_walk : (a b rest : List A) → found_inside c a b ≡ Some rest
      → (length b < length a) × (walk c a b ≡ Some rest)
  unfolding found_inside
  inside_walk a b rest e = go (ltb (length b) (length a) && not (first_above c b a)) refl e
    where
      go : (t : Bool) → ltb (length b) (length a) && not (first_above c b a) ≡ t → cond t (walk c a b) None ≡ Some rest
          → (length b < length a) × (walk c a b ≡ Some rest)
      go true q w =
          (ltb→lt (length b) (length a) (first (ltb (length b) (length a)) (not (first_above c b a)) (true→holds q)), w)
      go false q w = absurd (none_is_not_some rest w)

  -- what is found inside, and what is passed over or left, make up the list
  pub walk_items : Linear c → (a b rest : List A) → walk c a b ≡ Some rest → Permᴰ a (b ++ rest)
  unfolding walk
  walk_items order [] [] rest e = subst (Permᴰ []) (some_equal [] rest e) Permᴰ.nil
  walk_items order [] (y ∷ ys) rest e = absurd (none_is_not_some rest e)
  walk_items order (x ∷ xs) [] rest e = subst (Permᴰ (x ∷ xs)) (some_equal (x ∷ xs) rest e) (Permᴰ.refl (x ∷ xs))
  walk_items order (x ∷ xs) (y ∷ ys) rest e =
      go (c x y) refl e (λ r q. walk_items order xs (y ∷ ys) r q) (λ r q. walk_items order xs ys r q)
    where
      go : (o : Ordering) → c x y ≡ o → turn x xs y ys o ≡ Some rest
          → ((r : List A) → walk c xs (y ∷ ys) ≡ Some r → Permᴰ xs ((y ∷ ys) ++ r))
          → ((r : List A) → walk c xs ys ≡ Some r → Permᴰ xs (ys ++ r)) → Permᴰ (x ∷ xs) ((y ∷ ys) ++ rest)
      go Ordering.lt e q over on =
          let s = cons_some x (walk c xs (y ∷ ys)) rest q in
          subst (λ (r : List A). Permᴰ (x ∷ xs) ((y ∷ ys) ++ r)) s.2
          (Permᴰ.trans (Permᴰ.cons refl (over s.0 s.1)) (Permᴰ.symm (Permᴰ.middle x (y ∷ ys) s.0)))
      go Ordering.eq e q over on = Permᴰ.cons (order.equal x y e) (on rest q)
      go Ordering.gt e q over on = absurd (none_is_not_some rest q)

-- ---- what a label names

module _ {A : Type 0} (c : A → A → Ordering) (order : Linear c) where
  pub found_items : (a b rest : List A) → found_inside c a b ≡ Some rest → Permᴰ a (b ++ rest) × (length b < length a)
  found_items a b rest e = let f = inside_walk c a b rest e in (walk_items c order a b rest f.1, f.0)

  -- the place of a list that was sought
  record Sought (items : List A) (ls : List (List A)) (from k : ℕ) : Type 0 where
    pub place : ℕ
    pub below : place < length ls
    pub is : k ≡ from + place
    pub equal : get_or ls place [] ≡ items

  seek_found : (items : List A) (ls : List (List A)) (from k : ℕ) → seek c items ls from ≡ Some k
      → Sought items ls from k
  unfolding seek
  seek_found items [] from k e = absurd (none_is_not_some k e)
  seek_found items (l ∷ ls) from k e =
      go (compare_is_eq (compare_list c items l)) refl e (seek_found items ls (suc from) k)
    where
      go : (t : Bool) → compare_is_eq (compare_list c items l) ≡ t
          → cond t (Some from) (seek c items ls (suc from)) ≡ Some k
          → (seek c items ls (suc from) ≡ Some k → Sought items ls (suc from) k) → Sought items (l ∷ ls) from k
      go true q s ih =
          let here_is = some_equal from k s in
          record {
            place = 0;
            below = omega arith;
            is = omega arith;
            equal = sym (tested_equal (compare_list c) (lists c order) items l (true→holds q));
          }
      go false q s ih =
          let r = ih s in
          let b = r.below in
          let i = r.is in
          record { place = suc r.place; below = omega arith; is = omega arith; equal = r.equal }

  -- the first list is found inside the items and leaves the second, which stands behind it; the lists are those from
  -- place `from` on
  pub record Labelled (items : List A) (ls : List (List A)) (from : ℕ) (label : Pair) : Type 0 where
    pub one : ℕ
    pub other : ℕ
    pub behind : one < other
    pub below : other < length ls
    pub first_is : label.0 ≡ from + one
    pub second_is : label.1 ≡ from + other
    pub found : found_inside c items (get_or ls one []) ≡ Some (get_or ls other [])

  pub labelled : (items : List A) (ls : List (List A)) (from : ℕ) (label : Pair)
      → label_from c items ls from ≡ Some label → Labelled items ls from label
  unfolding label_from with_second
  labelled items [] from label e = absurd (none_is_not_some label e)
  labelled items (l ∷ ls) from label e = go (found_inside c items l) refl e (labelled items ls (suc from) label)
    where
      later : Labelled items ls (suc from) label → Labelled items (l ∷ ls) from label
      later r =
          let i = r.behind in
          let b = r.below in
          let x = r.first_is in
          let y = r.second_is in
          record {
            one = suc r.one;
            other = suc r.other;
            behind = omega arith;
            below = omega arith;
            first_is = omega arith;
            second_is = omega arith;
            found = r.found;
          }

      made : (rest : List A) → found_inside c items l ≡ Some rest → (o : Option ℕ) → seek c rest ls (suc from) ≡ o
          → with_second from o ≡ Some label
          → Labelled items (l ∷ ls) from label
      made rest f None q k = absurd (none_is_not_some label k)
      made rest f (Some second) q k =
          let s = seek_found rest ls (suc from) second q in
          let b = s.below in
          let i = s.is in
          let e = some_equal (from, second) label k in
          let x = ap (λ (p : Pair). p.0) e in
          let y = ap (λ (p : Pair). p.1) e in
          record {
            one = 0;
            other = suc s.place;
            behind = omega arith;
            below = omega arith;
            first_is = omega arith;
            second_is = omega arith;
            found = f ∙ ap (λ (r : List A). Some r) (sym s.equal);
          }

      go : (o : Option (List A)) → found_inside c items l ≡ o
          → elim o [
            | None ↦ label_from c items ls (suc from)
            | Some rest ↦
                with_second from (seek c rest ls (suc from))
          ] ≡ Some label
          → (label_from c items ls (suc from) ≡ Some label → Labelled items ls (suc from) label)
          → Labelled items (l ∷ ls) from label
      go None q k ih = later (ih k)
      go (Some rest) q k ih = made rest q (seek c rest ls (suc from)) refl k

-- ---- a numbering that keeps the order

-- `to` names the item of each number; numbers that are good compare as their items do
module _ {A B : Type 0} (c : A → A → Ordering) (d : B → B → Ordering) (to : A → B) (Good : A → Type 0)
    (ordered : (x y : A) → Good x → Good y → d (to x) (to y) ≡ c x y) where
  abbrev AllGood : List A → Type 0
  AllGood l = (x : A) → Mem x l → Good x

  abbrev EachGood : List (List A) → Type 0
  EachGood ls = (l : List A) → Mem l ls → AllGood l

  -- the items of a rest, where there is one
  unfoldable pub map_rest : Option (List A) → Option (List B)
  map_rest None = None
  map_rest (Some l) = Some (map to l)

  cons_numbered : (x : A) (o : Option (List A)) → cons_in (to x) (map_rest o) ≡ map_rest (cons_in x o)
  unfolding cons_in map_rest
  cons_numbered x None = refl
  cons_numbered x (Some l) = refl

  pub walk_numbered : (a b : List A) → AllGood a → AllGood b → walk d (map to a) (map to b) ≡ map_rest (walk c a b)
  unfolding walk map_rest
  walk_numbered [] [] g h = refl
  walk_numbered [] (y ∷ b) g h = refl
  walk_numbered (x ∷ a) [] g h = refl
  walk_numbered (x ∷ a) (y ∷ b) g h =
      ap (turn d (to x) (map to a) (to y) (map to b)) (ordered x y (g x (here refl)) (h y (here refl)))
      ∙ (go (c x y) (walk_numbered a (y ∷ b) (λ z m. g z (there m)) h)
      (walk_numbered a b (λ z m. g z (there m)) (λ z m. h z (there m))))
    where
      go : (o : Ordering) → walk d (map to a) (to y ∷ map to b) ≡ map_rest (walk c a (y ∷ b))
          → walk d (map to a) (map to b) ≡ map_rest (walk c a b)
          → turn d (to x) (map to a) (to y) (map to b) o ≡ map_rest (turn c x a y b o)
      go Ordering.lt p q = ap (cons_in (to x)) p ∙ cons_numbered x (walk c a (y ∷ b))
      go Ordering.eq p q = q
      go Ordering.gt p q = refl

  pub first_numbered : (b a : List A) → AllGood a → AllGood b → first_above d (map to b) (map to a) ≡ first_above c b a
  unfolding first_above
  first_numbered [] a g h = refl
  first_numbered (y ∷ b) [] g h = refl
  first_numbered (y ∷ b) (x ∷ a) g h = ap is_gt (ordered y x (h y (here refl)) (g x (here refl)))

  pub inside_numbered : (a b : List A) → AllGood a → AllGood b
      → found_inside d (map to a) (map to b) ≡ map_rest (found_inside c a b)
  unfolding found_inside map_rest
  inside_numbered a b g h =
      rw (length-map a to, length-map b to, first_numbered b a g h, walk_numbered a b g h)
      (go (ltb (length b) (length a) && not (first_above c b a)))
    where
      go : (t : Bool) → cond t (map_rest (walk c a b)) None ≡ map_rest (cond t (walk c a b) None)
      go true = refl
      go false = refl

  pub compare_numbered : (a b : List A) → AllGood a → AllGood b
      → compare_list d (map to a) (map to b) ≡ compare_list c a b
  unfolding compare_list
  compare_numbered [] [] g h = refl
  compare_numbered [] (y ∷ b) g h = refl
  compare_numbered (x ∷ a) [] g h = refl
  compare_numbered (x ∷ a) (y ∷ b) g h =
      ap (λ (o : Ordering). then_by o (compare_list d (map to a) (map to b)))
      (ordered x y (g x (here refl)) (h y (here refl)))
      ∙ ap (then_by (c x y)) (compare_numbered a b (λ z m. g z (there m)) (λ z m. h z (there m)))

  seek_numbered : (items : List A) (ls : List (List A)) (k : ℕ) → AllGood items → EachGood ls
      → seek d (map to items) (map (map to) ls) k ≡ seek c items ls k
  unfolding seek
  seek_numbered items [] k g h = refl
  seek_numbered items (l ∷ ls) k g h =
      ap (λ (o : Ordering). cond (compare_is_eq o) (Some k) (seek d (map to items) (map (map to) ls) (suc k)))
      (compare_numbered items l g (h l (here refl)))
      ∙ ap (cond (compare_is_eq (compare_list c items l)) (Some k))
      (seek_numbered items ls (suc k) g (λ m i. h m (there i)))

  label_numbered : (items : List A) (ls : List (List A)) (b : ℕ) → AllGood items → EachGood ls
      → label_from d (map to items) (map (map to) ls) b ≡ label_from c items ls b
  unfolding label_from map_rest
  label_numbered items [] b g h = refl
  label_numbered items (l ∷ ls) b g h =
      ap step (inside_numbered items l g (h l (here refl)))
      ∙ go (found_inside c items l) refl (label_numbered items ls (suc b) g later)
    where
      later : EachGood ls
      later m i = h m (there i)

      step : Option (List B) → Option Pair
      step o = elim o [
        | None ↦ label_from d (map to items) (map (map to) ls) (suc b)
        | Some rest ↦ with_second b (seek d rest (map (map to) ls) (suc b))
      ]

      go : (o : Option (List A)) → found_inside c items l ≡ o
          → label_from d (map to items) (map (map to) ls) (suc b) ≡ label_from c items ls (suc b)
          → step (map_rest o)
          ≡ elim o [ None ↦ label_from c items ls (suc b) | Some rest ↦ with_second b (seek c rest ls (suc b)) ]
      go None e ih = ih
      go (Some rest) e ih =
          let good : AllGood rest = λ x m. g x (walk_members c items l rest (inside_walk c items l rest e).1 x m) in
          ap (with_second b) (seek_numbered rest ls (suc b) good later)

  table_numbered : (ls whole : List (List A)) → EachGood ls → EachGood whole
      → map (λ (items : List B). label_from d items (map (map to) whole) 0) (map (map to) ls)
      ≡ map (λ (items : List A). label_from c items whole 0) ls
  table_numbered [] whole g h = refl
  table_numbered (l ∷ ls) whole g h =
      rw (label_numbered l whole 0 (g l (here refl)) h, table_numbered ls whole (λ m i. g m (there i)) h) refl

  -- the compounds among the items' lists are those among the numbers' lists
  pub labels_numbered : (lists : List (List A)) → EachGood lists → label_irc d (map (map to) lists) ≡ label_irc c lists
  unfolding label_irc labels_of
  labels_numbered lists g = ap (compounds_from 0) (table_numbered lists lists g g)
