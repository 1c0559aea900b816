-- `label_irc`: where entry a maps to (b, c), the items of list a are those of b and of c, and b is shorter. So with
-- lists that are not empty both are shorter than a. Over any lists. Leans on the definitions and laws.
use Rattle.std.specs.Prelude.{◌≡◌, refl, Bool, true, false, cond, ℕ, suc, ◌+◌, ◌<◌, eqb, length, get_or}
use Rattle.std.proofs.Common.{sym, ap, ◌∙◌, subst, arith, eqb→eq, length-append}
use Rattle.std.specs.Prelude.{Option, Some, None}
use mathlib.Core.List.{List, [], ◌∷◌, ◌++◌, map, Memᴰ, Permᴰ}
use Rattle.std.proofs.lemmas.List.{length-map}
use Rattle.definitions.specs.Lists.{Pair, compare_pair}
use Rattle.definitions.specs.Figures.{Compound, components_of, compound_at, compounds_from, label_from, labels_of}
use Rattle.definitions.specs.Figures.{label_irc}
use Rattle.laws.specs.Bools.{true→holds}
use Rattle.laws.specs.Options.{some_equal, none_is_not_some}
use Rattle.laws.specs.Lists.{Mem, here, there, member_at, map_at_holds}
use Rattle.laws.specs.Pairs.{Pairs}
use Rattle.laws.specs.Orders.{pairs}
use Rattle.laws.specs.Sorting.{perm_length}
use Rattle.laws.specs.Walks.{found_items, labelled}

-- ---- the compounds of a table of labels

pub record Entered (a : ℕ) (labels : List (Option Pair)) (c : Compound) : Type 0 where
  pub place : ℕ
  pub below : place < length labels
  pub whole : c.whole ≡ a + place
  pub is : get_or labels place None ≡ Some (c.first, c.second)

pub entered : (a : ℕ) (labels : List (Option Pair)) (c : Compound) → Mem c (compounds_from a labels)
    → Entered a labels c
unfolding compounds_from compound_at
entered a [] c m = elim m [ ]
entered a (None ∷ labels) c m = later (entered (suc a) labels c m)
  where
    later : Entered (suc a) labels c → Entered a (None ∷ labels) c
    later r =
        let b = r.below in
        let w = r.whole in
        record { place = suc r.place; below = omega arith; whole = omega arith; is = r.is }
entered a (Some p ∷ labels) c (Memᴰ.head e) =
    let w = ap (λ (d : Compound). d.whole) e in
    record { place = 0; below = omega arith; whole = omega arith; is = λ t. Some ((sym e t).first, (sym e t).second) }
entered a (Some p ∷ labels) c (Memᴰ.tail m) = later (entered (suc a) labels c m)
  where
    later : Entered (suc a) labels c → Entered a (Some p ∷ labels) c
    later r =
        let b = r.below in
        let w = r.whole in
        record { place = suc r.place; below = omega arith; whole = omega arith; is = r.is }

-- ---- all compounds

-- a compound of these lists: two entries whose items make up those of the whole, the first the shorter of the two
-- places and its list shorter than the whole's
pub record Composed (lists : List (List Pair)) (c : Compound) : Type 0 where
  pub whole_below : c.whole < length lists
  pub behind : c.first < c.second
  pub second_below : c.second < length lists
  pub items : Permᴰ (get_or lists c.whole []) (get_or lists c.first [] ++ get_or lists c.second [])
  pub shorter : length (get_or lists c.first []) < length (get_or lists c.whole [])

pub composed : (lists : List (List Pair)) (c : Compound) → Mem c (label_irc compare_pair lists) → Composed lists c
unfolding label_irc labels_of
composed lists c m =
    let label : List Pair → Option Pair = λ items. label_from compare_pair items lists 0 in
    let q = entered 0 (map label lists) c m in
    let n = length-map lists label in
    let k : q.place < length lists = omega (arith, q.below) in
    let items = get_or lists q.place [] in
    let l = labelled compare_pair pairs items lists 0 (c.first, c.second)
    (sym (map_at_holds label lists q.place None [] k) ∙ q.is) in
    let w : q.place ≡ c.whole = omega (arith, q.whole) in
    let f : l.one ≡ c.first = let e = l.first_is in omega arith in
    let s : l.other ≡ c.second = let e = l.second_is in omega arith in
    let found = found_items compare_pair pairs items (get_or lists l.one []) (get_or lists l.other []) l.found in
    let b = l.behind in
    let d = l.below in
    let at : ℕ → List Pair = λ i. get_or lists i [] in
    record {
      whole_below = omega arith;
      behind = omega arith;
      second_below = omega arith;
      items =
          subst (λ (i : ℕ). Permᴰ (at i) (at c.first ++ at c.second)) w
          (subst (λ (i : ℕ). Permᴰ items (at i ++ at c.second)) f
          (subst (λ (i : ℕ). Permᴰ items (at l.one ++ at i)) s found.0));
      shorter =
          subst (λ (i : ℕ). length (at i) < length (at c.whole)) f
          (subst (λ (i : ℕ). length (at l.one) < length (at i)) w found.1);
    }

-- both parts are shorter where no list is empty, and their lengths make up the whole's
pub parts_shorter : (lists : List (List Pair)) (c : Compound) → Composed lists c
    → ((l : List Pair) → Mem l lists → 0 < length l)
    → (length (get_or lists c.whole []) ≡ length (get_or lists c.first []) + length (get_or lists c.second []))
    × (0 < length (get_or lists c.first [])) × (0 < length (get_or lists c.second []))
parts_shorter lists c h some_items =
    let e = perm_length h.items in
    let f = length-append (get_or lists c.first []) (get_or lists c.second []) in
    let b = h.behind in
    let d = h.second_below in (
      omega arith,
      some_items (get_or lists c.first []) (member_at lists c.first [] (omega arith)),
      some_items (get_or lists c.second []) (member_at lists c.second [] (omega arith)),
    )

-- the components of an entry are those of a compound
pub components_of_holds : (cs : List Compound) (a : ℕ) (parts : Pair) → components_of cs a ≡ Some parts
    → Mem (record { whole = a; first = parts.0; second = parts.1 }) cs
unfolding components_of
components_of_holds [] a parts e = absurd (none_is_not_some parts e)
components_of_holds (c ∷ cs) a parts e = go (eqb a c.whole) refl e (components_of_holds cs a parts)
  where
    go : (t : Bool) → eqb a c.whole ≡ t → cond t (Some (c.first, c.second)) (components_of cs a) ≡ Some parts
        → (components_of cs a ≡ Some parts → Mem (record { whole = a; first = parts.0; second = parts.1 }) cs)
        → Mem (record { whole = a; first = parts.0; second = parts.1 }) (c ∷ cs)
    go true q s ih =
        let w : a ≡ c.whole = eqb→eq a c.whole (true→holds q) in
        let p : (c.first, c.second) ≡ parts = some_equal (c.first, c.second) parts s in
        here (λ t. record { whole = w t; first = (sym p t).0; second = (sym p t).1 })
    go false q s ih = there (ih s)

-- ---- the triples ascend

-- the compounds strictly ascend by their wholes, so an entry has one at most
pub compounds_ascend : (lists : List (List Pair))
    → Pairs (λ (c d : Compound). c.whole < d.whole) (label_irc compare_pair lists)
unfolding label_irc compounds_from compound_at
compounds_ascend lists = go 0 (labels_of compare_pair lists)
  where
    go : (a : ℕ) (labels : List (Option Pair)) → Pairs (λ (c d : Compound). c.whole < d.whole) (compounds_from a labels)
    go a [] = tt
    go a (None ∷ labels) = go (suc a) labels
    go a (Some p ∷ labels) = ((λ d j. let w = (entered (suc a) labels d j).whole in omega arith), go (suc a) labels)
