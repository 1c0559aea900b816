-- The sentences of [13.8] determine the entries of a call, without the one that names the search (`exactly`): under
-- the proviso a closed choice has one entry, so a list in which every closed choice has an entry misses none, a list
-- whose every entry is a closed choice's has none that is foreign, and a list that pairs off with the closed choices
-- has each as often as it should. Leans on OneOrder.
use Rattle.std.specs.Prelude.{◌≡◌, refl, T}
use Rattle.std.proofs.Common.{sym, ap, ◌∙◌, subst}
use mathlib.Core.List.Permᴰ
use mathlib.Core.List.{List, [], ◌∷◌, map, Memᴰ, Nodup, Permᴰ, Pairwise, Forall₂}
use Rattle.definitions.specs.Search.{Facet}
use Rattle.definitions.specs.Recursion.{Entry}
use Rattle.definitions.specs.Faceting.{Prepared, table_for, entry_of}
use Rattle.definitions.specs.Demands.{choice_of, is_closed_choice, equal_shares, EntryOfChoice, choices_of}
use Rattle.definitions.specs.Demands.{AllClosedChoices}
use Rattle.laws.specs.Lists.{Mem, here, there}
use Rattle.laws.specs.Ascending.{Distinct}
use Rattle.completeness.specs.OneOrder.{one_order}

-- ---- two lists that pair off with the same items

nodup_distinct : {A : Type 0} {l : List A} → Nodup l → Distinct l
nodup_distinct Pairwise.nil = tt
nodup_distinct (Pairwise.cons h n) = ((λ y m e. h y ∣ m ∣₁ e), nodup_distinct n)

module _ {A B : Type 0} (R : A → B → Type 0) where
  -- a list with the item that belongs to c taken out, and what it pairs off with, c taken out
  record Apart (m : List A) (ds : List B) (c : B) : Type 0 where
    item : A
    related : R item c
    others : List A
    rest : List B
    permuted : Permᴰ m (item ∷ others)
    paired : Forall₂ R others rest
    distinct : Distinct rest
    of : (z : B) → Mem z rest → Mem z ds × (c ≡ z → ⊥)
    into : (z : B) → Mem z ds → (c ≡ z → ⊥) → Mem z rest

  apart : {m : List A} {ds : List B} (c : B) → Forall₂ R m ds → Distinct ds → Mem c ds → Apart m ds c
  apart c mathlib.Core.List.Forall₂.nil d x7 = elim x7 [ ]
  apart c (Forall₂.cons {a} {b} {l₁ = xs} {l₂ = ys} r more) d (Memᴰ.head q) = record {
    item = a;
    related = subst (R a) (sym q) r;
    others = xs;
    rest = ys;
    permuted = Permᴰ.refl (a ∷ xs);
    paired = more;
    distinct = d.1;
    of = λ z i. (there i, λ e. d.0 z i (sym q ∙ e));
    into = in_rest;
  }
    where
      in_rest : (z : B) → Mem z (b ∷ ys) → (c ≡ z → ⊥) → Mem z ys
      in_rest z (Memᴰ.head e) n = absurd (n (q ∙ sym e))
      in_rest z (Memᴰ.tail i) n = i
  apart c (Forall₂.cons {a} {b} {l₁ = xs} {l₂ = ys} r more) d (Memᴰ.tail i) = go (apart c more d.1 i)
    where
      go : Apart xs ys c → Apart (a ∷ xs) (b ∷ ys) c
      go x = record {
        item = x.item;
        related = x.related;
        others = a ∷ x.others;
        rest = b ∷ x.rest;
        permuted = Permᴰ.trans (Permᴰ.cons refl x.permuted) (Permᴰ.swap refl refl);
        paired = Forall₂.cons r x.paired;
        distinct = ((λ y j. d.0 y (x.of y j).0), x.distinct);
        of = of_rest;
        into = in_rest;
      }
        where
          of_rest : (z : B) → Mem z (b ∷ x.rest) → Mem z (b ∷ ys) × (c ≡ z → ⊥)
          of_rest z (Memᴰ.head e) = (here e, λ q. d.0 c i (sym (q ∙ e)))
          of_rest z (Memᴰ.tail j) = (there (x.of z j).0, (x.of z j).1)

          in_rest : (z : B) → Mem z (b ∷ ys) → (c ≡ z → ⊥) → Mem z (b ∷ x.rest)
          in_rest z (Memᴰ.head e) n = here e
          in_rest z (Memᴰ.tail j) n = there (x.into z j n)

  -- where an item is determined by what it belongs to
  same_items : {l m : List A} {cs ds : List B} → ((a b : A) (c : B) → Mem c cs → R a c → R b c → a ≡ b)
      → Forall₂ R l cs → Forall₂ R m ds → Distinct cs → Distinct ds → ((c : B) → Mem c cs → Mem c ds)
      → ((c : B) → Mem c ds → Mem c cs) → Permᴰ l m
  same_items one Forall₂.nil Forall₂.nil d f into back = Permᴰ.nil
  same_items one Forall₂.nil (Forall₂.cons {b} s more) d f into back = absurd (none_in (back b (here refl)))
    where
      none_in : Mem b [] → ⊥
      none_in i = elim i [ ]
  same_items one (Forall₂.cons {a} {b = c} {l₁ = xs} {l₂ = ys} r more) paired d f into back =
      let x = apart c paired f (into c (here refl)) in
      let rest = same_items (λ u v z i. one u v z (there i)) more x.paired d.1 x.distinct
      (λ z i. x.into z (into z (there i)) (d.0 z i)) (λ z j. behind z (x.of z j).1 (back z (x.of z j).0)) in
      Permᴰ.trans (Permᴰ.cons (one a x.item c (here refl) r x.related) rest) (Permᴰ.symm x.permuted)
    where
      behind : (z : B) → (c ≡ z → ⊥) → Mem z (c ∷ ys) → Mem z ys
      behind z n (Memᴰ.head e) = absurd (n (sym e))
      behind z n (Memᴰ.tail i) = i

-- a list and what is made of it, item by item
with_images_holds : {A B : Type 0} (R : A → B → Type 0) (f : A → B) (l : List A) → ((x : A) → Mem x l → R x (f x))
    → Forall₂ R l (map f l)
with_images_holds R f [] h = Forall₂.nil
with_images_holds R f (x ∷ l) h = Forall₂.cons (h x (here refl)) (with_images_holds R f l (λ y i. h y (there i)))

-- a list pairs off with itself
with_itself : {A : Type 0} (l : List A) → Forall₂ (λ (x y : A). x ≡ y) l l
with_itself [] = Forall₂.nil
with_itself (x ∷ l) = Forall₂.cons refl (with_itself l)

-- ---- the sentences, each alone

module _ (p : Prepared) where
  -- as the field `every_entry` says it
  abbrev pub EveryEntry : List Entry → Type 0
  EveryEntry entries =
      (e : Entry) → Mem e entries
      → T (is_closed_choice (table_for p) (choice_of e.before)) × EntryOfChoice p e (choice_of e.before)

  -- as `every_choice` does, where there is no limit
  abbrev pub EveryChoice : List Entry → Type 0
  EveryChoice entries =
      (c : List Facet) → T (is_closed_choice (table_for p) c) → (e : Entry) × Mem e entries × EntryOfChoice p e c

  -- as `one_to_one` does, where there is no limit
  abbrev pub OneToOne : List Entry → Type 0
  OneToOne entries = AllClosedChoices (table_for p) (choices_of entries)

  -- two lists with all closed choices, once each, have them in another order at most; so they are equally long
  pub same_choices : (l m : List Entry) → OneToOne l → OneToOne m → Permᴰ (choices_of l) (choices_of m)
  same_choices l m x y =
      same_items (λ (c d : List Facet). c ≡ d) (λ c d e i q r. q ∙ sym r) (with_itself (choices_of l))
      (with_itself (choices_of m)) (nodup_distinct x.once) (nodup_distinct y.once)
      (λ c i. (y.these c).0 ((x.these c).1 i)) (λ c i. (x.these c).0 ((y.these c).1 i))

  module _ (equal : T (equal_shares (table_for p))) where
    -- a closed choice has one entry
    pub one_entry : (c : List Facet) → T (is_closed_choice (table_for p) c) → (d e : Entry) → EntryOfChoice p d c
        → EntryOfChoice p e c → d ≡ e
    one_entry c closed d e x y =
        x.entry ∙ ap (entry_of p) (one_order (table_for p) equal c closed d.before e.before x.taken_so y.taken_so)
        ∙ sym y.entry

    -- a list with an entry of each closed choice has every entry of one with none but such
    pub none_missing : (l m : List Entry) → EveryEntry l → EveryChoice m → (e : Entry) → Mem e l → Mem e m
    none_missing l m every all e i =
        let c = choice_of e.before in
        let own = every e i in
        let other = all c own.0 in
        subst (λ (x : Entry). Mem x m) (one_entry c own.0 other.0 e other.2 own.1) other.1

    -- two lists of such entries with all closed choices, once each, have the same entries, each as often
    pub none_doubled : (l m : List Entry) → EveryEntry l → EveryEntry m → OneToOne l → OneToOne m → Permᴰ l m
    unfolding choices_of
    none_doubled l m s t x y =
        same_items (EntryOfChoice p) (λ d e c i. one_entry c ((x.these c).1 i) d e)
        (with_images_holds (EntryOfChoice p) (λ (e : Entry). choice_of e.before) l (λ e i. (s e i).1))
        (with_images_holds (EntryOfChoice p) (λ (e : Entry). choice_of e.before) m (λ e i. (t e i).1))
        (nodup_distinct x.once) (nodup_distinct y.once) (λ c i. (y.these c).0 ((x.these c).1 i))
        (λ c i. (x.these c).0 ((y.these c).1 i))
