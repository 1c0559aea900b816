-- Ridge orbits by marks. What code keeps is a mark for each key: the number of the ridge orbit that holds it, or
-- none. Opening a ridge orbit marks the images that have no mark, and nothing else; a key is held once. Over any
-- keys. Leans on Ridges.
use Rattle.std.specs.Prelude.{◌≡◌, Bool, ◌||◌}
use Rattle.std.proofs.Math.Path.{refl, ap, subst}
use Rattle.std.proofs.Common.{sym, ◌∙◌}
use Rattle.std.proofs.Math.Bool.{true, false, cond}
use Rattle.std.specs.Prelude.{Option, Some, None}
use mathlib.Core.List.{List, [], ◌∷◌, ◌++◌, map, Memᴰ, map-map, map-append}
use Prim.Native.Nat.{ℕ, Ordering}
use Rattle.std.proofs.Math.Dec.{T, compare_is_eq}
use Rattle.std.proofs.Math.ListN.{length}
use Rattle.definitions.specs.Lists.{any_of, fresh}
use Rattle.definitions.specs.Orbits.{Row, image}
use Rattle.laws.specs.Options.{none_is_not_some}
use Rattle.laws.specs.Bools.{same_test}
use Rattle.laws.specs.Lists.{Mem}
use Rattle.laws.specs.Pairs.{pairs_append}
use Rattle.laws.specs.Orders.{Linear}
use Rattle.laws.specs.Ascending.{Differ, Distinct, seen_among, seen_member, member_seen, of_fresh, in_fresh}
use Rattle.laws.specs.Ascending.{fresh_distinct, equal_tested}
use Rattle.laws.specs.Places.{map_self}
use Rattle.shapes.specs.Ridges.{KnownKeys, key_held_by, open_key_orbit}

-- the first mark, or else the second
unfoldable pub or_else : {A : Type 0} → Option A → Option A → Option A
or_else None b = b
or_else (Some x) b = Some x

module _ {K : Type 0} (c : K → K → Ordering) (order : Linear c) (send : (ℕ → ℕ) → K → K) where
  abbrev keys_in : List (K × ℕ) → List K
  keys_in hs = map (λ (h : K × ℕ). h.0) hs

  abbrev mark : K → List (K × ℕ) → Option ℕ
  mark = key_held_by c send

  -- a key that is held has a mark, and one that is not has none
  pub held_marked : (x : K) (hs : List (K × ℕ)) → mark x hs ≡ None → Mem x (keys_in hs) → ⊥
  unfolding key_held_by
  held_marked x [] e m = elim m [ ]
  held_marked x (h ∷ hs) e m = go (compare_is_eq (c x h.0)) refl e m (held_marked x hs)
    where
      go : (b : Bool) → compare_is_eq (c x h.0) ≡ b → cond b (Some h.1) (mark x hs) ≡ None → Mem x (h.0 ∷ keys_in hs)
          → (mark x hs ≡ None → Mem x (keys_in hs) → ⊥) → ⊥
      go true q s m ih = none_is_not_some h.1 (sym s)
      go false q s (Memᴰ.head r) ih = subst T q (equal_tested c order x h.0 r)
      go false q s (Memᴰ.tail i) ih = ih s i

  pub marked_held : (x : K) (hs : List (K × ℕ)) (n : ℕ) → mark x hs ≡ Some n → T (seen_among c order x (keys_in hs))
  unfolding key_held_by any_of
  marked_held x [] n e = absurd (none_is_not_some n e)
  marked_held x (h ∷ hs) n e = go (compare_is_eq (c x h.0)) e (marked_held x hs n)
    where
      go : (b : Bool) → cond b (Some h.1) (mark x hs) ≡ Some n
          → (mark x hs ≡ Some n → T (seen_among c order x (keys_in hs))) → T (b || seen_among c order x (keys_in hs))
      go true q ih = tt
      go false q ih = ih q

  -- keys that join stand in front
  mark_joined : (x : K) (n : ℕ) (joining : List K) (hs : List (K × ℕ))
      → mark x (map (λ (k : K). (k, n)) joining ++ hs) ≡ cond (seen_among c order x joining) (Some n) (mark x hs)
  unfolding key_held_by any_of
  mark_joined x n [] hs = refl
  mark_joined x n (k ∷ joining) hs =
      ap (λ (o : Option ℕ). cond (compare_is_eq (c x k)) (Some n) o) (mark_joined x n joining hs)
      ∙ go (compare_is_eq (c x k)) (seen_among c order x joining)
    where
      go : (a b : Bool) → cond a (Some n) (cond b (Some n) (mark x hs)) ≡ cond (a || b) (Some n) (mark x hs)
      go true b = refl
      go false b = refl

  -- after a ridge orbit is opened: a key that had a mark keeps it, an image without one gets the new number, no other
  -- gets any
  pub marks_after_holds : (rows : List Row) (known : KnownKeys K) (k x : K)
      → mark x (open_key_orbit c send rows known k).held
      ≡ or_else (mark x known.held) (cond (seen_among c order x (map (λ (row : Row). send (image row) k) rows))
      (Some (length known.counts)) None)
  unfolding open_key_orbit or_else
  marks_after_holds rows known k x =
      let seen = keys_in known.held in
      let images = map (λ (row : Row). send (image row) k) rows in
      let joining = fresh c seen images in
      mark_joined x (length known.counts) joining known.held ∙ go (mark x known.held) refl images
    where
      number : ℕ
      number = length known.counts

      go : (o : Option ℕ) → mark x known.held ≡ o → (images : List K)
          → cond (seen_among c order x (fresh c (keys_in known.held) images)) (Some number) (mark x known.held)
          ≡ or_else (mark x known.held) (cond (seen_among c order x images) (Some number) None)
      go (Some n) e images =
          let old : seen_among c order x (fresh c (keys_in known.held) images) ≡ false = not_joining n e images in
          ap (λ (b : Bool). cond b (Some number) (mark x known.held)) old ∙ e
          ∙ ap (λ (o : Option ℕ). or_else o (cond (seen_among c order x images) (Some number) None)) (sym e)
        where
          not_joining : (n : ℕ) → mark x known.held ≡ Some n → (images : List K)
              → seen_among c order x (fresh c (keys_in known.held) images) ≡ false
          not_joining n e images =
              same_test (seen_among c order x (fresh c (keys_in known.held) images)) false
              (λ t. (of_fresh c order (keys_in known.held) images x
              (seen_member c order x (fresh c (keys_in known.held) images) t)).1
              (seen_member c order x (keys_in known.held) (marked_held x known.held n e))) (λ t. absurd t)
      go None e images =
          let same : seen_among c order x (fresh c (keys_in known.held) images) ≡ seen_among c order x images =
          same_test (seen_among c order x (fresh c (keys_in known.held) images)) (seen_among c order x images)
          (λ t. member_seen c order x images (of_fresh c order (keys_in known.held) images x
          (seen_member c order x (fresh c (keys_in known.held) images) t)).0)
          (λ t. member_seen c order x (fresh c (keys_in known.held) images) (in_fresh c order
          (keys_in known.held) images x (seen_member c order x images t) (held_marked x known.held e))) in
          (λ t. cond (same t) (Some number) (e t))
          ∙ ap (λ (o : Option ℕ). or_else o (cond (seen_among c order x images) (Some number) None)) (sym e)

  -- no key is held twice
  pub held_once : (rows : List Row) (known : KnownKeys K) (k : K) → Distinct (keys_in known.held)
      → Distinct (keys_in (open_key_orbit c send rows known k).held)
  unfolding open_key_orbit
  held_once rows known k h =
      let seen = keys_in known.held in
      let images = map (λ (row : Row). send (image row) k) rows in
      let joining = fresh c seen images in
      let number = length known.counts in
      let front : map (λ (h : K × ℕ). h.0) (map (λ (x : K). (x, number)) joining) ≡ joining =
      map-map (λ (h : K × ℕ). h.0) (λ (x : K). (x, number)) joining ∙ map_self (λ (x : K). x) joining (λ x m. refl) in
      let whole : keys_in (map (λ (x : K). (x, number)) joining ++ known.held) ≡ joining ++ seen =
      map-append (λ (h : K × ℕ). h.0) (map (λ (x : K). (x, number)) joining) known.held
      ∙ ap (λ (l : List K). l ++ seen) front in
      subst Distinct (sym whole)
      (pairs_append Differ joining seen (fresh_distinct c order seen images) h (λ x i y j e.
      (of_fresh c order seen images x i).1 (subst (λ (z : K). Mem z seen) (sym e) j)))
