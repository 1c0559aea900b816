-- The images of all facets under all rows as ids in the order of their edges, equal ones side by side and flagged:
-- what the order means, and that choosing the first of each run of equal images, among those of some facets, gives
-- those facets' images in order, each once. Leans on Images and on the laws of ascending lists.
use Rattle.std.specs.Prelude.{◌≡◌, ◌&&◌, ◌⊎◌, T, leb, get_or}
use Rattle.std.proofs.Math.Path.{refl, ap}
use Rattle.std.proofs.Common.{sym, ◌∙◌, subst, inl, inr}
use Rattle.std.proofs.Math.Bool.{Bool, true, false, cond}
use mathlib.Core.List.{List, [], ◌∷◌, map, Memᴰ}
use Rattle.std.proofs.Math.Logic.{⊎_elim}
use Prim.Native.Nat.{Ordering}
use Prim.Native.Nat.{ℕ, ◌%◌, ◌/◌, ◌<◌}
use Rattle.definitions.specs.Lists.{Pair, compare_pairs}
use Rattle.laws.specs.Lists.{Mem, here, there}
use Rattle.laws.specs.Orders.{pair_lists}
use Rattle.laws.specs.Ascending.{Ascends, same_ascending, in_order_ascends, in_in_order, of_in_order}
use Rattle.shapes.specs.EdgeSets.{polygons_in_order}
use Rattle.facet_images.specs.declared.Choice.{Choice}
use Rattle.facet_images.specs.declared.Choice.TheVariants.{Left, Chosen, Repeated}
use Rattle.facet_images.specs.Images.{is_wanted, is_chosen, next_choice, chosen_from}

-- an id of an image that equals the one before it
abbrev pub flagged : ℕ → Bool
flagged id = leb 131072 id

true_not_false : true ≡ false → ⊥
true_not_false e = subst T e tt

module _ (image : ℕ → List Pair) where
  -- an image behind another: equal where it is flagged, above it where it is not
  pub record Next (l : List Pair) (id : ℕ) : Type 0 where
    pub same : flagged id ≡ true → image id ≡ l
    pub above : flagged id ≡ false → compare_pairs l (image id) ≡ Ordering.lt

  abbrev pub Run : List Pair → List ℕ → Type 0
  Run l [] = Unit {0}
  Run l (id ∷ ids) = Next l id × Run (image id) ids

  abbrev pub Runs : List ℕ → Type 0
  Runs [] = Unit {0}
  Runs (id ∷ ids) = (flagged id ≡ false) × Run (image id) ids

  -- all images of so many facets under so many rows, in order
  pub record Arranged (facets m : ℕ) (ids : List ℕ) : Type 0 where
    pub all : (x row : ℕ) → x < facets → row < m → (id : ℕ) × Mem id ids × (id % 1024 ≡ x) × (id % 131072 / 1024 ≡ row)
    pub facet : (id : ℕ) → Mem id ids → id % 1024 < facets
    pub row : (id : ℕ) → Mem id ids → id % 131072 / 1024 < m
    pub runs : Runs ids

  module _ (inside : List Bool) where
    abbrev wanted : ℕ → Bool
    wanted id = get_or inside (id % 1024) false

    -- the same choice, with what was done as a test
    unfoldable chosen_by : Bool → List ℕ → List ℕ
    chosen_by done [] = []
    chosen_by done (id ∷ ids) =
        let passed = chosen_by true ids in
        let other = chosen_by false ids in
        cond (flagged id && done) passed (cond (wanted id) (id ∷ passed) other)

    chosen_by_holds : (before : Choice) (ids : List ℕ)
        → chosen_from inside before ids ≡ chosen_by (is_wanted before) ids
    unfolding chosen_from next_choice chosen_by
    chosen_by_holds before [] = refl
    chosen_by_holds before (id ∷ ids) =
        go (flagged id && is_wanted before) (wanted id) (chosen_by_holds Repeated ids) (chosen_by_holds Chosen ids)
        (chosen_by_holds Left ids)
      where
        go : (b p : Bool) → chosen_from inside Repeated ids ≡ chosen_by true ids
            → chosen_from inside Chosen ids ≡ chosen_by true ids → chosen_from inside Left ids ≡ chosen_by false ids
            → cond (is_chosen (cond b Repeated (cond p Chosen Left))) (id
            ∷ chosen_from inside (cond b Repeated (cond p Chosen Left)) ids)
            (chosen_from inside (cond b Repeated (cond p Chosen Left)) ids)
            ≡ cond b (chosen_by true ids) (cond p (id ∷ chosen_by true ids) (chosen_by false ids))
        go true p two one none = two
        go false true two one none = ap (λ (l : List ℕ). id ∷ l) one
        go false false two one none = none

    -- ---- they ascend

    -- no lower than l, and above it where l is done
    abbrev Bound : Bool → List Pair → List Pair → Type 0
    Bound true l y = compare_pairs l y ≡ Ordering.lt
    Bound false l y = (l ≡ y) ⊎ (compare_pairs l y ≡ Ordering.lt)

    bound_lt : (done : Bool) (l y : List Pair) → compare_pairs l y ≡ Ordering.lt → Bound done l y
    bound_lt true l y h = h
    bound_lt false l y h = inr h

    record Good (done : Bool) (l : List Pair) (ys : List (List Pair)) : Type 0 where
      ascends : Ascends compare_pairs ys
      above : (y : List Pair) → Mem y ys → Bound done l y

    -- above what is above l, or no lower than it
    higher : (l v y : List Pair) → compare_pairs l v ≡ Ordering.lt → (v ≡ y) ⊎ (compare_pairs v y ≡ Ordering.lt)
        → compare_pairs l y ≡ Ordering.lt
    higher l v y h (inl e) = subst (λ (z : List Pair). compare_pairs l z ≡ Ordering.lt) e h
    higher l v y h (inr k) = pair_lists.less l v y h k

    good : (done : Bool) (l : List Pair) (ids : List ℕ) → Run l ids → Good done l (map image (chosen_by done ids))
    unfolding chosen_by
    good done l [] r = record { ascends = tt; above = λ y i. elim i [ ] }
    good done l (id ∷ ids) (next, run) =
        go (flagged id) done (wanted id) next.same next.above (good true (image id) ids run)
        (good false (image id) ids run)
      where
        v : List Pair
        v = image id

        passed : List (List Pair)
        passed = map image (chosen_by true ids)

        other : List (List Pair)
        other = map image (chosen_by false ids)

        first : (done : Bool) → Bound done l v → ((y : List Pair) → compare_pairs v y ≡ Ordering.lt → Bound done l y)
            → Good true v passed → Good done l (v ∷ passed)
        first done b up g = record { ascends = (g.above, g.ascends); above = each }
          where
            each : (y : List Pair) → Mem y (v ∷ passed) → Bound done l y
            each y (Memᴰ.head e) = subst (Bound done l) (sym e) b
            each y (Memᴰ.tail i) = up y (g.above y i)

        go : (f d p : Bool) → (f ≡ true → v ≡ l) → (f ≡ false → compare_pairs l v ≡ Ordering.lt) → Good true v passed
            → Good false v other
            → Good d l
            (map image (cond (f && d) (chosen_by true ids) (cond p (id ∷ chosen_by true ids) (chosen_by false ids))))
        go true true p same above g o = subst (λ (z : List Pair). Good true z passed) (same refl) g
        go true false true same above g o =
            first false (inl (sym (same refl)))
            (λ y h. inr (subst (λ (z : List Pair). compare_pairs z y ≡ Ordering.lt) (same refl) h)) g
        go true false false same above g o = subst (λ (z : List Pair). Good false z other) (same refl) o
        go false d true same above g o =
            first d (bound_lt d l v (above refl)) (λ y h. bound_lt d l y (higher l v y (above refl) (inr h))) g
        go false d false same above g o = record {
          ascends = o.ascends;
          above = λ y i. bound_lt d l y (higher l v y (above refl) (o.above y i));
        }

    -- ---- they are images of the facets wanted, and all of them

    -- where an image comes from
    abbrev From : List ℕ → List Pair → Type 0
    From ids y = (x : ℕ) × Mem x ids × (wanted x ≡ true) × (y ≡ image x)

    of_chosen : (done : Bool) (ids : List ℕ) (y : List Pair) → Mem y (map image (chosen_by done ids)) → From ids y
    unfolding chosen_by
    of_chosen done [] y i = elim i [ ]
    of_chosen done (id ∷ ids) y i = go (flagged id && done) (wanted id) refl i (λ d j. of_chosen d ids y j)
      where
        later : From ids y → From (id ∷ ids) y
        later r = (r.0, there r.1, r.2, r.3)

        head_or : wanted id ≡ true → Mem y (image id ∷ map image (chosen_by true ids))
            → (Mem y (map image (chosen_by true ids)) → From ids y) → From (id ∷ ids) y
        head_or w (Memᴰ.head e) ih = (id, here refl, w, e)
        head_or w (Memᴰ.tail j) ih = later (ih j)

        go : (b p : Bool) → wanted id ≡ p
            → Mem y (map image (cond b (chosen_by true ids) (cond p (id ∷ chosen_by true ids) (chosen_by false ids))))
            → ((d : Bool) → Mem y (map image (chosen_by d ids)) → From ids y) → From (id ∷ ids) y
        go true p w j ih = later (ih true j)
        go false true w j ih = head_or w j (ih true)
        go false false w j ih = later (ih false j)

    -- an image wanted is chosen, or it is the one that is done
    abbrev There : Bool → List Pair → List ℕ → ℕ → Type 0
    There done l ids x = Mem (image x) (map image (chosen_by done ids)) ⊎ ((done ≡ true) × (image x ≡ l))

    in_chosen : (done : Bool) (l : List Pair) (ids : List ℕ) → Run l ids → (x : ℕ) → Mem x ids → wanted x ≡ true
        → There done l ids x
    unfolding chosen_by
    in_chosen done l [] r x i w = elim i [ ]
    in_chosen done l (id ∷ ids) (next, run) x i w =
        go (flagged id) done (wanted id) refl next.same i (λ d j. in_chosen d (image id) ids run x j w)
      where
        both : (f d : Bool) → Bool → List ℕ
        both f d p = cond (f && d) (chosen_by true ids) (cond p (id ∷ chosen_by true ids) (chosen_by false ids))

        go : (f d p : Bool) → wanted id ≡ p → (f ≡ true → image id ≡ l) → Mem x (id ∷ ids)
            → ((e : Bool) → Mem x ids → There e (image id) ids x)
            → Mem (image x) (map image (both f d p)) ⊎ ((d ≡ true) × (image x ≡ l))
        go true true p q same (Memᴰ.head e) ih = inr (refl, ap image e ∙ same refl)
        go true true p q same (Memᴰ.tail j) ih = ⊎_elim (λ m. inl m) (λ r. inr (refl, r.1 ∙ same refl)) (ih true j)
        go true false true q same (Memᴰ.head e) ih = inl (here (ap image e))
        go true false true q same (Memᴰ.tail j) ih = ⊎_elim (λ m. inl (there m)) (λ r. inl (here r.1)) (ih true j)
        go false d true q same (Memᴰ.head e) ih = inl (here (ap image e))
        go false d true q same (Memᴰ.tail j) ih = ⊎_elim (λ m. inl (there m)) (λ r. inl (here r.1)) (ih true j)
        go true false false q same (Memᴰ.head e) ih = absurd (true_not_false (sym w ∙ (ap wanted e ∙ q)))
        go true false false q same (Memᴰ.tail j) ih =
            ⊎_elim (λ m. inl m) (λ r. absurd (true_not_false (sym r.0))) (ih false j)
        go false d false q same (Memᴰ.head e) ih = absurd (true_not_false (sym w ∙ (ap wanted e ∙ q)))
        go false d false q same (Memᴰ.tail j) ih =
            ⊎_elim (λ m. inl m) (λ r. absurd (true_not_false (sym r.0))) (ih false j)

    -- from the first image on
    all_ascend : (ids : List ℕ) → Runs ids → Ascends compare_pairs (map image (chosen_by false ids))
    unfolding chosen_by
    all_ascend [] runs = tt
    all_ascend (id ∷ ids) (unflagged, run) =
        go (flagged id) (wanted id) unflagged (good true (image id) ids run) (good false (image id) ids run)
      where
        go : (f p : Bool) → f ≡ false → Good true (image id) (map image (chosen_by true ids))
            → Good false (image id) (map image (chosen_by false ids))
            → Ascends compare_pairs (map image
            (cond (f && false) (chosen_by true ids) (cond p (id ∷ chosen_by true ids) (chosen_by false ids))))
        go true p e g o = absurd (true_not_false e)
        go false true e g o = (g.above, g.ascends)
        go false false e g o = o.ascends

    all_chosen : (ids : List ℕ) → Runs ids → (x : ℕ) → Mem x ids → wanted x ≡ true
        → Mem (image x) (map image (chosen_by false ids))
    unfolding chosen_by
    all_chosen [] runs x i w = elim i [ ]
    all_chosen (id ∷ ids) (unflagged, run) x i w =
        go (flagged id) (wanted id) unflagged refl i (λ d j. in_chosen d (image id) ids run x j w)
      where
        go : (f p : Bool) → f ≡ false → wanted id ≡ p → Mem x (id ∷ ids)
            → ((d : Bool) → Mem x ids → There d (image id) ids x)
            → Mem (image x) (map image
            (cond (f && false) (chosen_by true ids) (cond p (id ∷ chosen_by true ids) (chosen_by false ids))))
        go true p e q j ih = absurd (true_not_false e)
        go false true e q (Memᴰ.head k) ih = here (ap image k)
        go false true e q (Memᴰ.tail j) ih = ⊎_elim (λ m. there m) (λ r. here r.1) (ih true j)
        go false false e q (Memᴰ.head k) ih = absurd (true_not_false (sym w ∙ (ap wanted k ∙ q)))
        go false false e q (Memᴰ.tail j) ih = ⊎_elim (λ m. m) (λ r. absurd (true_not_false (sym r.0))) (ih false j)

    -- the images chosen are those of the facets wanted, in order, each once
    pub chosen_in_order : (ids : List ℕ) → Runs ids → (l : List (List Pair))
        → ((x : ℕ) → Mem x ids → wanted x ≡ true → Mem (image x) l) → ((y : List Pair) → Mem y l → From ids y)
        → map image (chosen_from inside Left ids) ≡ polygons_in_order l
    chosen_in_order ids runs l into back =
        ap (map image) (chosen_by_holds Left ids)
        ∙ same_ascending compare_pairs pair_lists (map image (chosen_by false ids)) (polygons_in_order l)
        (all_ascend ids runs) (in_order_ascends compare_pairs pair_lists l)
        (record {
          into =
              λ y i. let r = of_chosen false ids y i in in_in_order compare_pairs pair_lists y l
              (subst (λ (z : List Pair). Mem z l) (sym r.3) (into r.0 r.1 r.2));
          back =
              λ y i. let r = back y (of_in_order compare_pairs pair_lists y l i) in
              subst (λ (z : List Pair). Mem z (map image (chosen_by false ids))) (sym r.3)
              (all_chosen ids runs r.0 r.1 r.2);
        })
