-- Theorems on the definitions of specs/RidgeCounts.
use Rattle.std.specs.Prelude.{◌≡◌, ◌⊎◌, Bool, true, false, cond, ℕ, ◌≤◌, ◌<◌, T}
use Rattle.std.proofs.Math.Path.{refl, subst}
use Rattle.std.proofs.Common.{sym, ap, ◌∙◌, inl, inr, length-append}
use Rattle.std.specs.Prelude.{Option, Some, None}
use mathlib.Core.List.{List, [], ◌∷◌, ◌++◌, map, Memᴰ}
use native.Mathlib.Omega.{arith}
use Rattle.std.proofs.Math.Dec.{compare_is_eq}
use Rattle.std.proofs.Math.ListN.{length, get_or, length-map}
use Rattle.definitions.specs.Lists.{count_from, fresh, map_with}
use Rattle.definitions.specs.Vectors.{Vec}
use Rattle.definitions.specs.Subspace.{Subspace}
use Rattle.definitions.specs.Orbits.{Row, image}
use Rattle.definitions.specs.Figures.{Figure, Elements, compare_figures, move_ends, sort_strong}
use Rattle.definitions.specs.Recursion.{Rules, Inner, Held, RidgeOrbits, no_ridges, held_by, move_sorted}
use Rattle.definitions.specs.Recursion.{open_ridge_orbit, number_or_open, number_ridge, number_ridges}
use Rattle.definitions.specs.Faceting.{Prepared, faceting}
use Rattle.laws.specs.Options.{some_equal, none_is_not_some}
use Rattle.laws.specs.Lists.{Mem, here, there, in_append, in_map, of_map, count_at}
use Rattle.laws.specs.Ascending.{equal_tested, in_fresh}
use Rattle.laws.specs.Places.{map_self}
use Rattle.laws.specs.Ranges.{fresh_few}
use Rattle.shapes.specs.Answered.{Preparation}
use Rattle.shapes.specs.Edges.{figures}
use Rattle.shapes.specs.Shape.{Tower, Shaped}
use Rattle.shapes.proofs.Shape.{sort_same}
use Rattle.shapes.specs.Move.{raised_into}
use Rattle.shapes.proofs.Move.{moved_shaped}
use Rattle.shapes.specs.Sets.{set_rising}
use Rattle.shapes.specs.Calls.{Given, facet_rank, call_set}
use Rattle.shapes.proofs.Calls.{inner_shaped}
use Rattle.shapes.specs.Sizes.{Counted}
use Rattle.shapes.specs.RidgeCounts.{RidgesCounted, RidgesStay, Sound}

-- ---- the identity

-- moved by the identity, a figure stays as it is
pub identity_moves : (n rank : ℕ) (f : Figure) → Shaped n rank f → move_sorted (image (count_from 0 n)) f ≡ f
unfolding move_sorted move_ends image
identity_moves n rank f s =
    ap (λ (g : Figure). sort_strong g)
    (ap (move_ends (image (count_from 0 n))) s.is ∙ same s.ranks s.tower ∙ sym s.is) ∙ sort_same n rank f s
  where
    same : (ranks : List Elements) → Tower n ranks
        → move_ends (image (count_from 0 n)) (s.empty ∷ s.vertices ∷ ranks) ≡ s.empty ∷ s.vertices ∷ ranks
    same [] t = absurd t.crowned
    same (edges ∷ more) t =
        ap (λ (es : Elements). s.empty ∷ s.vertices ∷ es ∷ more)
        (map_self (map (image (count_from 0 n))) edges (λ e m. map_self (image (count_from 0 n)) e (λ v i. let b =
        (t.stack.0.elements e m).below v i in count_at 0 n v 0 b ∙ omega arith)))

-- ---- what is held

held_number : (ridge : Figure) (hs : List Held) (number : ℕ) → held_by ridge hs ≡ Some number
    → (h : Held) × Mem h hs × (number ≡ h.orbit)
unfolding held_by
held_number ridge [] number e = absurd (none_is_not_some number e)
held_number ridge (h ∷ hs) number e = go (compare_is_eq (compare_figures ridge h.ridge)) e (held_number ridge hs number)
  where
    go : (b : Bool) → cond b (Some h.orbit) (held_by ridge hs) ≡ Some number
        → (held_by ridge hs ≡ Some number → (k : Held) × Mem k hs × (number ≡ k.orbit))
        → (k : Held) × Mem k (h ∷ hs) × (number ≡ k.orbit)
    go true q ih = (h, here refl, sym (some_equal h.orbit number q))
    go false q ih = let r = ih q in (r.0, there r.1, r.2)

not_held : (ridge : Figure) (hs : List Held) → held_by ridge hs ≡ None → Mem ridge (map (λ (h : Held). h.ridge) hs) → ⊥
unfolding held_by
not_held ridge [] e m = elim m [ ]
not_held ridge (h ∷ hs) e m = go (compare_is_eq (compare_figures ridge h.ridge)) refl e m (not_held ridge hs)
  where
    go : (b : Bool) → compare_is_eq (compare_figures ridge h.ridge) ≡ b
        → cond b (Some h.orbit) (held_by ridge hs) ≡ None → Mem ridge (h.ridge ∷ map (λ (k : Held). k.ridge) hs)
        → (held_by ridge hs ≡ None → Mem ridge (map (λ (k : Held). k.ridge) hs) → ⊥) → ⊥
    go true q s m ih = none_is_not_some h.orbit (sym s)
    go false q s (Memᴰ.head r) ih = subst T q (equal_tested compare_figures figures ridge h.ridge r)
    go false q s (Memᴰ.tail i) ih = ih s i

-- ---- one ridge

module _ (n : ℕ) (rows : List Row) (identity : Mem (count_from 0 n) rows) where
  -- a ridge that the identity leaves as it is
  abbrev Stays : Figure → Type 0
  Stays ridge = move_sorted (image (count_from 0 n)) ridge ≡ ridge

  open_sound : (known : RidgeOrbits) (ridge : Figure) → Sound n rows identity known → Stays ridge
      → held_by ridge known.held ≡ None → Sound n rows identity (open_ridge_orbit rows known ridge)
  unfolding open_ridge_orbit
  open_sound known ridge h stays new =
      let seen = map (λ (k : Held). k.ridge) known.held in
      let images = map (λ (row : Row). move_sorted (image row) ridge) rows in
      let joining = fresh compare_figures seen images in
      let own : Mem ridge images = subst (λ (r : Figure). Mem r images) stays
      (in_map (λ (row : Row). move_sorted (image row) ridge) (count_from 0 n) rows identity) in
      let joins : Mem ridge joining =
      in_fresh compare_figures figures seen images ridge own (not_held ridge known.held new) in
      let number = length known.counts in
      let e = length-map rows (λ (row : Row). move_sorted (image row) ridge) in
      let few = fresh_few compare_figures seen images in
      let count : Counted rows (length joining) = record {
        some_set = some_of joining ridge joins;
        few = omega arith;
      } in
      record {
        numbered =
            λ k m. orbit_of_holds number joining k (in_append k (map (λ (r : Figure). record {
              ridge = r;
              orbit = number;
            }) joining) known.held m);
        counted = λ c m. count_of (length joining) count c (in_append c known.counts (length joining ∷ []) m);
      }
    where
      some_of : (l : List Figure) (x : Figure) → Mem x l → 1 ≤ length l
      some_of [] x m = elim m [ ]
      some_of (y ∷ l) x m = omega arith

      orbit_of_holds : (number : ℕ) (joining : List Figure) (k : Held)
          → Mem k (map (λ (r : Figure). record { ridge = r; orbit = length known.counts }) joining) ⊎ Mem k known.held
          → k.orbit < length (known.counts ++ (length joining ∷ []))
      orbit_of_holds number joining k (inl m) =
          let r = of_map (λ (f : Figure). record { ridge = f; orbit = length known.counts }) k joining m in
          let e = ap (λ (x : Held). x.orbit) r.2 in
          let l = length-append known.counts (length joining ∷ []) in
          omega arith
      orbit_of_holds number joining k (inr m) =
          let b = h.numbered k m in
          let l = length-append known.counts (length joining ∷ []) in
          omega arith

      count_of : (many : ℕ) → Counted rows many → (c : ℕ) → Mem c known.counts ⊎ Mem c (many ∷ []) → Counted rows c
      count_of many good c (inl m) = h.counted c m
      count_of many good c (inr (Memᴰ.head e)) = subst (Counted rows) (sym e) good
      count_of many good c (inr (Memᴰ.tail m)) = elim m [ ]

  -- what a step leaves: a sound state with no fewer ridge orbits, and a result that fits it
  abbrev Step : {B : Type 0} → (ℕ → B → Type 0) → RidgeOrbits → B × RidgeOrbits → Type 0
  Step fits known r =
      Sound n rows identity r.1 × (length known.counts ≤ length r.1.counts) × fits (length r.1.counts) r.0

  ridge_step : (vertices : List ℕ) (known : RidgeOrbits) (inner : Figure) → Sound n rows identity known
      → Stays (move_sorted (λ (v : ℕ). get_or vertices v 0) inner)
      → Step (λ k x. x < k) known (number_ridge rows vertices known inner)
  unfolding number_ridge number_or_open open_ridge_orbit
  ridge_step vertices known inner h stays = go (held_by ridge known.held) refl
    where
      ridge : Figure
      ridge = move_sorted (λ (v : ℕ). get_or vertices v 0) inner

      go : (o : Option ℕ) → held_by ridge known.held ≡ o → Step (λ k x. x < k) known (number_or_open rows known ridge o)
      go (Some number) e =
          let r = held_number ridge known.held number e in
          let b = h.numbered r.0 r.1 in
          let q = r.2 in
          (h, omega arith, omega arith)
      go None e =
          let l = length-append known.counts (length (joining_of ridge) ∷ []) in
          (open_sound known ridge h stays e, omega arith, omega arith)
        where
          joining_of : Figure → List Figure
          joining_of r =
              fresh compare_figures (map (λ (k : Held). k.ridge) known.held)
              (map (λ (row : Row). move_sorted (image row) r) rows)

  -- ---- ridges in lists

  module _ {A B : Type 0} (f : RidgeOrbits → A → B × RidgeOrbits) (P : A → Type 0) (fits : ℕ → B → Type 0)
      (wider : (k m : ℕ) (b : B) → k ≤ m → fits k b → fits m b)
      (one : (known : RidgeOrbits) (x : A) → Sound n rows identity known → P x → Step fits known (f known x)) where
    steps : (known : RidgeOrbits) (l : List A) → Sound n rows identity known → ((x : A) → Mem x l → P x)
        → Step (λ k bs. (b : B) → Mem b bs → fits k b) known (map_with f known l)
    unfolding map_with
    steps known [] h p = (h, omega arith, λ b m. elim m [ ])
    steps known (x ∷ l) h p =
        let first = one known x h (p x (here refl)) in
        let rest = steps (f known x).1 l first.0 (λ y m. p y (there m)) in
        let a = first.1 in
        let b = rest.1 in (
          rest.0,
          omega arith,
          fit (f known x).0 (map_with f (f known x).1 l).0 (wider (length (f known x).1.counts)
              (length (map_with f (f known x).1 l).1.counts) (f known x).0 rest.1 first.2) rest.2,
        )
      where
        fit : {k : ℕ} (y : B) (ys : List B) → fits k y → ((b : B) → Mem b ys → fits k b) → (b : B) → Mem b (y ∷ ys)
            → fits k b
        fit {k} y ys h t b (Memᴰ.head e) = subst (fits k) (sym e) h
        fit {k} y ys h t b (Memᴰ.tail m) = t b m

-- ---- every call

module _ (n : ℕ) (rows : List Row) (identity : Mem (count_from 0 n) rows) where
  abbrev Below : ℕ → ℕ → Type 0
  Below k x = x < k

  abbrev AllBelow : ℕ → List ℕ → Type 0
  AllBelow k l = (x : ℕ) → Mem x l → x < k

  abbrev AllIn : ℕ → List (List ℕ) → Type 0
  AllIn k l = (x : List ℕ) → Mem x l → AllBelow k x

  abbrev moved : List ℕ → Figure → Figure
  moved vertices = move_sorted (λ (v : ℕ). get_or vertices v 0)

  below_wider : (k m x : ℕ) → k ≤ m → x < k → x < m
  below_wider k m x h b = omega arith

  row_steps : (vertices : List ℕ) (known : RidgeOrbits) (fs : List Figure) → Sound n rows identity known
      → ((f : Figure) → Mem f fs → Stays n rows identity (moved vertices f))
      → Step n rows identity AllBelow known (map_with (number_ridge rows vertices) known fs)
  row_steps vertices =
      steps n rows identity (number_ridge rows vertices)
      (λ f. Stays n rows identity (moved vertices f)) Below below_wider (ridge_step n rows identity vertices)

  orbit_steps : (known : RidgeOrbits) (i : Inner) → Sound n rows identity known → RidgesStay n i
      → Step n rows identity AllIn known
      (map_with (map_with (number_ridge rows i.orbit.vertices)) known i.answer.possible)
  orbit_steps known i h stay =
      steps n rows identity (map_with (number_ridge rows i.orbit.vertices))
      (λ fs. (f : Figure) → Mem f fs → Stays n rows identity (moved i.orbit.vertices f)) AllBelow
      (λ k m l w a x j. below_wider k m x w (a x j)) (row_steps i.orbit.vertices) known i.answer.possible h stay

  pub ridges_counted : (inner : List Inner) → ((i : Inner) → Mem i inner → RidgesStay n i) → RidgesCounted rows inner
  unfolding number_ridges no_ridges
  ridges_counted inner stay =
      let ends =
      steps n rows identity (λ known (i : Inner).
      map_with (map_with (number_ridge rows i.orbit.vertices)) known i.answer.possible) (RidgesStay n) AllIn
      (λ k m l w a x j y z. below_wider k m y w (a x j y z)) orbit_steps no_ridges inner
      (record { numbered = λ h m. elim m [ ]; counted = λ c m. elim m [ ] }) stay in
      record { numbers = ends.2; counts = ends.0.counted }

-- the ridges of a call, from what it has before its search
pub call_ridges : (more : ℕ) (rules : Rules) (plane : Subspace) (points : List Vec) (rows : List Row) (p : Prepared)
    → Given points rows
    → Preparation more rules (faceting more rules) plane points rows p → RidgesCounted p.rows p.inner
call_ridges more rules plane points rows p given made =
    let n = p.points in
    let identity : Mem (count_from 0 n) p.rows =
    subst (λ (l : List Row). Mem (count_from 0 n) l) (sym made.rows_are)
    (subst (λ (k : ℕ). Mem (count_from 0 k) rows) (sym made.points_are)
    (subst (λ (l : List Row). Mem (count_from 0 (length points)) l) (sym given.rows_good.identity) (here refl))) in
    ridges_counted n p.rows identity p.inner (λ i m fs k f j.
    let vertices = i.orbit.vertices in
    let to : ℕ → ℕ = λ v. get_or vertices v 0 in
    let rank = facet_rank p.more in
    let s = (inner_shaped more rules plane points rows p given made i m).possible fs k f j in
    identity_moves n rank (move_sorted to f)
    (moved_shaped (length vertices) n rank to (raised_into (length vertices) n to
    (set_rising n vertices (call_set more rules plane points rows p given made i m))) f s))
