-- Every number with which a figure is written in an answer lies below a bound: how many ranks, elements and subs it
-- has, and the subs. It does where the figure has its shape, few elements in each rank from the edges up, and below
-- these an empty element and points that are written [0]. Leans on Shape, FigureWords and FewElements.
use Rattle.std.specs.Prelude.{◌≡◌, refl, ◌⊎◌, take, replicate}
use Rattle.std.proofs.Common.{sym, inl, inr}
use Rattle.std.proofs.Math.Path.{ap, subst}
use mathlib.Core.List.{List, [], ◌∷◌, ◌++◌, map, flat_map, Memᴰ}
use Prim.Native.Nat.{ℕ, ◌-◌, ◌≤◌, ◌<◌}
use native.Mathlib.Omega.{arith}
use Rattle.std.proofs.Math.ListN.{length, drop}
use Rattle.std.proofs.lemmas.List.{length-replicate}
use Rattle.definitions.specs.Figures.{Elements, Figure, rank_of, dyad, move_ends, sort_strong, assemble, figure_of}
use Rattle.definitions.specs.Recursion.{Entry, vertex_ridge}
use Rattle.definitions.specs.Job.{counted, used_points, summary_words}
use Rattle.laws.specs.Lists.{Mem, here, there, in_map, in_replicate}
use Rattle.shapes.specs.UsedPoints.{used_few}
use Rattle.shapes.specs.Shape.{Shaped}
use Rattle.shapes.specs.Calls.{at_or}
use Rattle.shapes.specs.FewElements.{sizes, Few}

-- ---- lists of numbers below a bound

pub record WordsBelow (most : ℕ) (words : List ℕ) : Type 0 where
  pub word : (w : ℕ) → Mem w words → w < most

module _ {most : ℕ} where
  pub none_below : WordsBelow most []
  none_below = record { word = λ w i. elim i [ ] }

  pub more_below : {w : ℕ} {words : List ℕ} → w < most → WordsBelow most words → WordsBelow most (w ∷ words)
  more_below {w} {words} h s = record { word = go }
    where
      go : (v : ℕ) → Mem v (w ∷ words) → v < most
      go v (Memᴰ.head q) = subst (λ (x : ℕ). x < most) (sym q) h
      go v (Memᴰ.tail m) = s.word v m

  pub joined_below : (a : List ℕ) {b : List ℕ} → WordsBelow most a → WordsBelow most b → WordsBelow most (a ++ b)
  joined_below [] s t = t
  joined_below (x ∷ a) s t =
      more_below (s.word x (here refl)) (joined_below a (record { word = λ w i. s.word w (there i) }) t)

  pub each_below : {A : Type 0} (words : A → List ℕ) (items : List A)
      → ((a : A) → Mem a items → WordsBelow most (words a)) → WordsBelow most (flat_map words items)
  unfolding flat_map
  each_below words [] h = none_below
  each_below words (a ∷ items) h =
      joined_below (words a) (h a (here refl)) (each_below words items (λ b i. h b (there i)))

  pub counted_below : {A : Type 0} (words : A → List ℕ) (items : List A) → length items < most
      → ((a : A) → Mem a items → WordsBelow most (words a)) → WordsBelow most (counted words items)
  unfolding counted
  counted_below words items few h = more_below few (each_below words items h)

-- ---- the lowest two ranks

-- the empty element and the points: no more than so many, each written with no number but 0, and that once at most
pub record Ground (n : ℕ) (ranks : List Elements) : Type 0 where
  pub few : (es : Elements) → Mem es ranks → length es ≤ n
  pub short : (es : Elements) → Mem es ranks → (e : List ℕ) → Mem e es → length e ≤ 1
  pub zeros : (es : Elements) → Mem es ranks → (e : List ℕ) → Mem e es → (x : ℕ) → Mem x e → x ≡ 0

abbrev pub OnGround : ℕ → Figure → Type 0
OnGround n f = Ground n (take 2 f)

pub ground_wider : (m n : ℕ) (ranks : List Elements) → m ≤ n → Ground m ranks → Ground n ranks
ground_wider m n ranks h g = record {
  few = λ es i. let k = g.few es i in omega arith;
  short = g.short;
  zeros = g.zeros;
}

lowest_moved : (to : ℕ → ℕ) (f : Figure) → take 2 (move_ends to f) ≡ take 2 f
unfolding move_ends
lowest_moved to [] = refl
lowest_moved to (empty ∷ []) = refl
lowest_moved to (empty ∷ points ∷ []) = refl
lowest_moved to (empty ∷ points ∷ edges ∷ more) = refl

lowest_sorted : (f : Figure) → take 2 (sort_strong f) ≡ take 2 f
unfolding sort_strong
lowest_sorted [] = refl
lowest_sorted (empty ∷ []) = refl
lowest_sorted (empty ∷ points ∷ []) = refl
lowest_sorted (empty ∷ points ∷ edges ∷ more) = refl

pub ground_moved : (n : ℕ) (to : ℕ → ℕ) (f : Figure) → OnGround n f → OnGround n (move_ends to f)
ground_moved n to f g = subst (Ground n) (sym (lowest_moved to f)) g

-- some empty elements and so many points
on_points : (n k : ℕ) (empty : Elements) → k ≤ n → length empty ≤ n → ((e : List ℕ) → Mem e empty → e ≡ [])
    → Ground n (empty ∷ replicate k (0 ∷ []) ∷ [])
on_points n k empty h few-empty none_in = record { few = few; short = short; zeros = zeros }
  where
    few : (es : Elements) → Mem es (empty ∷ replicate k (0 ∷ []) ∷ []) → length es ≤ n
    few es (Memᴰ.head q) = let a = ap length q in omega arith
    few es (Memᴰ.tail (Memᴰ.head q)) =
        let a = ap length q in
        let b = length-replicate {A = List ℕ} k (0 ∷ []) in
        omega arith
    few es (Memᴰ.tail (Memᴰ.tail m)) = elim m [ ]

    is : (es : Elements) → Mem es (empty ∷ replicate k (0 ∷ []) ∷ []) → (e : List ℕ) → Mem e es
        → (e ≡ []) ⊎ (e ≡ 0 ∷ [])
    is es (Memᴰ.head q) e i = inl (none_in e (subst (λ (l : Elements). Mem e l) q i))
    is es (Memᴰ.tail (Memᴰ.head q)) e i = inr (in_replicate k e (0 ∷ []) (subst (λ (l : Elements). Mem e l) q i))
    is es (Memᴰ.tail (Memᴰ.tail m)) e i = elim m [ ]

    short : (es : Elements) → Mem es (empty ∷ replicate k (0 ∷ []) ∷ []) → (e : List ℕ) → Mem e es → length e ≤ 1
    short es m e i = by (is es m e i)
      where
        by : (e ≡ []) ⊎ (e ≡ 0 ∷ []) → length e ≤ 1
        by (inl q) = let a = ap length q in omega arith
        by (inr q) = let a = ap length q in omega arith

    zeros : (es : Elements) → Mem es (empty ∷ replicate k (0 ∷ []) ∷ []) → (e : List ℕ) → Mem e es → (x : ℕ) → Mem x e
        → x ≡ 0
    zeros es m e i x j = by (is es m e i)
      where
        in_none : Mem x [] → x ≡ 0
        in_none o = elim o [ ]

        in_one : Mem x (0 ∷ []) → x ≡ 0
        in_one (Memᴰ.head q) = q
        in_one (Memᴰ.tail o) = elim o [ ]

        by : (e ≡ []) ⊎ (e ≡ 0 ∷ []) → x ≡ 0
        by (inl q) = in_none (subst (λ (l : List ℕ). Mem x l) q j)
        by (inr q) = in_one (subst (λ (l : List ℕ). Mem x l) q j)

one_empty : (e : List ℕ) → Mem e ([] ∷ []) → e ≡ []
one_empty e (Memᴰ.head q) = q
one_empty e (Memᴰ.tail m) = elim m [ ]

pub figure_ground : (more n : ℕ) (facets : List Figure) → 1 ≤ n → OnGround n (figure_of more n facets)
unfolding figure_of
figure_ground more n facets h =
    subst (Ground n) (sym (lowest_sorted (([] ∷ []) ∷ replicate n (0 ∷ []) ∷ assemble more (map (drop 2) facets))))
    (on_points n n ([] ∷ []) (omega arith) h one_empty)

pub dyad_ground : (n : ℕ) → 2 ≤ n → OnGround n dyad
unfolding dyad
dyad_ground n h = on_points n 2 ([] ∷ []) h (omega arith) one_empty

pub ridge_ground : (n v : ℕ) → 1 ≤ n → OnGround n (vertex_ridge v)
unfolding vertex_ridge
ridge_ground n v h = on_points n 1 [] h (omega arith) (λ e m. elim m [ ])

-- ---- one figure

-- a figure with its shape, on so many points, with at most so many elements in each rank from the edges up
module _ (most n w rank : ℕ) (f : Figure) (shaped : Shaped n rank f) (ground : OnGround n f) (few : Few w f)
    (two : 1 < most) (points : n < most) (elements : w < most) where
  pub low_few : (es : Elements) → Mem es (take 2 f) → length es < most
  low_few es i = let k = ground.few es i in omega arith

  pub ranks_few : (es : Elements) → Mem es shaped.ranks → length es < most
  unfolding sizes
  ranks_few es i =
      let above : drop 2 (sizes f) ≡ sizes shaped.ranks = ap (λ (g : Figure). drop 2 (sizes g)) shaped.is in
      let k = few (length es) (subst (λ (l : List ℕ). Mem (length es) l) (sym above)
      (in_map (λ (e : Elements). length e) es shaped.ranks i)) in
      omega arith

  pub lowest : take 2 f ≡ shaped.empty ∷ shaped.vertices ∷ []
  lowest = ap (take 2) shaped.is

  -- any rank of it, and where it has none
  rank_few : (k : ℕ) → length (rank_of k f) < most
  unfolding rank_of
  rank_few k =
      at_or (λ (es : Elements). length es < most) f k [] (omega arith)
      (λ es i. of_all es (subst (λ (g : Figure). Mem es g) shaped.is i))
    where
      of_all : (es : Elements) → Mem es (shaped.empty ∷ shaped.vertices ∷ shaped.ranks) → length es < most
      of_all es (Memᴰ.head q) = low_few es (subst (λ (l : List Elements). Mem es l) (sym lowest) (here q))
      of_all es (Memᴰ.tail (Memᴰ.head q)) =
          low_few es (subst (λ (l : List Elements). Mem es l) (sym lowest) (there (here q)))
      of_all es (Memᴰ.tail (Memᴰ.tail m)) = ranks_few es m

  pub summary_below : (e : Entry) → e.figure ≡ f → WordsBelow most (summary_words e)
  unfolding summary_words
  summary_below e is =
      subst (λ (g : Figure). WordsBelow most (length (used_points g) ∷ length (rank_of 2 g)
      ∷ length (rank_of (length g - 2) g) ∷ [])) (sym is)
      (more_below (let u = used_few f in let r = rank_few 1 in
      omega arith) (more_below (rank_few 2) (more_below (rank_few (length f - 2)) none_below)))
