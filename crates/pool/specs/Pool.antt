-- Lists of any length in one region of bytes. The region has the number of closed lists (u32 at 0), the number of
-- items in all (u32 at 4), the starts of the lists (u32 at 8, 12, ..: list k begins at start k and ends at start k +
-- 1), room for `most` lists; then the items, w bytes each. Behind the closed lists one is open: it takes items until
-- it is closed. What a region holds is `closed_lists` and `opened`, functions of its own bytes. Leans on Words.
-- Assumes nothing.
use Rattle.std.specs.Prelude.{◌≡◌, ◌⊎◌, ℕ, zero, suc, ◌+◌, ◌-◌, ◌*◌, ◌^◌, ◌≤◌, ◌<◌, take}
use Rattle.std.proofs.Math.Path.{refl, ap}
use Rattle.std.proofs.Common.{sym, ◌∙◌, ⊎_elim, mul-zero, add-one, get_or-take, get_or-drop, ext_get_or}
use mathlib.Core.List.{List, [], ◌∷◌, ◌++◌}
use Rattle.std.proofs.Math.Logic.{inl, inr}
use native.Mathlib.Omega.{arith}
use Rattle.std.proofs.Math.ListN.{length, get_or, drop, length-drop}
use Rattle.std.proofs.Math.Seq.{take_all, length-take-le, drop-length}
use Rattle.std.proofs.lemmas.List.{take-append-le, drop-append-le}
use Rattle.definitions.specs.Job.{number_at}
use Rattle.laws.specs.Segments.{cons_same, le_or_lt}
use Rattle.words.specs.Words.{put, words, put_length, number_at_put, number_at_put_off, number_at_drop, drop_put}
use Rattle.words.specs.Words.{drop_put_add, words_length, words_push, get_d_words}

-- ---- the region's fields

unfoldable pub count : List ℕ → ℕ
count s = number_at s 0 4

unfoldable pub used : List ℕ → ℕ
used s = number_at s 4 4

unfoldable pub start : List ℕ → ℕ → ℕ
start s k = number_at s (8 + 4 * k) 4

-- where the items begin
abbrev pub base : ℕ → ℕ
base most = 12 + 4 * most

unfoldable pub items : ℕ → ℕ → List ℕ → List ℕ
items w most s = words w (drop (base most) s) (used s)

-- where each closed list ends
unfoldable pub ends : List ℕ → List ℕ
ends s = words 4 (drop 12 s) (count s)

-- ---- the lists

-- a list cut at the given places, from a on
unfoldable pub cuts : ℕ → List ℕ → List ℕ → List (List ℕ)
cuts a [] l = []
cuts a (b ∷ bs) l = take (b - a) (drop a l) ∷ cuts b bs l

unfoldable pub closed_lists : ℕ → ℕ → List ℕ → List (List ℕ)
closed_lists w most s = cuts (start s 0) (ends s) (items w most s)

unfoldable pub opened : ℕ → ℕ → List ℕ → List ℕ
opened w most s = drop (start s (count s)) (items w most s)

-- ---- what the functions do

-- no list, and an empty one open
unfoldable pub emptied : List ℕ → List ℕ
emptied s = put 4 (put 4 (put 4 s 0 0) 4 0) 8 0

-- one item more in the open list
unfoldable pub pushed : ℕ → ℕ → List ℕ → ℕ → List ℕ
pushed w most s v = put 4 (put w s (base most + w * used s) v) 4 (used s + 1)

-- the open list is closed, and an empty one is open behind it
unfoldable pub ended : List ℕ → List ℕ
ended s = put 4 (put 4 s (12 + 4 * count s) (used s)) 0 (count s + 1)

-- the length of list k, and the place of its item i
unfoldable pub length_at : List ℕ → ℕ → ℕ
length_at s k = start s (k + 1) - start s k

unfoldable pub place_at : ℕ → ℕ → List ℕ → ℕ → ℕ → ℕ
place_at w most s k i = base most + w * (start s k + i)

-- a region whose lists lie in order inside it: every region that was emptied and then only pushed to and ended
pub record Sound (w most : ℕ) (s : List ℕ) : Type 0 where
  pub few : count s ≤ most
  pub small : used s < 4294967296
  pub fits : base most + w * used s ≤ length s
  pub below : (k : ℕ) → k ≤ count s → start s k ≤ used s
  pub ascend : (k : ℕ) → k < count s → start s k ≤ start s (k + 1)

-- ---- cutting

pub cuts_length : (a : ℕ) (bs l : List ℕ) → length (cuts a bs l) ≡ length bs
unfolding cuts
cuts_length a [] l = refl
cuts_length a (b ∷ bs) l = ap suc (cuts_length b bs l)

-- items behind the last cut change none of the lists
one_cut : (a b : ℕ) (l more : List ℕ) → a ≤ length l → b ≤ length l
    → take (b - a) (drop a (l ++ more)) ≡ take (b - a) (drop a l)
one_cut a b l more h k =
    let d = length-drop a l in
    ap (take (b - a)) (drop-append-le a l more h) ∙ take-append-le (b - a) (drop a l) more (omega arith)

pub cuts_more : (a : ℕ) (bs l more : List ℕ) → a ≤ length l → ((k : ℕ) → k < length bs → get_or bs k 0 ≤ length l)
    → cuts a bs (l ++ more) ≡ cuts a bs l
unfolding cuts
cuts_more a [] l more h k = refl
cuts_more a (b ∷ bs) l more h k =
    let first : b ≤ length l = k 0 (omega arith) in
    cons_same (one_cut a b l more h first) (cuts_more b bs l more first (λ i j. k (suc i) (omega arith)))

-- one cut more
pub cuts_end : (a : ℕ) (bs : List ℕ) (b : ℕ) (l : List ℕ) → cuts a (bs ++ (b ∷ [])) l
    ≡ cuts a bs l ++ (take (b - get_or (a ∷ bs) (length bs) 0) (drop (get_or (a ∷ bs) (length bs) 0) l) ∷ [])
unfolding cuts
cuts_end a [] b l = refl
cuts_end a (x ∷ bs) b l = cons_same refl (cuts_end x bs b l)

-- list k
pub get_d_cuts : (a : ℕ) (bs l : List ℕ) (k : ℕ) → k < length bs
    → get_or (cuts a bs l) k [] ≡ take (get_or bs k 0 - get_or (a ∷ bs) k 0) (drop (get_or (a ∷ bs) k 0) l)
unfolding cuts
get_d_cuts a [] l k h = absurd (omega arith)
get_d_cuts a (b ∷ bs) l zero h = refl
get_d_cuts a (b ∷ bs) l (suc k) h = get_d_cuts b bs l k (omega arith)

-- ---- the region's fields, read from its bytes

pub ends_length : (s : List ℕ) → length (ends s) ≡ count s
unfolding ends
ends_length s = words_length 4 (drop 12 s) (count s)

pub items_length : (w most : ℕ) (s : List ℕ) → length (items w most s) ≡ used s
unfolding items
items_length w most s = words_length w (drop (base most) s) (used s)

pub closed_length : (w most : ℕ) (s : List ℕ) → length (closed_lists w most s) ≡ count s
unfolding closed_lists
closed_length w most s = cuts_length (start s 0) (ends s) (items w most s) ∙ ends_length s

-- an end is the next start
ends_at : (s : List ℕ) (k : ℕ) → k < count s → get_or (ends s) k 0 ≡ start s (k + 1)
unfolding ends start
ends_at s k h =
    let e : 12 + 4 * k ≡ 8 + 4 * (k + 1) = omega arith in
    get_d_words 4 (drop 12 s) (count s) k h ∙ (number_at_drop s 12 (4 * k) 4 ∙ ap (λ (i : ℕ). number_at s i 4) e)

starts_at : (s : List ℕ) (k : ℕ) → k ≤ count s → get_or (start s 0 ∷ ends s) k 0 ≡ start s k
starts_at s zero h = refl
starts_at s (suc k) h = ends_at s k (omega arith) ∙ ap (start s) (add-one k)

-- list k of a sound region, its length and its items
module _ (w most : ℕ) (s : List ℕ) (ok : Sound w most s) (k : ℕ) (h : k < count s) where
  list_is : get_or (closed_lists w most s) k [] ≡ take (length_at s k) (drop (start s k) (items w most s))
  unfolding closed_lists length_at
  list_is =
      let l = ends_length s in
      get_d_cuts (start s 0) (ends s) (items w most s) k (omega arith)
      ∙ (rw (ends_at s k h, starts_at s k (omega arith)) refl)

  pub list_length : length (get_or (closed_lists w most s) k []) ≡ length_at s k
  unfolding length_at
  list_length =
      let m = items_length w most s in
      let d = length-drop (start s k) (items w most s) in
      let b = ok.below (k + 1) (omega arith) in
      ap length list_is ∙ length-take-le (length_at s k) (drop (start s k) (items w most s)) (omega arith)

  pub item_inside : (i : ℕ) → i < length_at s k → start s k + i < used s
  unfolding length_at
  item_inside i l = let b = ok.below (k + 1) (omega arith) in omega arith

  pub list_item : (i : ℕ) → i < length_at s k
      → get_or (get_or (closed_lists w most s) k []) i 0 ≡ number_at s (place_at w most s k i) w
  unfolding place_at items
  list_item i l =
      ap (λ (r : List ℕ). get_or r i 0) list_is
      ∙ (get_or-take (length_at s k) (drop (start s k) (items w most s)) i 0 l
      ∙ (get_or-drop (start s k) (items w most s) i 0
      ∙ (get_d_words w (drop (base most) s) (used s) (start s k + i) (item_inside i l)
      ∙ number_at_drop s (base most) (w * (start s k + i)) w)))

-- ---- an empty region

pub emptied_length : (s : List ℕ) → length (emptied s) ≡ length s
unfolding emptied
emptied_length s = simp put_length

module _ (w most : ℕ) (s : List ℕ) (fits : base most ≤ length s) where
  empty_count : count (emptied s) ≡ 0
  unfolding count emptied
  empty_count =
      number_at_put_off 4 (put 4 (put 4 s 0 0) 4 0) 8 0 0 4 (inl (omega arith))
      ∙ (number_at_put_off 4 (put 4 s 0 0) 4 0 0 4 (inl (omega arith))
      ∙ number_at_put 4 s 0 0 (omega arith) (omega arith))

  pub emptied_used : used (emptied s) ≡ 0
  unfolding used emptied
  emptied_used =
      let l = put_length 4 s 0 0 in
      number_at_put_off 4 (put 4 (put 4 s 0 0) 4 0) 8 0 4 4 (inl (omega arith))
      ∙ number_at_put 4 (put 4 s 0 0) 4 0 (omega arith) (omega arith)

  empty_start : start (emptied s) 0 ≡ 0
  unfolding start emptied
  empty_start =
      let l = put_length 4 s 0 0 in
      let m = put_length 4 (put 4 s 0 0) 4 0 in
      number_at_put 4 (put 4 (put 4 s 0 0) 4 0) 8 0 (omega arith) (omega arith)

  pub emptied_sound : Sound w most (emptied s)
  emptied_sound = record {
    few = omega (arith, empty_count);
    small = omega (arith, emptied_used);
    fits = rw (emptied_used, mul-zero, emptied_length) (omega arith);
    below = λ k h. let z : k ≡ 0 = omega (arith, empty_count) in rw z (omega (arith, empty_start));
    ascend = λ k h. absurd (omega (arith, empty_count));
  }

  pub emptied_closed : closed_lists w most (emptied s) ≡ []
  unfolding closed_lists ends cuts words
  emptied_closed = rw empty_count refl

  pub emptied_opened : opened w most (emptied s) ≡ []
  unfolding opened items words
  emptied_opened = rw (emptied_used, empty_count, empty_start) refl

-- ---- one item more

module _ (w most : ℕ) (s : List ℕ) (v : ℕ) (ok : Sound w most s) (room : base most + w * (used s + 1) ≤ length s)
    (few : used s + 1 < 4294967296) (small : v < 256 ^ w) where
  -- the place of the item, and the region before the number of items is counted up
  at : ℕ
  at = base most + w * used s

  at_is : at ≡ base most + w * used s
  unfolding at
  at_is = refl

  room_at : at + w ≤ length s
  room_at = let e : w * (used s + 1) ≡ w * used s + w = omega arith in omega (arith, at_is)

  pushed_is : pushed w most s v ≡ put 4 (put w s at v) 4 (used s + 1)
  unfolding pushed at
  pushed_is = refl

  pub pushed_length : length (pushed w most s v) ≡ length s
  unfolding pushed
  pushed_length = simp put_length

  pushed_before : (j : ℕ) → j + 4 ≤ base most → (j + 4 ≤ 4) ⊎ (8 ≤ j)
      → number_at (pushed w most s v) j 4 ≡ number_at s j 4
  pushed_before j h o =
      ap (λ (r : List ℕ). number_at r j 4) pushed_is
      ∙ (number_at_put_off 4 (put w s at v) 4 (used s + 1) j 4 o
      ∙ number_at_put_off w s at v j 4 (inl (omega (arith, at_is))))

  pub pushed_count : count (pushed w most s v) ≡ count s
  unfolding count
  pushed_count = pushed_before 0 (omega arith) (inl (omega arith))

  pub pushed_used : used (pushed w most s v) ≡ used s + 1
  unfolding used
  pushed_used =
      let l = put_length w s at v in
      ap (λ (r : List ℕ). number_at r 4 4) pushed_is ∙ number_at_put 4 (put w s at v) 4 (used s + 1) (omega arith) few

  pushed_start : (k : ℕ) → k ≤ count s → start (pushed w most s v) k ≡ start s k
  unfolding start
  pushed_start k h = pushed_before (8 + 4 * k) (omega (arith, ok.few)) (inr (omega arith))

  pub pushed_sound : Sound w most (pushed w most s v)
  pushed_sound = record {
    few = omega (arith, pushed_count, ok.few);
    small = omega (arith, pushed_used);
    fits = rw (pushed_used, pushed_length) room;
    below =
        λ k h. omega
        (arith, pushed_used, pushed_start k (omega (arith, pushed_count)), ok.below k (omega (arith, pushed_count)));
    ascend =
        λ k h. omega (
          arith,
          pushed_start k (omega (arith, pushed_count)),
          pushed_start (k + 1) (omega (arith, pushed_count)),
          ok.ascend k (omega (arith, pushed_count)),
        );
  }

  pushed_items : items w most (pushed w most s v) ≡ items w most s ++ (v ∷ [])
  unfolding items
  pushed_items =
      let l : length (drop (base most) s) ≡ length s - base most = length-drop (base most) s in
      let e : w * (used s + 1) ≡ w * used s + w = omega arith in
      let d : drop (base most) (pushed w most s v) ≡ put w (drop (base most) s) (w * used s) v =
      ap (drop (base most)) pushed_is
      ∙ (drop_put 4 (put w s at v) 4 (used s + 1) (base most) (omega arith)
      ∙ (ap (λ (i : ℕ). drop (base most) (put w s i v)) at_is ∙ drop_put_add w s (base most) (w * used s) v)) in
      rw (pushed_used, d) (words_push w (drop (base most) s) (used s) v (omega arith) small)

  pushed_ends : ends (pushed w most s v) ≡ ends s
  pushed_ends =
      ext_get_or 0 (ends (pushed w most s v)) (ends s)
      (ends_length (pushed w most s v) ∙ (pushed_count ∙ sym (ends_length s)))
      (λ k h.
      let c = ends_length (pushed w most s v) in
      ends_at (pushed w most s v) k (omega arith)
      ∙ (pushed_start (k + 1) (omega (arith, pushed_count)) ∙ sym (ends_at s k (omega (arith, pushed_count)))))

  pub pushed_closed : closed_lists w most (pushed w most s v) ≡ closed_lists w most s
  unfolding closed_lists
  pushed_closed =
      let m = items_length w most s in
      let n = ends_length s in
      rw (pushed_start 0 (omega arith), pushed_ends, pushed_items)
      (cuts_more (start s 0) (ends s) (items w most s) (v ∷ []) (omega (arith, ok.below 0 (omega arith)))
      (λ k h. omega (arith, ends_at s k (omega arith), ok.below (k + 1) (omega arith))))

  pub pushed_opened : opened w most (pushed w most s v) ≡ opened w most s ++ (v ∷ [])
  unfolding opened
  pushed_opened =
      let m = items_length w most s in
      rw (pushed_count, pushed_start (count s) (omega arith), pushed_items)
      (drop-append-le (start s (count s)) (items w most s) (v ∷ []) (omega (arith, ok.below (count s) (omega arith))))

-- ---- one list more

count_put : (s : List ℕ) (n : ℕ) → 4 ≤ length s → n < 4294967296 → count (put 4 s 0 n) ≡ n
unfolding count
count_put s n h f = number_at_put 4 s 0 n h f

ended_drop : (s : List ℕ) (n : ℕ) → 16 + 4 * count s ≤ n → drop n (ended s) ≡ drop n s
unfolding ended
ended_drop s n h =
    drop_put 4 (put 4 s (12 + 4 * count s) (used s)) 0 (count s + 1) n (omega arith)
    ∙ drop_put 4 s (12 + 4 * count s) (used s) n (omega arith)

module _ (w most : ℕ) (s : List ℕ) (ok : Sound w most s) (more : count s < most) (few : most < 4294967296) where
  long : base most ≤ length s
  long = omega (arith, ok.fits)

  pub ended_length : length (ended s) ≡ length s
  unfolding ended
  ended_length = simp put_length

  pub ended_count : count (ended s) ≡ count s + 1
  unfolding ended
  ended_count =
      let l = put_length 4 s (12 + 4 * count s) (used s) in
      let m = long in
      count_put (put 4 s (12 + 4 * count s) (used s)) (count s + 1) (omega arith) (omega arith)

  ended_behind : (j : ℕ) → 4 ≤ j → (j + 4 ≤ 12 + 4 * count s) ⊎ (16 + 4 * count s ≤ j)
      → number_at (ended s) j 4 ≡ number_at s j 4
  unfolding ended
  ended_behind j h o =
      number_at_put_off 4 (put 4 s (12 + 4 * count s) (used s)) 0 (count s + 1) j 4 (inr (omega arith))
      ∙ number_at_put_off 4 s (12 + 4 * count s) (used s) j 4 (⊎_elim (λ a. inl a) (λ a. inr (omega arith)) o)

  pub ended_used : used (ended s) ≡ used s
  unfolding used
  ended_used = ended_behind 4 (omega arith) (inl (omega arith))

  ended_start : (k : ℕ) → k ≤ count s → start (ended s) k ≡ start s k
  unfolding start
  ended_start k h = ended_behind (8 + 4 * k) (omega arith) (inl (omega arith))

  ended_last : start (ended s) (count s + 1) ≡ used s
  unfolding start ended
  ended_last =
      let e : 8 + 4 * (count s + 1) ≡ 12 + 4 * count s = omega arith in
      let m = long in
      ap (λ (i : ℕ). number_at (put 4 (put 4 s (12 + 4 * count s) (used s)) 0 (count s + 1)) i 4) e
      ∙ (number_at_put_off 4 (put 4 s (12 + 4 * count s) (used s)) 0 (count s + 1) (12 + 4 * count s) 4
      (inr (omega arith))
      ∙ number_at_put 4 s (12 + 4 * count s) (used s) (omega arith) ok.small)

  ended_below : (k : ℕ) → k ≤ count s + 1 → start (ended s) k ≤ used s
  ended_below k h =
      ⊎_elim
      (λ l. omega (arith, ended_start k l, ok.below k l))
      (λ l. let e : k ≡ count s + 1 = omega arith in omega (arith, ap (start (ended s)) e, ended_last))
      (le_or_lt k (count s))

  ended_ascend : (k : ℕ) → k < count s + 1 → start (ended s) k ≤ start (ended s) (k + 1)
  ended_ascend k h =
      ⊎_elim
      (λ l. omega (arith, ended_start k (omega arith), ended_start (k + 1) l, ok.ascend k (omega arith)))
      (λ l. let e : k + 1 ≡ count s + 1 = omega arith in
      omega (arith, ap (start (ended s)) e, ended_last, ended_below k (omega arith)))
      (le_or_lt (k + 1) (count s))

  pub ended_sound : Sound w most (ended s)
  ended_sound = record {
    few = omega (arith, ended_count);
    small = omega (arith, ended_used, ok.small);
    fits = rw (ended_used, ended_length) ok.fits;
    below = λ k h. omega (arith, ended_used, ended_below k (omega (arith, ended_count)));
    ascend = λ k h. ended_ascend k (omega (arith, ended_count));
  }

  ended_items : items w most (ended s) ≡ items w most s
  unfolding items
  ended_items = rw ended_used (ap (λ (r : List ℕ). words w r (used s)) same)
    where
      same : drop (base most) (ended s) ≡ drop (base most) s
      same = ended_drop s (base most) (omega arith)

  ended_tail : drop 12 (ended s) ≡ put 4 (drop 12 s) (4 * count s) (used s)
  unfolding ended
  ended_tail =
      drop_put 4 (put 4 s (12 + 4 * count s) (used s)) 0 (count s + 1) 12 (omega arith)
      ∙ drop_put_add 4 s 12 (4 * count s) (used s)

  ended_ends : ends (ended s) ≡ ends s ++ (used s ∷ [])
  unfolding ends
  ended_ends =
      let l = length-drop 12 s in
      let m = long in
      rw (ended_count, ended_tail) (words_push 4 (drop 12 s) (count s) (used s) (omega arith) ok.small)

  last_is : get_or (start s 0 ∷ ends s) (length (ends s)) 0 ≡ start s (count s)
  last_is = ap (λ (k : ℕ). get_or (start s 0 ∷ ends s) k 0) (ends_length s) ∙ starts_at s (count s) (omega arith)

  last_list : take (used s - start s (count s)) (drop (start s (count s)) (items w most s)) ≡ opened w most s
  unfolding opened
  last_list =
      let m = items_length w most s in
      let d = length-drop (start s (count s)) (items w most s) in
      take_all (used s - start s (count s)) (drop (start s (count s)) (items w most s)) (omega arith)

  pub ended_closed : closed_lists w most (ended s) ≡ closed_lists w most s ++ (opened w most s ∷ [])
  unfolding closed_lists
  ended_closed =
      rw (ended_start 0 (omega arith), ended_ends, ended_items)
      (cuts_end (start s 0) (ends s) (used s) (items w most s)
      ∙ (rw last_is (ap (λ (l : List ℕ). cuts (start s 0) (ends s) (items w most s) ++ (l ∷ [])) last_list)))

  pub ended_opened : opened w most (ended s) ≡ []
  unfolding opened
  ended_opened =
      rw (ended_count, ended_last, ended_items)
      (ap (λ (k : ℕ). drop k (items w most s)) (sym (items_length w most s)) ∙ drop-length (items w most s))
