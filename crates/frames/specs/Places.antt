-- The frames' bytes: a place taken or a frame written at one depth, and what the frames below stand for. Leans on
-- Layout and Words.
use Rattle.std.specs.Prelude.{◌≡◌, Option, ◌⊎◌, List, ◌∷◌, map, length}
use Rattle.std.proofs.Math.Path.{refl, ap}
use Rattle.std.proofs.Common.{sym, ◌∙◌}
use Rattle.std.proofs.Math.Logic.{inl, inr}
use Prim.Native.Nat.{ℕ, zero, suc, ◌+◌, ◌*◌, ◌≤◌, ◌<◌}
use native.Mathlib.Omega.{arith}
use Rattle.definitions.specs.Job.{number_at}
use Rattle.definitions.specs.Search.{Table}
use Rattle.words.specs.Words.{put, put_length, number_at_put, number_at_put_off}
use Rattle.facets.specs.Frames.{moved}
use Rattle.facets.specs.Layout.{facet_of, ridge_of, code_of, ridge_of_code}
use Rattle.frames.specs.Paths.{path, list_to, frame_at, frames_to, place_at, low_at, mark_at, kind_at, taken_at}
use Rattle.frames.specs.Paths.{with_place, with_frame}

-- the first k frames are the same, byte for byte
abbrev pub SameFrames : List ℕ → List ℕ → ℕ → Type 0
SameFrames p q k = (j o w : ℕ) → j < k → o + w ≤ 16 → number_at q (16 * j + o) w ≡ number_at p (16 * j + o) w

module _ (p q : List ℕ) (k : ℕ) (b : SameFrames p q k) where
  same_place : (j : ℕ) → j < k → place_at q j ≡ place_at p j
  unfolding place_at
  same_place j h =
      let e : 16 * j + 0 ≡ 16 * j = omega arith in
      ap (λ (i : ℕ). number_at q i 4) (sym e) ∙ (b j 0 4 h (omega arith) ∙ ap (λ (i : ℕ). number_at p i 4) e)

  pub same_kind : (j : ℕ) → j < k → kind_at q j ≡ kind_at p j
  unfolding kind_at
  same_kind j h = ap ridge_of (b j 10 2 h (omega arith))

  pub same_places : (j : ℕ) → j < k → place_at q j ≡ place_at p j
  same_places j h = same_place j h

  pub same_taken : (j : ℕ) → j < k → taken_at q j ≡ taken_at p j
  unfolding taken_at
  same_taken j h = b j 12 2 h (omega arith)

  pub same_path : (j : ℕ) → j ≤ k → path q j ≡ path p j
  unfolding path
  same_path zero h = refl
  same_path (suc j) h = rw (same_path j (omega arith), same_taken j h) refl

  pub same_list : (t : Table) (j : ℕ) → j ≤ k → list_to t q j ≡ list_to t p j
  unfolding list_to
  same_list t j h = ap (map (facet_of t)) (same_path j h)

  pub same_frame : (t : Table) (j : ℕ) → j < k → frame_at t q j ≡ frame_at t p j
  unfolding frame_at low_at mark_at
  same_frame t j h =
      rw (
        same_list t j (omega arith),
        b j 8 2 h (omega arith),
        same_kind j h,
        b j 4 4 h (omega arith),
        same_place j h,
      ) refl

  pub same_frames : (t : Table) (j : ℕ) → j ≤ k → frames_to t q j ≡ frames_to t p j
  unfolding frames_to
  same_frames t zero h = refl
  same_frames t (suc j) h = rw (same_frame t j h, same_frames t j (omega arith)) refl

-- ---- a place taken

module _ (p : List ℕ) (k place x : ℕ) (room : 16 * k + 16 ≤ length p) (small : place < 4294967296)
    (few : x < 65536) where
  abbrev q : List ℕ
  q = with_place p k place x

  abbrev p1 : List ℕ
  p1 = put 4 p (16 * k) place

  length_1 : length p1 ≡ length p
  length_1 = put_length 4 p (16 * k) place

  pub place_length : length q ≡ length p
  unfolding with_place
  place_length = put_length 2 p1 (16 * k + 12) x ∙ length_1

  -- a number beside the two
  beside : (i w : ℕ) → (i + w ≤ 16 * k) ⊎ (16 * k + 4 ≤ i) → (i + w ≤ 16 * k + 12) ⊎ (16 * k + 14 ≤ i)
      → number_at q i w ≡ number_at p i w
  unfolding with_place
  beside i w a b = number_at_put_off 2 p1 (16 * k + 12) x i w (later b) ∙ number_at_put_off 4 p (16 * k) place i w a
    where
      later : (i + w ≤ 16 * k + 12) ⊎ (16 * k + 14 ≤ i) → (i + w ≤ 16 * k + 12) ⊎ (16 * k + 12 + 2 ≤ i)
      later (inl h) = inl h
      later (inr h) = inr (omega arith)

  pub place_below : SameFrames p q k
  place_below j o w h l = beside (16 * j + o) w (inl (omega arith)) (inl (omega arith))

  pub place_is : place_at q k ≡ place
  unfolding with_place place_at
  place_is =
      number_at_put_off 2 p1 (16 * k + 12) x (16 * k) 4 (inl (omega arith))
      ∙ number_at_put 4 p (16 * k) place (omega arith) small

  pub place_taken : taken_at q k ≡ x
  unfolding with_place taken_at
  place_taken = number_at_put 2 p1 (16 * k + 12) x (omega (arith, length_1)) few

  pub place_kind : kind_at q k ≡ kind_at p k
  unfolding kind_at
  place_kind = ap ridge_of (beside (16 * k + 10) 2 (inr (omega arith)) (inl (omega arith)))

  pub place_mark : mark_at q k ≡ mark_at p k
  unfolding mark_at
  place_mark = beside (16 * k + 8) 2 (inr (omega arith)) (inl (omega arith))

  place_low : low_at q k ≡ low_at p k
  unfolding low_at
  place_low = beside (16 * k + 4) 4 (inr (omega arith)) (inl (omega arith))

  pub place_frame : (t : Table) → frame_at t q k ≡ moved (frame_at t p k) place
  unfolding frame_at moved
  place_frame t = rw (same_list p q k place_below t k (omega arith), place_mark, place_kind, place_low, place_is) refl

  pub place_frames : (t : Table) → frames_to t q (suc k) ≡ moved (frame_at t p k) place ∷ frames_to t p k
  unfolding frames_to
  place_frames t = rw (place_frame t, same_frames p q k place_below t k (omega arith)) refl

-- ---- a frame written

module _ (p : List ℕ) (k place low mark : ℕ) (kind : Option ℕ) (room : 16 * k + 16 ≤ length p)
    (a : place < 4294967296) (b : low < 4294967296) (c : mark < 65536) (d : code_of kind < 65536) where
  abbrev r : List ℕ
  r = with_frame p k place low mark kind

  abbrev r1 : List ℕ
  r1 = put 4 p (16 * k) place

  abbrev r2 : List ℕ
  r2 = put 4 r1 (16 * k + 4) low

  abbrev r3 : List ℕ
  r3 = put 2 r2 (16 * k + 8) mark

  long_1 : length r1 ≡ length p
  long_1 = put_length 4 p (16 * k) place

  long_2 : length r2 ≡ length p
  long_2 = put_length 4 r1 (16 * k + 4) low ∙ long_1

  long_3 : length r3 ≡ length p
  long_3 = put_length 2 r2 (16 * k + 8) mark ∙ long_2

  pub frame_length : length r ≡ length p
  unfolding with_frame
  frame_length = put_length 2 r3 (16 * k + 10) (code_of kind) ∙ long_3

  pub frame_below : SameFrames p r k
  unfolding with_frame
  frame_below j o w h l =
      number_at_put_off 2 r3 (16 * k + 10) (code_of kind) (16 * j + o) w (inl (omega arith))
      ∙ (number_at_put_off 2 r2 (16 * k + 8) mark (16 * j + o) w (inl (omega arith))
      ∙ (number_at_put_off 4 r1 (16 * k + 4) low (16 * j + o) w (inl (omega arith))
      ∙ number_at_put_off 4 p (16 * k) place (16 * j + o) w (inl (omega arith))))

  pub frame_place : place_at r k ≡ place
  unfolding with_frame place_at
  frame_place =
      number_at_put_off 2 r3 (16 * k + 10) (code_of kind) (16 * k) 4 (inl (omega arith))
      ∙ (number_at_put_off 2 r2 (16 * k + 8) mark (16 * k) 4 (inl (omega arith))
      ∙ (number_at_put_off 4 r1 (16 * k + 4) low (16 * k) 4 (inl (omega arith))
      ∙ number_at_put 4 p (16 * k) place (omega arith) a))

  frame_low : low_at r k ≡ low
  unfolding with_frame low_at
  frame_low =
      number_at_put_off 2 r3 (16 * k + 10) (code_of kind) (16 * k + 4) 4 (inl (omega arith))
      ∙ (number_at_put_off 2 r2 (16 * k + 8) mark (16 * k + 4) 4 (inl (omega arith))
      ∙ number_at_put 4 r1 (16 * k + 4) low (omega (arith, long_1)) b)

  frame_mark : mark_at r k ≡ mark
  unfolding with_frame mark_at
  frame_mark =
      number_at_put_off 2 r3 (16 * k + 10) (code_of kind) (16 * k + 8) 2 (inl (omega arith))
      ∙ number_at_put 2 r2 (16 * k + 8) mark (omega (arith, long_2)) c

  pub frame_kind : kind_at r k ≡ kind
  unfolding with_frame kind_at
  frame_kind =
      ap ridge_of (number_at_put 2 r3 (16 * k + 10) (code_of kind) (omega (arith, long_3)) d) ∙ ridge_of_code kind

  pub frame_frames : (t : Table) → frames_to t r (suc k) ≡ record {
    list = list_to t p k;
    mark = mark;
    ridge = kind;
    low = low;
    place = place;
  } ∷ frames_to t p k
  unfolding frames_to frame_at
  frame_frames t =
      rw (
        same_list p r k frame_below t k (omega arith),
        frame_mark,
        frame_kind,
        frame_low,
        frame_place,
        same_frames p r k frame_below t k (omega arith),
      ) refl
