-- A job with more bytes put in behind its header, read: what stood before the place is read as it was, and what stood
-- behind it is read so many bytes later. Leans on the definition of a job.
use Rattle.std.specs.Prelude.{◌≡◌, ℕ, ◌+◌, ◌*◌, ◌≤◌, length, take}
use Rattle.std.proofs.Common.{sym, ◌∙◌, length-append, length-drop, take-append-drop, length-take-le, drop-drop}
use Rattle.std.proofs.Common.{drop_at}
use Rattle.std.proofs.Math.Path.{ap}
use mathlib.Core.List.{◌++◌, map, append_assoc}
use native.Mathlib.Omega.{arith}
use Rattle.std.proofs.Math.ListN.{drop}
use Rattle.std.proofs.Math.Seq.{take-append_seam, drop-append-add}
use Rattle.std.proofs.lemmas.List.{take-append-le, drop-append-le}
use Rattle.std.specs.Float.Ieee.{binary64, of_bits}
use Rattle.definitions.specs.Lists.{count_from}
use Rattle.definitions.specs.Job.{Bytes, little, number_at, float_at, floats_at, vectors_at}
use Rattle.laws.specs.Segments.{part_take}

-- ---- bytes put in at a place

module _ (rest more : Bytes) (k : ℕ) where
  abbrev pub widened : Bytes
  widened = take k rest ++ more ++ drop k rest

  pub widened_length : length widened ≡ length rest + length more
  widened_length =
      let whole : length (take k rest) + length (drop k rest)
      ≡ length rest = sym (length-append (take k rest) (drop k rest)) ∙ ap length (take-append-drop k rest) in
      let outer = length-append (take k rest ++ more) (drop k rest) in
      let inner = length-append (take k rest) more in
      omega arith

  apart : widened ≡ take k rest ++ (more ++ drop k rest)
  apart = append_assoc (take k rest) more (drop k rest)

  module _ (fits : k ≤ length rest) where
    front_length : length (take k rest) ≡ k
    front_length = length-take-le k rest fits

    -- a part in front of the place
    pub part_kept : (x m : ℕ) → x + m ≤ k → take m (drop x widened) ≡ take m (drop x rest)
    part_kept x m h =
        let l = front_length in
        let d = length-drop x (take k rest) in
        ap (λ (l : Bytes). take m (drop x l)) apart
        ∙ ap (take m) (drop-append-le x (take k rest) (more ++ drop k rest) (omega arith))
        ∙ take-append-le m (drop x (take k rest)) (more ++ drop k rest) (omega arith)
        ∙ part_take k rest x m h

    -- what was put in
    pub part_new : take (length more) (drop k widened) ≡ more
    part_new =
        ap (λ (l : Bytes). take (length more) (drop k l)) apart
        ∙ ap (take (length more)) (drop_at (take k rest) (more ++ drop k rest) k front_length)
        ∙ take-append_seam more (drop k rest)

    -- all behind the place
    pub all_behind : (q : ℕ) → drop (k + length more + q) widened ≡ drop (k + q) rest
    all_behind q =
        let front = take k rest ++ more in
        let l : length front ≡ k + length more = length-append (take k rest) more
        ∙ ap (λ (n : ℕ). n + length more) front_length in
        ap (λ (n : ℕ). drop (n + q) (front ++ drop k rest)) (sym l)
        ∙ drop-append-add front (drop k rest) q
        ∙ drop-drop q k rest

-- ---- two jobs that are one from a place on

pub record SameFrom (w : Bytes) (a : ℕ) (bytes : Bytes) (b : ℕ) : Type 0 where
  pub on : (q : ℕ) → drop (a + q) w ≡ drop (b + q) bytes

module _ {w bytes : Bytes} {a b : ℕ} (same : SameFrom w a bytes b) where
  pub same_later : (s : ℕ) → SameFrom w (a + s) bytes (b + s)
  same_later s = record {
    on = λ q.
        let e : a + s + q ≡ a + (s + q) = omega arith in
        let f : b + (s + q) ≡ b + s + q = omega arith in
        ap (λ (n : ℕ). drop n w) e ∙ same.on (s + q) ∙ ap (λ (n : ℕ). drop n bytes) f;
  }

  pub same_number : (many : ℕ) → number_at w a many ≡ number_at bytes b many
  unfolding number_at
  same_number many =
      let e : a ≡ a + 0 = omega arith in
      let f : b + 0 ≡ b = omega arith in
      ap (λ (l : Bytes). little (take many l)) (ap (λ (n : ℕ). drop n w) e ∙ same.on 0 ∙ ap (λ (n : ℕ). drop n bytes) f)

  pub same_floats : (many : ℕ) → floats_at w a many ≡ floats_at bytes b many
  unfolding floats_at float_at number_at
  same_floats many = λ j. map (λ (i : ℕ). of_bits binary64 (little (take 8 (same.on (8 * i) j)))) (count_from 0 many)

  pub same_rows : (n count : ℕ) → map (λ (i : ℕ). take n (drop (a + n * i) w)) (count_from 0 count)
      ≡ map (λ (i : ℕ). take n (drop (b + n * i) bytes)) (count_from 0 count)
  same_rows n count = λ j. map (λ (i : ℕ). take n (same.on (n * i) j)) (count_from 0 count)

pub same_vectors : {w bytes : Bytes} {a b : ℕ} → SameFrom w a bytes b → (d many : ℕ)
    → vectors_at w a d many ≡ vectors_at bytes b d many
unfolding vectors_at
same_vectors same d many = λ j. map (λ (i : ℕ). same_floats (same_later same (8 * d * i)) d j) (count_from 0 many)
