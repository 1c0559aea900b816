-- A run of numbers of one width in a list of bytes, written and read. Leans on Words. Assumes nothing.
use Rattle.std.specs.Prelude.{◌≡◌, refl, ℕ, ◌+◌, ◌*◌, ◌^◌, ◌≤◌, ◌<◌, length, take, drop}
use Rattle.std.proofs.Common.{ap, ◌∙◌, arith, length-append, take_at, drop_at, length-take-le}
use mathlib.Core.List.{List, [], ◌∷◌, ◌++◌, flat_map, append_assoc}
use Rattle.std.proofs.lemmas.List.Edits.{sets, sets-eq}
use Rattle.laws.specs.Lists.{Mem, here, there, flat_map_append}
use Rattle.laws.specs.Segments.{cons_same}
use Rattle.words.specs.Words.{bytes_of, bytes_of_length, little_bytes_of, words}

-- the bytes of the numbers, w each
unfoldable pub run : ℕ → List ℕ → List ℕ
run w = flat_map (bytes_of w)

pub run_length : (w : ℕ) (ns : List ℕ) → length (run w ns) ≡ w * length ns
unfolding run flat_map
run_length w [] = omega arith
run_length w (n ∷ ns) =
    let e = bytes_of_length w n in
    let h = run_length w ns in
    length-append (bytes_of w n) (run w ns) ∙ omega arith

pub run_append : (w : ℕ) (ms ns : List ℕ) → run w (ms ++ ns) ≡ run w ms ++ run w ns
unfolding run
run_append w ms ns = flat_map_append (bytes_of w) ms ns

-- what was written is read
pub words_run : (w : ℕ) (ns rest : List ℕ) → ((n : ℕ) → Mem n ns → n < 256 ^ w)
    → words w (run w ns ++ rest) (length ns) ≡ ns
unfolding run words flat_map
words_run w [] rest f = refl
words_run w (n ∷ ns) rest f =
    let e = bytes_of_length w n in
    let a : bytes_of w n ++ run w ns ++ rest
    ≡ bytes_of w n ++ (run w ns ++ rest) = append_assoc (bytes_of w n) (run w ns) rest in
    rw (a, take_at (bytes_of w n) (run w ns ++ rest) w e, drop_at (bytes_of w n) (run w ns ++ rest) w e)
    (cons_same (little_bytes_of w n (f n (here refl))) (words_run w ns rest (λ k i. f k (there i))))

pub words_sets : (w : ℕ) (s : List ℕ) (at : ℕ) (ns : List ℕ) → at + w * length ns ≤ length s
    → ((n : ℕ) → Mem n ns → n < 256 ^ w)
    → words w (drop at (sets s at (run w ns))) (length ns) ≡ ns
words_sets w s at ns h f =
    let l = run_length w ns in
    ap (λ (r : List ℕ). words w (drop at r) (length ns)) (sets-eq (run w ns) s at (omega arith)
    ∙ append_assoc (take at s) (run w ns) (drop (at + length (run w ns)) s))
    ∙ (ap (λ (r : List ℕ). words w r (length ns))
    (drop_at (take at s) (run w ns ++ drop (at + length (run w ns)) s) at (length-take-le at s (omega arith)))
    ∙ words_run w ns (drop (at + length (run w ns)) s) f)
