-- Numbers, floats and an answer's words worked out by evaluation. Leans on Words, Floats and Writer.
use Rattle.std.specs.Prelude.{◌≡◌, refl, true, Some, None}
use mathlib.Core.List.{[], ◌∷◌, flat_map}
use Rattle.std.specs.Float.{inf}
use Rattle.std.specs.Float.Ieee.{of_bits, of_fields}
use Rattle.definitions.specs.Job.{little, number_at, float_at, word_bytes}
use Rattle.words.specs.Words.{bytes_of, put, words}
use Rattle.words.specs.Floats.{read_of}
use Rattle.words.specs.Writer.{encoded, padded, written, cursor_of, behind_word}

-- the lowest byte first
lowest_first : put 4 (9 ∷ 9 ∷ 9 ∷ 9 ∷ 9 ∷ 9 ∷ []) 1 67305985 ≡ 9 ∷ 1 ∷ 2 ∷ 3 ∷ 4 ∷ 9 ∷ []
unfolding put bytes_of
lowest_first = refl

pairs : words 2 (1 ∷ 2 ∷ 3 ∷ 4 ∷ 5 ∷ []) 2 ≡ 513 ∷ 1027 ∷ []
unfolding words little
pairs = refl

-- minus infinity is a number, and one bit more is not
minus_infinity : read_of (float_at (0 ∷ 0 ∷ 0 ∷ 0 ∷ 0 ∷ 0 ∷ 240 ∷ 255 ∷ []) 0) ≡ Some (inf true)
unfolding read_of float_at number_at little of_bits of_fields
minus_infinity = refl

not_a_number : read_of (float_at (1 ∷ 0 ∷ 0 ∷ 0 ∷ 0 ∷ 0 ∷ 240 ∷ 255 ∷ []) 0) ≡ None
unfolding read_of float_at number_at little of_bits of_fields
not_a_number = refl

-- ten bytes take two words and not a third
two_words : written 10 (7 ∷ 256 ∷ []) ≡ 7 ∷ 0 ∷ 0 ∷ 0 ∷ 0 ∷ 1 ∷ 0 ∷ 0 ∷ 0 ∷ 0 ∷ []
unfolding written padded encoded flat_map word_bytes
two_words = refl

behind_two : cursor_of 10 (7 ∷ 256 ∷ []) ≡ Some 8
unfolding cursor_of
behind_two = refl

no_third : behind_word 10 (Some 8) ≡ None
unfolding behind_word
no_third = refl
