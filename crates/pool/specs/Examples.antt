-- A region worked out by evaluation: three numbers in two lists, from bytes that held something else. Leans on Pool.
use Rattle.std.specs.Prelude.{◌≡◌, refl, List, [], ◌∷◌, ℕ, replicate}
use Rattle.definitions.specs.Job.{little, number_at}
use Rattle.words.specs.Words.{bytes_of, put, words}
use Rattle.pool.specs.Pool.{count, used, start, items, ends, cuts, closed_lists, opened, emptied, pushed, ended}

two_lists : List ℕ
two_lists = ended (pushed 2 2 (ended (pushed 2 2 (pushed 2 2 (emptied (replicate 28 255)) 5) 7)) 257)

-- the number of lists, of items, the starts, the items, and a byte that was not touched
bytes : two_lists ≡ 2 ∷ 0 ∷ 0 ∷ 0 ∷ 3 ∷ 0 ∷ 0 ∷ 0 ∷ 0 ∷ 0 ∷ 0 ∷ 0 ∷ 2 ∷ 0 ∷ 0 ∷ 0 ∷ 3 ∷ 0 ∷ 0 ∷ 0 ∷ 5 ∷ 0 ∷ 7 ∷ 0 ∷ 1
    ∷ 1 ∷ 255 ∷ 255 ∷ []
unfolding two_lists emptied pushed ended put bytes_of count used number_at little
bytes = refl

holds : closed_lists 2 2 two_lists ≡ (5 ∷ 7 ∷ []) ∷ (257 ∷ []) ∷ []
unfolding two_lists emptied pushed ended put bytes_of count used start items ends cuts closed_lists words number_at
    little
holds = refl

nothing_open : opened 2 2 two_lists ≡ []
unfolding two_lists emptied pushed ended put bytes_of count used start items opened words number_at little
nothing_open = refl
