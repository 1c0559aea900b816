-- Theorems on the definitions of specs/Sentences.
use Rattle.std.specs.Prelude.{not, [], T, get_or}
use Rattle.std.proofs.Common.{arith, T_not}
use Prim.Native.Nat.{ℕ, ◌<◌}
use Rattle.definitions.specs.Lists.{all_of, count_from}
use Rattle.definitions.specs.RuledOut.{square_entries, open_square}
use Rattle.laws.specs.Lists.{Mem, all_of_holds, member_at, in_count}
use Rattle.completeness.specs.Determined.{EveryChoice, none_missing}
use Rattle.completeness.specs.Sentences.{among_them, among_them_holds, left_out, no_entry, p, seven_entries}
use Rattle.completeness.specs.Sentences.{square_call, square_equal}

-- ---- every closed choice has an entry

each_missed : T (all_of (λ (k : ℕ). not (among_them (get_or square_entries k no_entry) (left_out k))) (count_from 0 7))
unfolding open_square among_them left_out no_entry
each_missed = tt

-- refuses the list, whichever of the seven is missing
pub none_left_out : (k : ℕ) → k < 7 → EveryChoice p (left_out k) → ⊥
none_left_out k h all =
    let e = get_or square_entries k no_entry in
    let seven = seven_entries in
    let still : Mem e (left_out k) = none_missing p square_equal square_entries
    (left_out k) square_call.complete.every_entry all e (member_at square_entries k no_entry (omega arith)) in
    T_not (among_them e (left_out k))
    (all_of_holds (λ (i : ℕ). not (among_them (get_or square_entries i no_entry) (left_out i)))
    (count_from 0 7) each_missed k (in_count 0 7 k (omega arith) (omega arith)))
    (among_them_holds e (left_out k) still)
