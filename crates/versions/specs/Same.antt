-- A job and the same job in the next version, with what the version before means: for all bytes behind the version,
-- refused or answered, they have one outcome. Version 2 with the tolerance 1e-7 is version 1 (`version_2_as_1`),
-- version 3 with rule 1 is version 2 (`version_3_as_2`). Both are one law of bytes put in behind the header. Leans on
-- Widened.
use Rattle.std.specs.Prelude.{◌≡◌, refl, Bool, true, false, cond, ◌&&◌, List, [], ◌∷◌, ◌++◌, map, ℕ, ◌+◌, ◌-◌, ◌*◌, ◌≤◌}
use Rattle.std.specs.Prelude.{T, leb, ltb, get_or, Float}
use Rattle.std.proofs.Math.Path.{sym, ap}
use Rattle.std.proofs.Common.{subst, ◌∙◌, true≢false, le-leb, eq-eqb, ne_eqb, drop-drop, drop-cons}
use Rattle.std.specs.Prelude.{Option, Some}
use native.Mathlib.Omega.{arith}
use Rattle.std.proofs.Math.Dec.{eqb, eqb→eq}
use Rattle.std.proofs.Math.ListN.{length, take, drop}
use Rattle.std.proofs.Math.Seq.{take-add, take_all}
use Rattle.std.specs.Float.Ieee.{binary64, of_bits}
use Rattle.definitions.specs.Lists.{all_of, count_from}
use Rattle.definitions.specs.Outcome.{Outcome, and_then}
use Rattle.definitions.specs.Recursion.{Bounds, Answer}
use Rattle.definitions.specs.Job.{Bytes, little, number_at, float_at, floats_at, vectors_at, tolerance1, Job, flag_set}
use Rattle.definitions.specs.Job.{present, read_job, flagged_end, in_version, with_tolerance, with_rule, between}
use Rattle.definitions.specs.Job.{tolerance_good, floats_good, same_nats, is_permutation, workspace_for, Test}
use Rattle.definitions.specs.Job.{header_tests, value_tests, job_tests, workspace_tests, tests, pass_all, rules_of}
use Rattle.definitions.specs.Job.{plane_of, call_of, answer_bytes, fitting, outcome_within, outcome, bounds1}
use Rattle.laws.specs.Refusals.{AllPassed, passes_at, passed, pass_all_append, pass_all_same}
use Rattle.versions.specs.Widened.{widened, widened_length, part_kept, part_new, all_behind, SameFrom, same_later}
use Rattle.versions.specs.Widened.{same_number, same_floats, same_rows, same_vectors}

-- ---- what is behind the header's tests

-- the tests of a job's values and of the workspace, and the call, from the job as it is read
unfoldable behind_header : Bounds → Job → ℕ → ℕ → Outcome Bytes
behind_header bounds job workspace room =
    pass_all
    (record { number = 9; passes = λ u. floats_good job }
    ∷ record { number = 22; passes = λ u. tolerance_good job.tolerance }
    ∷ record { number = 25; passes = λ u. between 1 2 job.rule }
    ∷ record { number = 10; passes = λ u. same_nats (get_or job.rows 0 []) (count_from 0 job.n) }
    ∷ record { number = 11; passes = λ u. all_of (is_permutation job.n) job.rows }
    ∷ record { number = 12; passes = λ u. leb (workspace_for job.rank) workspace } ∷ []) (λ u.
    and_then (call_of bounds job) (λ (a : Answer). fitting room (answer_bytes job.budget a)))

header_first : (bounds : Bounds) (bytes : Bytes) (workspace room : ℕ)
    → outcome_within bounds bytes workspace room
    ≡ pass_all (header_tests bytes) (λ u. behind_header bounds (read_job bytes) workspace room)
unfolding outcome_within tests job_tests value_tests workspace_tests pass_all behind_header
header_first bounds bytes workspace room =
    pass_all_append (header_tests bytes ++ value_tests bytes) (workspace_tests bytes workspace) _
    ∙ pass_all_append (header_tests bytes) (value_tests bytes) _

-- a job as another version has it, of another length
unfoldable as_version : ℕ → ℕ → Job → Job
as_version version size job = record {
  version = version;
  rank = job.rank;
  d = job.d;
  n = job.n;
  row_count = job.row_count;
  flags = job.flags;
  shortest = job.shortest;
  longest = job.longest;
  entry_limit = job.entry_limit;
  tolerance = job.tolerance;
  rule = job.rule;
  budget = job.budget;
  offset = job.offset;
  basis = job.basis;
  points = job.points;
  rows = job.rows;
  size = size;
}

-- ---- two jobs of one header

-- each test of the header comes out alike
record SameHeader (old new : Bytes) : Type 0 where
  long : leb 11 (length new) ≡ leb 11 (length old)
  mark : take 3 new ≡ take 3 old
  version_good : between 1 3 (read_job new).version ≡ between 1 3 (read_job old).version
  rank_is : (read_job new).rank ≡ (read_job old).rank
  d_is : (read_job new).d ≡ (read_job old).d
  n_is : (read_job new).n ≡ (read_job old).n
  count_is : (read_job new).row_count ≡ (read_job old).row_count
  flags_are : (read_job new).flags ≡ (read_job old).flags
  sized : eqb (length new) (read_job new).size ≡ eqb (length old) (read_job old).size

header_tests_holds : (old new : Bytes) → SameHeader old new → header_tests new ≡ header_tests old
unfolding header_tests
header_tests_holds old new h = λ j.
    record { number = 1; passes = λ u. h.long j && same_nats (h.mark j) (70 ∷ 67 ∷ 84 ∷ []) }
    ∷ record { number = 2; passes = λ u. h.version_good j }
    ∷ record { number = 3; passes = λ u. between 2 4 (h.rank_is j) }
    ∷ record { number = 4; passes = λ u. between (h.rank_is j - 1) 4 (h.d_is j) }
    ∷ record { number = 5; passes = λ u. between 2 20 (h.n_is j) }
    ∷ record { number = 6; passes = λ u. between 1 120 (h.count_is j) }
    ∷ record { number = 7; passes = λ u. ltb (h.flags_are j) 8 }
    ∷ record { number = 8; passes = λ u. h.sized j }
    ∷ []

-- and where all are passed, the rest of the job is read alike: what is behind the header looks neither at the version
-- nor at the length
one_outcome : (old new : Bytes) (version size : ℕ) → SameHeader old new
    → (AllPassed (header_tests old) → read_job new ≡ as_version version size (read_job old))
    → (bounds : Bounds) (workspace room : ℕ)
    → outcome_within bounds new workspace room ≡ outcome_within bounds old workspace room
unfolding behind_header as_version call_of rules_of plane_of floats_good
one_outcome old new version size h again bounds workspace room =
    header_first bounds new workspace room
    ∙ ap (λ (ts : List Test). pass_all ts (λ u. behind_header bounds (read_job new) workspace room))
    (header_tests_holds old new h)
    ∙ pass_all_same (header_tests old) (λ u. behind_header bounds (read_job new) workspace room)
    (λ u. behind_header bounds (read_job old) workspace room)
    (λ all. ap (λ (job : Job). behind_header bounds job workspace room) (again all))
    ∙ sym (header_first bounds old workspace room)

-- ---- small facts

present_same : {A : Type 0} (set : Bool) (x y : A) → (set ≡ true → x ≡ y) → present set x ≡ present set y
unfolding present
present_same true x y h = ap Some (h refl)
present_same false x y h = refl

both_more : (s a b : ℕ) → eqb (a + s) (b + s) ≡ eqb a b
both_more s a b = go (eqb a b) refl
  where
    go : (same : Bool) → eqb a b ≡ same → eqb (a + s) (b + s) ≡ eqb a b
    go true e = eq-eqb (a + s) (b + s) (let h = eqb→eq a b (subst T (sym e) tt) in omega arith) ∙ sym e
    go false e = ne_eqb (a + s) (b + s) (λ h. true≢false (sym (eq-eqb a b (omega arith)) ∙ e)) ∙ sym e

-- ---- bytes put in behind one header

module _ (b0 b1 b2 b5 b6 b7 b8 b9 b10 : ℕ) where
  -- a job of this header and of a version below 256
  abbrev headed : ℕ → Bytes → Bytes
  headed version rest = b0 ∷ b1 ∷ b2 ∷ version ∷ 0 ∷ b5 ∷ b6 ∷ b7 ∷ b8 ∷ b9 ∷ b10 ∷ rest

  behind_header_holds : (version : ℕ) (rest : Bytes) (x : ℕ) → drop (11 + x) (headed version rest) ≡ drop x rest
  behind_header_holds version rest x = sym (drop-drop x 11 (headed version rest))

  -- the fields that the flags name
  abbrev min_room : ℕ
  min_room = cond (flag_set b10 1) 8 0

  abbrev max_room : ℕ
  max_room = cond (flag_set b10 2) 8 0

  abbrev limit_room : ℕ
  limit_room = cond (flag_set b10 4) 4 0

  abbrev flagged : ℕ
  flagged = min_room + max_room + limit_room

  flagged_end_holds : flagged_end b10 ≡ 11 + flagged
  unfolding flagged_end
  flagged_end_holds = omega arith

  set_room : (weight bytes : ℕ) → flag_set b10 weight ≡ true → cond (flag_set b10 weight) bytes 0 ≡ bytes
  set_room weight bytes e = ap (λ (set : Bool). cond set bytes 0) e

  -- a job of this header whose budget stands at a place, with what is read before the budget
  abbrev read_from : ℕ → ℕ → Option Float → Option Float → Option ℕ → Float → ℕ → Bytes → Job
  read_from version budgetAt shortest longest entry_limit tolerance rule bytes =
      let offsetAt = budgetAt + 4 in
      let basisAt = offsetAt + 8 * b6 in
      let pointsAt = basisAt + 8 * b6 * (b5 - 1) in
      let rows_at = pointsAt + 8 * b6 * b7 in
      record {
        version = version;
        rank = b5;
        d = b6;
        n = b7;
        row_count = number_at bytes 8 2;
        flags = b10;
        shortest = shortest;
        longest = longest;
        entry_limit = entry_limit;
        tolerance = tolerance;
        rule = rule;
        budget = number_at bytes budgetAt 4;
        offset = floats_at bytes offsetAt b6;
        basis = vectors_at bytes basisAt b6 (b5 - 1);
        points = vectors_at bytes pointsAt b6 b7;
        rows = map (λ (i : ℕ). take b7 (drop (rows_at + b7 * i) bytes)) (count_from 0 (number_at bytes 8 2));
        size = rows_at + b7 * number_at bytes 8 2;
      }

  -- The old version has so many bytes of its own behind the flagged fields; the new one has more, put in behind them.
  module _ (old-version new-version own : ℕ) (rest more : Bytes) where
    abbrev old : Bytes
    old = headed old-version rest

    abbrev new : Bytes
    new = headed new-version (widened rest more (flagged + own))

    put_in_holds : (place : ℕ) → place ≡ 11 + (flagged + own) → in_version new-version place more old ≡ new
    unfolding in_version
    put_in_holds place e =
        let front : place - 5 ≡ 6 + (flagged + own) = omega arith in
        let tail = drop 5 old in
        let before = ap (λ (n : ℕ). take n tail) front ∙ take-add 6 (flagged + own) tail in
        let behind = ap (λ (n : ℕ). drop n old) e ∙ behind_header_holds old-version rest (flagged + own) in
        λ j. b0 ∷ b1 ∷ b2 ∷ new-version ∷ 0 ∷ before j ++ more ++ behind j

    lengths : length new ≡ length old + length more
    lengths = let l = widened_length rest more (flagged + own) in omega arith

    long_as_before : leb 11 (length new) ≡ leb 11 (length old)
    long_as_before =
        let l = lengths in
        le-leb 11 (length new) (omega arith) ∙ sym (le-leb 11 (length old) (omega arith))

    module _ (fits : flagged + own ≤ length rest) where
      -- what stands before
      number_kept : (p many : ℕ) → 11 ≤ p → p + many ≤ 11 + (flagged + own)
          → number_at new p many ≡ number_at old p many
      unfolding number_at
      number_kept p many h k =
          let e : p ≡ 11 + (p - 11) = omega arith in
          let at_new = ap (λ (n : ℕ). drop n new) e
          ∙ behind_header_holds new-version (widened rest more (flagged + own)) (p - 11) in
          let at_old = ap (λ (n : ℕ). drop n old) e ∙ behind_header_holds old-version rest (p - 11) in
          ap (λ (l : Bytes). little (take many l)) at_new
          ∙ ap little (part_kept rest more (flagged + own) fits (p - 11) many (omega arith))
          ∙ ap (λ (l : Bytes). little (take many l)) (sym at_old)

      float_kept : (p : ℕ) → 11 ≤ p → p + 8 ≤ 11 + (flagged + own) → float_at new p ≡ float_at old p
      unfolding float_at
      float_kept p h k = ap (of_bits binary64) (number_kept p 8 h k)

      -- the flagged fields
      shortest_kept : present (flag_set b10 1) (float_at new 11) ≡ present (flag_set b10 1) (float_at old 11)
      shortest_kept =
          present_same (flag_set b10 1) (float_at new 11) (float_at old 11)
          (λ e. float_kept 11 (omega arith) (let s = set_room 1 8 e in omega arith))

      longest_kept : present (flag_set b10 2) (float_at new (11 + min_room))
          ≡ present (flag_set b10 2) (float_at old (11 + min_room))
      longest_kept =
          present_same (flag_set b10 2) (float_at new (11 + min_room)) (float_at old (11 + min_room))
          (λ e. float_kept (11 + min_room) (omega arith) (let s = set_room 2 8 e in omega arith))

      limit_kept : present (flag_set b10 4) (number_at new (11 + min_room + max_room) 4)
          ≡ present (flag_set b10 4) (number_at old (11 + min_room + max_room) 4)
      limit_kept =
          present_same (flag_set b10 4) (number_at new (11 + min_room + max_room) 4)
          (number_at old (11 + min_room + max_room) 4)
          (λ e. number_kept (11 + min_room + max_room) 4 (omega arith) (let s = set_room 4 4 e in omega arith))

      -- what was put in
      new_part : (place : ℕ) → place ≡ 11 + (flagged + own) → take (length more) (drop place new) ≡ more
      new_part place e =
          let here = ap (λ (n : ℕ). drop n new) e
          ∙ behind_header_holds new-version (widened rest more (flagged + own)) (flagged + own) in
          ap (take (length more)) here ∙ part_new rest more (flagged + own) fits

      -- what stands behind
      behind_kept : (a b : ℕ) → a ≡ 11 + (flagged + own) + length more → b ≡ 11 + (flagged + own) → SameFrom new a old b
      behind_kept a b a-is b-is = record {
        on = λ q.
            let e : a + q ≡ 11 + (flagged + own + length more + q) = omega arith in
            let f : b + q ≡ 11 + (flagged + own + q) = omega arith in
            ap (λ (n : ℕ). drop n new) e ∙ behind_header_holds new-version (widened rest more (flagged + own))
            (flagged + own + length more + q)
            ∙ all_behind rest more (flagged + own) fits q
            ∙ sym (ap (λ (n : ℕ). drop n old) f ∙ behind_header_holds old-version rest (flagged + own + q));
      }

      from_budget : (a b : ℕ) → SameFrom new a old b
          → (shortest longest : Option Float) (entry_limit : Option ℕ) (tolerance : Float) (rule : ℕ)
          → read_from new-version a shortest longest entry_limit tolerance rule new
          ≡ as_version new-version (a + 4 + 8 * b6 + 8 * b6 * (b5 - 1) + 8 * b6 * b7 + b7 * number_at new 8 2)
          (read_from old-version b shortest longest entry_limit tolerance rule old)
      unfolding as_version number_at little
      from_budget a b same shortest longest entry_limit tolerance rule =
          let from-offset = same_later same 4 in
          let from-basis = same_later from-offset (8 * b6) in
          let from-points = same_later from-basis (8 * b6 * (b5 - 1)) in
          let from-rows = same_later from-points (8 * b6 * b7) in
          λ j. record {
            version = new-version;
            rank = b5;
            d = b6;
            n = b7;
            row_count = number_at old 8 2;
            flags = b10;
            shortest = shortest;
            longest = longest;
            entry_limit = entry_limit;
            tolerance = tolerance;
            rule = rule;
            budget = same_number same 4 j;
            offset = same_floats from-offset b6 j;
            basis = same_vectors from-basis b6 (b5 - 1) j;
            points = same_vectors from-points b6 b7 j;
            rows = same_rows from-rows b7 (number_at old 8 2) j;
            size = a + 4 + 8 * b6 + 8 * b6 * (b5 - 1) + 8 * b6 * b7 + b7 * number_at new 8 2;
          }

  -- ---- from version 1 to version 2: a tolerance

  module _ (rest tolerance : Bytes) (eight : length tolerance ≡ 8) (means : float_at tolerance 0 ≡ tolerance1) where
    abbrev old_1 : Bytes
    old_1 = headed 1 rest

    abbrev new_2 : Bytes
    new_2 = headed 2 (widened rest tolerance (flagged + 0))

    same_header_2 : SameHeader old_1 new_2
    unfolding read_job number_at little between
    same_header_2 =
        let l = lengths 1 2 0 rest tolerance in
        let long : length new_2 ≡ length old_1 + 8 = omega arith in
        let size : (read_job new_2).size ≡ (read_job old_1).size + 8 = omega arith in
        record {
          long = long_as_before 1 2 0 rest tolerance;
          mark = refl;
          version_good = refl;
          rank_is = refl;
          d_is = refl;
          n_is = refl;
          count_is = refl;
          flags_are = refl;
          sized = (λ i. eqb (long i) (size i)) ∙ both_more 8 (length old_1) (read_job old_1).size;
        }

    -- a job of its stated length has its flagged fields
    long_enough_1 : AllPassed (header_tests old_1) → flagged + 0 ≤ length rest
    unfolding passes_at header_tests read_job number_at little
    long_enough_1 h =
        let e = eqb→eq (length old_1) (read_job old_1).size (passed 8 (header_tests old_1) h) in
        omega arith

    tolerance_put_in : flagged + 0 ≤ length rest → float_at new_2 (11 + min_room + max_room + limit_room) ≡ tolerance1
    unfolding float_at number_at
    tolerance_put_in fits =
        let part = ap (λ (n : ℕ). take n (drop (11 + min_room + max_room + limit_room) new_2)) (sym eight)
        ∙ new_part 1 2 0 rest tolerance fits (11 + min_room + max_room + limit_room) (omega arith) in
        let whole : take 8 tolerance ≡ tolerance = take_all 8 tolerance (omega arith) in
        ap (λ (l : Bytes). of_bits binary64 (little l)) (part ∙ sym whole) ∙ means

    read_again_2 : flagged + 0 ≤ length rest → read_job new_2 ≡ as_version 2 (read_job new_2).size (read_job old_1)
    unfolding read_job number_at little as_version
    read_again_2 fits =
        let a = 11 + min_room + max_room + limit_room + 8 + 0 in
        let b = 11 + min_room + max_room + limit_room + 0 + 0 in
        let shortest = shortest_kept 1 2 0 rest tolerance fits in
        let longest = longest_kept 1 2 0 rest tolerance fits in
        let limit = limit_kept 1 2 0 rest tolerance fits in
        let put = tolerance_put_in fits in
        (λ j. read_from 2 a (shortest j) (longest j) (limit j) (put j) 1 new_2)
        ∙ from_budget 1 2 0 rest tolerance fits a b
        (behind_kept 1 2 0 rest tolerance fits a b (omega arith) (omega arith)) _ _ _ _ _

    same_outcome_2 : (bounds : Bounds) (workspace room : ℕ)
        → outcome_within bounds new_2 workspace room ≡ outcome_within bounds old_1 workspace room
    same_outcome_2 = one_outcome old_1 new_2 2 (read_job new_2).size same_header_2 (λ h. read_again_2 (long_enough_1 h))

  -- ---- from version 2 to version 3: a rule

  module _ (rest : Bytes) where
    abbrev old_2 : Bytes
    old_2 = headed 2 rest

    abbrev new_3 : Bytes
    new_3 = headed 3 (widened rest (1 ∷ []) (flagged + 8))

    same_header_3 : SameHeader old_2 new_3
    unfolding read_job number_at little between
    same_header_3 =
        let l = lengths 2 3 8 rest (1 ∷ []) in
        let long : length new_3 ≡ length old_2 + 1 = omega arith in
        let size : (read_job new_3).size ≡ (read_job old_2).size + 1 = omega arith in
        record {
          long = long_as_before 2 3 8 rest (1 ∷ []);
          mark = refl;
          version_good = refl;
          rank_is = refl;
          d_is = refl;
          n_is = refl;
          count_is = refl;
          flags_are = refl;
          sized = (λ i. eqb (long i) (size i)) ∙ both_more 1 (length old_2) (read_job old_2).size;
        }

    -- a job of its stated length has its flagged fields and its tolerance
    long_enough_2 : AllPassed (header_tests old_2) → flagged + 8 ≤ length rest
    unfolding passes_at header_tests read_job number_at little
    long_enough_2 h =
        let e = eqb→eq (length old_2) (read_job old_2).size (passed 8 (header_tests old_2) h) in
        omega arith

    rule_put_in : flagged + 8 ≤ length rest → get_or new_3 (11 + min_room + max_room + limit_room + 8) 0 ≡ 1
    rule_put_in fits =
        let at = 11 + min_room + max_room + limit_room + 8 in
        let l = lengths 2 3 8 rest (1 ∷ []) in
        let part = new_part 2 3 8 rest (1 ∷ []) fits at (omega arith) in
        let first = ap (λ (bytes : Bytes). take 1 bytes) (drop-cons new_3 at 0 (omega arith)) in
        ap (λ (bytes : Bytes). get_or bytes 0 0) (sym first ∙ part)

    read_again_3 : flagged + 8 ≤ length rest → read_job new_3 ≡ as_version 3 (read_job new_3).size (read_job old_2)
    unfolding read_job number_at little as_version
    read_again_3 fits =
        let a = 11 + min_room + max_room + limit_room + 8 + 1 in
        let b = 11 + min_room + max_room + limit_room + 8 + 0 in
        let shortest = shortest_kept 2 3 8 rest (1 ∷ []) fits in
        let longest = longest_kept 2 3 8 rest (1 ∷ []) fits in
        let limit = limit_kept 2 3 8 rest (1 ∷ []) fits in
        let tolerance =
        float_kept 2 3 8 rest (1 ∷ []) fits (11 + min_room + max_room + limit_room) (omega arith) (omega arith) in
        let put = rule_put_in fits in
        (λ j. read_from 3 a (shortest j) (longest j) (limit j) (tolerance j) (put j) new_3)
        ∙ from_budget 2 3 8 rest (1 ∷ []) fits a b
        (behind_kept 2 3 8 rest (1 ∷ []) fits a b (omega arith) (omega arith)) _ _ _ _ _

    same_outcome_3 : (bounds : Bounds) (workspace room : ℕ)
        → outcome_within bounds new_3 workspace room ≡ outcome_within bounds old_2 workspace room
    same_outcome_3 = one_outcome old_2 new_3 3 (read_job new_3).size same_header_3 (λ h. read_again_3 (long_enough_2 h))

-- ---- every job of a version

-- what holds of all bytes that begin with a header
by_header : (P : Bytes → Type 0)
    → ((a b c d e f g i j k l : ℕ) (rest : Bytes) → P (a ∷ b ∷ c ∷ d ∷ e ∷ f ∷ g ∷ i ∷ j ∷ k ∷ l ∷ rest))
    → (bytes : Bytes) → 11 ≤ length bytes → P bytes
by_header P p [] h = absurd (omega arith)
by_header P p (a ∷ []) h = absurd (omega arith)
by_header P p (a ∷ b ∷ []) h = absurd (omega arith)
by_header P p (a ∷ b ∷ c ∷ []) h = absurd (omega arith)
by_header P p (a ∷ b ∷ c ∷ d ∷ []) h = absurd (omega arith)
by_header P p (a ∷ b ∷ c ∷ d ∷ e ∷ []) h = absurd (omega arith)
by_header P p (a ∷ b ∷ c ∷ d ∷ e ∷ f ∷ []) h = absurd (omega arith)
by_header P p (a ∷ b ∷ c ∷ d ∷ e ∷ f ∷ g ∷ []) h = absurd (omega arith)
by_header P p (a ∷ b ∷ c ∷ d ∷ e ∷ f ∷ g ∷ i ∷ []) h = absurd (omega arith)
by_header P p (a ∷ b ∷ c ∷ d ∷ e ∷ f ∷ g ∷ i ∷ j ∷ []) h = absurd (omega arith)
by_header P p (a ∷ b ∷ c ∷ d ∷ e ∷ f ∷ g ∷ i ∷ j ∷ k ∷ []) h = absurd (omega arith)
by_header P p (a ∷ b ∷ c ∷ d ∷ e ∷ f ∷ g ∷ i ∷ j ∷ k ∷ l ∷ rest) h = p a b c d e f g i j k l rest

module _ (tolerance : Bytes) (eight : length tolerance ≡ 8) (means : float_at tolerance 0 ≡ tolerance1)
    (bounds : Bounds) (workspace room : ℕ) where
  -- For all bytes that have a header and say version 1, whatever stands behind: with eight bytes before the budget
  -- that are read as 1e-7 the job says version 2, and its outcome is the same.
  pub version_2_within : (bytes : Bytes) → 11 ≤ length bytes → number_at bytes 3 2 ≡ 1
      → outcome_within bounds (with_tolerance tolerance bytes) workspace room
      ≡ outcome_within bounds bytes workspace room
  unfolding with_tolerance number_at little
  version_2_within bytes h =
      by_header (λ (l : Bytes). number_at l 3 2 ≡ 1
      → outcome_within bounds (with_tolerance tolerance l) workspace room ≡ outcome_within bounds l workspace room)
      (λ a b c d e f g i j k flags rest v.
      let low : d ≡ 1 = omega arith in
      let high : e ≡ 0 = omega arith in
      let end = flagged_end_holds a b c f g i j k flags in
      let says : a ∷ b ∷ c ∷ d ∷ e ∷ f ∷ g ∷ i ∷ j ∷ k ∷ flags ∷ rest
      ≡ a ∷ b ∷ c ∷ 1 ∷ 0 ∷ f ∷ g ∷ i ∷ j ∷ k ∷ flags ∷ rest =
      λ t. a ∷ b ∷ c ∷ low t ∷ high t ∷ f ∷ g ∷ i ∷ j ∷ k ∷ flags ∷ rest in
      (λ t. outcome_within bounds (in_version 2 (flagged_end flags) tolerance (says t)) workspace room)
      ∙ ap (λ (w : Bytes). outcome_within bounds w workspace room)
      (put_in_holds a b c f g i j k flags 1 2 0 rest tolerance (flagged_end flags) (omega arith))
      ∙ same_outcome_2 a b c f g i j k flags rest tolerance eight means bounds workspace room
      ∙ (λ t. outcome_within bounds (sym says t) workspace room)) bytes h

module _ (bounds : Bounds) (workspace room : ℕ) where
  -- For all bytes that have a header and say version 2, whatever stands behind: with the byte 1 behind the tolerance
  -- the job says version 3, and its outcome is the same.
  pub version_3_within : (bytes : Bytes) → 11 ≤ length bytes → number_at bytes 3 2 ≡ 2
      → outcome_within bounds (with_rule 1 bytes) workspace room ≡ outcome_within bounds bytes workspace room
  unfolding with_rule number_at little
  version_3_within bytes h =
      by_header (λ (l : Bytes). number_at l 3 2 ≡ 2
      → outcome_within bounds (with_rule 1 l) workspace room ≡ outcome_within bounds l workspace room)
      (λ a b c d e f g i j k flags rest v.
      let low : d ≡ 2 = omega arith in
      let high : e ≡ 0 = omega arith in
      let end = flagged_end_holds a b c f g i j k flags in
      let says : a ∷ b ∷ c ∷ d ∷ e ∷ f ∷ g ∷ i ∷ j ∷ k ∷ flags ∷ rest
      ≡ a ∷ b ∷ c ∷ 2 ∷ 0 ∷ f ∷ g ∷ i ∷ j ∷ k ∷ flags ∷ rest =
      λ t. a ∷ b ∷ c ∷ low t ∷ high t ∷ f ∷ g ∷ i ∷ j ∷ k ∷ flags ∷ rest in
      (λ t. outcome_within bounds (in_version 3 (flagged_end flags + 8) (1 ∷ []) (says t)) workspace room)
      ∙ ap (λ (w : Bytes). outcome_within bounds w workspace room)
      (put_in_holds a b c f g i j k flags 2 3 8 rest (1 ∷ []) (flagged_end flags + 8) (omega arith))
      ∙ same_outcome_3 a b c f g i j k flags rest bounds workspace room
      ∙ (λ t. outcome_within bounds (sym says t) workspace room)) bytes h

-- At the bounds of [12.2]: the promise.
pub version_2_as_1 : (tolerance bytes : Bytes) → length tolerance ≡ 8 → float_at tolerance 0 ≡ tolerance1
    → 11 ≤ length bytes → number_at bytes 3 2 ≡ 1
    → (workspace room : ℕ) → outcome (with_tolerance tolerance bytes) workspace room ≡ outcome bytes workspace room
unfolding outcome
version_2_as_1 tolerance bytes eight means long v workspace room =
    version_2_within tolerance eight means bounds1 workspace room bytes long v

-- such bytes there are: those of 0x3e7ad7f29abcaf48
pub ten_millionth : Bytes
ten_millionth = 72 ∷ 175 ∷ 188 ∷ 154 ∷ 242 ∷ 215 ∷ 122 ∷ 62 ∷ []

pub ten_millionth_means : float_at ten_millionth 0 ≡ tolerance1
unfolding float_at number_at little ten_millionth
ten_millionth_means = refl

pub version_3_as_2 : (bytes : Bytes) → 11 ≤ length bytes → number_at bytes 3 2 ≡ 2 → (workspace room : ℕ)
    → outcome (with_rule 1 bytes) workspace room ≡ outcome bytes workspace room
unfolding outcome
version_3_as_2 bytes h v workspace room = version_3_within bounds1 workspace room bytes h v
