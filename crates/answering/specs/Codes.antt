-- The return code and the buffer of the first call, by what came of its job. Leans on what is written of a job, and
-- on the law that the buffer's length matters last.
use Rattle.std.specs.Prelude.{◌≡◌, Bool, ◌++◌, ℕ, ◌-◌, ◌≤◌, ◌<◌, ℤ, pos, neg_ℤ, replicate, Option, Some, None}
use Rattle.std.proofs.Math.Path.{refl, ap}
use Rattle.std.proofs.Common.{sym, ◌∙◌, arith, lt-ltb, le-ltb}
use Rattle.std.proofs.Math.Bool.{true, false, cond}
use Rattle.std.proofs.Math.Dec.{ltb, nltb→le, ltb→lt}
use Rattle.std.proofs.Math.ListN.{length}
use Rattle.definitions.specs.Outcome.{Outcome, refused, answered, and_then, refuse_if}
use Rattle.definitions.specs.Job.{Bytes, fitting, outcome, code_of, buffer_of, alone}
use Rattle.laws.specs.Bools.{false→fails, true→holds}
use Rattle.completeness.specs.Lengths.{outcome_alone}
use Rattle.answering.specs.Closed.{written_in, buffer_in}

-- [12.7] [11.5] minus the refusal's number, 17 where there is no room, or the length
unfoldable pub code_written : Outcome (Option ℕ) → ℤ
code_written (refused number) = neg_ℤ (pos number)
code_written (answered None) = neg_ℤ (pos 17)
code_written (answered (Some many)) = pos many

-- of any outcome of which so much is written
pub written_code : (room : ℕ) (o : Outcome Bytes) {w : Outcome (Option ℕ)} → w ≡ written_in room o
    → code_written w ≡ code_of (and_then o (fitting room))
unfolding code_written written_in code_of fitting refuse_if and_then
written_code room o {w} e = ap code_written e ∙ go o
  where
    by_room : (bytes : Bytes) (b : Bool)
        → code_written (answered (cond b None (Some (length bytes)))) ≡ code_of (refuse_if b 17 (λ u. answered bytes))
    by_room bytes true = refl
    by_room bytes false = refl

    go : (o : Outcome Bytes) → code_written (written_in room o) ≡ code_of (and_then o (fitting room))
    go (refused number) = refl
    go (answered bytes) = by_room bytes (ltb room (length bytes))

pub code_is : (job : Bytes) (workspace room : ℕ) {w : Outcome (Option ℕ)} → w ≡ written_in room (alone job workspace)
    → code_written w ≡ code_of (outcome job workspace room)
code_is job workspace room e =
    written_code room (alone job workspace) e ∙ sym (ap code_of (outcome_alone job workspace room))

pub buffer_is : (job : Bytes) (workspace room : ℕ)
    → buffer_in room (alone job workspace) ≡ buffer_of room (outcome job workspace room)
unfolding buffer_in
buffer_is job workspace room = sym (ap (buffer_of room) (outcome_alone job workspace room))

-- ---- what the job gets by itself, from what came of it

module _ (room : ℕ) where
  pub says_refused : (o : Outcome Bytes) (number : ℕ) → refused number ≡ written_in room o → o ≡ refused number
  unfolding written_in
  says_refused (refused n) number e = cc
  says_refused (answered bytes) number e = let no : ⊥ = cc in absurd no

  pub says_short : (o : Outcome Bytes) → answered None ≡ written_in room o
      → (bytes : Bytes) × (o ≡ answered bytes) × (room < length bytes)
  unfolding written_in
  says_short (refused n) e = let no : ⊥ = cc in absurd no
  says_short (answered bytes) e = go (ltb room (length bytes)) refl e
    where
      go : (b : Bool) → ltb room (length bytes) ≡ b → answered None ≡ answered (cond b None (Some (length bytes)))
          → (l : Bytes) × (answered bytes ≡ answered l) × (room < length l)
      go true t q = (bytes, refl, ltb→lt room (length bytes) (true→holds t))
      go false t q = let no : ⊥ = cc in absurd no

  pub says_wrote : (o : Outcome Bytes) (many : ℕ) → answered (Some many) ≡ written_in room o
      → (bytes : Bytes) × (o ≡ answered bytes) × (many ≡ length bytes) × (many ≤ room)
  unfolding written_in
  says_wrote (refused n) many e = let no : ⊥ = cc in absurd no
  says_wrote (answered bytes) many e = go (ltb room (length bytes)) refl e
    where
      go : (b : Bool) → ltb room (length bytes) ≡ b
          → answered (Some many) ≡ answered (cond b None (Some (length bytes)))
          → (l : Bytes) × (answered bytes ≡ answered l) × (many ≡ length l) × (many ≤ room)
      go true t q = let no : ⊥ = cc in absurd no
      go false t q =
          let same : many ≡ length bytes = cc in
          let short = nltb→le room (length bytes) (false→fails t) in
          (bytes, refl, same, omega arith)

-- ---- and the buffer behind it

pub short_buffer : (room : ℕ) (bytes : Bytes) → room < length bytes → buffer_in room (answered bytes) ≡ replicate room 0
unfolding buffer_in and_then fitting refuse_if buffer_of
short_buffer room bytes h =
    ap (λ (b : Bool). buffer_of room (refuse_if b 17 (λ u. answered bytes))) (lt-ltb room (length bytes) h)

pub wrote_buffer : (room : ℕ) (bytes : Bytes) → length bytes ≤ room
    → buffer_in room (answered bytes) ≡ bytes ++ replicate (room - length bytes) 0
unfolding buffer_in and_then fitting refuse_if buffer_of
wrote_buffer room bytes h =
    ap (λ (b : Bool). buffer_of room (refuse_if b 17 (λ u. answered bytes))) (le-ltb room (length bytes) h)
