-- An answer that has no room is told from every refusal, whatever the outcome is: `None` is written exactly where
-- there is one, and a refusal exactly where the outcome is that refusal. The return code has 17 for the one and for a
-- refusal with that number; where the outcome is never refused with 17 (`never_17`, `plain_never_17` and
-- `noble_never_17` say so of the three kinds of jobs) its 17 is an answer that has no room. Leans on what is written
-- of an outcome, and on its return code.
use Rattle.std.specs.Prelude.{◌≡◌, refl, ℕ, zero, suc, ◌<◌, length, ℤ, pos, neg_ℤ, Option, Some, None}
use Rattle.std.proofs.Math.Path.{sym, ap}
use Rattle.std.proofs.Common.{◌∙◌, lt-ltb}
use Rattle.std.proofs.Math.Bool.{Bool, cond}
use Rattle.definitions.specs.Outcome.{Outcome, refused, answered}
use Rattle.definitions.specs.Job.{Bytes}
use Rattle.completeness.specs.Refusals.{RefusedBy}
use Rattle.answering.specs.Closed.{written_in}
use Rattle.answering.specs.Codes.{code_written, says_refused, says_short}

-- an answer of more bytes than this room
pub record HasNoRoom (room : ℕ) (o : Outcome Bytes) : Type 0 where
  pub bytes : Bytes
  pub is_answered : o ≡ answered bytes
  pub too_long : room < length bytes

module _ (room : ℕ) (o : Outcome Bytes) where
  told : written_in room o ≡ answered None → HasNoRoom room o
  told e = let s = says_short room o (sym e) in record { bytes = s.0; is_answered = s.1; too_long = s.2 }

  no_room : HasNoRoom room o → written_in room o ≡ answered None
  unfolding written_in
  no_room h =
      ap (written_in room) h.is_answered
      ∙ ap (λ (b : Bool). answered (cond b None (Some (length h.bytes)))) (lt-ltb room (length h.bytes) h.too_long)

  pub short_or_refused : ((written_in room o ≡ answered None → HasNoRoom room o)
      × (HasNoRoom room o → written_in room o ≡ answered None))
      × ((number : ℕ) → (written_in room o ≡ refused number → o ≡ refused number)
      × (o ≡ refused number → written_in room o ≡ refused number))
  unfolding written_in
  short_or_refused =
      ((told, no_room), λ number. ((λ e. says_refused room o number (sym e)), (λ e. ap (written_in room) e)))

  -- and of its return code
  pub code_short : RefusedBy (λ (n : ℕ). n ≡ 17 → ⊥) o
      → (code_written (written_in room o) ≡ neg_ℤ (pos 17) → HasNoRoom room o)
      × (HasNoRoom room o → code_written (written_in room o) ≡ neg_ℤ (pos 17))
  unfolding code_written
  code_short never = ((λ e. go (written_in room o) refl e), λ h. ap code_written (no_room h))
    where
      go : (w : Outcome (Option ℕ)) → written_in room o ≡ w → code_written w ≡ neg_ℤ (pos 17) → HasNoRoom room o
      go (refused n) q e = absurd (never.number_is n (says_refused room o n (sym q)) (same n e))
        where
          same : (k : ℕ) → neg_ℤ (pos k) ≡ neg_ℤ (pos 17) → k ≡ 17
          same zero h = let no : ⊥ = cc in absurd no
          same (suc k) h = let e : k ≡ 16 = cc in ap suc e
      go (answered None) q e = told q
      go (answered (Some many)) q e = let no : ⊥ = cc in absurd no
