-- What a call says, by what the code gives back: its outcome as an equation, and that an answer which stands in the
-- workspace can be written. Leans on AnswerMatches, Spent and Writable.
use Rattle.std.specs.Prelude.{◌≡◌, Bool, true, false, List, [], length}
use Rattle.std.proofs.Math.Path.{refl}
use Rattle.std.proofs.Common.{subst}
use Prim.Native.Nat.{ℕ, zero, suc, ◌-◌, ◌≤◌}
use native.Mathlib.Omega.{arith}
use Rattle.definitions.specs.Outcome.{Outcome, refused, answered}
use Rattle.definitions.specs.Vectors.{Vec}
use Rattle.definitions.specs.Subspace.{Subspace}
use Rattle.definitions.specs.Orbits.{Row}
use Rattle.definitions.specs.Recursion.{Rules, Answer, swapped_ends, separate_ends}
use Rattle.definitions.specs.Faceting.{Way, faceting_with}
use Rattle.rows.specs.Rows.{rows_in, RowsFit}
use Rattle.shapes.specs.Answered.{TakesSome}
use Rattle.shapes.specs.Calls.{Given}
use Rattle.shapes.specs.Kept.{Kept}
use Rattle.layout.specs.Leaves.{answer_left}
use Rattle.kept_edges.specs.Edges.{edge_answer}
use Rattle.calls.specs.declared.Called.{Called}
use Rattle.calls.specs.declared.Called.TheVariants.{Ends, Left}
use Rattle.refusals.specs.declared.Refusal.{Refusal}
use Rattle.refusals.specs.Refused.{number_of}
use Rattle.std.specs.Prelude.{Result, Ok, Err}
use Rattle.inner_answers.specs.AnswerMatches.{AnswerMatches}
use Rattle.job_calls.specs.Spent.{call_spends_with}
use Rattle.job_calls.specs.Writable.{Writable, kept_by, call_writable}

-- the outcome of a call of rank 3 + more, or of rank 2, from what the code gives back and what it left
unfoldable pub outcome_said : ℕ → ℕ → List Row → List Kept → Result Called Refusal → List ℕ → Outcome Answer
outcome_said more n rows kept (Err e) s = refused (number_of e)
outcome_said more n rows kept (Ok (Ends swapped rest)) s = answered (edge_answer swapped rest)
outcome_said more n rows kept (Ok (Left level rest)) s = answered (answer_left more n rows kept level s rest)

-- and an answer can be written
unfoldable pub CanWrite : ℕ → ℕ → ℕ → List ℕ → List Kept → ℕ → Result Called Refusal → List ℕ → Type 0
CanWrite rank n m rows kept budget (Err e) s = Unit {0}
CanWrite rank n m rows kept budget (Ok (Ends swapped rest)) s = (rest ≤ budget) × (rank ≤ 2)
CanWrite rank n m rows kept budget (Ok (Left level rest)) s =
    (3 ≤ rank) × (rank ≤ 4) × Writable (rank - 3) n m rows kept level budget rest s

-- `call` is the definition's outcome
pub record CallMatches (rank n m : ℕ) (rows : List ℕ) (budget : ℕ) (call : Outcome Answer)
    (called : Result Called Refusal) (s : List ℕ) : Type 0 where
  pub kept : List Kept
  pub is : call ≡ outcome_said (rank - 3) n (rows_in n m rows) kept called s
  pub can_write : CanWrite rank n m rows kept budget called s

-- ---- what a call that was asked what it may be asked says

ends_left : (swapped : Bool) (rest : ℕ) → (edge_answer swapped rest).left ≡ rest
unfolding edge_answer swapped_ends separate_ends
ends_left true rest = refl
ends_left false rest = refl

module _ (way : Way) (takes : TakesSome way) (rules : Rules) (plane : Subspace) (points : List Vec) (m : ℕ)
    (rows : List ℕ) (budget : ℕ) (s : List ℕ) where
  abbrev call : ℕ → Outcome Answer
  call k = faceting_with way k rules plane points (rows_in (length points) m rows) budget

  abbrev says_at : ℕ → Result Called Refusal → Type 0
  says_at k called = AnswerMatches way k rules plane points (rows_in (length points) m rows) budget called s

  pub call_said : {rank : ℕ} → 2 ≤ rank → rank ≤ 4 → Given points (rows_in (length points) m rows)
      → RowsFit (length points) m rows → m ≤ 120 → (rank ≡ 4 → 4194304 ≤ length s)
      → (called : Result Called Refusal) → says_at (rank - 2) called
      → CallMatches rank (length points) m rows budget (call (rank - 2)) called s
  unfolding AnswerMatches outcome_said CanWrite
  call_said {rank} rank_least rank_most given rows_fit_holds few_rows room called h = go (rank - 2) refl called h
    where
      go : (k : ℕ) → rank - 2 ≡ k → (c : Result Called Refusal) → says_at k c
          → CallMatches rank (length points) m rows budget (call k) c s
      go zero e (Err x) h = record { kept = []; is = h; can_write = tt }
      go zero e (Ok (Ends swapped rest)) h = record {
        kept = [];
        is = h;
        can_write = (
          subst (λ (x : ℕ). x ≤ budget) (ends_left swapped rest) (call_spends_with way 0 rules plane points
              (rows_in (length points) m rows) budget (edge_answer swapped rest) h),
          omega arith,
        );
      }
      go zero e (Ok (Left level rest)) h = absurd h
      go (suc more) e (Err x) h = record { kept = []; is = h; can_write = tt }
      go (suc more) e (Ok (Ends swapped rest)) h = absurd h
      go (suc more) e (Ok (Left level rest)) h =
          let less : rank - 3 ≡ more = omega arith in
          record {
            kept = kept_by way takes more rules plane points m rows budget level rest s h;
            is = rw less h.is;
            can_write = (
              omega arith,
              rank_most,
              rw less (call_writable way takes more rules plane points m rows budget level rest s h
                  (omega arith) given rows_fit_holds few_rows (λ q. room (omega arith))),
            );
          }
