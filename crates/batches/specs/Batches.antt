-- The records of a row are what the first call gives each of its jobs [15.4]. About the definitions alone.
use Rattle.std.specs.Prelude.{◌≡◌, refl, Bool, ℕ, ◌≤◌, leb, ltb, length}
use Rattle.std.proofs.Common.{sym, ap, ◌∙◌, le-ltb}
use mathlib.Core.List.{List, [], ◌∷◌, ◌++◌, Forall₂, flat_map}
use Rattle.std.proofs.Math.Dec.{nleb→lt}
use Rattle.definitions.specs.Outcome.{Outcome, refused, answered, and_then, refuse_if}
use Rattle.definitions.specs.Job.{Bytes, fitting, outcome, alone}
use Rattle.completeness.specs.Lengths.{outcome_alone}
use Rattle.laws.specs.Bools.{false→fails}
use Rattle.laws.specs.Outcomes.{answered_before, not_refused_if}
use Rattle.shapes.specs.Answered.{answers_equal}
use Rattle.definitions.specs.Batch.{jobs_in, record_bytes, record_of, records_of, fitting_all, batch, ByItself, Batched}

-- one job's record
one_record : (workspace : ℕ) (job bytes : Bytes) → record_of (alone job workspace) ≡ answered bytes
    → (o : Outcome Bytes) × ByItself workspace job o × (bytes ≡ record_bytes o)
unfolding record_of ByItself and_then fitting refuse_if
one_record workspace job bytes e = go (alone job workspace) refl e
  where
    by_itself : (room : ℕ) (o : Outcome Bytes) → alone job workspace ≡ o
        → outcome job workspace room ≡ and_then o (fitting room)
    by_itself room o q = outcome_alone job workspace room ∙ ap (λ (x : Outcome Bytes). and_then x (fitting room)) q

    fits : (room : ℕ) (answer : Bytes) → length answer ≤ room → fitting room answer ≡ answered answer
    fits room answer h = ap (λ (b : Bool). refuse_if b 17 (λ u. answered answer)) (le-ltb room (length answer) h)

    go : (o : Outcome Bytes) → alone job workspace ≡ o → record_of o ≡ answered bytes
        → (r : Outcome Bytes) × ByItself workspace job r × (bytes ≡ record_bytes r)
    go (refused number) q h =
        (refused number, (λ room. by_itself room (refused number) q), sym (answers_equal _ bytes h))
    go (answered answer) q h =
        let n = not_refused_if (leb 4294967296 (length answer)) 27
        (λ u. answered (record_bytes (answered answer))) bytes h in (
          answered answer,
          (
            nleb→lt 4294967296 (length answer) (false→fails n.0),
            λ room k.
                by_itself room (answered answer) q ∙ fits room answer k,
          ),
          sym (answers_equal _ bytes n.1),
        )

record Records (workspace : ℕ) (jobs : List Bytes) (bytes : Bytes) : Type 0 where
  results : List (Outcome Bytes)
  each : Forall₂ (ByItself workspace) jobs results
  is : bytes ≡ flat_map record_bytes results

all_records : (workspace : ℕ) (jobs : List Bytes) (bytes : Bytes) → records_of workspace jobs ≡ answered bytes
    → Records workspace jobs bytes
unfolding records_of flat_map
all_records workspace [] bytes e = record { results = []; each = Forall₂.nil; is = sym (answers_equal [] bytes e) }
all_records workspace (job ∷ jobs) bytes e =
    let a = answered_before (record_of (alone job workspace)) (λ (first : Bytes).
    and_then (records_of workspace jobs) (λ (others : Bytes). answered (first ++ others))) bytes e in
    let b = answered_before (records_of workspace jobs) (λ (others : Bytes). answered (a.0 ++ others)) bytes a.2 in
    let one = one_record workspace job a.0 a.1 in
    let rest = all_records workspace jobs b.0 b.1 in
    record {
      results = one.0 ∷ rest.results;
      each = Forall₂.cons one.1 rest.each;
      is = sym (answers_equal (a.0 ++ b.0) bytes b.2) ∙ (λ t. one.2 t ++ rest.is t);
    }

pub batched : (row : Bytes) (workspace room : ℕ) (bytes : Bytes) → batch row workspace room ≡ answered bytes
    → Batched (ByItself workspace) row bytes
unfolding batch fitting_all
batched row workspace room bytes e =
    let a = answered_before (jobs_in row)
    (λ (jobs : List Bytes). and_then (records_of workspace jobs) (fitting_all room)) bytes e in
    let b = answered_before (records_of workspace a.0) (fitting_all room) bytes a.2 in
    let c = not_refused_if (ltb room (length b.0)) 27 (λ u. answered b.0) bytes b.2 in
    let r = all_records workspace a.0 b.0 b.1 in
    record {
      jobs = a.0;
      results = r.results;
      cut = a.1;
      each = r.each;
      records = sym (answers_equal b.0 bytes c.1) ∙ r.is;
    }
