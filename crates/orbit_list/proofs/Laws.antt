-- Why the orbits of a job that passes can be listed: its rows are permutations, and its orbits are not too many.
use mathlib.Core.Path.{◌≡◌, refl, ap, ◌∙◌, sym, subst}
use mathlib.Core.Bool.{Bool, true, false}
use mathlib.Core.List.{List, map}
use Prim.Native.Nat.{ℕ, ◌*◌, ◌≤◌}
use native.Mathlib.Omega.{arith}
use borrow.Author.Tests.{ltb-false}
use lib.Dec.{ltb}
use lib.ListN.{length, length-map}
use Rattle.definitions.specs.Outcome.{answered, refuse_if}
use Rattle.definitions.specs.Orbits.{Orbit}
use Rattle.definitions.specs.Recursion.{rows_within}
use Rattle.definitions.specs.Job.{Bytes, read_job}
use Rattle.laws.specs.Sets.{vertices_of}
use Rattle.space.specs.declared.Points.{Points}
use Rattle.load.specs.declared.Fields.{Fields}
use Rattle.load.specs.Places.{Exact}
use Rattle.load.specs.Meaning.{fields_of, Loadable}
use Rattle.load.proofs.Meaning.{loadable}
use Rattle.job.specs.Refusal.{checked_of}
use Rattle.job.specs.Passed.{passed_means, passed_exact, passed_rows}
use Rattle.rows.specs.Rows.{rows_in, written_rows}
use Rattle.stabilizers.specs.Permutations.{Permutations, permutations_of}
use Rattle.stabilizers.specs.Inner.{inner_permute}
use Rattle.std.specs.Prelude.{Ok}
use Rattle.orbits.specs.Numbers.{orbit_of}
use Rattle.orbits.specs.Workspace.{orbits_in, orbits_length}
use Rattle.orbits.specs.Answers.{answer_in, orbits_or_refusal, CallFits}

-- ---- a job that passes

module _ (bytes : Bytes) (f : Fields) (passed : answered f ≡ checked_of bytes 4194304) where
  pub exact : Exact bytes
  exact = passed_exact bytes 4194304 (passed_means bytes 4194304 f passed).0

  pub own_fields : f ≡ fields_of bytes
  own_fields = (passed_means bytes 4194304 f passed).1

  pub counts : Loadable bytes f
  counts = loadable bytes f exact own_fields

  rows_permute : (region : Bytes) → 32 * f.count ≤ length region → rows_in f.n f.count region ≡ (read_job bytes).rows
      → Permutations f.n f.count region
  rows_permute region room held =
      let good = passed_rows bytes 4194304 (passed_means bytes 4194304 f passed).0 in
      permutations_of f.n f.count region counts.n_most room (rw (held, counts.n_is) good)

  pub call_fits : (points flat : Points) → points.n ≡ f.n → flat.n ≡ points.n → (region : Bytes)
      → 32 * f.count ≤ length region
      → rows_in f.n f.count region ≡ (read_job bytes).rows → CallFits points flat f.count region
  call_fits points flat e g region room held = record {
    same_n = sym g;
    permute = subst (λ (n : ℕ). Permutations n f.count region) (sym (g ∙ e)) (rows_permute region room held);
    few = counts.count_most;
  }

-- ---- what is listed

-- no more orbits than the bound allows
pub orbits_few : (n count bound : ℕ) (ws : List ℕ) (orbits : List Orbit)
    → answer_in n (Ok count) ws ≡ orbits_or_refusal bound orbits → count ≤ bound
unfolding answer_in orbits_or_refusal refuse_if
orbits_few n count bound ws orbits e =
    go (ltb bound (length orbits)) (λ q. ltb-false bound (length orbits) q) e
  where
    go : (b : Bool) → (b ≡ false → length orbits ≤ bound)
        → answered (map (orbit_of n) (orbits_in ws count)) ≡ refuse_if b 13 (λ u. answered orbits) → count ≤ bound
    go true h q = let z : ◌≡◌ {A = ℕ} 0 1 = cc in absurd (omega arith)
    go false h q =
        let same : map (orbit_of n) (orbits_in ws count) ≡ orbits = cc in
        omega (arith, h refl, ap length same, length-map (orbits_in ws count) (orbit_of n), orbits_length ws count)

-- the rows that were written stand where they are read
pub written_few : (n m : ℕ) (s : List ℕ) → Permutations n m s → (x : ℕ) (out : List ℕ) → 32 * m ≤ length out
    → (count : ℕ) (after : List ℕ)
    → count ≡ length (rows_within (vertices_of n x) (rows_in n m s))
    → after ≡ written_rows (rows_within (vertices_of n x) (rows_in n m s)) 0 out → 32 * count ≤ length after
written_few n m s fits x out room count after e w = rw (e, w) (inner_permute n m s fits x out room).long
