-- Theorems on the definitions of specs/Meaning.
use Rattle.std.specs.Prelude.{◌≡◌, refl}
use Rattle.std.proofs.Common.{sym, subst, arith}
use Rattle.definitions.specs.Job.{Bytes, read_job}
use Rattle.load.specs.declared.Fields.{Fields}
use Rattle.load.specs.Places.{header_of, places_of, Exact}
use Rattle.load.specs.Meaning.{Loadable, fields_of, rows_at}

-- ---- what fields say of a job of its exact length

own : (bytes : Bytes) → Exact bytes → Loadable bytes (fields_of bytes)
unfolding fields_of read_job header_of places_of rows_at
own bytes k =
    let h = k.counted in
    let long = k.long in
    record {
      rank_is = refl;
      d_is = refl;
      n_is = refl;
      count_is = refl;
      shortest_is = refl;
      longest_is = refl;
      entries_is = refl;
      tolerance_is = refl;
      rule_is = refl;
      budget_is = refl;
      rank_least = h.rank_least;
      rank_most = h.rank_most;
      d_least = h.d_least;
      d_most = h.d_most;
      n_least = h.n_least;
      n_most = h.n_most;
      count_least = h.count_least;
      count_most = h.count_most;
      offset_fits = omega arith;
      basis_fits = omega arith;
      points_fit = omega arith;
      rows_fit_holds = omega arith;
      offset_is = refl;
      basis_is = refl;
      points_is = refl;
      rows_is = refl;
    }

pub loadable : (bytes : Bytes) (f : Fields) → Exact bytes → f ≡ fields_of bytes → Loadable bytes f
loadable bytes f k e = subst (Loadable bytes) (sym e) (own bytes k)
