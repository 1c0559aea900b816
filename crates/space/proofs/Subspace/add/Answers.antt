-- `Subspace::add` meets its contract: a definition for each outcome of the test. Leans on the laws of this crate.
use mathlib.Core.Path.{◌≡◌, refl, sym, ◌∙◌}
use mathlib.Core.Bool.{true, false}
use borrow.Author.Rules.{rules}
use lib.ListN.{length}
use lib.Ieee.{lt}
use Rattle.definitions.specs.Vectors.{norm, normalised}
use Rattle.definitions.specs.Subspace.{residual}
use Rattle.vectors.specs.Meaning.{vector_of, five}
use mathlib.Core.List.{List}
use lib.Ieee.{Float}
use Rattle.space.specs.declared.Subspace.{Subspace as StoredSubspace}
use Rattle.vectors.specs.Wholes.{five_means, normalised_length}
use Rattle.vectors.proofs.Wholes.{five_own}
use Rattle.space.specs.Meaning.{subspace_of}
use Rattle.space.specs.Counts.{holds_subspace}
use Rattle.space.proofs.Laws.{add_point_joins, add_point_stays, read_residual, five_read}
use Rattle.space.proofs.Subspace.add.Goals as goal

-- the residual's own numbers
measured : (s : StoredSubspace) (p r : List Float) → length p ≡ 5 → r
    ≡ five (residual (subspace_of s) (vector_of s.d p)) → vector_of s.d r ≡ residual (subspace_of s) (vector_of s.d p)
measured s p r long e = read_residual s (vector_of s.d p) (five_read s p long) r e

pub push-requires : goal.push-requires
push-requires c =
    let u = c.normalise-unit.result in
    let s = c.args.self in
    let long : length c.residual.result ≡ 5 = search rules in (
      c.requires,
      five_own u.vector _ s.d c.normalise-unit.ensures.0 (normalised_length _ ∙ five_read s c.residual.result long),
    )

pub returns-then-unit-tolerance : goal.returns-then-unit-tolerance
returns-then-unit-tolerance c =
    let a = c.args in
    let stored = a.self in
    let s = subspace_of stored in
    let p = vector_of stored.d a.p in
    let u = c.normalise-unit in
    let p-fits : length a.p ≡ 5 = search rules in
    let r-fits : length c.residual.result ≡ 5 = search rules in
    let r : vector_of stored.d c.residual.result ≡ residual s p = measured stored a.p _ p-fits c.residual.ensures in
    let unit : vector_of stored.d u.result.vector
    ≡ normalised (residual s p) = five_means u.result.vector _ stored.d u.ensures.0
    (normalised_length _ ∙ five_read stored c.residual.result r-fits) ∙ rw r refl in
    let longer : lt a.tolerance (norm (residual s p)) ≡ true = rw (← r, ← u.ensures.1) c.if-unit-tolerance.true in
    (rw (add_point_joins _ s p longer, ← unit) c.push.ensures.0, c.push.ensures.1)

pub returns : goal.returns
returns c =
    let a = c.args in
    let stored = a.self in
    let s = subspace_of stored in
    let p = vector_of stored.d a.p in
    let p-fits : length a.p ≡ 5 = search rules in
    let r : vector_of stored.d c.residual.result ≡ residual s p = measured stored a.p _ p-fits c.residual.ensures in
    let shorter : lt a.tolerance (norm (residual s p))
    ≡ false = rw (← r, ← c.normalise-unit.ensures.1) c.if-unit-tolerance.false in
    (holds_subspace _ _ (sym (add_point_stays _ s p shorter)), refl)
