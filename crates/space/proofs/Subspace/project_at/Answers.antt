-- `Subspace::project_at` meets its contract: a turn adds what one basis vector gives (`gains_snoc`). At the end j is
-- the rank, and the front with the zeros behind it is the whole (`whole`).
use mathlib.Core.Path.{◌≡◌, refl, sym, ◌∙◌}
use Prim.Native.Nat.{◌*◌, ◌<◌}
use native.Mathlib.Omega.{arith}
use borrow.Author.Rules.{rules}
use lib.ListN.{length, take, drop, length-drop}
use lib.Seq.{length-take-le}
use Rattle.definitions.specs.Vectors.{minus, plus_times}
use Rattle.definitions.specs.Subspace.{project, gains}
use Rattle.laws.specs.Parts.{rows, rows_more}
use Rattle.laws.specs.Segments.{take_onto, drop_onto}
use Rattle.vectors.specs.Meaning.{zeros, five}
use Rattle.vectors.specs.Wholes.{whole, five_rest, minus_length, plus_times_length}
use Rattle.space.specs.Meaning.{subspace_of}
use Rattle.space.specs.Counts.{offset_long, basis_long, offset_length}
use Rattle.space.proofs.Laws.{gains_snoc}
use Rattle.space.proofs.Subspace.project_at.Goals as goal

pub loop-j-init : goal.loop-j-init
unfolding gains rows subspace_of
loop-j-init c =
    let s = c.args.self.now in
    (omega arith, offset_long s, refl, five_rest s.offset (take s.d s.offset) s.d s.fits.offset_is (offset_length s))

pub loop-j-preserved : goal.loop-j-preserved
loop-j-preserved c =
    let s = c.args.self.now in
    let l = c.loop-j in
    let row = take s.d (drop (5 * l.j) s.basis) in
    let below : l.j < s.rank = omega (arith, c.loop-j-test.true) in
    let row_long : length row ≡ s.d = length-take-le s.d (drop (5 * l.j) s.basis)
    (omega (arith, length-drop (5 * l.j) s.basis, basis_long s, s.fits.d_fits, s.fits.rank_fits)) in
    let q-long : length (take s.d l.q) ≡ s.d = length-take-le s.d l.q (omega (arith, l.invariant.1, s.fits.d_fits)) in
    let gained : s.d ≡ length (plus_times (take s.d l.q) row c.dot_at-s.result) =
    sym (plus_times_length _ row _ (q-long ∙ sym row_long) ∙ q-long) in
    let long : length c.gain.new.q ≡ 5 = search rules in (
      omega (arith, below),
      long,
      rw (c.gain.ensures, take_onto _ l.q s.d gained, c.dot_at-s.ensures, l.invariant.2, rows_more 5 s.d l.j s.basis)
          (sym (gains_snoc _ _ _ _)),
      rw (c.gain.ensures, drop_onto _ l.q s.d gained) l.invariant.3,
    )

pub returns : goal.returns
unfolding project subspace_of five
returns c =
    let s = c.args.self.now in
    let l = c.loop-j in
    let p = take s.d (drop c.args.at c.args.points.now) in
    let p-long : length p ≡ s.d = length-take-le s.d (drop c.args.at c.args.points.now)
    (omega (arith, length-drop c.args.at c.args.points.now, c.requires)) in
    let away-long : s.d
    ≡ length (minus p (take s.d s.offset)) = sym (minus_length p _ (p-long ∙ sym (offset_length s)) ∙ p-long) in
    let away : take s.d c.take_from.new.out
    ≡ minus p (take s.d s.offset) = rw c.take_from.ensures (take_onto _ _ s.d away-long) in
    let end : l.j ≡ s.rank = omega arith in
    whole l.q (zeros 5) _ s.d (omega (arith, l.invariant.1, s.fits.d_fits))
    (l.invariant.2 ∙ rw (away, end) refl) l.invariant.3
