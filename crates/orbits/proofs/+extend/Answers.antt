-- `orbits::extend` meets its contract: with no vertex to add, the tuple alone is fitted (`none_added`). A vertex that
-- breaks a limit is passed (`vertex_fails`), and any other begins longer tuples (`vertex_joins`, `extend_turn`).
use mathlib.Core.Path.{◌≡◌, refl, sym, ap, subst, ◌∙◌}
use mathlib.Core.Bool.{true, false}
use mathlib.Core.List.{List, [], ◌∷◌, ◌++◌}
use Prim.Native.Nat.{ℕ, ◌+◌, ◌-◌, ◌<◌}
use native.Mathlib.Omega.{arith}
use lib.ListN.{length-append}
use Rattle.definitions.specs.Vectors.{Vec}
use Rattle.definitions.specs.Orbits.{point_at}
use Rattle.vectors.specs.Meaning.{vector_of, five}
use Rattle.space.specs.Meaning.{points_of, limits_of}
use Rattle.space.specs.Counts.{points_length, point_means, point_own}
use Rattle.rows.specs.Rows.{rows_in}
use Rattle.orbits.specs.Walks.{keeps_limits, extensions}
use Rattle.orbits.proofs.Extending.{Extending, extend_start, extend_turn, extend_refused, extend_end, none_added}
use Rattle.orbits.proofs.Extending.{none_left, vertex_fails, vertex_joins, kept, not_kept}
use Rattle.refusals.specs.Refused.{handed_on}
use Rattle.orbits.proofs.+extend.Goals as goal

pub returns-then-more-eq0 : goal.returns-then-more-eq0
returns-then-more-eq0 t c = let a = c.args in
    rw (none_added (keeps_limits a.walk.search.pairs.tolerance (limits_of a.walk.search.pairs.limits)
    (points_of a.walk.search.pairs.points.now) a.v) (points_of a.walk.search.flat.now)
    (points_of a.tuple.now) a.walk.search.flat.now.n a.from a.more c.if-more-eq0.true) c.fit_tuple.ensures.walked

pub loop-u-init : goal.loop-u-init
loop-u-init t c = let a = c.args in (
  omega arith,
  refl,
  extend_start a.walk.search.pairs.tolerance a.walk.most (points_of a.walk.search.flat.now)
      (rows_in a.walk.search.flat.now.n a.walk.search.pairs.rows.count a.walk.search.pairs.rows.bytes.now)
      a.walk.bound a.state a.ws.now _ c.requires.2,
)

pub loop-u-preserved-then-breaks_limit : goal.loop-u-preserved-then-breaks_limit
loop-u-preserved-then-breaks_limit t c = let a = c.args in let p = c.requires in
    let passes = keeps_limits a.walk.search.pairs.tolerance (limits_of a.walk.search.pairs.limits)
    (points_of a.walk.search.pairs.points.now) a.v in
    let flat = points_of a.walk.search.flat.now in
    let tuple = points_of a.tuple.now in
    let rows = rows_in a.walk.search.flat.now.n a.walk.search.pairs.rows.count a.walk.search.pairs.rows.bytes.now in
    let l = c.loop-u in
    let positive : 0 < a.more = omega (arith, c.if-more-eq0.false) in
    let fails : passes l.u ≡ false = not_kept a.walk.search.pairs.tolerance (limits_of a.walk.search.pairs.limits)
    (points_of a.walk.search.pairs.points.now) a.v l.u (sym c.breaks_limit.ensures ∙ c.if-breaks_limit.true) in (
      omega arith,
      l.invariant.1,
      subst (λ (rest : List (List Vec)).
          Extending a.walk.search.pairs.tolerance a.walk.most flat rows a.walk.bound a.state a.ws.now
          (extensions passes flat tuple a.walk.search.flat.now.n a.from a.more) rest l.reached l.ws)
          (vertex_fails passes flat tuple
          a.walk.search.flat.now.n l.u a.more positive (omega (arith, a.walk.search.fits.same_n)) fails) l.invariant.2,
    )

pub push-requires : goal.push-requires
push-requires t c = let a = c.args in let p = c.requires in let l = c.loop-u in
    let below : l.u < a.walk.search.flat.now.n = omega (arith, c.loop-u-test.true, a.walk.search.fits.same_n) in (
      omega (arith, l.invariant.0, p.4, a.walk.search.flat.now.fits.n_fits),
      subst (λ (d : ℕ). c.point.result ≡ five (vector_of d c.point.result)) (sym p.1)
          (point_own a.walk.search.flat.now l.u below _ c.point.ensures),
    )

pub extend-requires : goal.extend-requires
extend-requires t c = let a = c.args in let p = c.requires in let l = c.loop-u in
    let h = c.push.ensures.0 in
    let longer : c.push.new.self.n ≡ a.tuple.now.n + 1 = h.n_is
    ∙ (length-append (points_of a.tuple.now) _ ∙ (omega (arith, points_length a.tuple.now))) in (
      omega (arith, c.decreases, c.if-more-eq0.false),
      (
        omega arith,
        h.d_is
            ∙ p.1,
        l.invariant.2.walked.room,
        p.3,
        omega (arith, l.invariant.0, p.4),
      ),
    )

pub returns-in_err-reached : goal.returns-in_err-reached
returns-in_err-reached t c = let a = c.args in let p = c.requires in
    let passes = keeps_limits a.walk.search.pairs.tolerance (limits_of a.walk.search.pairs.limits)
    (points_of a.walk.search.pairs.points.now) a.v in
    let flat = points_of a.walk.search.flat.now in
    let tuple = points_of a.tuple.now in
    let rows = rows_in a.walk.search.flat.now.n a.walk.search.pairs.rows.count a.walk.search.pairs.rows.bytes.now in
    let l = c.loop-u in
    let positive : 0 < a.more = omega (arith, c.if-more-eq0.false) in
    let joins : passes l.u ≡ true = kept a.walk.search.pairs.tolerance (limits_of a.walk.search.pairs.limits)
    (points_of a.walk.search.pairs.points.now) a.v l.u (sym c.breaks_limit.ensures ∙ c.if-breaks_limit.false) in
    let h = c.push.ensures.0 in
    let below : l.u < a.walk.search.flat.now.n = omega (arith, c.loop-u-test.true, a.walk.search.fits.same_n) in
    let point : vector_of a.tuple.now.d c.point.result
    ≡ point_at flat l.u = rw p.1 (point_means a.walk.search.flat.now l.u below _ c.point.ensures) in
    let longer : points_of c.push.new.self ≡ tuple ++ (point_at flat l.u ∷ []) = h.means
    ∙ ap (λ (x : Vec). tuple ++ (x ∷ [])) point in
    rw (handed_on _ _ c.from_residual.ensures.1) (extend_refused a.walk.search.pairs.tolerance a.walk.most flat rows
    a.walk.bound a.state a.ws.now (extensions passes flat tuple a.walk.search.flat.now.n a.from a.more)
    (extensions passes flat tuple a.walk.search.flat.now.n l.u a.more)
    (extensions passes flat (points_of c.push.new.self) a.walk.search.flat.now.n (l.u + 1) (a.more - 1))
    (extensions passes flat tuple a.walk.search.flat.now.n (l.u + 1) a.more) l.reached l.ws _ _ l.invariant.2
    (vertex_joins passes flat tuple a.walk.search.flat.now.n l.u a.more (points_of c.push.new.self) positive
    (omega (arith, a.walk.search.fits.same_n, c.loop-u-test.true)) joins longer) c.in_err-reached.ensures)

pub loop-u-preserved : goal.loop-u-preserved
loop-u-preserved t c = let a = c.args in let p = c.requires in
    let passes = keeps_limits a.walk.search.pairs.tolerance (limits_of a.walk.search.pairs.limits)
    (points_of a.walk.search.pairs.points.now) a.v in
    let flat = points_of a.walk.search.flat.now in
    let tuple = points_of a.tuple.now in
    let rows = rows_in a.walk.search.flat.now.n a.walk.search.pairs.rows.count a.walk.search.pairs.rows.bytes.now in
    let l = c.loop-u in
    let positive : 0 < a.more = omega (arith, c.if-more-eq0.false) in
    let joins : passes l.u ≡ true = kept a.walk.search.pairs.tolerance (limits_of a.walk.search.pairs.limits)
    (points_of a.walk.search.pairs.points.now) a.v l.u (sym c.breaks_limit.ensures ∙ c.if-breaks_limit.false) in
    let h = c.push.ensures.0 in
    let below : l.u < a.walk.search.flat.now.n = omega (arith, c.loop-u-test.true, a.walk.search.fits.same_n) in
    let point : vector_of a.tuple.now.d c.point.result
    ≡ point_at flat l.u = subst (λ (d : ℕ). vector_of d c.point.result ≡ point_at flat l.u) (sym p.1)
    (point_means a.walk.search.flat.now l.u below _ c.point.ensures) in
    let longer : points_of c.push.new.self ≡ tuple ++ (point_at flat l.u ∷ []) = h.means
    ∙ ap (λ (x : Vec). tuple ++ (x ∷ [])) point in (
      omega arith,
      c.extend.auto.ws ∙ l.invariant.1,
      extend_turn a.walk.search.pairs.tolerance a.walk.most flat rows a.walk.bound a.state a.ws.now
          (extensions passes flat tuple a.walk.search.flat.now.n a.from a.more)
          (extensions passes flat tuple a.walk.search.flat.now.n l.u a.more)
          (extensions passes flat (points_of c.push.new.self) a.walk.search.flat.now.n (l.u + 1) (a.more - 1))
          (extensions passes flat tuple a.walk.search.flat.now.n (l.u + 1) a.more) l.reached l.ws _ _ l.invariant.2
          (vertex_joins passes flat tuple a.walk.search.flat.now.n l.u a.more (points_of c.push.new.self) positive
          (omega (arith, a.walk.search.fits.same_n, c.loop-u-test.true)) joins longer) c.in_ok-reached.ensures,
    )

pub returns : goal.returns
returns t c = let a = c.args in let p = c.requires in let l = c.loop-u in
    extend_end a.walk.search.pairs.tolerance a.walk.most (points_of a.walk.search.flat.now)
    (rows_in a.walk.search.flat.now.n a.walk.search.pairs.rows.count a.walk.search.pairs.rows.bytes.now)
    a.walk.bound a.state a.ws.now _ _ l.reached l.ws l.invariant.2
    (none_left (keeps_limits a.walk.search.pairs.tolerance (limits_of a.walk.search.pairs.limits)
    (points_of a.walk.search.pairs.points.now) a.v) (points_of a.walk.search.flat.now)
    (points_of a.tuple.now) a.walk.search.flat.now.n l.u a.more (omega (arith, c.if-more-eq0.false)) (omega (
      arith,
      a.walk.search.fits.same_n,
    )))
