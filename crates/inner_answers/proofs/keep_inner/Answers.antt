-- `inner_answers::keep_inner` meets its contract: in each case the law of that case. Assumes nothing.
use mathlib.Core.Path.{◌≡◌, ap, ◌∙◌, subst}
use native.Mathlib.Omega.{arith}
use Rattle.calls.specs.declared.Called.{Called}
use Rattle.refusals.specs.declared.Refusal.{Refusal}
use Rattle.refusals.specs.Refused.{handed_on}
use Rattle.inner_answers.specs.AnswerMatches.{Step}
use Rattle.inner_answers.specs.Stored.{Storing, refusal_stored}
use Rattle.std.specs.Prelude.{Result, Ok}
use Rattle.inner_answers.proofs.keep_inner.Goals as goal

-- what a call came to, as it was looked at
came : {called seen was : Result Called Refusal} → seen ≡ was → called ≡ seen → called ≡ was
came e f = f ∙ e

pub returns-in_err-swapped : goal.returns-in_err-swapped
unfolding Storing
returns-in_err-swapped c =
    λ g left t e b. rw (handed_on _ _ c.from_residual.ensures.1)
    (refusal_stored g c.args.layout left _ c.args.rows.bytes.now c.args.rows.count c.args.ws.now
    (subst (λ (x : Result Called Refusal). Step g c.args.layout left c.args.layout.orbits x c.args.rows.bytes.now
    c.args.rows.count c.args.ws.now) (came c.in_err-swapped.was (grind arith)) t))

pub keep_ends-requires : goal.keep_ends-requires
keep_ends-requires c =
    let g = c.requires.0 in
    let left = c.requires.1 in
    let t = c.requires.2 in (
      g,
      left,
      c.args.rows.bytes.now,
      c.args.rows.count,
      (subst (λ (x : Result Called Refusal).
          Step g c.args.layout left c.args.layout.orbits x c.args.rows.bytes.now c.args.rows.count c.args.ws.now)
          (came (c.in_ok-swapped.was ∙ ap Ok c.in-Ends.is) (grind arith)) t),
      c.requires.3,
      c.requires.4,
    )

pub keep_left-requires : goal.keep_left-requires
keep_left-requires c =
    let g = c.requires.0 in
    let left = c.requires.1 in
    let t = c.requires.2 in (
      g,
      left,
      (subst (λ (x : Result Called Refusal).
          Step g c.args.layout left c.args.layout.orbits x c.args.rows.bytes.now c.args.rows.count c.args.ws.now)
          (came (c.in_ok-swapped.was ∙ ap Ok c.in-Left.is) (grind arith)) t),
      c.requires.3,
      c.requires.4,
    )

pub returns-in-Ends : goal.returns-in-Ends
returns-in-Ends c =
    λ g left t e b. c.keep_ends.ensures g left c.args.rows.bytes.now c.args.rows.count
    (subst (λ (x : Result Called Refusal). Step g c.args.layout left c.args.layout.orbits x c.args.rows.bytes.now
    c.args.rows.count c.args.ws.now) (came (c.in_ok-swapped.was ∙ ap Ok c.in-Ends.is) (grind arith)) t) e b

pub returns-in-Left : goal.returns-in-Left
returns-in-Left c =
    λ g left t e b. c.keep_left.ensures g left (subst (λ (x : Result Called Refusal).
    Step g c.args.layout left c.args.layout.orbits x c.args.rows.bytes.now c.args.rows.count c.args.ws.now)
    (came (c.in_ok-swapped.was ∙ ap Ok c.in-Left.is) (grind arith)) t) e b
