-- `Candidates::latest` meets its contract. Assumes nothing.
use Prim.Native.Nat.{ℕ, ◌<◌}
use mathlib.Core.Path.{◌≡◌}
use native.Mathlib.Omega.{arith}
use lib.ListN.{length}
use Rattle.std.proofs.Common.{rules, tests, Fits, w64}
use Rattle.facets.specs.Layout.{numbers}
use Rattle.facets.specs.Numbers.{same_length}
use Rattle.candidates.specs.Latest.{flag_inside}
use Rattle.candidates.proofs.Downwards.{flag_at, serves_down, last_from_Range, last_is}
use Rattle.candidates.proofs.Candidates.latest.Goals as goal

-- a place in a list is a number of eight bytes
fits : (n l : ℕ) → n < l → l < 18446744073709551616 → Fits w64 n
fits n l h k = record { fits = omega arith }

pub find-requires-clause-callable : goal.find-requires-clause-callable
find-requires-clause-callable c =
    serves_down _ _ _ c.rev.ensures.source (λ f x q k. search (rules, tests)) (λ x a b y e.
    let t = c.requires.0 in
    let h = c.requires.1 in
    let k = c.requires.2 in
    let m : y.now < length (numbers t c.args.self.kind) = omega arith in
    let inside = λ (o : ℕ). flag_inside t c.args.self.areas c.args.self.ws.now c.args.self.kind y.now o h m in (
      search rules,
      (λ _ _ _ _ _ _ _ _ o. fits _ _ (inside o.result (o.ensures t h)) c.ranges.self.0),
      (λ _ _ _ _ _ _ _ _ o. inside o.result (o.ensures t h)),
    ))

pub returns : goal.returns
returns c = λ t list h u.
    let k = c.requires.2 in
    let n = same_length t c.requires.0 _ _ h c.requires.1 c.args.self.kind c.args.self.kind_in in
    let flag = flag_at t c.args.self.areas c.args.self.ws.now c.args.self.kind in
    let found = last_is t c.args.self.areas c.args.self.ws.now c.args.self.kind list c.args.low h u c.args.place c.find.result
    (omega arith)
    (last_from_Range _ _ _ c.rev.ensures.source _ _ _ (λ x. flag x ≡ 0) (λ x. flag x ≡ 0 → ⊥) c.find.ensures.ran
    (λ x q k. search (rules, tests)) (λ x q k. search (rules, tests))) in
    grind (arith, found)
