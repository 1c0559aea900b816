-- `filter::shared_items` meets its contract: the items before the first that differs are those in common. Assumes
-- nothing.
use mathlib.Core.Path.{◌≡◌, sym, ◌∙◌}
use mathlib.Core.List.{List}
use Prim.Native.Nat.{ℕ, zero, suc, ◌+◌, ◌≤◌, ◌<◌}
use native.Mathlib.Numerals.{add-one}
use native.Mathlib.Omega.{arith}
use lib.ListN.{length, get_or, drop}
use Rattle.std.proofs.Common.{rules, tests}
use Rattle.std.specs.Prelude.{Option, Some, None, MatchOption}
use Rattle.std.specs.Option.{unwrap_or}
use Rattle.std.proofs.lemmas.Iterator.{first_from_Range}
use Rattle.laws.specs.Lists.{read_inside}
use Rattle.order.specs.Areas.{list_of}
use Rattle.labels.specs.Walked.{shared}
use Rattle.filter.specs.Noted.{shared_end, shared_differ, shared_more, before_end}
use Rattle.filter.proofs.shared_items.Goals as goal

module _ (b c : List ℕ) where
  -- the items at place i are the same, or they differ; the one of b is a number of two bytes
  abbrev Same : ℕ → Type 0
  Same i = (get_or b i 0 < 65536) × (get_or b i 0 ≡ get_or c i 65536)

  abbrev Other : ℕ → Type 0
  Other i = (get_or b i 0 < 65536) × (get_or b i 0 ≡ get_or c i 65536 → ⊥)

  -- so many items are the same from the first on
  so_many : (i : ℕ) → i ≤ length b → ((k : ℕ) → 0 ≤ k → k < i → Same k) → i + shared (drop i b) (drop i c) ≡ shared b c
  so_many zero h same = omega arith
  so_many (suc i) h same =
      let x = same i (omega arith) (omega arith) in
      let e = read_inside b i 0 65536 (omega arith) in
      rw (← add-one i) (shared_more b c i (so_many i (omega arith) (λ k l m. same k l (omega arith))) (omega arith)
      (omega (arith, e, x.0)) (sym e ∙ x.1) (before_end c i (omega (arith, x.0, x.1))))

  first_other : (m : ℕ) → m ≡ length b → (r : Option ℕ)
      → MatchOption r ((k : ℕ) → 0 ≤ k → k < m → Same k)
      (λ i. (0 ≤ i) × (i < m) × Other i × ((k : ℕ) → 0 ≤ k → k < i → Same k))
      → unwrap_or r m ≡ shared b c
  first_other m long None h = shared_end b c m (so_many m (omega arith) h) (omega arith)
  first_other m long (Some i) h =
      let inside : i < length b = omega (arith, h.1) in
      let e = read_inside b i 0 65536 inside in
      shared_differ b c i (so_many i (omega arith) h.3) inside (omega (arith, e, h.2.0)) (λ d. h.2.1 (e ∙ d))

pub returns : goal.returns
returns c =
    let s = c.args.lists.bytes.now in
    let x = list_of c.args.lists.area s c.args.k in
    let y = list_of c.args.lists.area s (c.args.k + 1) in
    c.unwrap_or.ensures ∙ first_other x y c.length-m.result c.length-m.ensures c.find.result
    (first_from_Range _ _ _ _ (Other x y) (Same x y) c.find.ensures.ran (λ i q k. search (rules, tests))
    (λ i q k. search (rules, tests)))
