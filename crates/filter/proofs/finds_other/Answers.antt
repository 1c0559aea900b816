-- `filter::finds_other` meets its contract: a list found in list a decides (`is_found_holds`), another is passed
-- (`not_found`), and one that begins above it ends the search (`stopped`), as the last does (`none_found`).
use mathlib.Core.Path.{◌≡◌, refl, sym, ◌∙◌}
use mathlib.Core.Bool.{Bool, true, false}
use Prim.Native.Nat.{ℕ, ◌<◌}
use borrow.Author.Rules.{rules}
use Rattle.std.specs.Prelude.{Option, Some, None, MatchOption}
use mathlib.Core.List.{[]}
use native.Mathlib.Omega.{arith}
use lib.ListN.{get_or}
use Rattle.order.specs.Areas.{lists_of, lists_length}
use Rattle.labels.specs.Walked.{found_few}
use Rattle.filter.specs.Noted.{walked_none, walked_on, walked_alike, found_not, found_whole, note_at}
use Rattle.filter.specs.Found.{none_begun, itself, not_found, is_found_holds, none_found, stopped}
use Rattle.filter.proofs.finds_other.Goals as goal
use Rattle.filter.proofs.finds_other.Goals.{else-items-length-via-then-items-length+else-a-b}
use Rattle.filter.proofs.finds_other.Goals.{else-items-length-via-else-items-length}

pub loop-b-init : goal.loop-b-init
loop-b-init c =
    let area = c.args.lists.area in
    let s = c.args.lists.bytes.now in
    let n = lists_length area.most area.bytes area.count s in (
      omega (arith, c.requires.2.few),
      none_begun (lists_of area s) c.args.a c.args.start (omega arith) c.requires.2,
      walked_none (lists_of area s) c.args.a c.args.start,
    )

-- where a test of what is in an option succeeds, it has something
some : (o : Option ℕ) (r : Bool) (Q : ℕ → Type 0) → MatchOption o (r ≡ false) Q → r ≡ true
    → (x : ℕ) × (o ≡ Some x) × Q x
some None r Q m e = let z : ◌≡◌ {A = Bool} false true = sym m ∙ e in cc
some (Some x) r Q m e = (x, refl, m)

pub loop-b-preserved-then-is_some_and : goal.loop-b-preserved-then-is_some_and
loop-b-preserved-then-is_some_and c =
    let area = c.args.lists.area in
    let lists = lists_of area c.args.lists.bytes.now in
    let l = c.loop-b in
    let k = some l.found c.is_some_and.result _ c.is_some_and.ensures c.if-is_some_and.true in
    let q = k.2 in
    let alike = get_or c.args.notes.now l.b 0 in
    let less : k.0 < alike = search rules in
    let w = walked_alike lists c.args.a l.b k.0 (rw k.1 at l.invariant.2) alike less
    (λ h. note_at lists area.count c.args.notes.now c.requires.4 l.b h (omega arith)) in
    (omega arith, not_found lists c.args.a l.b l.invariant.1 w.0, rw k.1 w.1)

pub returns-then-starts_above : goal.returns-then-starts_above
returns-then-starts_above c =
    let area = c.args.lists.area in
    let s = c.args.lists.bytes.now in
    let n = lists_length area.most area.bytes area.count s in
    stopped (lists_of area s) c.args.a c.requires.0 c.loop-b.b (omega arith) c.loop-b.invariant.1
    (sym c.starts_above.ensures ∙ c.if-starts_above.true)

pub returns-then-a-b : goal.returns-then-a-b
returns-then-a-b c =
    let area = c.args.lists.area in
    let s = c.args.lists.bytes.now in
    let n = lists_length area.most area.bytes area.count s in
    let lists = lists_of area s in
    let a = c.args.a in
    let b = c.loop-b.b in
    is_found_holds lists a b (omega arith) c.if-a-b.true
    (found_whole (get_or lists a []) (get_or lists b []) (omega (
      arith,
      c.items_found-items.ensures,
      c.length.ensures,
      c.if-items-length.true,
    )) (sym c.starts_above.ensures ∙ c.if-starts_above.false))

pub loop-b-preserved : goal.loop-b-preserved
loop-b-preserved c =
    let inside = c.loop-b-test.true in
    let lists = lists_of c.args.lists.area c.args.lists.bytes.now in
    let a = c.args.a in
    let l = c.loop-b in
    let g = c.items_found-items in
    let on = walked_on lists a l.b g.result g.ensures in
    let few = found_few (get_or lists a []) (get_or lists l.b []) in
    elim c.else-items-length.branch [
      | else-items-length-via-then-items-length+else-a-b w ↦
          (omega arith, itself lists a l.b l.invariant.1 w.if-a-b.false, on)
      | else-items-length-via-else-items-length w ↦ (
        omega arith,
        not_found lists a l.b l.invariant.1 (found_not (get_or lists a []) (get_or lists l.b [])
            (omega (arith, g.ensures, c.length.ensures, w.if-items-length.false))),
        on,
      )
    ]

pub returns : goal.returns
returns c =
    let area = c.args.lists.area in
    let s = c.args.lists.bytes.now in
    let n = lists_length area.most area.bytes area.count s in
    none_found (lists_of area s) c.args.a c.loop-b.b c.loop-b.invariant.1 (omega (arith, c.loop-b.invariant.0))
