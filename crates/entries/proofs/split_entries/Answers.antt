-- `entries::split_entries` meets its contract: the pool is moved, the part from the table of components on is lent to
-- splitting, and the split lists are put in order. Assumes nothing.
use mathlib.Core.List.{List}
use mathlib.Core.Path.{◌≡◌, ◌∙◌}
use native.Mathlib.Omega.{arith}
use Prim.Native.Nat.{ℕ}
use Rattle.std.specs.List.{copy_within}
use Rattle.std.proofs.Math.Seq.{paste}
use Rattle.laws.specs.Merging.{moved}
use Rattle.std.specs.Prelude.{map, drop, ◌+◌}
use Rattle.std.proofs.Common.{sym, subst}
use Rattle.pool.specs.Pool.{closed_lists}
use Rattle.laws.specs.Segments.{part}
use Rattle.layout.specs.declared.Level.{Level}
use Rattle.layout.specs.Capacities.{split_bytes}
use Rattle.entries.specs.Listed.{Listed}
use Rattle.entries.specs.Split.{split_asked, sort_asked, split_left, split_on}
use Rattle.entries.proofs.split_entries.Goals as goal

-- what is moved up to an end, which is so many bytes behind its start
moved_as : (s : List ℕ) (from n to end : ℕ) {new : List ℕ} → end ≡ from + n → new ≡ copy_within s from end to
    → new ≡ paste s to (drop from s) n
moved_as s from n to end e new = rw e at new ∙ moved s from n to

pub split_lists-requires : goal.split_lists-requires
split_lists-requires c =
    split_asked c.args.layout c.args.from c.args.bytes c.args.ws.now c.requires c.copy_within.new.self
    (moved_as _ c.args.from c.args.bytes _ _ (omega arith) c.copy_within.ensures.after)

pub sort_entries-sorted-requires : goal.sort_entries-sorted-requires
sort_entries-sorted-requires c = let m = c.copy_within in let p = c.split_lists in
    sort_asked c.args.layout c.args.from c.args.bytes c.args.ws.now c.requires m.new.self
    (moved_as _ c.args.from c.args.bytes _ _ (omega arith) m.ensures.after) p.new.ws p.auto.ws p.ensures

pub returns : goal.returns
returns c = let m = c.copy_within in let p = c.split_lists in
    let r = c.sort_entries-sorted in
    let to = c.args.layout.owners + 2048 + c.args.bytes in
    subst
    (λ (x : Level).
    Listed c.args.layout (c.args.layout.owners + 2048) (c.args.layout.owners + 2048) c.args.bytes to split_bytes
    (closed_lists 2 1024 (part c.args.from c.args.bytes c.args.ws.now))
    (map (split_on c.args.layout c.args.ws.now) (closed_lists 2 1024 (part c.args.from c.args.bytes c.args.ws.now)))
    c.args.ws.now
    (record {
      layout = x.layout;
      emitted = c.args.layout.owners + 2048;
      extent = c.args.bytes;
      lists = x.lists;
      bytes = x.bytes;
      count = r.result.count;
    }) r.new.ws)
    (sym r.ensures.level_is)
    (split_left c.args.layout c.args.from c.args.bytes c.args.ws.now c.requires m.new.self
    (moved_as _ c.args.from c.args.bytes _ _ (omega arith) m.ensures.after) p.new.ws p.auto.ws p.ensures r.result
    r.new.ws r.ensures)
