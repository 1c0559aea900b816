-- `writing::write_entries` meets its contract: a turn writes the lists and the figure of one entry more
-- (`flat_more`). At the end k is the number of entries, and the count stands before them.
use mathlib.Core.Path.{sym, ap, ◌∙◌}
use mathlib.Core.List.{List, [], ◌∷◌, ◌++◌, flat_map}
use Prim.Native.Nat.{ℕ, ◌<◌}
use native.Mathlib.Omega.{arith}
use lib.ListN.{length, get_or, take}
use lib.Seq.{take_all}
use Rattle.definitions.specs.Job.{counted}
use Rattle.words.specs.Words.{words}
use Rattle.layout.specs.declared.Level.{Level}
use Rattle.layout.specs.Leaves.{both_left, both_length, first_of_both}
use Rattle.words.specs.Wrote.{writes_none, writes_then, writes_as}
use Rattle.writing.specs.EdgesHeld.{owners_in, both_words, figured}
use Rattle.figure_words.specs.Laws.{flat_more}
use Rattle.writing.proofs.write_entries.Goals as goal

pub loop-k-init : goal.loop-k-init
unfolding flat_map
loop-k-init g c = (omega arith, writes_none _)

pub write_entry_lists-requires : goal.write_entry_lists-requires
write_entry_lists-requires g c = (λ t. words 2 (c.owners-owners.ensures.0 t) (c.owners-owners.ensures.1 t), omega arith)

pub write_figure-requires : goal.write_figure-requires
write_figure-requires g c = omega (arith, ap (λ (l : Level). l.count) c.left-left.ensures.0)

pub loop-k-preserved : goal.loop-k-preserved
unfolding figured
loop-k-preserved g c =
    let at-loop = c.loop-k in
    let left = c.left-left in
    let level = g.T.EntryFigure.level c.args.figures.now in
    let ws = g.T.EntryFigure.ws c.args.figures.now in
    let figure = g.T.EntryFigure.figure c.args.figures.now in
    let owners = owners_in level ws in
    let lists = both_left level ws in
    let below : at-loop.k
    < level.count = omega (arith, ap (λ (l : Level). l.count) left.ensures.0, c.loop-k-test.true) in
    let here : at-loop.k < length lists = omega (arith, both_length level ws, below) in
    let standing = rw (left.ensures.0, left.ensures.1) at left.result.standing in
    let both = rw (left.ensures.0, left.ensures.1) at c.write_entry_lists.ensures in
    let same = ap (λ (l : List ℕ). flat_map (figured owners figure) (take at-loop.k lists)
    ++ (both_words owners (get_or lists at-loop.k ([], [])) ++ figure l))
    (sym (first_of_both level ws standing.area at-loop.k below)) in (
      omega arith,
      writes_as (writes_then at-loop.invariant.1 (writes_then both c.write_figure.ensures)) (same
          ∙ flat_more (figured owners figure) lists at-loop.k ([], []) here),
    )

pub returns : goal.returns
unfolding counted
returns g c =
    let at-loop = c.loop-k in
    let left = c.left-left in
    let level = g.T.EntryFigure.level c.args.figures.now in
    let ws = g.T.EntryFigure.ws c.args.figures.now in
    let entry = figured (owners_in level ws) (g.T.EntryFigure.figure c.args.figures.now) in
    let same = ap (λ (l : Level). l.count) left.ensures.0 in
    let many = both_length level ws in
    let all = take_all at-loop.k (both_left level ws) (omega (arith, same, many, c.loop-k-test.false)) in
    writes_as (writes_then c.push.ensures.writes at-loop.invariant.1)
    (λ t. (same ∙ sym many) t ∷ flat_map entry (all t))
