-- `writing::write_entry_lists` meets its contract. Assumes nothing.
use mathlib.Core.Path.{◌≡◌, ap}
use mathlib.Core.List.{List}
use Prim.Native.Nat.{ℕ}
use native.Mathlib.Omega.{arith}
use lib.ListN.{length}
use Rattle.words.specs.Words.{words, words_length}
use Rattle.words.specs.Wrote.{writes_then, writes_as}
use Rattle.writing.specs.EdgesHeld.{owners_in}
use Rattle.writing.specs.Asked.{split_inside, emitted_inside, both_written}
use Rattle.writing.proofs.write_entry_lists.Goals as goal

-- the facets are as many as the level has
facets_left : (bytes owners : List ℕ) (facets many : ℕ) → words 2 bytes facets ≡ words 2 owners many → facets ≡ many
facets_left bytes owners facets many e =
    omega (arith, ap length e, words_length 2 bytes facets, words_length 2 owners many)

pub write_list-requires : goal.write_list-requires
write_list-requires c =
    let left = c.args.left in
    let h = left.standing in
    let pool = split_inside h c.args.k _ c.requires.1 c.number-number.ensures in
    let facets = facets_left _ _ _ _ c.requires.0 in
    simp (c.split-split.ensures.0, c.split-split.ensures.1, facets) (pool.0, pool.1)

pub write_list-requires-2 : goal.write_list-requires-2
write_list-requires-2 c =
    let left = c.args.left in
    let h = left.standing in
    let pool = emitted_inside h c.args.k _ c.requires.1 c.number-number.ensures in
    let facets = facets_left _ _ _ _ c.requires.0 in
    simp (c.emitted-emitted.ensures.0, c.emitted-emitted.ensures.1, facets) (pool.0, pool.1)

pub returns : goal.returns
returns c = let left = c.args.left in
    let first = simp (c.requires.0, c.split-split.ensures.0, c.split-split.ensures.1) at c.write_list.ensures in
    let second =
    simp (c.requires.0, c.emitted-emitted.ensures.0, c.emitted-emitted.ensures.1) at c.write_list-2.ensures in
    writes_as (writes_then first second) (both_written left.standing
    (owners_in left.level left.ws.now) c.args.k _ c.requires.1 c.number-number.ensures)
