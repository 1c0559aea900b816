-- `packages::load_package` meets its contract: global numbers and full rows are copied from where they stand. Assumes
-- nothing.
use mathlib.Core.Path.{◌∙◌}
use native.Mathlib.Omega.{arith}
use Rattle.packages.specs.Passed.{loaded_numbers, loaded_fits, loaded_is}
use Rattle.packages.proofs.load_package.Goals as goal

pub get-requires : goal.get-requires
get-requires c =
    let k = loaded_numbers c.args.n c.args.pack.now c.requires.0 c.requires.1 in
    omega (arith, k.long)

pub bounds-pack-2 : goal.bounds-pack-2
bounds-pack-2 c =
    let k = loaded_numbers c.args.n c.args.pack.now c.requires.0 c.requires.1 in
    omega (arith, k.long)

pub get-requires-2 : goal.get-requires-2
get-requires-2 c =
    let k = loaded_numbers c.args.n c.args.pack.now c.requires.0 c.requires.1 in
    omega (arith, k.long)

pub copy_rows-requires : goal.copy_rows-requires
copy_rows-requires c =
    let k = loaded_numbers c.args.n c.args.pack.now c.requires.0 c.requires.1 in
    (omega arith, omega (arith, k.long), omega (arith, c.requires.2))

pub copy_rows-requires-2 : goal.copy_rows-requires-2
copy_rows-requires-2 c =
    let k = loaded_numbers c.args.n c.args.pack.now c.requires.0 c.requires.1 in
    rw (c.from-size.ensures, c.from-rows.ensures, c.get.ensures)
    (omega (arith, k.size_most), omega (arith, k.long), omega (arith, k.rows_most, c.requires.3))

pub returns-clause-fits : goal.returns-clause-fits
returns-clause-fits c =
    let globals = c.copy_rows.ensures.rows in
    let full = rw (c.from-size.ensures, c.from-rows.ensures, c.get.ensures) at c.copy_rows-2.ensures.rows in
    loaded_fits c.args.n c.args.pack.now c.requires.0 c.requires.1 _ _ _ c.from-size.ensures
    (c.from-rows.ensures ∙ c.get.ensures) (c.from-count.ensures ∙ c.get-2.ensures) globals.0
    (globals.1 ∙ c.requires.2) full.0 (full.1 ∙ c.requires.3)

pub returns-clause-is : goal.returns-clause-is
returns-clause-is c =
    let globals = c.copy_rows.ensures.rows in
    let full = rw (c.from-size.ensures, c.from-rows.ensures, c.get.ensures) at c.copy_rows-2.ensures.rows in
    loaded_is c.args.n c.args.pack.now c.requires.0 c.requires.1 _ _ _ c.from-size.ensures
    (c.from-rows.ensures ∙ c.get.ensures) (c.from-count.ensures ∙ c.get-2.ensures) globals.0
    (globals.1 ∙ c.requires.2) full.0
