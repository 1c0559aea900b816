-- `plain::write_plain` meets its contract: the rest of the workspace is lent, and the numbers are written from where
-- `filter_irc` puts them. Assumes nothing.
use Rattle.words.specs.Wrote.{writes_as}
use Rattle.plain.specs.Numbers.{filter_asked, numbers_asked, words_are}
use Rattle.plain.proofs.write_plain.Goals as goal

pub filter_irc-many-requires : goal.filter_irc-many-requires
filter_irc-many-requires c = rw c.area.ensures (filter_asked c.requires.4)

pub write_numbers-requires : goal.write_numbers-requires
write_numbers-requires c =
    let g = c.filter_irc-many in
    numbers_asked c.requires.4 g.result g.new.ws (rw c.area.ensures at g.ensures.many)
    (rw c.area.ensures at g.ensures.numbers)

pub returns : goal.returns
returns c =
    let g = c.filter_irc-many in
    λ more n rest rows kept l. writes_as c.write_numbers.ensures (words_are l g.result g.new.ws
    (rw c.area.ensures at g.ensures.many) (rw c.area.ensures at g.ensures.numbers) rest)
