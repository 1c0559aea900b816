-- Splitting [8.6] ended: no entry of an answered call names a facet that is a compound of its orbit's inner answer,
-- at every rank from 3, and so splitting an entry's list once more, with any number of steps, leaves it as it is.
-- Leans on SplitCalls.
use Rattle.std.specs.Prelude.{ℕ}
use Rattle.std.specs.Prelude.{Option}
use mathlib.Core.List.{List, []}
use Rattle.definitions.specs.Figures.{Compound, components_of}
use Rattle.definitions.specs.Search.{Facet}
use Rattle.definitions.specs.Recursion.{Inner}
use Rattle.definitions.specs.Faceting.{Prepared, at_orbit}

-- the compounds among an orbit's possible facets: those of its inner answer
abbrev pub compounds_of : Inner → List Compound
compounds_of i = i.answer.compounds

-- the components of a facet, if it is compound
unfoldable pub components_in : Prepared → Facet → Option (ℕ × ℕ)
components_in p f = components_of (at_orbit compounds_of p.inner f.0) f.1
