-- The facets of a call as the search reads them: orbits, amounts, shares of 1.
pub mod Kept
pub mod Frames
pub mod Sums
pub mod Layout
pub mod Judged
pub mod Numbers
