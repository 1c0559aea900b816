pub mod Labels
pub mod Facets
pub mod Whole
pub mod Totals
