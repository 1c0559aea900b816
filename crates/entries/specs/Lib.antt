-- The entries of a call: its split lists, in order and labelled.
pub mod Listed
pub mod Split
pub mod Facets
pub mod Parts
pub mod Answer
pub mod Emitted
pub mod Calls
