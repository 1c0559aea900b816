-- What the proofs of the functions cite.
pub mod Ordering
pub mod Sorted
pub mod Entries
