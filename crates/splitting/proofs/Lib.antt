-- What the proofs of the functions cite.
pub mod Splitting
pub mod Lists
