-- What the proofs of the functions cite.
pub mod Numbers
pub mod Sharing
