-- What the proofs of this crate cite.
pub mod Stretches
pub mod Possible
