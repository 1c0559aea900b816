-- The laws that the proofs of this crate share.
pub mod Codes
pub mod Parts
pub mod Sizes
