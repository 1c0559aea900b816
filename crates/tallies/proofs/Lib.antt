-- The laws that the proofs of this crate share.
pub mod Columns
pub mod Laws
pub mod Moving
