-- The laws that the proofs of this crate share.
pub mod Laws
pub mod Extending
pub mod PairSteps
pub mod Answering
pub mod Reading
