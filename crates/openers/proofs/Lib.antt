-- The laws that the proofs of this crate share.
pub mod Laws
pub mod PairWalk
