-- What the proofs of this crate share.
mod Laws
pub mod Wholes
