-- What the proofs of this crate cite.
mod Halving
mod Inserting
mod Merging
