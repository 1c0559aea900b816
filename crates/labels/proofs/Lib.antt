-- What the proofs of the functions cite.
pub mod Walking
pub mod Labelling
