-- The laws that the proofs of this crate share.
pub mod Tables
pub mod TableLayouts
pub mod Laid
pub mod Codes
