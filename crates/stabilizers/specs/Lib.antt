-- Rows that are permutations, and the places of a set's vertices in it.
pub mod Permutations
pub mod Places
pub mod Inner
