-- A quote, from a job's bytes and what its call leaves.
pub mod Left
pub mod Quoted
