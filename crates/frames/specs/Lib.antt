-- The path of a search: a frame for each depth.
pub mod Paths
pub mod PathFacts
pub mod Places
pub mod Steps
