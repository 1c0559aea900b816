-- The steps of the loops over the vertices of a set, its vertices, and what a refit answers.
pub mod Steps
pub mod Vertices
pub mod Refitting
pub mod Sums
