-- Hyperplane orbits by numbers of sets, and the workspace that holds them.
pub mod Numbers
pub mod Hyperplanes
pub mod Workspace
pub mod Walks
pub mod Answers
