-- A job that is loaded and called: what its call says, and what can be written of it.
pub mod Spent
pub mod Writable
pub mod CallMatches
pub mod Loaded
