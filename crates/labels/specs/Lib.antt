-- The label of an entry, and its bytes; lists in order by their first items; how far a walk comes.
pub mod Labels
pub mod Begins
pub mod Walked
