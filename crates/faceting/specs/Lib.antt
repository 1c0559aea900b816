-- The call: what it answers, and how far its inner calls have come.
pub mod Begins
pub mod Finishes
pub mod Ways
pub mod Starts
pub mod Loops
pub mod Asked
