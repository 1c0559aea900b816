-- Theorems on the definitions of specs/.
pub mod Loops
pub mod Ways
pub mod Starts
