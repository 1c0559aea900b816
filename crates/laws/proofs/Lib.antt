-- Theorems on the definitions of specs/.
pub mod Ascending
pub mod Rounding
pub mod Sums
pub mod Differences
pub mod LowerBounds
pub mod Ranges
