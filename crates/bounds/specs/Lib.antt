-- No root is refused inside a job: the numbers that a call handles stay finite and bounded at every depth, so that
-- every norm that it asks for has a value.
pub mod Sizes
pub mod Roots
pub mod Norms
pub mod Fits
pub mod Calls
pub mod Jobs
pub mod AnyNorm
pub mod Covered
pub mod Indifferent
pub mod Examples
