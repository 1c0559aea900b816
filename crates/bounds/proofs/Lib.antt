-- Theorems on the definitions of specs/.
pub mod Indifferent
pub mod Covered
pub mod Jobs
pub mod Calls
