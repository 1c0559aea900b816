-- A job with a package that passes its tests: what its call is asked, and what is written of it.
pub mod Passed
pub mod Room
