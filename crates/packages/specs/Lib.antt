-- Packages in bytes: the tests by which they pass, and what is loaded of them.
pub mod Once
pub mod Loaded
pub mod Passed
