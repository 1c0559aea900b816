-- The numbers of the refusals, and a result as an outcome.
pub mod Refused
