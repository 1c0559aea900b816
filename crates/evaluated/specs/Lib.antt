-- Tables that are evaluated against the definitions, and that no edit of the definitions needs to be refused: they
-- are checked once, not once more for each of those edits.
pub mod Tolerances
pub mod Rows
pub mod Packages
pub mod NobleJobs
pub mod PlainEntries
pub mod Quotes
