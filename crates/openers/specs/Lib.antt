-- How vertices and pairs are walked.
pub mod Meaning
