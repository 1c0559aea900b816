-- Where a job's fields stand, what the structs and the enum of the code mean, and what follows at once.
pub mod Places
pub mod Meaning
