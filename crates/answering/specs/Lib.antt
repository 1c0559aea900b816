-- What is written of a job's call, and what comes of it.
pub mod Closed
pub mod Codes
pub mod Answered
pub mod Room
