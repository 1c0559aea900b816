-- The plain entries of a job: the numbers of what its call leaves, and what is written of them.
pub mod Numbers
pub mod Written
pub mod Room
