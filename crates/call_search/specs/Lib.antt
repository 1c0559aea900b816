pub mod PreparedCalls
pub mod Answers
pub mod Searched
