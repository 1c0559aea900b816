pub mod Areas
pub mod Laying
pub mod Ends
pub mod Shares
