-- Lists of any length in one region.
pub mod Pool
pub mod Holds
pub mod Examples
