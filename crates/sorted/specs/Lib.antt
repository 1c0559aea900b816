-- Sets of numbers as ascending lists.
pub mod Ascending
pub mod Gathering
pub mod Found
pub mod Merging
