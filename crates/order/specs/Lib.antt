-- Lists of numbers in a pool, how they compare, and their order.
pub mod Areas
pub mod Comparing
pub mod Numbers
pub mod Sorted
pub mod Items
