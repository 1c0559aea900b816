-- What an entry of rank 4 costs, from what its call leaves.
pub mod Sizes
pub mod Priced
