-- Images of edge sets, their order, and that it is the order which an answer of rank 4 is written from.
pub mod Images
pub mod Merging
pub mod Runs
pub mod Orders
pub mod Drawn
pub mod Marked
pub mod Behind
pub mod Arranges
