-- The images of facets in order.
pub mod Images
pub mod Chosen
pub mod Arranged
