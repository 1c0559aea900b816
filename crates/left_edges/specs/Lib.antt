pub mod Marked
pub mod Polygons
pub mod Reading
