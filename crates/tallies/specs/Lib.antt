-- Marks as numbers, the tallies that the code keeps, and that they are the definition's.
pub mod Marks
pub mod Counts
pub mod Agreement
pub mod Meaning
