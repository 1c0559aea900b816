-- Laws of the turns of this crate's loops.
mod Moving
mod Reading
mod Merges
mod Sorts
mod Fills
mod Marks
mod Whole
