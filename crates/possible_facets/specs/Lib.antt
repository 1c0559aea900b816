-- The facets of a call by their numbers, and the words of the possible facets.
pub mod Facets
pub mod Possible
