-- The words of a figure.
pub mod Laws
