-- The words of counts, lists of facets and compounds.
pub mod Counts
