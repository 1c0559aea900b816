-- Pools in areas of the workspace, ridge orbits by marks, shares as codes, the tables of the search.
pub mod Codes
pub mod SharesLaid
pub mod Facets
pub mod Small
pub mod Below
pub mod Shared
pub mod TableLayouts
pub mod Fits
