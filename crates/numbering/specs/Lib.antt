pub mod Numbering
pub mod RidgesMatch
pub mod NumberMarks
