-- Theorems on the definitions that are evaluated, and what other theorems of this crate rest on.
pub mod RuledOut
pub mod Carried
