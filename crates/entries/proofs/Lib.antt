-- Theorems on the definitions of specs/.
pub mod Listed
pub mod Parts
pub mod Answer
pub mod Emitted
