-- Theorems on the definitions of specs/.
pub mod Frames
pub mod Numbers
