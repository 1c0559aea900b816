-- What is written: an answer's words from what stands in the workspace.
pub mod EdgesHeld
pub mod Asked
pub mod Written
