-- What a call keeps and leaves in the workspace.
pub mod Keeps
pub mod Leaves
pub mod Front
pub mod Areas
pub mod Capacities
