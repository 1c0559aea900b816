-- One job in two versions: what is read of it, and that its outcome is one.
pub mod Widened
pub mod Same
