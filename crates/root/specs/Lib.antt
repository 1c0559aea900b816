-- What the square root's contracts cite, the laws that its proofs cite, and the theorem that the square root [3.2] is
-- IEEE 754's.
pub mod Scaled
pub mod Powers
pub mod Start
pub mod Newton
pub mod Cell
pub mod Pattern
pub mod Doubles
pub mod RootLaw
pub mod Special
pub mod Ieee
pub mod Below
