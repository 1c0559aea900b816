-- What a call stores of an inner call's answer in its kept areas.
pub mod Storing
pub mod AreasHold
pub mod Adding
pub mod Cleared
pub mod Rooms
pub mod Short
pub mod OneOrTwo
