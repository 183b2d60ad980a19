pub mod Following
pub mod States
pub mod Planned
pub mod Sound
pub mod Laws
