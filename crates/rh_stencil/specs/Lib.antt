pub mod Flux
pub mod Biased
pub mod Steps
pub mod Grids
pub mod Conserved
pub mod Laws
