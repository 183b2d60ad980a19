pub mod Attempting
pub mod Faulting
