pub mod Checksums
pub mod Correction
pub mod Laws
pub mod Layout
pub mod Matrix
pub mod Product
pub mod Sums
