pub mod ModularSums
pub mod AlteredProducts
pub mod AlteredSums
pub mod HeldMatrices
pub mod Countable
pub mod United
