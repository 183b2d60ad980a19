pub mod Declarations
pub mod Making
