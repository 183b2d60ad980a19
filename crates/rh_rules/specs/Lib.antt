pub mod Kept
pub mod Tables
pub mod Facets
pub mod Limits
pub mod Bodies
pub mod Above
pub mod Rules
pub mod Lawful
