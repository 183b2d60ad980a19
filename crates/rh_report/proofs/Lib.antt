pub mod Lines
pub mod Looking
pub mod Gathered
pub mod AnyFailed
pub mod FaultFree
pub mod Pieces
