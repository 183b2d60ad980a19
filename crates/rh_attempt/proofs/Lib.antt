pub mod Attempts
pub mod Faults
pub mod Locals
pub mod Products
pub mod Puts
