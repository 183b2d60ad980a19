pub mod Replicas
pub mod Firsts
pub mod Tasks
pub mod Replaying
pub mod Checkings
pub mod Correctings
pub mod Restorings
pub mod Votes
