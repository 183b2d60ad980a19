pub mod Voting
pub mod Table
pub mod Checking
pub mod Judges
pub mod Correcting
