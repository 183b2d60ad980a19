-- Matrices: agreement with checksums. Checks: what they ask. Users: the checks that a caller hands in. Fitting: when a check can be made. Altered: one altered word.
pub mod Matrices
pub mod Checks
pub mod Users
pub mod Fitting
pub mod Altered
