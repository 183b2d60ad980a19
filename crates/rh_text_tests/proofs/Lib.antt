-- Worked examples of definitions.
pub mod Examples
