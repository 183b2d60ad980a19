pub mod KeptChecks
pub mod LinearTerms
