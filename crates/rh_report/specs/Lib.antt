-- Tables: what is told of nodes and promises. Gathering: the same by the events of a journal. FaultFree: a law. The others: the text, line by line.
pub mod Tables
pub mod TrialLists
pub mod Gathering
pub mod Naming
pub mod NodeLines
pub mod PromiseLines
pub mod Totals
pub mod Reports
pub mod FaultFree
