-- Plans: a plan's lists. Derived: what follows from them. Lawful: what holds of every plan.
-- Faulted, Buffers: an attempt. Checking, Judging, Attempts: how a task is judged by its attempts. Results: what a run gives.
-- Budgets: what a node depends on, and fault budgets. The others: laws, and what calls are given.
pub mod Plans
pub mod Faulted
pub mod Buffers
pub mod Checking
pub mod Correcting
pub mod Judging
pub mod Derived
pub mod Grouping
pub mod Attempts
pub mod Results
pub mod Lawful
pub mod Tables
pub mod Planned
pub mod Values
pub mod Asked
pub mod Users
pub mod Budgets
pub mod Altered
pub mod Followed
pub mod Tried
pub mod PlanTexts
pub mod FaultLines
pub mod FaultsOfPlans
pub mod FaultTables
pub mod NamedFaults
