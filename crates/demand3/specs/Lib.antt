-- Document 01, "The list of demand 3": its calls, its ledger, runs of calls through an interface, and what is claimed of them.
pub mod Calls
pub mod Ledger
pub mod Interface
pub mod Right
pub mod Contract
pub mod Lent
pub mod FullWidth
