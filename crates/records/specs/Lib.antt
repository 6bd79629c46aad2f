-- Document 02, Paper 2: what a record keeps, and what the calls with a record do to it.
pub mod Record
pub mod Promises
pub mod Afresh
pub mod Examples
pub mod Code
