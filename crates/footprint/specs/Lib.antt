-- Document 01, "The footprint": what the contract of `footprint` cites, the twelve holdings, and a table of refusals.
pub mod Footprint
pub mod Promises
pub mod Holdings
pub mod Refusals
pub mod Code
