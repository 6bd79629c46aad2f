-- Document 01, "Coverage and blocks": what the contracts of coverage and blocks cite.
pub mod Cover
pub mod Blocks
pub mod Answers
pub mod Holdings
pub mod Limits
pub mod FullWidth
pub mod Examples
