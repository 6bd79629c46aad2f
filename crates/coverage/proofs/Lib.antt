-- Laws of coverage and blocks, for the proofs of the functions and for the crates that use them.
pub mod CoverLaws
pub mod BlockLaws
pub mod LookLaws
pub mod HoldingLaws
pub mod SameLaws
pub mod FullWidth
pub mod Examples
