-- Laws of the register, for the proofs of its functions and for the crates that use it.
pub mod Laws
pub mod Sums
pub mod StepLaws
pub mod StruckLaws
pub mod Reuse
pub mod GroundLaws
