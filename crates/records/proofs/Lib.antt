-- Laws of records, for the proofs of their functions and for the crates above.
pub mod HeldLaws
pub mod FaultLaws
pub mod AfreshLaws
