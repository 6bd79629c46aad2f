-- What the proofs of several functions use.
pub mod Branches
pub mod Choices
pub mod Entries
pub mod Ranks
pub mod Optimal
pub mod Select
pub mod Tables
pub mod Greedy
pub mod Inner
pub mod LimitLaws
