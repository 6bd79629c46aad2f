-- Demand 3 holds of every interface that keeps its laws.
pub mod Outlines
pub mod Lawful
pub mod Steps
pub mod Lists
pub mod FullWidth
