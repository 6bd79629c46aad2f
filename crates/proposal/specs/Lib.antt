-- Document 01, "The proposal": what the contract of `propose` and the theorems cite, and (Code) what the inner functions come to.
pub mod Choices
pub mod Best
pub mod Answer
pub mod Promises
pub mod Demand
pub mod Terms
pub mod PeopleOnly
pub mod FullWidth
pub mod Code
