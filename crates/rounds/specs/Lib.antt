-- Document 01, "The footprint": rounds, last ring and footprint of a partial area by place.
pub mod Footprint
pub mod Promises
pub mod Code
pub mod Demand
pub mod Examples
