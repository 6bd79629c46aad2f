-- Document 01, "The footprint": neighbours, rings, and how they are marked in a mask.
pub mod Ring
pub mod Code
pub mod Examples
