-- What the contracts of the C interface cite: the answers of the crates below in plain numbers.
pub mod Flat
pub mod Promises
