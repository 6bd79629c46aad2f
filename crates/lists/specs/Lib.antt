pub mod Sums
pub mod Filters
