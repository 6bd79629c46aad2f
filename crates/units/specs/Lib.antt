pub mod Sums
pub mod Coordinates
