pub mod Boxes
pub mod Rows
