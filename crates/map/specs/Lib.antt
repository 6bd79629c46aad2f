pub mod Reading
pub mod Format
pub mod Cells
pub mod Counting
pub mod Answers
pub mod Accepted
pub mod Examples
