-- The subset rule for lists of any length, and its use on the cells of a last ring.
pub mod Sets
pub mod Rule
pub mod Marked
pub mod Table
pub mod Examples
