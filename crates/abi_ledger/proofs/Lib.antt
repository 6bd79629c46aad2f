-- The exported functions keep the laws of an interface, so demand 3 holds of lists of their calls.
pub mod Exported
pub mod ByReads
