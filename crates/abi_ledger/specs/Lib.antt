-- Document 01, "The list of demand 3", through the C interface: the exported functions as an interface of `demand3`.
pub mod Exported
