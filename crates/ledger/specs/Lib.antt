-- Document 01, "The list of demand 3": the engine's functions as an interface, and lists of their calls that `play` plays.
pub mod Engine
pub mod Played
pub mod Told
pub mod Examples
pub mod Code
