-- The engine's functions keep the laws of an interface, so demand 3 holds of them; laws of a list that is played, and that what `play`
-- ensures pins it.
pub mod Engine
pub mod ByReads
pub mod CallLaws
pub mod PlayLaws
pub mod ToldLaws
