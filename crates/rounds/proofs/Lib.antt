-- The rounds and the footprint: laws and theorems.
pub mod Rounds
pub mod Same
pub mod Theorems
pub mod LimitLaws
pub mod RoundLaws
pub mod MakeLaws
