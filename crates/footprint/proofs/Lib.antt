pub mod HandCounts
pub mod ShareLaws
pub mod SameLaws
pub mod OutlineLaws
pub mod CaseLaws
pub mod TurnLaws
pub mod WayLaws
