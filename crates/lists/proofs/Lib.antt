-- Laws of sums, tests, filters and rewriting over lists, which the other crates cite.
pub mod Tests
pub mod SumLaws
pub mod BelowLaws
pub mod FilterLaws
pub mod InPlace
pub mod ArrayLoops
