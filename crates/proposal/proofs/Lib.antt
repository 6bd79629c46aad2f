-- Document 01, "The proposal": the theorems, what joins the search to the definitions, and the laws of the loops.
pub mod ChoiceLaws
pub mod RankLaws
pub mod BestLaws
pub mod GatherLaws
pub mod SettleLaws
pub mod Theorems
pub mod AnswerLaws
pub mod MapLaws
pub mod EmptyLaws
pub mod Terms
pub mod PeopleOnly
pub mod FullWidth
