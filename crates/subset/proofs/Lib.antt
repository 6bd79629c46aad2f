-- Laws of set numbers and of the subset rule, for lists of any length, and of the table that finds its set.
pub mod SetLaws
pub mod RuleLaws
pub mod ReachLaws
pub mod EntryLaws
pub mod FillLaws
pub mod StrikeLaws
pub mod MarkedLaws
pub mod JoinLaws
