pub mod OrderLaws
pub mod SignedLaws
pub mod RowLaws
pub mod BoxLaws
