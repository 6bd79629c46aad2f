-- What stands in the bytes of a file of cases.
pub mod Cases
