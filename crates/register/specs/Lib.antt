-- What the register's contracts cite, each definition beside the term of document 01 that it is.
pub mod Licences
pub mod Rules
pub mod Sums
pub mod Promises
pub mod Grounds
pub mod Examples
