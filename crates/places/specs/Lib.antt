-- Document 01, "The footprint": an area's cells by place.
pub mod Places
pub mod Rows
