-- What is proved about the report calls.
pub mod Bytes
pub mod Text
pub mod Listed
pub mod Promise
