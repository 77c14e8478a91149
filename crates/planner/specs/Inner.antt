-- How the columns of the rows are read and filled: what only this crate's proofs need.
pub mod Columns
pub mod Weights
pub mod Searches
pub mod First
pub mod Goal
pub mod Response
pub mod Answer
pub mod Key
