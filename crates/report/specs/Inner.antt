-- How the text is counted and put: what only this crate's proofs need.
pub mod Bytes
pub mod Text
