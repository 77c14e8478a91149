-- How the front's lines are found: what only this crate's proofs need.
pub mod Stages
