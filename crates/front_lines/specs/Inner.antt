-- How the lines are chosen and written: what only this crate's proofs need.
pub mod Plans
pub mod Selection
