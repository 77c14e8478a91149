-- What proofs of functions share.
pub mod Fits
