-- What is proved about the exported calls.
pub mod Told
