-- What is proved about the loop over a list's parts.
pub mod Parts
