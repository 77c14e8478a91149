-- What is proved about the front.
pub mod Unique
pub mod Layout
