-- What is proved about storing entries.
pub mod Entries
