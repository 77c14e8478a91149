-- What is proved about the lines of the rows that are noted.
pub mod Selection
pub mod Lines
pub mod Listed
pub mod Pass
pub mod Plans
pub mod Entries
