-- What is proved about the file's meaning, and what edits of the definitions refute.
pub mod Places
pub mod Form
pub mod Fault
