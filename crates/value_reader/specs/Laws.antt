-- What is proved about reading a value.
pub mod Numbers
pub mod Members
pub mod Answered
