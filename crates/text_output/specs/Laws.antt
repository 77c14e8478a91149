-- What is proved about bytes that are put.
pub mod Puts
pub mod Digits
