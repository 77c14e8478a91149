-- What is proved about columns, words and cleared slices.
pub mod Columns
pub mod Cleared
pub mod Words
pub mod Linked
