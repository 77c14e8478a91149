-- What the words and columns of a slice of rows are, and what it holds when it is cleared; `Laws` has what is proved about them.
pub mod Columns
pub mod Cleared
pub mod Words
pub mod Linked
pub mod Laws
