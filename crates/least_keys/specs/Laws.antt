-- What is proved about the search in the columns of the rows.
pub mod Turn
