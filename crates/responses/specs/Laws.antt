-- What is proved about predecessors and about the search in the columns of the rows.
pub mod Predecessors
pub mod Goals
pub mod Turn
pub mod Least
