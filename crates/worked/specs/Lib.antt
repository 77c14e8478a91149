-- Document 01's worked examples as theorems about the meanings: a checker that computes on finite tables, that what it says is so, and the table of examples.
pub mod Check
pub mod Examples
pub mod Laws
