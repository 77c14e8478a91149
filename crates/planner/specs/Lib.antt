-- What the answer call promises, and what the rows say after the searches of a task; `Inner` has how they are read and filled, `Laws` what is proved.
pub mod AnswerCall
pub mod Inner
pub mod Reading
pub mod Solved
pub mod Searches
pub mod Laws
