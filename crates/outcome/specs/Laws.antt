-- What is proved about answers and refusals.
pub mod Answers
pub mod Refusal
