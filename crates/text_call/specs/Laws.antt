-- What is proved about calls on a text.
pub mod OnText
