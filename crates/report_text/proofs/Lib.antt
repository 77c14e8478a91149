-- What is proved about the text of a front apart from what its laws in specs/ say.
pub mod Words
pub mod Injective
