-- What is proved about the text of a front.
pub mod Numerals
pub mod Injective
pub mod Sizes
pub mod Entries
