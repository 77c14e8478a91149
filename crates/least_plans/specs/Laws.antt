-- What is proved about links, ranks and the pass.
pub mod Order
pub mod Links
pub mod Along
pub mod Least
pub mod Ranks
pub mod Unlinked
pub mod Pass
pub mod Stores
pub mod Turn
pub mod Underway
pub mod Tail
pub mod Example
