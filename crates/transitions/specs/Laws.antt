-- What is proved about transitions, weights and keys.
pub mod Transitions
pub mod Keys
pub mod Example
pub mod Order
