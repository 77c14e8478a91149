-- Transitions, weights and keys; `Laws` has what is proved about them.
pub mod Transitions
pub mod Laws
