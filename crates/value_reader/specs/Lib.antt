-- What the contracts of this crate mean; `Laws` has what is proved about them.
pub mod Answered
pub mod Members
pub mod Laws
