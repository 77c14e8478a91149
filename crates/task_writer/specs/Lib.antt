-- What the contracts of this crate mean; `Laws` has what is proved about them.
pub mod Puts
pub mod Written
pub mod Laws
