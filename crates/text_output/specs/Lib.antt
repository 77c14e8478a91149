-- What it means to put bytes into a slice; `Laws` has what is proved about it.
pub mod Puts
pub mod Filling
pub mod Laws
