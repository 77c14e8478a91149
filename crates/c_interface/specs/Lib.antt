-- What the exported calls leave behind; `Laws` has what is proved about it.
pub mod Told
pub mod Laws
