-- How entries are stored; `Laws` has what is proved about it.
pub mod Entries
pub mod Laws
