-- What the text of a front is; `Laws` has what is proved about it.
pub mod Report
pub mod Content
pub mod Entries
pub mod Laws
