-- What the front of a task is; `Laws` has what is proved about it.
pub mod Front
pub mod Layout
pub mod Laws
