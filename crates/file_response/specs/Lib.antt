-- The best response in the task of a text; `Laws` has what is proved about it.
pub mod ResponseCall
pub mod Laws
