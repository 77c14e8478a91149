-- What a call on a text promises; `Laws` has what is proved about it.
pub mod OnText
pub mod Laws
