-- What the reader's contracts mean; `Laws` has what is proved about them.
pub mod Cut
pub mod Line
pub mod Reading
pub mod Laws
