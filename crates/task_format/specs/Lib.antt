-- What the hall file means, each file a page; `Laws` has what is proved about these meanings.
pub mod Limits
pub mod Text
pub mod Value
pub mod Deciders
pub mod Lines
pub mod Fields
pub mod Parse
pub mod Render
pub mod Laws
