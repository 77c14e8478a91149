-- What every public call promises: its questions in their order, what it returns, and what it leaves in what is lent. `Laws` has what is proved.
pub mod Lent
pub mod Asked
pub mod Deciders
pub mod Record
pub mod Size
pub mod Memory
pub mod Workspace
pub mod Call
pub mod Laws
