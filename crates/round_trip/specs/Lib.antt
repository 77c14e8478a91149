-- Reading and writing undo each other: `Theorems` has the statements, `Laws` what they rest on.
pub mod Theorems
pub mod Laws
