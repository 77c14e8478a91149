-- What the theorems rest on, from numbers and lists to whole texts.
pub mod Numbers
pub mod Pieces
pub mod Sets
pub mod Values
pub mod Fields
pub mod Built
pub mod Lines
pub mod Reading
pub mod Longest
