-- What is proved about the meanings.
pub mod Parse
pub mod Text
pub mod Lines
pub mod Digits
pub mod Decimal
pub mod Fields
pub mod Size
pub mod Value
