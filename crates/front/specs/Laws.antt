-- What is proved about the front call.
pub mod Stages
pub mod Asked
pub mod Listed
pub mod Promise
