-- What is proved about the call.
pub mod ResponseCall
