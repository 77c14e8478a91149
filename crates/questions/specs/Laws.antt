-- What is proved about questions and promises.
pub mod Asked
pub mod Record
pub mod Replay
pub mod Size
pub mod Unique
pub mod Workspace
