-- What is proved about the replay of plans.
pub mod Steps
pub mod Running
pub mod Replay
pub mod Returned
