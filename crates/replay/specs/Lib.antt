-- What the replay of plans means; `Laws` has what is proved about it.
pub mod Replay
pub mod Run
pub mod Laws
