-- What the checker says is so.
pub mod Tests
pub mod Sound
pub mod Examples
