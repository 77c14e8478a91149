-- What is proved about the writer's meanings.
pub mod Puts
pub mod Written
