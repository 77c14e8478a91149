-- What is proved about the reader's meanings.
pub mod Cut
pub mod Line
