-- What is proved about the answers.
pub mod Refused
pub mod TextCall
pub mod Printed
