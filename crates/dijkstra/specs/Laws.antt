-- What is proved about a search under way, and about the order in which it settles rows.
pub mod Settling
pub mod Order
pub mod Hops
