-- What a search keeps that settles the open row of least key next; `Laws` has what is proved about it.
pub mod Settling
pub mod Hops
pub mod Laws
