-- What the search from the goal asks and leaves; `Inner` has what its loops keep, `Laws` what is proved.
pub mod Predecessors
pub mod Valued
pub mod Responses
pub mod Inner
pub mod Laws
