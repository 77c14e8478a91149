-- What the contracts of this crate mean; `Laws` has what is proved about these meanings.
pub mod Links
pub mod Plans
pub mod Found
pub mod Inner
pub mod Laws
