-- What the search for least keys asks and leaves; `Inner` has what its loops keep, `Laws` what is proved.
pub mod Searched
pub mod Inner
pub mod Laws
