-- What only the proofs of the search's own loops speak of.
pub mod Turn
