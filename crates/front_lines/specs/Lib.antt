-- The lines of the Pareto front among the rows of the searches; `Inner` has how they are chosen, `Laws` what is proved.
pub mod Lines
pub mod Inner
pub mod Laws
