-- That the worked examples hold.
pub mod Held
