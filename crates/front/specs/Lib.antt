-- What the front call promises; `Inner` has the stages before it, `Laws` what is proved.
pub mod FrontCall
pub mod Asked
pub mod Inner
pub mod Laws
