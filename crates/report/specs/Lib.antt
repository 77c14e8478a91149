-- What the report calls promise; `Inner` has how the text is counted and put, `Laws` what is proved.
pub mod ReportCall
pub mod Asked
pub mod Inner
pub mod Laws
