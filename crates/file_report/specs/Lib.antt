-- What the answer to a text is, and what is printed of it; `Laws` has what is proved about them.
pub mod TextCall
pub mod Printed
pub mod Laws
