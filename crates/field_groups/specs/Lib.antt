-- What is read of fields among fields of other numbers.
pub mod Groups
pub mod Laws
