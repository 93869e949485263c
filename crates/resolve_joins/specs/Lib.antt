-- Joins of two relations, with their columns.
pub mod Joins
pub mod Keys
pub mod Laws
