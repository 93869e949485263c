-- Expressions with their types over the columns that they see, their names, and the columns that they make.
pub mod Grouping
pub mod Items
pub mod Laws
pub mod Named
pub mod Outputs
pub mod Same
pub mod Stars
pub mod Titles
pub mod Typings
