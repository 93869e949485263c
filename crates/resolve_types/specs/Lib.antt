-- Literals and casts with their types, and that typed expressions are well formed.
pub mod Calls
pub mod Laws
pub mod Leaves
