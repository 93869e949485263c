-- Set operations of two relations, with their columns.
pub mod Aligning
pub mod Flags
pub mod Laws
pub mod Sets
