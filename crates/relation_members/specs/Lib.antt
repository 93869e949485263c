-- The members of a relation, and their spellings.
pub mod Members
pub mod Inputs
pub mod Spelled
pub mod Depths
pub mod Known
pub mod Copies
