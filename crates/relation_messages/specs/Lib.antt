-- The meanings of relations, and their spellings.
pub mod Relations
pub mod Spelled
pub mod Depths
pub mod Known
pub mod Laws
