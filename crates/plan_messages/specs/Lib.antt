-- The meanings of plans, and their spellings.
pub mod Plans
pub mod Spelled
pub mod Depths
pub mod Known
pub mod Laws
