-- The meanings of messages, and their spellings.
pub mod Parts
pub mod Spelled
pub mod Depths
pub mod Bits
pub mod Laws
