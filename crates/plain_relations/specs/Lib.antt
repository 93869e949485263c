-- The meanings of messages, and their spellings.
pub mod Maps
pub mod Rising
pub mod RenameMaps
pub mod Plain
pub mod Spelled
pub mod Bits
pub mod Laws
pub mod Depths
pub mod Firsts
