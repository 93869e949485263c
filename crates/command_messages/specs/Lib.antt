-- The meanings of commands, and their spellings.
pub mod Commands
pub mod Spelled
pub mod Depths
pub mod Known
