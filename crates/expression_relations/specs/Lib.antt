-- The meanings of messages, and their spellings.
pub mod Reading
pub mod Spelled
pub mod Depths
pub mod Known
