-- The meanings of messages, and their spellings.
pub mod Messages
pub mod Types
pub mod Expressions
pub mod Spelled
pub mod Depths
pub mod Known
pub mod Laws
