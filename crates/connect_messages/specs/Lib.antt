-- The meanings of requests, and their spellings.
pub mod Requests
pub mod Spelled
pub mod Depths
pub mod Known
pub mod Laws
