-- The words of contents: a body whose payload is frames, as a machine over its bytes, in the standard's words, and the laws that join the two.
pub mod Faults
pub mod Contents
pub mod Calls
pub mod Standard
pub mod Laws
