-- The words of heads whose bytes come in pieces: the machine that goes over the bytes, the standard's relation, and the laws that join the two.
pub mod Steps
pub mod Standard
pub mod Calls
pub mod Laws
