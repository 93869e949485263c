-- The words of bodies: the machine that goes over the bytes, the standard's relation, and the laws that join the two.
pub mod Body
pub mod Steps
pub mod Calls
pub mod Standard
pub mod Laws
