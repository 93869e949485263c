-- The words of requests: the machine that goes over the bytes of a connection, the standard's relation, and the laws that join the two.
pub mod Machine
pub mod Bounds
pub mod Calls
pub mod Standard
pub mod Laws
