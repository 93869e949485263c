-- The words of gRPC-Web frames and trailers: as functions of their bytes, in the protocol's words, and the laws that join the two.
pub mod Lines
pub mod Trailers
pub mod Format
pub mod Machine
pub mod Parts
pub mod Standard
pub mod Laws
