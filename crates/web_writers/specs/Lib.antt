-- The bytes that gRPC-Web peers write, and that they are read back.
pub mod Requests
pub mod Responses
pub mod Laws
