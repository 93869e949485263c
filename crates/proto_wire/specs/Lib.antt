-- The words of the wire format: varints, records, faults, what the writers append, and the laws above them.
pub mod Varint
pub mod Records
pub mod Faults
pub mod Reading
pub mod Laws
