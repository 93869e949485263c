-- What a reader of Arrow streams takes from the bytes, its first fault, and its laws.
pub mod Tables
pub mod Columns
pub mod Reading
pub mod Laws
pub mod Faults
pub mod ColumnFaults
pub mod MessageFaults
pub mod Room
pub mod BadTables
