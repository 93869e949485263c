-- Lemmas on groups of fields, on which the readings back of all messages stand.
pub mod Sequences
pub mod Among
pub mod Members
pub mod Groups
pub mod Rests
pub mod Scalars
