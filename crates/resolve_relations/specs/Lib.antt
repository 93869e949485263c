-- Relations with their columns: a rule for each kind, from its inputs' answers to its own.
pub mod Columns
pub mod Keeping
pub mod Making
