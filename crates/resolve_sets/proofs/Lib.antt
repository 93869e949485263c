-- Facts for set operations.
pub mod Flags
pub mod NumberedChecks
pub mod Told
pub mod Whole
pub mod OfKind
