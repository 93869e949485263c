-- The words of messages: fields, the profile's tables, faults, readings and spellings.
pub mod Fields
pub mod Views
pub mod Kinds
pub mod Faults
pub mod Readings
pub mod Texts
pub mod Laws
pub mod Spelling
pub mod Sizes
