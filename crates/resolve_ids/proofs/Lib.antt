-- Facts for the laws.
pub mod Dropping
pub mod Expressions
pub mod Joining
pub mod Keeping
pub mod Limits
pub mod Making
pub mod Pairs
pub mod PassedOn
pub mod Places
pub mod Searches
pub mod SetOperations
pub mod Steps
pub mod TogetherRules
