-- Names in plans: how identifiers are spelled, when two names match, which column an attribute names, and the errors of analysis.
pub mod Checks
pub mod Identifiers
pub mod Laws
pub mod Matching
pub mod Refusals
pub mod Scopes
