-- The one answer of a plan's resolution.
pub mod Local
pub mod Saving
pub mod Members
pub mod Walk
pub mod Drawing
pub mod Given
pub mod Resolving
pub mod Safety
