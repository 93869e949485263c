pub mod Encoded
pub mod KnownDrafts
pub mod Measured
pub mod TokenSizes
pub mod ValuesHeld
pub mod ValuesPhases
