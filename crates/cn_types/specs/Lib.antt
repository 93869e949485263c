-- What values, rows and schemas are, how they compare, and what they are printed as.
pub mod Dates
pub mod Fit
pub mod Json
pub mod JsonLaws
pub mod Order
pub mod OrderLaws
pub mod Printed
pub mod PrintedLaws
pub mod Spelled
pub mod Weight
