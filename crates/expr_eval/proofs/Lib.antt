pub mod CalendarDates
pub mod ConditionFacts
pub mod ListSteps
pub mod LiteralFacts
pub mod Numerals
pub mod Substrings
