-- Facts for the rules of relations.
pub mod KeptFacts
pub mod Numbered
pub mod TwinFacts
