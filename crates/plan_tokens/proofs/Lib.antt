pub mod Boundaries
pub mod Days
pub mod QuotedFacts
pub mod Runs
pub mod TokenFacts
pub mod WordFacts
