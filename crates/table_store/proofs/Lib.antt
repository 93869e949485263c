pub mod Changing
pub mod NameFacts
pub mod Places
pub mod RuleFacts
pub mod StandingFacts
