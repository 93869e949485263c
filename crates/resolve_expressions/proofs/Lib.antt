-- Facts for the walk over expressions.
pub mod Arguments
pub mod ExprForms
pub mod Gathering
pub mod GroupFacts
pub mod GroupForms
pub mod Groups
pub mod SameFacts
pub mod SameForms
pub mod Standings
pub mod StarSteps
pub mod TitleSteps
pub mod TypedFacts
