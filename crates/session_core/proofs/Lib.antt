pub mod AnswerLemmas
pub mod IdLemmas
pub mod IntegerLemmas
pub mod PlaceLemmas
pub mod PresetLemmas
pub mod SessionLemmas
pub mod UnsetLemmas
