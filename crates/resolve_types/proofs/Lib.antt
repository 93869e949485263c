pub mod TypeForms
pub mod WellFormed
