-- Facts for the walk over a plan.
pub mod Agreement
pub mod Answered
pub mod Distinct
pub mod Induction
pub mod Kept
pub mod LocalRows
pub mod Numbering
pub mod Paths
pub mod SoundPlans
pub mod Walked
