pub mod PlanWritten
pub mod PlanBack
pub mod Joined
pub mod PlanAgree
pub mod PlanValid
