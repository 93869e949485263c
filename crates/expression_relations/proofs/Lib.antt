mod Groups
pub mod Back
pub mod Agree
pub mod Valid
