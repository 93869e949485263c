pub mod GroupLemmas
pub mod Fronts
pub mod Spelled
pub mod RecordLists
pub mod Whole
pub mod VarintLaws
pub mod Places
pub mod Written
