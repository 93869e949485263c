pub mod Bytes
pub mod ReadBack
pub mod Refusals
pub mod Begun
pub mod FaultLists
