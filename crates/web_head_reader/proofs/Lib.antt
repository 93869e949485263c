pub mod Ends
pub mod Machine
pub mod Comes
pub mod Read
pub mod Searches
