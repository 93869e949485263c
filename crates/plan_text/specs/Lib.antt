pub mod Drafts
pub mod Heights
pub mod Names
pub mod Piles
pub mod Pipelines
pub mod Writable
