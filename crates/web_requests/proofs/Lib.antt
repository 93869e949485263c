pub mod Course
pub mod Growing
pub mod Parts
pub mod Pieces
pub mod Heads
pub mod Read
