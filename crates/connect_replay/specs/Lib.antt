-- What `replay` reads, plays and prints.
pub mod Ask
pub mod Range
pub mod Section
pub mod Outcome
pub mod Exit
pub mod Message
