pub mod Counts
pub mod Lines
pub mod Numbers
pub mod Told
pub mod Walk
pub mod Written
pub mod Messages
