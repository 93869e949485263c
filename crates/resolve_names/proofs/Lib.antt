pub mod Characters
pub mod Folding
pub mod OnlyOne
pub mod Outcomes
pub mod Reading
pub mod Sound
pub mod Walking
