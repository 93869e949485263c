-- Tables under folded names, what a change makes of them, and what a commit answers.
pub mod Applied
pub mod Commits
pub mod Keepers
pub mod Laws
pub mod Names
pub mod Rule
pub mod Standing
