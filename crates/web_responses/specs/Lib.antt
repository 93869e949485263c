-- The words of answers: a response as a machine over the bytes of its connection, in the standard's words, and the laws that join the two.
pub mod Openings
pub mod Answers
pub mod Calls
pub mod Standard
pub mod Laws
