-- The words of HTTP/1.1 heads and chunk lines: as functions of their bytes, in the standard's words, and the laws that join the two.
pub mod Lines
pub mod Texts
pub mod Trees
pub mod Fields
pub mod Requests
pub mod Responses
pub mod ChunkLines
pub mod HeadEnds
pub mod Standard
pub mod Laws
