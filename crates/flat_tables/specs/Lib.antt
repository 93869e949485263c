-- What a flatbuffer's bytes say, and how a table and a vector are seen.
pub mod Views
pub mod Reading
pub mod Fields
pub mod Layout
pub mod Building
pub mod Found
pub mod ObjectLaws
pub mod ObjectSizes
pub mod Alignment
