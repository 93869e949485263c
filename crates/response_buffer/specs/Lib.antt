-- Response ids and their texts, how rows are cut into batches, and the window of responses that are kept.
pub mod Ids
pub mod Window
pub mod Batches
