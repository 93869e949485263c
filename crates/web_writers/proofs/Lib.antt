pub mod Lines
pub mod Fields
pub mod RequestHead
pub mod Bytes
pub mod ReadBack
pub mod TrailersText
pub mod ResponseHead
pub mod Responses
