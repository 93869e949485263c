pub mod MapLaws
pub mod Merging
pub mod PlainBack
pub mod SameMaps
pub mod Valid
