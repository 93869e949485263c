-- Sessions and their settings: what each operation on settings answers and changes.
pub mod Config
pub mod Ids
pub mod Laws
pub mod Places
pub mod Presets
pub mod Sessions
pub mod Settings
pub mod Shown
