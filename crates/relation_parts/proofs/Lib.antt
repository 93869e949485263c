pub mod PartsBack
pub mod PartsValid
