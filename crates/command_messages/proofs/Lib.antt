pub mod CommandBack
pub mod CommandValid
