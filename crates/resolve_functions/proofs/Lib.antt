pub mod Tables
pub mod ListCases
pub mod Whens
pub mod Commons
pub mod ExprKinds
pub mod Each
