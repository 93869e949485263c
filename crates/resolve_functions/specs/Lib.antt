-- The built-in functions by their names, and which arguments each takes.
pub mod Arguments
pub mod FunctionNames
pub mod Slices
