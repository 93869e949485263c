-- Facts for joins.
pub mod Backwards
pub mod OldColumns
pub mod Picking
