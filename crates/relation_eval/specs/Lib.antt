-- What the evaluation of relations is stated by, beside the outcomes that a relation allows.
pub mod Calls
pub mod Copies
pub mod Equalities
pub mod Firsts
pub mod Given
pub mod Grouped
pub mod Joined
pub mod KeyedRows
pub mod Matches
pub mod Members
pub mod OrderLaws
pub mod Places
pub mod RangeRows
pub mod SortKeys
pub mod Steps
