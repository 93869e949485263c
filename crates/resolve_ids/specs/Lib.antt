-- Relations under other ids of columns, and that the rules of relations mean the same there.
pub mod Laws
pub mod PairLaws
pub mod Renaming
pub mod Together
pub mod TogetherLaws
