-- What the rules of relations keep.
pub mod Laws
pub mod PairLaws
pub mod Sound
pub mod TableLaws
