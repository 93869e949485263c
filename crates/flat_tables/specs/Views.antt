-- A table and a vector of a flatbuffer, as contracts see them: the whole buffer, and where they stand in it.
use Rattle.std.specs.Prelude.{ℕ, List}

-- a table: the place of its i32 in the buffer
pub record TableView : Type 0 where
  pub buffer : List ℕ
  pub place : ℕ

-- a vector: where its first item stands, how many items it has, and how many bytes each item
pub record VectorView : Type 0 where
  pub buffer : List ℕ
  pub start : ℕ
  pub count : ℕ
  pub width : ℕ
