-- How what is built is aligned (FlatBuffers internals, "Alignment"): every object stands at a multiple of 8, every field of a table at a
-- multiple of its own size, and the items of every vector at a multiple of 8.
use Rattle.std.specs.Prelude.{◌≡◌, ℕ, ◌+◌, ◌%◌, false, List, length}
use Rattle.flat_tables.specs.declared.object.FlatObject.{FlatObject}
use Rattle.flat_tables.specs.declared.object.FlatObject.TheVariants as V
use Rattle.flat_tables.specs.declared.object.FlatPair.{FlatPair}
use Rattle.flat_tables.specs.declared.object.FlatSlot.{FlatSlot}
use Rattle.flat_tables.specs.Layout.{is_absent, size_of, place_of, block, layout}

-- a number of bytes or a place that is a multiple of 8
abbrev pub Is8 : ℕ → Type 0
Is8 n = n % 8 ≡ 0

-- The first object stands at place 8, and each other one behind the bytes of those before it. An offset to a table names the table's own
-- place in its object, behind the vtable; one to a vector or a text names the place 4 bytes before its first item.
pub record LayoutsAreAligned : Type 0 where
  pub objects : (object : FlatObject) → Is8 (length (block object).bytes)
  pub buffers : (object : FlatObject) → Is8 (length (layout object))
  pub tables : (slots : List (FlatSlot FlatObject)) → Is8 (block (V.Table slots)).entry
  pub fields : (end : ℕ) (slot : FlatSlot FlatObject) → is_absent slot ≡ false → place_of end slot % size_of slot ≡ 0
  pub offsets : (tables : List FlatObject) → Is8 ((block (V.Tables tables)).entry + 4)
  pub pairs : (pairs : List FlatPair) → Is8 ((block (V.Pairs pairs)).entry + 4)
  pub texts : (text : List ℕ) → Is8 ((block (V.Text text)).entry + 4)
