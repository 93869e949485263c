-- How many bytes an object has, with all that it names.
use Rattle.std.specs.Prelude.{◌≡◌, ℕ, ◌+◌, ◌*◌, List, length}
use Rattle.std.specs.List.{sum_by}
use Rattle.std.specs.Int.{next_multiple_of}
use Rattle.flat_tables.specs.declared.object.FlatObject.{FlatObject}
use Rattle.flat_tables.specs.declared.object.FlatObject.TheVariants as V
use Rattle.flat_tables.specs.declared.object.FlatPair.{FlatPair}
use Rattle.flat_tables.specs.declared.object.FlatSlot.{FlatSlot}
use Rattle.flat_tables.specs.declared.object.FlatSlot.TheVariants.{Absent, U8, I16, I32, I64, Object}
use Rattle.flat_tables.specs.Layout.{block, layout, used, table_size}

abbrev pub size : FlatObject → ℕ
size object = length (block object).bytes

-- what a slot names
abbrev pub size_named : FlatSlot FlatObject → ℕ
size_named Absent = 0
size_named (U8 n) = 0
size_named (I16 z) = 0
size_named (I32 z) = 0
size_named (I64 z) = 0
size_named (Object o) = size o

-- an object's own bytes, up to a multiple of 8, and those of the objects that it names
pub record SizesAddUp : Type 0 where
  pub table : (slots : List (FlatSlot FlatObject)) → size (V.Table slots) ≡ next_multiple_of (4 + 2 * used slots) 8 + next_multiple_of (table_size 4 slots) 8 + sum_by size_named slots
  pub tables : (tables : List FlatObject) → size (V.Tables tables) ≡ next_multiple_of (8 + 4 * length tables) 8 + sum_by size tables
  pub pairs : (pairs : List FlatPair) → size (V.Pairs pairs) ≡ next_multiple_of (8 + 16 * length pairs) 8
  pub text : (text : List ℕ) → size (V.Text text) ≡ next_multiple_of (8 + length text + 1) 8
  pub whole : (object : FlatObject) → length (layout object) ≡ 8 + size object
