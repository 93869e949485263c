-- What each step of a builder does to the bytes so far.
use Rattle.std.specs.Prelude.{◌≡◌, ℕ, pos, ◌+◌, ◌-◌, ◌%◌, ◌^◌, ◌<◌, ◌≤◌, List, ◌++◌, length, take, drop, map}
use Rattle.std.specs.Int.{w32, to_le_bytes}
use Rattle.flat_tables.specs.declared.object.FlatSlot.{FlatSlot}
use Rattle.flat_tables.specs.declared.object.FlatSlot.TheVariants.{Absent, U8, I16, I32, I64, Object}
use Rattle.flat_tables.specs.Layout.{Block, padded, fields, vtable_bytes}

-- an object may come after the bytes so far
pub record HasRoom (old : List ℕ) (block : Block) : Type 0 where
  pub aligned : length old % 8 ≡ 0
  pub short : length old + length block.bytes < 2 ^ 31

-- an object came after the bytes so far, and offsets to it name this place
pub record Adds (old new : List ℕ) (block : Block) (entry : ℕ) : Type 0 where
  pub bytes : new ≡ old ++ block.bytes
  pub entry_is : entry ≡ length old + block.entry
  pub inside : entry ≤ length new
  pub aligned : length new % 8 ≡ 0

-- the bytes with an offset written over the 4 bytes at a place
abbrev pub with_offset : List ℕ → ℕ → ℕ → List ℕ
with_offset bytes place offset = take place bytes ++ (to_le_bytes w32 offset ++ drop (place + 4) bytes)

-- an object came after the bytes so far, and the 4 bytes at a place before it are now the offset to it
pub record Names (old new : List ℕ) (block : Block) (place : ℕ) : Type 0 where
  pub bytes : new ≡ with_offset old place (length old + block.entry - place) ++ block.bytes
  pub aligned : length new % 8 ≡ 0

-- a slot whose object isn't written yet: its offset is 0
abbrev pub blank : {O : Type 0} → FlatSlot O → FlatSlot Block
blank Absent = Absent
blank (U8 n) = U8 n
blank (I16 z) = I16 z
blank (I32 z) = I32 z
blank (I64 z) = I64 z
blank (Object o) = I32 (pos 0)

-- a table of its own, before what it names is written
abbrev pub blank_table : {O : Type 0} → List (FlatSlot O) → List ℕ
blank_table slots = vtable_bytes slots ++ padded (to_le_bytes w32 (length (vtable_bytes slots)) ++ fields 4 0 (map blank slots))
