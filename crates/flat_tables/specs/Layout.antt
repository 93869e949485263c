-- The bytes that a builder writes: tables, vtables, vectors and strings as in FlatBuffers internals ("Format components"), in one order and
-- with one alignment. Distances alone occur in them, and every object begins at a multiple of 8 and is filled up to one, so an object's
-- bytes need no place of their own. All numbers have their least byte first.
use Rattle.std.specs.Prelude.{◌<◌, ◌^◌, ℕ, ◌+◌, ◌*◌, ◌-◌, ◌≤◌, ℤ, Bool, true, false, ◌&&◌, ◌==◌, if◌then◌else◌, List, [], ◌∷◌, ◌++◌, length, take, map, replicate, All}
use Rattle.std.specs.List.{flat_map}
use Rattle.std.specs.Int.{w16, w32, w64, to_le_bytes, cast_unsigned, next_multiple_of}
use Rattle.flat_tables.specs.declared.object.FlatObject.{FlatObject}
use Rattle.flat_tables.specs.declared.object.FlatObject.TheOpen.{FlatObject-F, Table, Tables, Pairs, Text}
use Rattle.flat_tables.specs.declared.object.FlatObject.TheViews.{out-FlatObject}
use Rattle.flat_tables.specs.declared.object.FlatObject.TheFolds.{fold-FlatObject, every-FlatObject}
use Rattle.flat_tables.specs.declared.object.FlatPair.{FlatPair}
use Rattle.flat_tables.specs.declared.object.FlatSlot.{FlatSlot}
use Rattle.flat_tables.specs.declared.object.FlatSlot.TheVariants.{Absent, U8, I16, I32, I64, Object}

abbrev pub zeros : ℕ → List ℕ
zeros n = replicate n 0

-- filled up with zeros to the next multiple of 8
abbrev pub padded : List ℕ → List ℕ
padded bytes = bytes ++ zeros (next_multiple_of (length bytes) 8 - length bytes)

-- an object with all that it names: its bytes, and the place in them that an offset to it names
pub record Block : Type 0 where
  pub bytes : List ℕ
  pub entry : ℕ

-- the bytes of a number of 8 bytes, the least first
unfoldable pub i64_bytes : ℤ → List ℕ
i64_bytes z = to_le_bytes w64 (cast_unsigned w64 z)

-- ---- the fields of a table ("Tables": a field stands at a place counted from its table)

-- how many bytes a slot's field has
abbrev pub size_of : {O : Type 0} → FlatSlot O → ℕ
size_of Absent = 0
size_of (U8 n) = 1
size_of (I16 z) = 2
size_of (I32 z) = 4
size_of (I64 z) = 8
size_of (Object o) = 4

-- where a slot's field stands, counted from the table: at the next multiple of its own size after the bytes before it
abbrev pub place_of : {O : Type 0} → ℕ → FlatSlot O → ℕ
place_of end Absent = end
place_of end (U8 n) = end
place_of end (I16 z) = next_multiple_of end 2
place_of end (I32 z) = next_multiple_of end 4
place_of end (I64 z) = next_multiple_of end 8
place_of end (Object o) = next_multiple_of end 4

-- how many bytes a table has after a slot, and after all of them
abbrev pub end_of : {O : Type 0} → ℕ → FlatSlot O → ℕ
end_of end slot = place_of end slot + size_of slot

abbrev pub table_size : {O : Type 0} → ℕ → List (FlatSlot O) → ℕ
table_size end [] = end
table_size end (slot ∷ slots) = table_size (end_of end slot) slots

-- a field's bytes, where it stands at place, and the next object that is named begins at next, both counted from the table
abbrev pub field_bytes : ℕ → ℕ → FlatSlot Block → List ℕ
field_bytes place next Absent = []
field_bytes place next (U8 n) = n ∷ []
field_bytes place next (I16 z) = to_le_bytes w16 (cast_unsigned w16 z)
field_bytes place next (I32 z) = to_le_bytes w32 (cast_unsigned w32 z)
field_bytes place next (I64 z) = i64_bytes z
field_bytes place next (Object block) = to_le_bytes w32 (next + block.entry - place)

-- the bytes of the object that a slot names
abbrev pub named : FlatSlot Block → List ℕ
named Absent = []
named (U8 n) = []
named (I16 z) = []
named (I32 z) = []
named (I64 z) = []
named (Object block) = block.bytes

-- the fields in slot order, with zeros between them
abbrev pub fields : ℕ → ℕ → List (FlatSlot Block) → List ℕ
fields end next [] = []
fields end next (slot ∷ slots) =
    zeros (place_of end slot - end) ++ (field_bytes (place_of end slot) next slot ++ fields (end_of end slot) (next + length (named slot)) slots)

-- ---- the vtable ("Tables": two sizes of 2 bytes, and an entry of 2 bytes for each slot)

-- a slot without a field
abbrev pub is_absent : {O : Type 0} → FlatSlot O → Bool
is_absent Absent = true
is_absent (U8 n) = false
is_absent (I16 z) = false
is_absent (I32 z) = false
is_absent (I64 z) = false
is_absent (Object o) = false

-- the number of slots up to the highest one that is written
abbrev pub used : {O : Type 0} → List (FlatSlot O) → ℕ
used [] = 0
used (slot ∷ slots) = if is_absent slot && (used slots == 0) then 0 else used slots + 1

-- an entry for each slot: its field's place, or 0 for none
abbrev pub entries : {O : Type 0} → ℕ → List (FlatSlot O) → List ℕ
entries end [] = []
entries end (slot ∷ slots) = (if is_absent slot then 0 else place_of end slot) ∷ entries (end_of end slot) slots

-- its own size, the table's, and the entries of all slots up to the highest one that is written
abbrev pub vtable_bytes : {O : Type 0} → List (FlatSlot O) → List ℕ
vtable_bytes slots =
    padded (to_le_bytes w16 (4 + 2 * used slots) ++ to_le_bytes w16 (table_size 4 slots) ++ flat_map (to_le_bytes w16) (entries 4 (take (used slots) slots)))

-- ---- objects ("Offsets", "Strings and vectors": an offset of 4 bytes counts from its own place, to a table or a number of items)

-- the slot, where what it names is seen by f
abbrev pub slot_map : {O P : Type 0} → (O → P) → FlatSlot O → FlatSlot P
slot_map f Absent = Absent
slot_map f (U8 n) = U8 n
slot_map f (I16 z) = I16 z
slot_map f (I32 z) = I32 z
slot_map f (I64 z) = I64 z
slot_map f (Object o) = Object (f o)

-- the vtable; the table, which begins with the distance back to its vtable; then the objects that it names
unfoldable pub table_block : List (FlatSlot Block) → Block
table_block slots = record {
  bytes = vtable_bytes slots
      ++ (padded (to_le_bytes w32 (length (vtable_bytes slots)) ++ fields 4 (next_multiple_of (table_size 4 slots) 8) slots) ++ flat_map named slots);
  entry = length (vtable_bytes slots);
}

-- a vector or a text: four zeros and the number of its items, at which an offset points; then the items
abbrev pub vector_bytes : ℕ → List ℕ → List ℕ
vector_bytes count items = padded (zeros 4 ++ (to_le_bytes w32 count ++ items))

-- a vector of tables: its items are offsets, so fields of 4 bytes each from place 8 on; then the tables
unfoldable pub tables_block : List Block → Block
tables_block blocks = record {
  bytes = vector_bytes (length blocks) (fields 8 (next_multiple_of (8 + 4 * length blocks) 8) (map Object blocks)) ++ flat_map named (map Object blocks);
  entry = 4;
}

-- an item of a vector of pairs
abbrev pub pair_bytes : FlatPair → List ℕ
pair_bytes pair = i64_bytes pair.first ++ i64_bytes pair.second

unfoldable pub pairs_block : List FlatPair → Block
pairs_block pairs = record { bytes = vector_bytes (length pairs) (flat_map pair_bytes pairs); entry = 4 }

-- a text ends with a zero byte, which its length doesn't count
unfoldable pub text_block : List ℕ → Block
text_block text = record { bytes = vector_bytes (length text) (text ++ 0 ∷ []); entry = 4 }

-- an object, where each object in it is a block already
abbrev pub block_step : FlatObject-F Block → Block
block_step (Table slots) = table_block slots
block_step (Tables blocks) = tables_block blocks
block_step (Pairs pairs) = pairs_block pairs
block_step (Text text) = text_block text

-- an object with all that it names
unfoldable pub block : FlatObject → Block
block = fold-FlatObject Block block_step

-- the whole buffer: the root offset, which counts from place 0, and four zeros; then the object
abbrev pub layout : FlatObject → List ℕ
layout object = to_le_bytes w32 (8 + (block object).entry) ++ (zeros 4 ++ (block object).bytes)

-- ---- what can be built

-- the object is a table
abbrev pub IsTableLayer : FlatObject-F FlatObject → Type 0
IsTableLayer (Table slots) = Unit {0}
IsTableLayer (Tables tables) = ⊥
IsTableLayer (Pairs pairs) = ⊥
IsTableLayer (Text text) = ⊥

abbrev pub IsTable : FlatObject → Type 0
IsTable object = IsTableLayer (out-FlatObject object)

-- a table has at most 4,096 slots, and each item of a vector of tables is a table
abbrev pub Fits : FlatObject-F FlatObject → Type 0
Fits (Table slots) = length slots ≤ 4096
Fits (Tables tables) = All IsTable tables
Fits (Pairs pairs) = Unit {0}
Fits (Text text) = Unit {0}

-- an object and all that it names
unfoldable pub IsBuildable : FlatObject → Type 0
IsBuildable = every-FlatObject Fits

-- a fact of the object that a slot names
abbrev pub OnNamed : {O : Type 0} → (O → Type 0) → FlatSlot O → Type 0
OnNamed P Absent = Unit {0}
OnNamed P (U8 n) = Unit {0}
OnNamed P (I16 z) = Unit {0}
OnNamed P (I32 z) = Unit {0}
OnNamed P (I64 z) = Unit {0}
OnNamed P (Object o) = P o

-- what a builder takes: a table that can be built, in fewer than 2^31 bytes
pub record CanBePut (object : FlatObject) : Type 0 where
  pub table : IsTable object
  pub parts : IsBuildable object
  pub short : length (layout object) < 2 ^ 31
