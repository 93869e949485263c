-- What a reader finds of an object that was built: every field at its slot with its value, down to any depth.
use Rattle.std.specs.Prelude.{◌≡◌, ℕ, zero, suc, ◌+◌, ◌*◌, ◌^◌, ◌<◌, ◌≤◌, List, length, slice_get, None, Some, Ok, All, FitsSigned}
use Rattle.std.specs.Int.{w16, w32, w64}
use Rattle.flat_tables.specs.declared.object.FlatObject.{FlatObject}
use Rattle.flat_tables.specs.declared.object.FlatObject.TheOpen.{FlatObject-F, Table, Tables, Pairs, Text}
use Rattle.flat_tables.specs.declared.object.FlatObject.TheViews.{out-FlatObject}
use Rattle.flat_tables.specs.declared.object.FlatObject.TheFolds.{every-FlatObject}
use Rattle.flat_tables.specs.declared.object.FlatPair.{FlatPair}
use Rattle.flat_tables.specs.declared.object.FlatSlot.{FlatSlot}
use Rattle.flat_tables.specs.declared.object.FlatSlot.TheVariants.{Absent, U8, I16, I32, I64, Object}
use Rattle.flat_tables.specs.Layout.{CanBePut, layout, pair_bytes}
use Rattle.flat_tables.specs.Views.{TableView, VectorView}
use Rattle.flat_tables.specs.Reading.{field_at, u8_field, i16_field, i32_field, i64_field, named_table, named_vector, named_text, item_bytes}

-- a fact of an object, of a buffer, and of the place in it of an offset that leads to the object
abbrev pub Finding : Type 1
Finding = FlatObject → List ℕ → ℕ → Type 0

-- a slot that a table reads: absent, a number, or an object, to which the offset leads that stands at the field's place
abbrev pub SlotReads : Finding → TableView → ℕ → FlatSlot FlatObject → Type 0
SlotReads finds t slot Absent = field_at t.buffer t.place slot ≡ Ok None
SlotReads finds t slot (U8 n) = u8_field t slot ≡ Ok (Some n)
SlotReads finds t slot (I16 z) = i16_field t slot ≡ Ok (Some z)
SlotReads finds t slot (I32 z) = i32_field t slot ≡ Ok (Some z)
SlotReads finds t slot (I64 z) = i64_field t slot ≡ Ok (Some z)
SlotReads finds t slot (Object o) = (place : ℕ) × (field_at t.buffer t.place slot ≡ Ok (Some place)) × finds o t.buffer place

-- all slots of a table: those that it has, and none beyond them
pub record SlotsRead (finds : Finding) (t : TableView) (slots : List (FlatSlot FlatObject)) : Type 0 where
  pub each : (slot : ℕ) (s : FlatSlot FlatObject) → slice_get slots slot ≡ Some s → SlotReads finds t slot s
  pub beyond : (slot : ℕ) → length slots ≤ slot → field_at t.buffer t.place slot ≡ Ok None

-- all items of a vector of tables
pub record TablesRead (finds : Finding) (v : VectorView) (tables : List FlatObject) : Type 0 where
  pub count : v.count ≡ length tables
  pub each : (place : ℕ) (table : FlatObject) → slice_get tables place ≡ Some table → finds table v.buffer (v.start + place * 4)

-- all items of a vector of pairs
pub record PairsRead (v : VectorView) (pairs : List FlatPair) : Type 0 where
  pub count : v.count ≡ length pairs
  pub each : (place : ℕ) (pair : FlatPair) → slice_get pairs place ≡ Some pair → item_bytes v place ≡ pair_bytes pair

-- the offset at a place leads to an object, whose own parts are found so
abbrev pub Found : Finding → FlatObject-F FlatObject → List ℕ → ℕ → Type 0
Found finds (Table slots) buffer place = (t : TableView) × (named_table buffer place ≡ Ok t) × SlotsRead finds t slots
Found finds (Tables tables) buffer place = (v : VectorView) × (named_vector buffer 4 place ≡ Ok v) × TablesRead finds v tables
Found finds (Pairs pairs) buffer place = (v : VectorView) × (named_vector buffer 16 place ≡ Ok v) × PairsRead v pairs
Found finds (Text text) buffer place = named_text buffer place ≡ Ok text

-- the same of all that it names, so many objects deep
abbrev pub FoundTo : ℕ → Finding
FoundTo zero object buffer place = Unit {0}
FoundTo (suc depth) object buffer place = Found (FoundTo depth) (out-FlatObject object) buffer place

-- the numbers of an object fit their types
abbrev pub NumberFits : FlatSlot FlatObject → Type 0
NumberFits Absent = Unit {0}
NumberFits (U8 n) = n < 2 ^ 8
NumberFits (I16 z) = FitsSigned w16 z
NumberFits (I32 z) = FitsSigned w32 z
NumberFits (I64 z) = FitsSigned w64 z
NumberFits (Object o) = Unit {0}

-- those of one object
abbrev pub NumbersFit : FlatObject-F FlatObject → Type 0
NumbersFit (Table slots) = All NumberFits slots
NumbersFit (Tables tables) = Unit {0}
NumbersFit (Pairs pairs) = Unit {0}
NumbersFit (Text text) = Unit {0}

-- and of all that it names
unfoldable pub HasFittingNumbers : FlatObject → Type 0
HasFittingNumbers = every-FlatObject NumbersFit

-- what is built is read back, to any depth
abbrev pub ReadsBack : Type 0
ReadsBack = (object : FlatObject) → CanBePut object → HasFittingNumbers object → (depth : ℕ) → FoundTo depth object (layout object) 0
