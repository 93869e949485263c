-- Where a table's fields stand, by the arithmetic of vtables on the whole buffer (FlatBuffers internals, "Tables").
use Rattle.std.specs.Prelude.{◌≡◌, ◌≢◌, ℕ, ◌+◌, ◌*◌, ◌<◌, ◌≤◌, ◌⊎◌, ◌↔◌, ℤ, pos, ◌-ℤ◌, ◌<ℤ◌, List, length, take, drop, Option, None, Some, Ok, Err}
use Rattle.std.specs.Int.{Width, w16, w32, byte_len, from_le_bytes, cast_signed}
use Rattle.flat_tables.specs.declared.fault.FlatFault.TheVariants.{OutOfRange}
use Rattle.flat_tables.specs.Reading.{field_at}

-- the number that stands at a place, the least byte first
abbrev pub number_in : Width → List ℕ → ℕ → ℕ
number_in w buffer place = from_le_bytes w (take (byte_len w) (drop place buffer))

-- the place that a table's i32 leads to: it is subtracted from the table's own place
abbrev pub vtable_place : List ℕ → ℕ → ℤ
vtable_place buffer table = pos table -ℤ cast_signed w32 (number_in w32 buffer table)

-- a table's vtable, whose size lies in the buffer
pub record IsVtable (buffer : List ℕ) (table vtable : ℕ) : Type 0 where
  pub table_within : table + 4 ≤ length buffer
  pub place : vtable_place buffer table ≡ pos vtable
  pub size_within : vtable + 2 ≤ length buffer

-- A vtable begins with its own size in bytes and the table's. Then comes an entry of 2 bytes for each slot.
abbrev pub vtable_size : List ℕ → ℕ → ℕ
vtable_size buffer vtable = number_in w16 buffer vtable

abbrev pub entry_place : ℕ → ℕ → ℕ
entry_place vtable slot = vtable + (4 + 2 * slot)

-- the vtable reaches over the slot's entry
abbrev pub HasEntry : List ℕ → ℕ → ℕ → Type 0
HasEntry buffer vtable slot = 4 + 2 * slot + 2 ≤ vtable_size buffer vtable

-- the slot's entry in the vtable is this number
pub record Entry (buffer : List ℕ) (vtable slot entry : ℕ) : Type 0 where
  pub in_vtable : HasEntry buffer vtable slot
  pub within : entry_place vtable slot + 2 ≤ length buffer
  pub value : number_in w16 buffer (entry_place vtable slot) ≡ entry

-- what the vtable says of a slot: absent are one that it doesn't reach and one whose entry is 0; else the entry counts from the table
abbrev pub Says : List ℕ → ℕ → ℕ → ℕ → Option ℕ → Type 0
Says buffer table vtable slot None = (vtable_size buffer vtable < 4 + 2 * slot + 2) ⊎ Entry buffer vtable slot 0
Says buffer table vtable slot (Some place) = (entry : ℕ) × Entry buffer vtable slot entry × (entry ≢ 0) × (place ≡ table + entry)

-- the slot's field stands at the place, or is absent
pub record FieldAt (buffer : List ℕ) (table slot : ℕ) (place : Option ℕ) : Type 0 where
  pub vtable : ℕ
  pub is_vtable : IsVtable buffer table vtable
  pub says : Says buffer table vtable slot place

-- The first number that the vtable's arithmetic needs and the buffer doesn't hold is the one at this place: the table's i32, the vtable's
-- size, or the slot's entry. A vtable that would stand below place 0 is at the table's own place.
pub data FieldOutside (buffer : List ℕ) (table slot : ℕ) : ℕ → Type 0 where
  no_table : length buffer < table + 4 → FieldOutside buffer table slot table
  below : table + 4 ≤ length buffer → vtable_place buffer table <ℤ pos 0 → FieldOutside buffer table slot table
  no_vtable : (vtable : ℕ) → table + 4 ≤ length buffer → vtable_place buffer table ≡ pos vtable → length buffer < vtable + 2 → FieldOutside buffer table slot vtable
  no_entry : (vtable : ℕ) → IsVtable buffer table vtable → HasEntry buffer vtable slot → length buffer < entry_place vtable slot + 2 → FieldOutside buffer table slot (entry_place vtable slot)

-- a look-up finds a field's place, or that it is absent, exactly where the vtable's arithmetic has it
abbrev pub FindsFields : Type 0
FindsFields = (buffer : List ℕ) (table slot : ℕ) (place : Option ℕ) → (field_at buffer table slot ≡ Ok place) ↔ FieldAt buffer table slot place

-- and it fails exactly where that arithmetic leaves the buffer
abbrev pub FailsOutside : Type 0
FailsOutside = (buffer : List ℕ) (table slot at : ℕ) → (field_at buffer table slot ≡ Err (OutOfRange at)) ↔ FieldOutside buffer table slot at
