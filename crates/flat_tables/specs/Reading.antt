-- What each look-up of a flatbuffer gives (FlatBuffers internals, "Format components"): what it finds, or as its fault the place of the
-- first number that the buffer doesn't hold.
use Rattle.std.specs.Prelude.{◌≡◌, ℕ, ◌+◌, ◌*◌, ℤ, pos, negsuc, ◌-ℤ◌, List, length, take, drop, Option, None, Some, Result, Ok, Err, nat_le, nat_lt, ◌==◌, if◌then◌else◌, slice_index}
use Rattle.std.specs.Int.{w16, w32, w64, from_le_bytes, cast_signed}
use Rattle.flat_tables.specs.declared.fault.FlatFault.{FlatFault}
use Rattle.flat_tables.specs.declared.fault.FlatFault.TheVariants.{OutOfRange}
use Rattle.flat_tables.specs.Views.{TableView, VectorView}

-- one look-up after another: the first fault stops
infixl 10 ◌>>=◌
abbrev pub ◌>>=◌ : {A B : Type 0} → Result A FlatFault → (A → Result B FlatFault) → Result B FlatFault
(Ok x) >>= f = f x
(Err e) >>= f = Err e

-- the bytes of a number that stands at a place, all of which the buffer has to hold
abbrev pub needed : List ℕ → ℕ → ℕ → Result (List ℕ) FlatFault
needed buffer place count = if nat_le (place + count) (length buffer) then Ok (take count (drop place buffer)) else Err (OutOfRange place)

-- the numbers that stand at a place, the least byte first
unfoldable pub u8_at : List ℕ → ℕ → Result ℕ FlatFault
u8_at buffer place = needed buffer place 1 >>= λ bytes. Ok (slice_index bytes 0)

unfoldable pub u16_at : List ℕ → ℕ → Result ℕ FlatFault
u16_at buffer place = needed buffer place 2 >>= λ bytes. Ok (from_le_bytes w16 bytes)

unfoldable pub i16_at : List ℕ → ℕ → Result ℤ FlatFault
i16_at buffer place = needed buffer place 2 >>= λ bytes. Ok (cast_signed w16 (from_le_bytes w16 bytes))

unfoldable pub u32_at : List ℕ → ℕ → Result ℕ FlatFault
u32_at buffer place = needed buffer place 4 >>= λ bytes. Ok (from_le_bytes w32 bytes)

unfoldable pub i32_at : List ℕ → ℕ → Result ℤ FlatFault
i32_at buffer place = needed buffer place 4 >>= λ bytes. Ok (cast_signed w32 (from_le_bytes w32 bytes))

unfoldable pub i64_at : List ℕ → ℕ → Result ℤ FlatFault
i64_at buffer place = needed buffer place 8 >>= λ bytes. Ok (cast_signed w64 (from_le_bytes w64 bytes))

-- ---- tables ("Tables")

-- a place by counting from a table; one below 0 is the fault of the table's own place
abbrev pub counted : ℕ → ℤ → Result ℕ FlatFault
counted table (pos place) = Ok place
counted table (negsuc _) = Err (OutOfRange table)

-- the place so many bytes before a table
abbrev pub place_before : ℕ → ℤ → Result ℕ FlatFault
place_before table back = counted table (pos table -ℤ back)

-- a table's vtable: its place, and its size in bytes
unfoldable pub vtable_at : List ℕ → ℕ → Result (ℕ × ℕ) FlatFault
vtable_at buffer table = do
  back ← i32_at buffer table
  vtable ← place_before table back
  size ← u16_at buffer vtable
  Ok (vtable, size)

-- where the slot's field stands, or none: a slot beyond the vtable and one whose entry is 0 are absent
unfoldable pub entry_at : List ℕ → ℕ → ℕ → ℕ × ℕ → Result (Option ℕ) FlatFault
entry_at buffer table slot vtable =
    if nat_lt vtable.1 (6 + 2 * slot) then Ok None else (do
      offset ← u16_at buffer (vtable.0 + (4 + 2 * slot))
      Ok (if offset == 0 then None else Some (table + offset)))

-- the same by the table's place alone
unfoldable pub field_at : List ℕ → ℕ → ℕ → Result (Option ℕ) FlatFault
field_at buffer table slot = vtable_at buffer table >>= entry_at buffer table slot

-- what stands at a field's place, or none where the field is absent
abbrev pub at_field : {A : Type 0} → (ℕ → Result A FlatFault) → Result (Option ℕ) FlatFault → Result (Option A) FlatFault
at_field read (Ok (Some place)) = read place >>= λ found. Ok (Some found)
at_field read (Ok None) = Ok None
at_field read (Err e) = Err e

-- where the offset at a place leads: it counts from its own place
unfoldable pub target_at : List ℕ → ℕ → Result ℕ FlatFault
target_at buffer place = do
  offset ← u32_at buffer place
  Ok (place + offset)

-- a table whose vtable can be read
unfoldable pub table_at : List ℕ → ℕ → Result TableView FlatFault
table_at buffer place = do
  vtable ← vtable_at buffer place
  Ok (record { buffer = buffer; place = place })

-- the table that an offset names
unfoldable pub named_table : List ℕ → ℕ → Result TableView FlatFault
named_table buffer place = target_at buffer place >>= table_at buffer

-- ---- vectors and texts ("Strings and vectors")

-- a vector of so many items from a place on, all of which the buffer has to hold
unfoldable pub items_from : List ℕ → ℕ → ℕ → ℕ → Result VectorView FlatFault
items_from buffer start count width =
    if nat_le (start + count * width) (length buffer)
    then Ok (record { buffer = buffer; start = start; count = count; width = width })
    else Err (OutOfRange (length buffer))

-- the vector that an offset names: the number of its items, then the items
unfoldable pub named_vector : List ℕ → ℕ → ℕ → Result VectorView FlatFault
named_vector buffer width place = do
  vector ← target_at buffer place
  count ← u32_at buffer vector
  items_from buffer (vector + 4) count width

-- all items of a vector, one after another
abbrev pub items_bytes : VectorView → List ℕ
items_bytes v = take (v.count * v.width) (drop v.start v.buffer)

-- one item of a vector
abbrev pub item_bytes : VectorView → ℕ → List ℕ
item_bytes v place = take v.width (drop (v.start + place * v.width) v.buffer)

-- the text that an offset names: a vector of bytes. Its closing zero isn't needed
unfoldable pub named_text : List ℕ → ℕ → Result (List ℕ) FlatFault
named_text buffer place = named_vector buffer 1 place >>= λ v. Ok (items_bytes v)

-- ---- the field of a slot, by what stands there

abbrev pub u8_field : TableView → ℕ → Result (Option ℕ) FlatFault
u8_field t slot = at_field (u8_at t.buffer) (field_at t.buffer t.place slot)

abbrev pub i16_field : TableView → ℕ → Result (Option ℤ) FlatFault
i16_field t slot = at_field (i16_at t.buffer) (field_at t.buffer t.place slot)

abbrev pub i32_field : TableView → ℕ → Result (Option ℤ) FlatFault
i32_field t slot = at_field (i32_at t.buffer) (field_at t.buffer t.place slot)

abbrev pub i64_field : TableView → ℕ → Result (Option ℤ) FlatFault
i64_field t slot = at_field (i64_at t.buffer) (field_at t.buffer t.place slot)

abbrev pub table_field : TableView → ℕ → Result (Option TableView) FlatFault
table_field t slot = at_field (named_table t.buffer) (field_at t.buffer t.place slot)

abbrev pub text_field : TableView → ℕ → Result (Option (List ℕ)) FlatFault
text_field t slot = at_field (named_text t.buffer) (field_at t.buffer t.place slot)

abbrev pub vector_field : TableView → ℕ → ℕ → Result (Option VectorView) FlatFault
vector_field t slot width = at_field (named_vector t.buffer width) (field_at t.buffer t.place slot)

-- the table that an item of a vector names
abbrev pub item_table : VectorView → ℕ → Result TableView FlatFault
item_table v place = named_table v.buffer (v.start + place * 4)

-- what a call returned, seen by `view`, is what the look-up gives
abbrev pub Seen : {X Y : Type 0} → (X → Y) → Result X FlatFault → Result Y FlatFault → Type 0
Seen view (Ok x) found = found ≡ Ok (view x)
Seen view (Err e) found = found ≡ Err e

-- the same of a field that may be absent
abbrev pub SeenField : {X Y : Type 0} → (X → Y) → Result (Option X) FlatFault → Result (Option Y) FlatFault → Type 0
SeenField view (Ok None) found = found ≡ Ok None
SeenField view (Ok (Some x)) found = found ≡ Ok (Some (view x))
SeenField view (Err e) found = found ≡ Err e
