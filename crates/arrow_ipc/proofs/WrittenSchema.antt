-- A written stream begins with its schema's message.
use Rattle.std.proofs.Common.{◌≡◌, ℕ, ◌+◌, ◌^◌, ◌<◌, Bool, true, false, List, [], ◌∷◌, ◌++◌, length, map, arith, refl, ap, ◌∙◌, sym, subst, inr, length-append}
use Rattle.std.specs.Prelude.{pos, IsUtf8, FitsSigned, if◌then◌else◌}
use Rattle.std.specs.List.{All, AllByRecursion}
use Rattle.std.specs.Int.{w16, w32, w64, to_le_bytes}
use Rattle.std.proofs.lemmas.Int.{ints}
use Rattle.std.proofs.lemmas.List.{append-nil}
use Rattle.std.proofs.lemmas.List.Elements.{All-from_recursion, recursion_from_All}
use Rattle.cn_types.specs.declared.value.DataType.{DataType}
use Rattle.cn_types.specs.declared.value.DataType.TheVariants as K
use Rattle.cn_types.specs.declared.row.Row.{Row}
use Rattle.cn_types.specs.declared.schema.Field.{Field}
use Rattle.cn_types.specs.declared.schema.Schema.{Schema}
use Rattle.flat_tables.specs.declared.object.FlatObject.{FlatObject}
use Rattle.flat_tables.specs.declared.object.FlatObject.TheVariants as O
use Rattle.flat_tables.specs.declared.object.FlatSlot.{FlatSlot}
use Rattle.flat_tables.specs.declared.object.FlatSlot.TheVariants.{U8, I16, I32, I64, Object}
use Rattle.flat_tables.specs.Views.{TableView}
use Rattle.flat_tables.specs.Reading.{field_at, named_table}
use Rattle.flat_tables.specs.Layout.{layout, CanBePut, OnNamed}
use Rattle.flat_tables.specs.Found.{FoundTo, SlotsRead, NumberFits, HasFittingNumbers, ReadsBack}
use Rattle.flat_tables.specs.ObjectSizes.{SizesAddUp}
use Rattle.flat_tables.specs.ObjectLaws.{HasFittingNumbers-Table, HasFittingNumbers-Tables, HasFittingNumbers-Text}
use Rattle.arrow_ipc.specs.Columns.{body_of, buffers_from}
use Rattle.arrow_ipc.specs.Messages.{type_number, type_table, field_table, schema_table, message_table, schema_message, batch_message}
use Rattle.arrow_ipc.specs.Stream.{mark, end_mark, message_bytes, stream_of, CanBeWritten}
use Rattle.arrow_ipc.specs.Holds.{or_absent, MessageAt, BeginsWithSchema}
use Rattle.arrow_ipc.proofs.Sizes.{schema_can_be_put}
use Rattle.flat_tables.proofs.Standing.{Stands, first, second, within, taken}
use Rattle.arrow_ipc.proofs.Standing.{whole, n32_there}
use Rattle.arrow_ipc.proofs.FoundMessages.{found_table, field_read, type_table_is, field_slots, field_table_is, schema_slots, schema_table_is, schema_holds}

-- ---- one message

abbrev message_slots : ℕ → FlatObject → ℕ → List (FlatSlot FlatObject)
message_slots number header body = I16 (pos 4) ∷ U8 number ∷ Object header ∷ I64 (pos body) ∷ []

message_table_is : (number : ℕ) (header : FlatObject) (body : ℕ) → message_table number header body ≡ O.Table (message_slots number header body)
unfolding message_table
message_table_is number header body = refl

pub message_numbers : (number : ℕ) (header : FlatObject) (body : ℕ) → number < 2 ^ 8 → body < 2 ^ 63 → HasFittingNumbers header → HasFittingNumbers (message_table number header body)
message_numbers number header body n b h =
    let slots : List (FlatSlot FlatObject) = message_slots number header body in
    let four : FitsSigned w16 (pos 4) = omega (arith, ints) in
    let size : FitsSigned w64 (pos body) = omega (arith, ints) in
    subst HasFittingNumbers (sym (message_table_is number header body))
    (HasFittingNumbers-Table slots (All-from_recursion NumberFits slots (four, (n, (tt, (size, tt))))) (All-from_recursion (OnNamed HasFittingNumbers) slots (tt, (tt, (h, (tt, tt))))))

-- what a message is read as
pub record IsRead (bytes : List ℕ) (at number : ℕ) (slots : List (FlatSlot FlatObject)) (body : List ℕ) (next : ℕ) : Type 0 where
  pub header : TableView
  pub message : MessageAt bytes at number header body next
  pub slots_read : SlotsRead (FoundTo 4) header slots

length-message : (message : FlatObject) → length (message_bytes message) ≡ 8 + length (layout message)
unfolding message_bytes
length-message message = omega (arith, length-append (mark ++ to_le_bytes w32 (length (layout message))) (layout message))

pub message_is_read : ReadsBack → (bytes : List ℕ) (at number : ℕ) (slots : List (FlatSlot FlatObject)) (body : List ℕ) (message : FlatObject) → message ≡ message_table number (O.Table slots) (length body) → CanBePut message
    → HasFittingNumbers message → Stands bytes at (message_bytes message ++ body) → IsRead bytes at number slots body (at + length (message_bytes message) + length body)
unfolding message_bytes
message_is_read reads bytes at number slots body message same can fits s =
    let size : ℕ = length (layout message) in
    let all : Stands bytes at (message_bytes message) = first bytes at (message_bytes message) body s in
    let head : Stands bytes at (mark ++ to_le_bytes w32 size) = first bytes at (mark ++ to_le_bytes w32 size) (layout message) all in
    let metadata : Stands bytes (at + 8) (layout message) = second bytes at (mark ++ to_le_bytes w32 size) (layout message) all in
    let long : length (message_bytes message) ≡ 8 + size = length-message message in
    let behind : at + length (message_bytes message) ≡ at + 8 + size = omega arith in
    let rest : Stands bytes (at + 8 + size) body = subst (λ (n : ℕ). Stands bytes n body) behind (second bytes at (message_bytes message) body s) in
    let found = found_table 5 (message_slots number (O.Table slots) (length body)) (layout message) 0
    (subst (λ (o : FlatObject). FoundTo 6 o (layout message) 0) (same ∙ message_table_is number (O.Table slots) (length body)) (reads message can fits 6)) in
    let table = found.0 in
    let read = found.2 in
    let named = read.each 2 (Object (O.Table slots)) refl in
    let header = found_table 4 slots table.buffer named.0 named.2 in
    record {
      header = header.0;
      message = record {
        size = size;
        table = table;
        mark_is = taken bytes at 4 mark refl (first bytes at mark (to_le_bytes w32 size) head);
        size_is = n32_there bytes (at + 4) size can.short (second bytes at mark (to_le_bytes w32 size) head);
        table_is = ap (λ (xs : List ℕ). named_table xs 0) (taken bytes (at + 8) size (layout message) refl metadata) ∙ found.1;
        version = inr (ap (or_absent (pos 0)) (read.each 0 (I16 (pos 4)) refl));
        number_is = ap (or_absent 0) (read.each 1 (U8 number) refl);
        header_is = field_read (named_table table.buffer) (field_at table.buffer table.place 2) named.0 header.0 named.1 header.1;
        body_size = ap (or_absent (pos 0)) (read.each 3 (I64 (pos (length body))) refl);
        body_is = taken bytes (at + 8 + size) (length body) body refl rest;
        next_is = omega arith;
        within = omega (arith, within bytes (at + 8 + size) body rest);
      };
      slots_read = header.2;
    }

-- ---- the schema's numbers

int_numbers : (width : ℕ) → width < 2 ^ 31 → HasFittingNumbers (O.Table (I32 (pos width) ∷ U8 1 ∷ []))
int_numbers width h =
    let fits : FitsSigned w32 (pos width) = omega (arith, ints) in
    let one : 1 < 2 ^ 8 = omega arith in
    HasFittingNumbers-Table (I32 (pos width) ∷ U8 1 ∷ []) (All-from_recursion NumberFits (I32 (pos width) ∷ U8 1 ∷ []) (fits, (one, tt))) (All-from_recursion (OnNamed HasFittingNumbers) (I32 (pos width) ∷ U8 1 ∷ []) (tt, (tt, tt)))

type_numbers : (kind : DataType) → HasFittingNumbers (type_table kind)
type_numbers K.Boolean = subst HasFittingNumbers (sym (type_table_is K.Boolean)) (HasFittingNumbers-Table [] (All-from_recursion NumberFits [] tt) (All-from_recursion (OnNamed HasFittingNumbers) [] tt))
type_numbers K.Integer = subst HasFittingNumbers (sym (type_table_is K.Integer)) (int_numbers 32 (omega arith))
type_numbers K.Long = subst HasFittingNumbers (sym (type_table_is K.Long)) (int_numbers 64 (omega arith))
type_numbers K.Text = subst HasFittingNumbers (sym (type_table_is K.Text)) (HasFittingNumbers-Table [] (All-from_recursion NumberFits [] tt) (All-from_recursion (OnNamed HasFittingNumbers) [] tt))
type_numbers K.Date =
    let zero_fits : FitsSigned w16 (pos 0) = omega (arith, ints) in
    subst HasFittingNumbers (sym (type_table_is K.Date)) (HasFittingNumbers-Table (I16 (pos 0) ∷ []) (All-from_recursion NumberFits (I16 (pos 0) ∷ []) (zero_fits, tt)) (All-from_recursion (OnNamed HasFittingNumbers) (I16 (pos 0) ∷ []) (tt, tt)))

number_small : (kind : DataType) → type_number kind < 2 ^ 8
number_small K.Boolean = omega arith
number_small K.Integer = omega arith
number_small K.Long = omega arith
number_small K.Text = omega arith
number_small K.Date = omega arith

flag_small : (b : Bool) → (if b then 1 else 0) < 2 ^ 8
flag_small true = omega arith
flag_small false = omega arith

field_numbers : (field : Field) → HasFittingNumbers (field_table field)
field_numbers field =
    let slots : List (FlatSlot FlatObject) = field_slots field in
    let children : HasFittingNumbers (O.Tables []) = HasFittingNumbers-Tables [] (All-from_recursion HasFittingNumbers [] tt) in
    subst HasFittingNumbers (sym (field_table_is field))
    (HasFittingNumbers-Table slots (All-from_recursion NumberFits slots (tt, (flag_small field.nullable, (number_small field.kind, (tt, (tt, (tt, tt)))))))
    (All-from_recursion (OnNamed HasFittingNumbers) slots (HasFittingNumbers-Text field.name, (tt, (tt, (type_numbers field.kind, (tt, (children, tt))))))))

fields_numbers : (fields : List Field) → AllByRecursion HasFittingNumbers (map field_table fields)
fields_numbers [] = tt
fields_numbers (field ∷ fields) = (field_numbers field, fields_numbers fields)

schema_numbers : (schema : Schema) → HasFittingNumbers (schema_table schema)
schema_numbers schema =
    let slots : List (FlatSlot FlatObject) = schema_slots schema in
    let zero_fits : FitsSigned w16 (pos 0) = omega (arith, ints) in
    let fields : HasFittingNumbers (O.Tables (map field_table schema.0)) = HasFittingNumbers-Tables (map field_table schema.0) (All-from_recursion HasFittingNumbers (map field_table schema.0) (fields_numbers schema.0)) in
    subst HasFittingNumbers (sym (schema_table_is schema))
    (HasFittingNumbers-Table slots (All-from_recursion NumberFits slots (zero_fits, (tt, tt))) (All-from_recursion (OnNamed HasFittingNumbers) slots (tt, (fields, tt))))

-- ---- the beginning of the stream

pub begins_with_schema : SizesAddUp → ReadsBack → (schema : Schema) (rows : List Row) → CanBeWritten schema rows → All (λ field. IsUtf8 field.name) schema.0
    → BeginsWithSchema (stream_of schema rows) schema (length (message_bytes (schema_message schema)))
unfolding stream_of schema_message
begins_with_schema sizes reads schema rows can names =
    let message : FlatObject = schema_message schema in
    let same : message ≡ message_table 1 (O.Table (schema_slots schema)) 0 = ap (λ (o : FlatObject). message_table 1 o 0) (schema_table_is schema) in
    let none : 0 < 2 ^ 63 = omega arith in
    let one : 1 < 2 ^ 8 = omega arith in
    let there : Stands (stream_of schema rows) 0 (message_bytes message) = first (stream_of schema rows) 0 (message_bytes message) (message_bytes (batch_message schema rows) ++ (body_of (buffers_from 0 schema.0 rows) ++ end_mark)) (whole (stream_of schema rows)) in
    let read : IsRead (stream_of schema rows) 0 1 (schema_slots schema) [] (0 + length (message_bytes message) + 0)
    = message_is_read reads (stream_of schema rows) 0 1 (schema_slots schema) [] message same (schema_can_be_put sizes schema rows can) (message_numbers 1 (schema_table schema) 0 one none (schema_numbers schema))
    (subst (Stands (stream_of schema rows) 0) (sym (append-nil (message_bytes message))) there) in
    let at : 0 + length (message_bytes message) + 0 ≡ length (message_bytes message) = omega arith in
    record {
      header = read.header;
      body = [];
      message = subst (λ (n : ℕ). MessageAt (stream_of schema rows) 0 1 read.header [] n) at read.message;
      schema_is = schema_holds schema read.header (recursion_from_All (λ field. IsUtf8 field.name) schema.0 names) read.slots_read;
    }
