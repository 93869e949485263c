-- What a write operation is spelled as, besides its relation, is read as the operation behind the field of any relation.
use Rattle.std.proofs.Common.{◌≡◌, ℕ, ℤ, ◌-◌, ◌≤◌, List, ◌++◌, Option, None, Some, refl, ap, ◌∙◌, arith}
use Rattle.std.specs.Prelude.{IfSome, option_map}
use Rattle.std.proofs.lemmas.List.{append-nil}
use Rattle.proto_fields.specs.declared.kind.MessageKind.TheVariants as kinds
use Rattle.proto_fields.specs.declared.kind.PayloadKind.TheVariants.{Message}
use Rattle.proto_fields.specs.Fields.{Field, fields_of}
use Rattle.proto_fields.specs.Kinds.{payload_of}
use Rattle.proto_fields.specs.Readings.{payloads, joined, merged}
use Rattle.proto_fields.specs.Spelling.{spell, int_fields, text_fields, optional_payload_fields}
use Rattle.expression_messages.specs.Laws.{IsShort, IsReadBack}
use Rattle.expression_messages.proofs.Pieces.{Stands, nothing_stands, two_stand, read_back, short_two, short_payload, Piece, payload_piece, text_piece, optional_text_piece, int_piece, wider, payloads_one}
use Rattle.command_messages.specs.declared.save_table.SaveTable.{SaveTable}
use Rattle.command_messages.specs.declared.write_operation.WriteOperation.{WriteOperation}
use Rattle.command_messages.specs.Commands.{save_table_of, write_operation_of}
use Rattle.command_messages.specs.Spelled.{save_table_fields, write_operation_rest}
use Rattle.command_messages.specs.Depths.{table_depth}
use Rattle.command_messages.specs.Known.{HasSaveTableBits, HasWriteOperationBits}
use Rattle.field_groups.specs.Groups.{ReadsAs}
use Rattle.field_groups.proofs.Among.{are_others, alone, before, behind}
use Rattle.field_groups.proofs.Groups.{ThreeShort, three_short}
use Rattle.field_groups.proofs.Rests.{RestBack, three_rest}
use Rattle.field_groups.proofs.Scalars.{is_1, is_2, is_4, is_5, text_read, optional_text_read, int32_read, no_payloads}

-- ---- the table

same_table : {name name2 : List ℕ} {method method2 : ℤ} → name ≡ name2 → method ≡ method2 →
    ◌≡◌ {A = SaveTable} (record { table_name = name; save_method = method }) (record { table_name = name2; save_method = method2 })
same_table name_is method_is = rw name_is (rw method_is refl)

table_back : (level : ℕ) (table : SaveTable) → HasSaveTableBits table → IsShort (save_table_fields table) → 1 ≤ level →
    IsReadBack level kinds.SaveTable (save_table_fields table) save_table_of table
unfolding payload_of
table_back level table bits short some = read_back level kinds.SaveTable (name ++ method) save_table_of table (omega arith) stands same
  where
    name : List Field
    name = text_fields 1 table.table_name

    method : List Field
    method = int_fields 2 table.save_method

    name_piece : Piece (level - 1) kinds.SaveTable 1 name
    name_piece = text_piece (level - 1) kinds.SaveTable 1 table.table_name is_1 refl bits.table_name (short_two name method short).0

    method_piece : Piece (level - 1) kinds.SaveTable 2 method
    method_piece = int_piece (level - 1) kinds.SaveTable 2 table.save_method is_2 (wider table.save_method bits.save_method)

    stands : Stands (level - 1) kinds.SaveTable (name ++ method)
    stands = two_stand (level - 1) kinds.SaveTable name method name_piece.stands method_piece.stands

    name_reads : ReadsAs 1 (name ++ method) name
    name_reads = before 1 2 name name method (alone 1 name) method_piece.numbered (omega arith)

    method_reads : ReadsAs 2 (name ++ method) method
    method_reads = behind 2 name method (are_others 2 1 name name_piece.numbered (omega arith))

    same : save_table_of (name ++ method) ≡ table
    same = same_table
        (text_read 1 (name ++ method) table.table_name name_reads bits.table_name)
        (int32_read 2 (name ++ method) table.save_method method_reads bits.save_method)

-- the field of a table, or none

table_fields : Option SaveTable → List Field
table_fields table = optional_payload_fields 4 (option_map (λ present. spell (save_table_fields present)) table)

table_piece : (level : ℕ) (table : Option SaveTable) → IfSome table HasSaveTableBits → IsShort (table_fields table) → table_depth table ≤ level → Piece level kinds.WriteOperation 4 (table_fields table)
unfolding payload_of table_fields
table_piece level None bits short deep = record { stands = nothing_stands level kinds.WriteOperation; numbered = tt }
table_piece level (Some table) bits short deep =
    let payload = spell (save_table_fields table) in
    let few = short_payload 4 payload short in
    payload_piece level kinds.WriteOperation 4 (Message kinds.SaveTable) payload is_4 refl (table_back level table bits few deep).sound few

table_by : List (List ℕ) → Option SaveTable
table_by payloads = option_map save_table_of (joined payloads)

table_read : (whole : List Field) (table : Option SaveTable) → ReadsAs 4 whole (table_fields table) → IfSome table HasSaveTableBits → IsShort (table_fields table) → option_map save_table_of (merged 4 whole) ≡ table
unfolding table_by table_fields
table_read whole None reads bits short = ap table_by (reads.payloads_are ∙ no_payloads 4)
table_read whole (Some table) reads bits short =
    let payload = spell (save_table_fields table) in
    let back = table_back 1 table bits (short_payload 4 payload short) (omega arith) in
    ap table_by (reads.payloads_are ∙ payloads_one 4 payload)
    ∙ ap (λ (fields : List Field). Some (save_table_of fields)) (append-nil (fields_of payload))
    ∙ ap (λ (found : SaveTable). Some found) back.same

-- ---- the operation

same_operation : {R : Type 0} (input : R) {source source2 : Option (List ℕ)} {table table2 : Option SaveTable} {mode mode2 : ℤ} → source ≡ source2 → table ≡ table2 → mode ≡ mode2 →
    ◌≡◌ {A = WriteOperation R} (record { input = input; source = source; table = table; mode = mode }) (record { input = input; source = source2; table = table2; mode = mode2 })
same_operation input source_is table_is mode_is = rw source_is (rw table_is (rw mode_is refl))

pub write_operation_back : {R : Type 0} (level : ℕ) (it : WriteOperation R) → HasWriteOperationBits it → IsShort (write_operation_rest it) → table_depth it.table ≤ level →
    RestBack level 1 kinds.WriteOperation (write_operation_rest it) (write_operation_of it.input) it
unfolding payload_of table_fields
write_operation_back {R} level it bits short deep =
    three_rest level 1 2 4 5 kinds.WriteOperation source table mode (write_operation_of it.input) it source_piece a_piece mode_piece (omega arith) (omega arith) (omega arith) same
  where
    source : List Field
    source = optional_payload_fields 2 it.source

    table : List Field
    table = table_fields it.table

    mode : List Field
    mode = int_fields 5 it.mode

    shorts : ThreeShort source table mode
    shorts = three_short source table mode short

    source_piece : Piece level kinds.WriteOperation 2 source
    source_piece = optional_text_piece level kinds.WriteOperation 2 it.source is_2 refl bits.source shorts.first

    a_piece : Piece level kinds.WriteOperation 4 table
    a_piece = table_piece level it.table bits.table shorts.second deep

    mode_piece : Piece level kinds.WriteOperation 5 mode
    mode_piece = int_piece level kinds.WriteOperation 5 it.mode is_5 (wider it.mode bits.mode)

    same : (whole : List Field) → ReadsAs 2 whole source → ReadsAs 4 whole table → ReadsAs 5 whole mode → write_operation_of it.input whole ≡ it
    same whole source_reads table_reads mode_reads = same_operation it.input
        (optional_text_read 2 whole it.source source_reads bits.source)
        (table_read whole it.table table_reads bits.table shorts.second)
        (int32_read 5 whole it.mode mode_reads bits.mode)
