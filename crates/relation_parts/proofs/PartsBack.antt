-- What the parts of a relation are spelled as is read as the parts.
use Rattle.std.proofs.Common.{◌≡◌, ℕ, ℤ, ◌-◌, ◌≤◌, List, [], ◌++◌, Option, None, Some, refl, ap, ◌∙◌, arith}
use Rattle.std.specs.Prelude.{IfSome, IsUtf8, option_map}
use Rattle.proto_fields.specs.declared.kind.MessageKind.TheVariants as kinds
use Rattle.proto_fields.specs.declared.kind.PayloadKind.TheVariants.{Message}
use Rattle.proto_fields.specs.Fields.{Field}
use Rattle.proto_fields.specs.Kinds.{payload_of}
use Rattle.proto_fields.specs.Readings.{payloads}
use Rattle.proto_fields.specs.Spelling.{spell, int_fields, optional_int_fields, optional_payload_fields}
use Rattle.proto_fields.proofs.ReturnLemmas.{optional_int64_back, optional_payload_back, text_back, message_back}
use Rattle.expression_messages.specs.Laws.{IsShort, IsReadBack}
use Rattle.expression_messages.proofs.Pieces.{Stands, nothing_stands, two_stand, read_back, short_two, short_payload, Piece, payload_piece, text_piece, optional_text_piece, int_piece, optional_int_piece}
use Rattle.field_groups.specs.Groups.{ReadsAs}
use Rattle.field_groups.proofs.Among.{are_others, alone, before, behind}
use Rattle.field_groups.proofs.Groups.{FourRead, four_read, four_stand}
use Rattle.relation_parts.specs.declared.common.RelationCommon.{RelationCommon}
use Rattle.relation_parts.specs.declared.read.NamedTable.{NamedTable}
use Rattle.relation_parts.specs.declared.read.Read.{Read}
use Rattle.relation_parts.specs.declared.range.Range.{Range}
use Rattle.relation_parts.specs.declared.local_relation.LocalRelation.{LocalRelation}
use Rattle.relation_parts.specs.Parts.{common_of, named_table_of, read_of, range_of, local_relation_of}
use Rattle.relation_parts.specs.Spelled.{common_fields, named_table_fields, read_fields, range_fields, local_relation_fields}
use Rattle.relation_parts.specs.Depths.{read_depth}
use Rattle.relation_parts.specs.Bits.{HasCommonBits, HasReadBits, HasRangeBits, HasLocalRelationBits}
use Rattle.field_groups.proofs.Scalars.{is_1, is_2, is_3, is_4, optional_text_read, optional_bytes_piece, int64_read, optional_int32_read, optional_int64_read}
use Rattle.proto_fields.proofs.PieceLemmas.{IfSome-w64}

-- ---- what every relation has

same_common : {plan plan2 : Option ℤ} → plan ≡ plan2 → ◌≡◌ {A = RelationCommon} (record { plan_id = plan }) (record { plan_id = plan2 })
same_common plan_is = rw plan_is refl

pub common_read_back : (level : ℕ) (common : RelationCommon) → HasCommonBits common → IsShort (common_fields common) → 1 ≤ level →
    IsReadBack level kinds.RelationCommon (common_fields common) common_of common
common_read_back level common bits short some =
    let piece = optional_int_piece (level - 1) kinds.RelationCommon 2 common.plan_id is_2 bits in
    read_back level kinds.RelationCommon (common_fields common) common_of common (omega arith) piece.stands (same_common (optional_int64_back 2 common.plan_id bits))

-- ---- ranges

same_range : {start start2 : Option ℤ} {end end2 step step2 : ℤ} {partitions partitions2 : Option ℤ} → start ≡ start2 → end ≡ end2 → step ≡ step2 → partitions ≡ partitions2 →
    ◌≡◌ {A = Range} (record { start = start; end = end; step = step; num_partitions = partitions }) (record { start = start2; end = end2; step = step2; num_partitions = partitions2 })
same_range start_is end_is step_is partitions_is = rw start_is (rw end_is (rw step_is (rw partitions_is refl)))

pub range_read_back : (level : ℕ) (range : Range) → HasRangeBits range → IsShort (range_fields range) → 1 ≤ level → IsReadBack level kinds.Range (range_fields range) range_of range
range_read_back level range bits short some = read_back level kinds.Range whole range_of range (omega arith) stands same
  where
    start : List Field
    start = optional_int_fields 1 range.start

    end : List Field
    end = int_fields 2 range.end

    step : List Field
    step = int_fields 3 range.step

    partitions : List Field
    partitions = optional_int_fields 4 range.num_partitions

    whole : List Field
    whole = start ++ end ++ step ++ partitions

    start_piece : Piece (level - 1) kinds.Range 1 start
    start_piece = optional_int_piece (level - 1) kinds.Range 1 range.start is_1 bits.start

    end_piece : Piece (level - 1) kinds.Range 2 end
    end_piece = int_piece (level - 1) kinds.Range 2 range.end is_2 bits.end

    step_piece : Piece (level - 1) kinds.Range 3 step
    step_piece = int_piece (level - 1) kinds.Range 3 range.step is_3 bits.step

    partitions_piece : Piece (level - 1) kinds.Range 4 partitions
    partitions_piece = optional_int_piece (level - 1) kinds.Range 4 range.num_partitions is_4 (IfSome-w64 range.num_partitions bits.num_partitions)

    stands : Stands (level - 1) kinds.Range whole
    stands = four_stand (level - 1) kinds.Range start end step partitions start_piece.stands end_piece.stands step_piece.stands partitions_piece.stands

    reads : FourRead 1 2 3 4 start end step partitions
    reads = four_read 1 2 3 4 start end step partitions start_piece.numbered end_piece.numbered step_piece.numbered partitions_piece.numbered (omega arith) (omega arith) (omega arith)

    same : range_of whole ≡ range
    same = same_range
        (optional_int64_read 1 whole range.start reads.first bits.start)
        (int64_read 2 whole range.end reads.second bits.end)
        (int64_read 3 whole range.step reads.third bits.step)
        (optional_int32_read 4 whole range.num_partitions reads.fourth bits.num_partitions)

-- ---- rows that a message holds

same_local : {payload payload2 schema schema2 : Option (List ℕ)} → payload ≡ payload2 → schema ≡ schema2 →
    ◌≡◌ {A = LocalRelation} (record { payload = payload; schema = schema }) (record { payload = payload2; schema = schema2 })
same_local payload_is schema_is = rw payload_is (rw schema_is refl)

pub local_relation_read_back : (level : ℕ) (local : LocalRelation) → HasLocalRelationBits local → IsShort (local_relation_fields local) → 1 ≤ level →
    IsReadBack level kinds.LocalRelation (local_relation_fields local) local_relation_of local
unfolding payload_of
local_relation_read_back level local bits short some = read_back level kinds.LocalRelation (payload ++ schema) local_relation_of local (omega arith) stands same
  where
    payload : List Field
    payload = optional_payload_fields 1 local.payload

    schema : List Field
    schema = optional_payload_fields 2 local.schema

    payload_part : Piece (level - 1) kinds.LocalRelation 1 payload
    payload_part = optional_bytes_piece (level - 1) kinds.LocalRelation 1 local.payload is_1 refl (short_two payload schema short).0

    schema_part : Piece (level - 1) kinds.LocalRelation 2 schema
    schema_part = optional_text_piece (level - 1) kinds.LocalRelation 2 local.schema is_2 refl bits (short_two payload schema short).1

    stands : Stands (level - 1) kinds.LocalRelation (payload ++ schema)
    stands = two_stand (level - 1) kinds.LocalRelation payload schema payload_part.stands schema_part.stands

    payload_reads : ReadsAs 1 (payload ++ schema) payload
    payload_reads = before 1 2 payload payload schema (alone 1 payload) schema_part.numbered (omega arith)

    schema_reads : ReadsAs 2 (payload ++ schema) schema
    schema_reads = behind 2 payload schema (are_others 2 1 payload payload_part.numbered (omega arith))

    same : local_relation_of (payload ++ schema) ≡ local
    same = same_local
        (payload_reads.payload_is ∙ optional_payload_back 1 local.payload)
        (optional_text_read 2 (payload ++ schema) local.schema schema_reads bits)

-- ---- reads

same_table : {name name2 : List ℕ} → name ≡ name2 → ◌≡◌ {A = NamedTable} (record { unparsed_identifier = name }) (record { unparsed_identifier = name2 })
same_table name_is = rw name_is refl

named_table_piece : (levels : ℕ) (table : NamedTable) → IsUtf8 table.unparsed_identifier → IsShort (named_table_fields table) → Piece levels kinds.NamedTable 1 (named_table_fields table)
unfolding payload_of
named_table_piece levels table utf8 short = text_piece levels kinds.NamedTable 1 table.unparsed_identifier is_1 refl utf8 short

named_table_back : (level : ℕ) (table : NamedTable) → IsUtf8 table.unparsed_identifier → IsShort (named_table_fields table) → 1 ≤ level →
    IsReadBack level kinds.NamedTable (named_table_fields table) named_table_of table
named_table_back level table utf8 short some =
    read_back level kinds.NamedTable (named_table_fields table) named_table_of table (omega arith) (named_table_piece (level - 1) table utf8 short).stands
    (same_table (text_back 1 table.unparsed_identifier utf8))

read_by : Option (List Field) → Read
read_by fields = record { named_table = option_map named_table_of fields }

read_nothing : read_of [] ≡ record { named_table = None }
unfolding payloads
read_nothing = refl

table_back : (level : ℕ) (table : Option NamedTable) → IfSome table (λ it. IsUtf8 it.unparsed_identifier) → IsShort (read_fields (record { named_table = table })) →
    read_depth (record { named_table = table }) ≤ level → IsReadBack level kinds.Read (read_fields (record { named_table = table })) read_of (record { named_table = table })
unfolding payload_of read_by
table_back level None bits short deep =
    read_back level kinds.Read [] read_of (record { named_table = None }) (omega arith) (nothing_stands (level - 1) kinds.Read) read_nothing
table_back level (Some table) bits short deep =
    let payload = spell (named_table_fields table) in
    let few = short_payload 1 payload short in
    let back = named_table_back (level - 1) table bits few (omega arith) in
    let piece = payload_piece (level - 1) kinds.Read 1 (Message kinds.NamedTable) payload is_1 refl back.sound few in
    read_back level kinds.Read (read_fields (record { named_table = Some table })) read_of (record { named_table = Some table }) (omega arith) piece.stands
    (ap read_by (message_back 1 (named_table_fields table) (named_table_piece 0 table bits few).stands.writable)
    ∙ ap (λ (found : NamedTable). record { named_table = Some found }) (same_table (text_back 1 table.unparsed_identifier bits)))

pub read_read_back : (level : ℕ) (read : Read) → HasReadBits read → IsShort (read_fields read) → read_depth read ≤ level → IsReadBack level kinds.Read (read_fields read) read_of read
read_read_back level read bits short deep = table_back level read.named_table bits short deep
