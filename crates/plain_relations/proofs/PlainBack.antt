-- What messages over other relations are spelled as is read as they are, behind the fields of their inputs.
use Rattle.std.proofs.Common.{◌≡◌, ℕ, ℤ, ◌-◌, ◌≤◌, Bool, List, [], ◌∷◌, ◌++◌, map, Option, refl, ap, ◌∙◌, arith}
use Rattle.std.specs.List.{AllByRecursion}
use Rattle.proto_fields.specs.declared.kind.MessageKind.TheVariants as kinds
use Rattle.proto_fields.specs.declared.kind.PayloadKind.TheVariants.{Text}
use Rattle.proto_fields.specs.Fields.{Field, fields_of}
use Rattle.proto_fields.specs.Kinds.{payload_of}
use Rattle.proto_fields.specs.Spelling.{spell, payload_fields, int_fields, optional_bool_fields, text_fields}
use Rattle.expression_messages.specs.Messages.{repeated_fields}
use Rattle.expression_messages.specs.Laws.{IsShort, IsReadBack}
use Rattle.expression_messages.proofs.Pieces.{Stands, two_stand, read_back, short_two, short_payload, short_repeated, short_messages, Piece, payload_piece, text_piece, texts_piece, int_piece, wider, payloads_repeated, ItemBack, messages_piece, messages_read}
use Rattle.field_groups.specs.Groups.{ReadsAs}
use Rattle.field_groups.proofs.Among.{are_others, alone, before, behind}
use Rattle.field_groups.proofs.Rests.{RestBack, one_rest, two_rest, four_rest}
use Rattle.plain_relations.specs.declared.limit.Limit.{Limit}
use Rattle.plain_relations.specs.declared.limit.Offset.{Offset}
use Rattle.plain_relations.specs.declared.subquery_alias.SubqueryAlias.{SubqueryAlias}
use Rattle.plain_relations.specs.declared.to_df.ToDf.{ToDf}
use Rattle.plain_relations.specs.declared.deduplicate.Deduplicate.{Deduplicate}
use Rattle.plain_relations.specs.declared.rename_entry.RenameEntry.{RenameEntry}
use Rattle.plain_relations.specs.declared.renamed.WithColumnsRenamed.{WithColumnsRenamed}
use Rattle.plain_relations.specs.declared.set_operation.SetOperation.{SetOperation}
use Rattle.plain_relations.specs.declared.rename_map.RenameMap.{RenameMap}
use Rattle.plain_relations.specs.Maps.{entry_of, map_of}
use Rattle.plain_relations.specs.RenameMaps.{map_in}
use Rattle.plain_relations.proofs.SameMaps.{same_rename_map}
use Rattle.plain_relations.specs.Plain.{limit_of, offset_of, subquery_alias_of, to_df_of, deduplicate_of, renamed_of, set_operation_of}
use Rattle.plain_relations.specs.Spelled.{limit_rest, offset_rest, subquery_alias_rest, to_df_rest, deduplicate_rest, entry_fields, renamed_rest, set_operation_rest}
use Rattle.plain_relations.specs.Bits.{HasLimitBits, HasOffsetBits, HasSubqueryAliasBits, HasToDfBits, HasDeduplicateBits, HasEntryBits, HasRenamedBits, HasSetOperationBits}
use Rattle.plain_relations.specs.Depths.{entries_depth, renamed_depth}
use Rattle.plain_relations.proofs.Merging.{rising_same}
use Rattle.field_groups.proofs.Scalars.{is_1, is_2, is_3, is_4, is_5, is_6, int32_read, text_read, payload_read, texts_read, optional_bool_piece, optional_bool_read}

-- ---- limits and offsets

same_limit : {R : Type 0} {input : R} {number number2 : ℤ} → number ≡ number2 →
    ◌≡◌ {A = Limit R} (record { input = input; number = number }) (record { input = input; number = number2 })
same_limit number_is = rw number_is refl

pub limit_back : {R : Type 0} (level : ℕ) (it : Limit R) → HasLimitBits it → IsShort (limit_rest it) → RestBack level 1 kinds.Limit (limit_rest it) (limit_of it.input) it
limit_back level it bits short =
    one_rest level 1 2 kinds.Limit (limit_rest it) (limit_of it.input) it (int_piece level kinds.Limit 2 it.number is_2 (wider it.number bits)) (omega arith)
    (λ whole reads. same_limit (int32_read 2 whole it.number reads bits))

same_offset : {R : Type 0} {input : R} {number number2 : ℤ} → number ≡ number2 →
    ◌≡◌ {A = Offset R} (record { input = input; number = number }) (record { input = input; number = number2 })
same_offset number_is = rw number_is refl

pub offset_back : {R : Type 0} (level : ℕ) (it : Offset R) → HasOffsetBits it → IsShort (offset_rest it) → RestBack level 1 kinds.Offset (offset_rest it) (offset_of it.input) it
offset_back level it bits short =
    one_rest level 1 2 kinds.Offset (offset_rest it) (offset_of it.input) it (int_piece level kinds.Offset 2 it.number is_2 (wider it.number bits)) (omega arith)
    (λ whole reads. same_offset (int32_read 2 whole it.number reads bits))

-- ---- names

same_alias : {R : Type 0} {input : R} {alias alias2 : List ℕ} {qualifier qualifier2 : List (List ℕ)} → alias ≡ alias2 → qualifier ≡ qualifier2 →
    ◌≡◌ {A = SubqueryAlias R} (record { input = input; alias = alias; qualifier = qualifier }) (record { input = input; alias = alias2; qualifier = qualifier2 })
same_alias alias_is qualifier_is = rw alias_is (rw qualifier_is refl)

pub subquery_alias_back : {R : Type 0} (level : ℕ) (it : SubqueryAlias R) → HasSubqueryAliasBits it → IsShort (subquery_alias_rest it) →
    RestBack level 1 kinds.SubqueryAlias (subquery_alias_rest it) (subquery_alias_of it.input) it
unfolding payload_of
subquery_alias_back {R} level it bits short =
    two_rest level 1 2 3 kinds.SubqueryAlias alias qualifier (subquery_alias_of it.input) it alias_piece qualifier_piece (omega arith) (omega arith)
    (λ whole alias_reads qualifier_reads. same_alias (text_read 2 whole it.alias alias_reads bits.alias) (texts_read 3 whole it.qualifier qualifier_reads bits.qualifier))
  where
    alias : List Field
    alias = text_fields 2 it.alias

    qualifier : List Field
    qualifier = repeated_fields 3 it.qualifier

    shorts : IsShort alias × IsShort qualifier
    shorts = short_two alias qualifier short

    alias_piece : Piece level kinds.SubqueryAlias 2 alias
    alias_piece = text_piece level kinds.SubqueryAlias 2 it.alias is_2 refl bits.alias shorts.0

    qualifier_piece : Piece level kinds.SubqueryAlias 3 qualifier
    qualifier_piece = texts_piece level kinds.SubqueryAlias 3 it.qualifier is_3 refl bits.qualifier (short_repeated 3 it.qualifier shorts.1)

same_names : {R : Type 0} {input : R} {names names2 : List (List ℕ)} → names ≡ names2 →
    ◌≡◌ {A = ToDf R} (record { input = input; column_names = names }) (record { input = input; column_names = names2 })
same_names names_are = rw names_are refl

pub to_df_back : {R : Type 0} (level : ℕ) (it : ToDf R) → HasToDfBits it → IsShort (to_df_rest it) → RestBack level 1 kinds.ToDf (to_df_rest it) (to_df_of it.input) it
unfolding payload_of
to_df_back level it bits short =
    one_rest level 1 2 kinds.ToDf (to_df_rest it) (to_df_of it.input) it
    (texts_piece level kinds.ToDf 2 it.column_names is_2 refl bits (short_repeated 2 it.column_names short)) (omega arith)
    (λ whole reads. same_names (texts_read 2 whole it.column_names reads bits))

same_keys : {R : Type 0} {input : R} {names names2 : List (List ℕ)} {all all2 : Option Bool} → names ≡ names2 → all ≡ all2 →
    ◌≡◌ {A = Deduplicate R} (record { input = input; column_names = names; all_columns_as_keys = all }) (record { input = input; column_names = names2; all_columns_as_keys = all2 })
same_keys names_are all_is = rw names_are (rw all_is refl)

pub deduplicate_back : {R : Type 0} (level : ℕ) (it : Deduplicate R) → HasDeduplicateBits it → IsShort (deduplicate_rest it) →
    RestBack level 1 kinds.Deduplicate (deduplicate_rest it) (deduplicate_of it.input) it
unfolding payload_of
deduplicate_back {R} level it bits short =
    two_rest level 1 2 3 kinds.Deduplicate names all (deduplicate_of it.input) it names_piece all_piece (omega arith) (omega arith)
    (λ whole names_reads all_reads. same_keys (texts_read 2 whole it.column_names names_reads bits) (optional_bool_read 3 whole it.all_columns_as_keys all_reads))
  where
    names : List Field
    names = repeated_fields 2 it.column_names

    all : List Field
    all = optional_bool_fields 3 it.all_columns_as_keys

    shorts : IsShort names × IsShort all
    shorts = short_two names all short

    names_piece : Piece level kinds.Deduplicate 2 names
    names_piece = texts_piece level kinds.Deduplicate 2 it.column_names is_2 refl bits (short_repeated 2 it.column_names shorts.0)

    all_piece : Piece level kinds.Deduplicate 3 all
    all_piece = optional_bool_piece level kinds.Deduplicate 3 it.all_columns_as_keys is_3

-- ---- new names

same_entry : {key key2 value value2 : List ℕ} → key ≡ key2 → value ≡ value2 →
    ◌≡◌ {A = RenameEntry} (record { key = key; value = value }) (record { key = key2; value = value2 })
same_entry key_is value_is = rw key_is (rw value_is refl)

entry_back : (level : ℕ) (entry : RenameEntry) → HasEntryBits entry → IsShort (entry_fields entry) → 1 ≤ level → IsReadBack level kinds.RenameEntry (entry_fields entry) entry_of entry
unfolding payload_of
entry_back level entry bits short some = read_back level kinds.RenameEntry (key ++ value) entry_of entry (omega arith) stands same
  where
    key : List Field
    key = payload_fields 1 entry.key

    value : List Field
    value = payload_fields 2 entry.value

    shorts : IsShort key × IsShort value
    shorts = short_two key value short

    key_piece : Piece (level - 1) kinds.RenameEntry 1 key
    key_piece = payload_piece (level - 1) kinds.RenameEntry 1 Text entry.key is_1 refl bits.key (short_payload 1 entry.key shorts.0)

    value_piece : Piece (level - 1) kinds.RenameEntry 2 value
    value_piece = payload_piece (level - 1) kinds.RenameEntry 2 Text entry.value is_2 refl bits.value (short_payload 2 entry.value shorts.1)

    stands : Stands (level - 1) kinds.RenameEntry (key ++ value)
    stands = two_stand (level - 1) kinds.RenameEntry key value key_piece.stands value_piece.stands

    same : entry_of (key ++ value) ≡ entry
    same = same_entry
        (payload_read 1 (key ++ value) entry.key (before 1 2 key key value (alone 1 key) value_piece.numbered (omega arith)) bits.key)
        (payload_read 2 (key ++ value) entry.value (behind 2 key value (are_others 2 1 key key_piece.numbered (omega arith))) bits.value)

items_back : (level : ℕ) (entries : List RenameEntry) → AllByRecursion HasEntryBits entries → AllByRecursion (λ entry. IsShort (entry_fields entry)) entries → 1 ≤ level →
    AllByRecursion (ItemBack level kinds.RenameEntry entry_fields entry_of) entries
items_back level [] bits short some = tt
items_back level (entry ∷ entries) bits short some =
    let here : ItemBack level kinds.RenameEntry entry_fields entry_of entry = record { back = entry_back level entry bits.0 short.0 some; short = short.0 } in
    (here, items_back level entries bits.1 short.1 some)

-- entries that are none need no level
items_by_depth : (level : ℕ) (entries : List RenameEntry) → AllByRecursion HasEntryBits entries → AllByRecursion (λ entry. IsShort (entry_fields entry)) entries → entries_depth entries ≤ level →
    AllByRecursion (ItemBack level kinds.RenameEntry entry_fields entry_of) entries
items_by_depth level [] bits short deep = tt
items_by_depth level (entry ∷ entries) bits short deep = items_back level (entry ∷ entries) bits short (omega arith)

same_renamed : {R : Type 0} {input : R} {entries entries2 : RenameMap} → entries ≡ entries2 →
    ◌≡◌ {A = WithColumnsRenamed R} (record { input = input; rename_map = entries }) (record { input = input; rename_map = entries2 })
same_renamed entries_are = rw entries_are refl

pub renamed_back : {R : Type 0} (level : ℕ) (it : WithColumnsRenamed R) → HasRenamedBits it → IsShort (renamed_rest it) → renamed_depth it ≤ level →
    RestBack level 1 kinds.WithColumnsRenamed (renamed_rest it) (renamed_of it.input) it
unfolding payload_of
renamed_back {R} level it bits short deep =
    one_rest level 1 2 kinds.WithColumnsRenamed rest (renamed_of it.input) it piece (omega arith) (λ whole reads. same_renamed (same whole reads))
  where
    entries : List RenameEntry
    entries = it.rename_map.entries

    rest : List Field
    rest = renamed_rest it

    items : AllByRecursion (ItemBack level kinds.RenameEntry entry_fields entry_of) entries
    items = items_by_depth level entries bits (short_messages entry_fields 2 entries short) deep

    piece : Piece level kinds.WithColumnsRenamed 2 rest
    piece = messages_piece level kinds.WithColumnsRenamed kinds.RenameEntry 2 entry_fields entry_of entries is_2 refl items

    same : (whole : List Field) → ReadsAs 2 whole rest → map_in whole ≡ it.rename_map
    same whole reads =
        same_rename_map (map_in whole) it.rename_map
        (ap (λ (ps : List (List ℕ)). map_of (map (λ payload. entry_of (fields_of payload)) ps)) (reads.payloads_are ∙ payloads_repeated 2 (map (λ entry. spell (entry_fields entry)) entries))
        ∙ ap map_of (messages_read level kinds.RenameEntry entry_fields entry_of entries items)
        ∙ rising_same entries it.rename_map.rising)

-- ---- set operations

same_operation : {R : Type 0} {left right : R} {kind kind2 : ℤ} {all all2 by_name by_name2 missing missing2 : Option Bool} →
    kind ≡ kind2 → all ≡ all2 → by_name ≡ by_name2 → missing ≡ missing2 →
    ◌≡◌ {A = SetOperation R} (record { left_input = left; right_input = right; set_op_type = kind; is_all = all; by_name = by_name; allow_missing_columns = missing })
    (record { left_input = left; right_input = right; set_op_type = kind2; is_all = all2; by_name = by_name2; allow_missing_columns = missing2 })
same_operation kind_is all_is name_is missing_is = rw kind_is (rw all_is (rw name_is (rw missing_is refl)))

pub set_operation_back : {R : Type 0} (level : ℕ) (it : SetOperation R) → HasSetOperationBits it → IsShort (set_operation_rest it) →
    RestBack level 2 kinds.SetOperation (set_operation_rest it) (set_operation_of it.left_input it.right_input) it
set_operation_back {R} level it bits short =
    four_rest level 2 3 4 5 6 kinds.SetOperation kind all by_name missing (set_operation_of it.left_input it.right_input) it
    kind_piece all_piece name_piece missing_piece (omega arith) (omega arith) (omega arith) (omega arith) same
  where
    kind : List Field
    kind = int_fields 3 it.set_op_type

    all : List Field
    all = optional_bool_fields 4 it.is_all

    by_name : List Field
    by_name = optional_bool_fields 5 it.by_name

    missing : List Field
    missing = optional_bool_fields 6 it.allow_missing_columns

    kind_piece : Piece level kinds.SetOperation 3 kind
    kind_piece = int_piece level kinds.SetOperation 3 it.set_op_type is_3 (wider it.set_op_type bits)

    all_piece : Piece level kinds.SetOperation 4 all
    all_piece = optional_bool_piece level kinds.SetOperation 4 it.is_all is_4

    name_piece : Piece level kinds.SetOperation 5 by_name
    name_piece = optional_bool_piece level kinds.SetOperation 5 it.by_name is_5

    missing_piece : Piece level kinds.SetOperation 6 missing
    missing_piece = optional_bool_piece level kinds.SetOperation 6 it.allow_missing_columns is_6

    same : (whole : List Field) → ReadsAs 3 whole kind → ReadsAs 4 whole all → ReadsAs 5 whole by_name → ReadsAs 6 whole missing → set_operation_of it.left_input it.right_input whole ≡ it
    same whole kind_reads all_reads name_reads missing_reads = same_operation
        (int32_read 3 whole it.set_op_type kind_reads bits)
        (optional_bool_read 4 whole it.is_all all_reads)
        (optional_bool_read 5 whole it.by_name name_reads)
        (optional_bool_read 6 whole it.allow_missing_columns missing_reads)
