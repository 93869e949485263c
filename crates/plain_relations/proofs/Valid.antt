-- Whatever fields are read, the numbers of a relation without expressions have the bits of their types, and its texts are UTF-8.
use Rattle.std.proofs.Common.{◌≡◌, ℕ, List, [], ◌∷◌, refl}
use Rattle.std.specs.List.{AllByRecursion}
use Rattle.std.specs.Ordering.{nat_cmp, is_lt, is_eq}
use Rattle.std.specs.Cmp.Lexicographic.{slice_cmp}
use Rattle.std.specs.Prelude.{if◌then◌else◌}
use Rattle.proto_fields.specs.Fields.{Field}
use Rattle.proto_fields.proofs.TextReadings.{int32_valid, text_valid, texts_valid}
use Rattle.expression_messages.specs.Messages.{messages_at}
use Rattle.expression_messages.proofs.Valid.{either, each_read}
use Rattle.plain_relations.specs.declared.rename_entry.RenameEntry.{RenameEntry}
use Rattle.plain_relations.specs.Maps.{entry_of, put_before, map_of}
use Rattle.plain_relations.specs.Plain.{limit_of, offset_of, subquery_alias_of, to_df_of, deduplicate_of, renamed_of, set_operation_of}
use Rattle.plain_relations.specs.Bits.{HasLimitBits, HasOffsetBits, HasSubqueryAliasBits, HasToDfBits, HasDeduplicateBits, HasEntryBits, HasRenamedBits, HasSetOperationBits}

-- ---- maps

abbrev AreEntries : List RenameEntry → Type 0
AreEntries = AllByRecursion HasEntryBits

put_valid : (entry : RenameEntry) (map : List RenameEntry) → HasEntryBits entry → AreEntries map → AreEntries (put_before entry map)
unfolding put_before
put_valid entry [] here all = (here, tt)
put_valid entry (next ∷ others) here all =
    either AreEntries (is_lt (slice_cmp nat_cmp entry.key next.key)) (entry ∷ next ∷ others) _ (here, all)
    (either AreEntries (is_eq (slice_cmp nat_cmp entry.key next.key)) (next ∷ others) (next ∷ put_before entry others) all (all.0, put_valid entry others here all.1))

map_valid : (entries : List RenameEntry) → AreEntries entries → AreEntries (map_of entries)
unfolding map_of
map_valid [] all = tt
map_valid (entry ∷ later) all = put_valid entry (map_of later) all.0 (map_valid later all.1)

entry_valid : (fields : List Field) → HasEntryBits (entry_of fields)
entry_valid fields = record { key = text_valid 1 fields; value = text_valid 2 fields }

pub renamed_valid : {R : Type 0} (input : R) (fields : List Field) → HasRenamedBits (renamed_of input fields)
renamed_valid input fields = map_valid (messages_at entry_of 2 fields) (each_read HasEntryBits entry_of entry_valid 2 fields)

-- ---- the others

pub limit_valid : {R : Type 0} (input : R) (fields : List Field) → HasLimitBits (limit_of input fields)
limit_valid input fields = int32_valid 2 fields

pub offset_valid : {R : Type 0} (input : R) (fields : List Field) → HasOffsetBits (offset_of input fields)
offset_valid input fields = int32_valid 2 fields

pub subquery_alias_valid : {R : Type 0} (input : R) (fields : List Field) → HasSubqueryAliasBits (subquery_alias_of input fields)
subquery_alias_valid input fields = record { alias = text_valid 2 fields; qualifier = texts_valid 3 fields }

pub to_df_valid : {R : Type 0} (input : R) (fields : List Field) → HasToDfBits (to_df_of input fields)
to_df_valid input fields = texts_valid 2 fields

pub deduplicate_valid : {R : Type 0} (input : R) (fields : List Field) → HasDeduplicateBits (deduplicate_of input fields)
deduplicate_valid input fields = texts_valid 2 fields

pub set_operation_valid : {R : Type 0} (left right : R) (fields : List Field) → HasSetOperationBits (set_operation_of left right fields)
set_operation_valid left right fields = int32_valid 3 fields
