-- That the numbers in a message have the bits of their types, and that its texts are UTF-8.
use Rattle.std.specs.Prelude.{FitsSigned, IsUtf8}
use Rattle.std.specs.Int.{w32}
use Rattle.std.specs.List.{AllByRecursion}
use Rattle.plain_relations.specs.declared.limit.Limit.{Limit}
use Rattle.plain_relations.specs.declared.limit.Offset.{Offset}
use Rattle.plain_relations.specs.declared.subquery_alias.SubqueryAlias.{SubqueryAlias}
use Rattle.plain_relations.specs.declared.to_df.ToDf.{ToDf}
use Rattle.plain_relations.specs.declared.deduplicate.Deduplicate.{Deduplicate}
use Rattle.plain_relations.specs.declared.rename_entry.RenameEntry.{RenameEntry}
use Rattle.plain_relations.specs.declared.renamed.WithColumnsRenamed.{WithColumnsRenamed}
use Rattle.plain_relations.specs.declared.set_operation.SetOperation.{SetOperation}

abbrev pub HasLimitBits : {R : Type 0} → Limit R → Type 0
HasLimitBits limit = FitsSigned w32 limit.number

abbrev pub HasOffsetBits : {R : Type 0} → Offset R → Type 0
HasOffsetBits offset = FitsSigned w32 offset.number

pub record HasSubqueryAliasBits {R : Type 0} (named : SubqueryAlias R) : Type 0 where
  pub alias : IsUtf8 named.alias
  pub qualifier : AllByRecursion IsUtf8 named.qualifier

abbrev pub HasToDfBits : {R : Type 0} → ToDf R → Type 0
HasToDfBits named = AllByRecursion IsUtf8 named.column_names

abbrev pub HasDeduplicateBits : {R : Type 0} → Deduplicate R → Type 0
HasDeduplicateBits distinct = AllByRecursion IsUtf8 distinct.column_names

pub record HasEntryBits (entry : RenameEntry) : Type 0 where
  pub key : IsUtf8 entry.key
  pub value : IsUtf8 entry.value

abbrev pub HasRenamedBits : {R : Type 0} → WithColumnsRenamed R → Type 0
HasRenamedBits renamed = AllByRecursion HasEntryBits renamed.rename_map.entries

abbrev pub HasSetOperationBits : {R : Type 0} → SetOperation R → Type 0
HasSetOperationBits operation = FitsSigned w32 operation.set_op_type
