-- One relation: its inputs from left to right, then its own rule, then the limits on its columns.
use Rattle.std.specs.Prelude.{ℕ, ℤ, pos, Bool, false, List, [], ◌∷◌, ◌++◌, Option, Some, None, Ok, codes, option_map, option_and_then, unwrap_or}
use Rattle.std.specs.Fmt.{decimal}
use Rattle.table_store.specs.declared.tables.NamedTable.{NamedTable}
use Rattle.relation_parts.specs.declared.common.RelationCommon.{RelationCommon}
use Rattle.relation_parts.specs.declared.read.Read.{Read}
use Rattle.relation_members.specs.declared.member.RelationMember.{RelationMember}
use Rattle.relation_members.specs.declared.member.RelationMember.TheVariants as V
use Rattle.resolve_names.specs.declared.error.ErrorName.TheVariants.{Unsupported}
use Rattle.resolve_names.specs.declared.scope.Tagged.{Tagged}
use Rattle.resolve_names.specs.Checks.{Checked, ◌>>=◌, refused}
use Rattle.resolve_names.specs.Refusals.{refusal}
use Rattle.resolve_relations.specs.declared.found.FoundOf.{FoundOf}
use Rattle.resolve_relations.specs.Columns.{within_limits}
use Rattle.resolve_relations.specs.Keeping.{alias_rule, deduplicate_rule, filter_rule, limit_rule, offset_rule, sort_rule}
use Rattle.resolve_relations.specs.Making.{aggregate_rule, drop_rule, project_rule, range_rule, read_rule, renamed_rule, to_df_rule, with_columns_rule}
use Rattle.resolve_joins.specs.Joins.{join_rule}
use Rattle.resolve_sets.specs.Sets.{set_rule}
use Rattle.plan_resolve.specs.Local.{local_rule}

-- the identifier of a table; without one it is empty, which is none
abbrev pub identifier_of : Read → List ℕ
identifier_of it = unwrap_or (option_map (λ table. table.unparsed_identifier) it.named_table) []

-- what isn't said is false
abbrev pub is_set : Option Bool → Bool
is_set said = unwrap_or said false

module _ {I : Type 0} (same : I → I → Bool) (exact : Bool) (tables : List NamedTable) (fresh : ℕ → I) where
  -- a member's rule, over what its left and its right input are resolved to
  unfoldable pub member_rule : {R : Type 0} → (R → Checked (FoundOf I)) → (R → Checked (FoundOf I)) → RelationMember R → Checked (FoundOf I)
  member_rule left right (V.Read it) = read_rule fresh tables (identifier_of it)
  member_rule left right (V.Project it) = left it.input >>= λ input. project_rule same exact fresh input it.expressions
  member_rule left right (V.Filter it) = left it.input >>= λ input. filter_rule same exact input it.condition
  member_rule left right (V.Join it) =
      left it.left >>= λ one. right it.right >>= λ other. join_rule same exact fresh one other it.join_type it.join_condition it.using_columns
  member_rule left right (V.SetOperation it) =
      left it.left_input >>= λ one. right it.right_input >>= λ other.
      set_rule exact fresh one other it.set_op_type (is_set it.is_all) (is_set it.by_name) (is_set it.allow_missing_columns)
  member_rule left right (V.Sort it) = left it.input >>= λ input. sort_rule same exact input it.order
  member_rule left right (V.Limit it) = left it.input >>= λ input. limit_rule input it.number
  member_rule left right (V.Aggregate it) =
      left it.input >>= λ input. aggregate_rule same exact fresh input it.group_type it.grouping_expressions it.aggregate_expressions
  member_rule left right (V.LocalRelation it) = local_rule fresh it.payload it.schema
  member_rule left right (V.Offset it) = left it.input >>= λ input. offset_rule input it.number
  member_rule left right (V.Deduplicate it) = left it.input >>= λ input. deduplicate_rule exact input (is_set it.all_columns_as_keys) it.column_names
  member_rule left right (V.Range it) = range_rule fresh (unwrap_or it.start (pos 0)) it.end it.step
  member_rule left right (V.SubqueryAlias it) = left it.input >>= λ input. Ok (alias_rule input it.alias)
  member_rule left right (V.ToDf it) = left it.input >>= λ input. to_df_rule fresh input it.column_names
  member_rule left right (V.WithColumnsRenamed it) = left it.input >>= λ input. Ok (renamed_rule exact fresh input it.rename_map.entries)
  member_rule left right (V.DropColumns it) = left it.input >>= λ input. drop_rule same exact input it.columns it.column_names
  member_rule left right (V.WithColumns it) = left it.input >>= λ input. with_columns_rule same exact fresh input it.aliases
  member_rule left right (V.Other number) = refused (refusal Unsupported (codes "relation " ++ decimal number))

-- a relation with a plan id is found by it from above
abbrev pub plan_id_of : Option RelationCommon → Option ℤ
plan_id_of common = option_and_then (λ it. it.plan_id) common

abbrev pub tagged : {I : Type 0} → FoundOf I → Option ℤ → FoundOf I
tagged found None = found
tagged found (Some plan) = record { node = found.node; columns = found.columns; relations = found.relations ++ record { plan_id = plan; columns = found.columns } ∷ [] }

-- what a rule answers, where its columns are within the limits
unfoldable pub limited : {I : Type 0} → Option RelationCommon → Checked (FoundOf I) → Checked (FoundOf I)
limited common answer = answer >>= λ found. within_limits found.columns >>= λ within. Ok (tagged found (plan_id_of common))
