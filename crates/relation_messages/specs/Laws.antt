-- Laws over the definitions, for all relations.
use Rattle.std.specs.Prelude.{◌≡◌, ℕ, ◌≤◌, List}
use Rattle.proto_fields.specs.declared.kind.MessageKind.TheVariants as kinds
use Rattle.proto_fields.specs.Fields.{Field, fields_of}
use Rattle.proto_fields.specs.Faults.{IsSound}
use Rattle.proto_fields.specs.Texts.{KeepsText, KeepsTexts}
use Rattle.plain_relations.specs.Plain.{subquery_alias_of, to_df_of, deduplicate_of}
use Rattle.plain_relations.specs.Maps.{entry_of}
use Rattle.expression_relations.specs.Reading.{join_of, drop_columns_of}
use Rattle.expression_messages.specs.Laws.{IsShort, IsReadBack}
use Rattle.relation_messages.specs.declared.relation.Relation.{Relation}
use Rattle.relation_messages.specs.Relations.{relation_at}
use Rattle.relation_messages.specs.Spelled.{relation_fields}
use Rattle.relation_messages.specs.Depths.{relation_depth}
use Rattle.relation_messages.specs.Known.{IsKnownRelation, HasRelationBits}

-- what a relation is spelled as is sound and read back wherever its depth is allowed
abbrev pub RelationsAreReadBack : Type 0
RelationsAreReadBack = (level : ℕ) (relation : Relation) → IsKnownRelation relation → HasRelationBits relation → IsShort (relation_fields relation) → relation_depth relation ≤ level →
    IsReadBack level kinds.Relation (relation_fields relation) (relation_at level) relation

-- what is read of a sound message is the same at every level that suffices
abbrev pub RelationLevelsAgree : Type 0
RelationLevelsAgree = (level more : ℕ) (bytes : List ℕ) → level ≤ more → IsSound level kinds.Relation bytes → relation_at more (fields_of bytes) ≡ relation_at level (fields_of bytes)

-- whatever fields are read, the numbers have the bits of their types and the texts are UTF-8, so that what was read can be written again
abbrev pub RelationsAreValid : Type 0
RelationsAreValid = (level : ℕ) (fields : List Field) → HasRelationBits (relation_at level fields)

-- every text of a sound message is read as it stands
pub record RelationTextsAreKept : Type 0 where
  pub alias : (input : Relation) → KeepsText kinds.SubqueryAlias 2 (λ fields. (subquery_alias_of input fields).alias)
  pub qualifier : (input : Relation) → KeepsTexts kinds.SubqueryAlias 3 (λ fields. (subquery_alias_of input fields).qualifier)
  pub new_names : (input : Relation) → KeepsTexts kinds.ToDf 2 (λ fields. (to_df_of input fields).column_names)
  pub keys : (input : Relation) → KeepsTexts kinds.Deduplicate 2 (λ fields. (deduplicate_of input fields).column_names)
  pub old_name : KeepsText kinds.RenameEntry 1 (λ fields. (entry_of fields).key)
  pub new_name : KeepsText kinds.RenameEntry 2 (λ fields. (entry_of fields).value)
  pub using_columns : (level : ℕ) (left right : Relation) → KeepsTexts kinds.Join 5 (λ fields. (join_of level left right fields).using_columns)
  pub dropped : (level : ℕ) (input : Relation) → KeepsTexts kinds.Drop 3 (λ fields. (drop_columns_of level input fields).column_names)
