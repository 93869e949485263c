-- The member of a relation's oneof by its number, read of the fields of its message (`relations.proto`, Relation).
use Rattle.std.specs.Prelude.{ℕ, ◌==◌, ◌||◌, if◌then◌else◌, List}
use Rattle.proto_fields.specs.Fields.{Field}
use Rattle.proto_fields.specs.Readings.{Member}
use Rattle.expression_messages.specs.Messages.{message_at}
use Rattle.relation_parts.specs.Parts.{read_of, range_of, local_relation_of}
use Rattle.plain_relations.specs.Plain.{limit_of, offset_of, subquery_alias_of, to_df_of, deduplicate_of, renamed_of, set_operation_of}
use Rattle.expression_relations.specs.Reading.{project_of, filter_of, join_of, sort_of, aggregate_of, drop_columns_of, with_columns_of}
use Rattle.relation_members.specs.declared.member.RelationMember.{RelationMember}
use Rattle.relation_members.specs.declared.member.RelationMember.TheVariants as V

-- without an input: read 2, local_relation 11, range 15; another member stands for itself
unfoldable pub leaf_of : {R : Type 0} → ℕ → List Field → RelationMember R
leaf_of number fields =
    if number == 2 then V.Read (read_of fields)
    else if number == 11 then V.LocalRelation (local_relation_of fields)
    else if number == 15 then V.Range (range_of fields)
    else V.Other number

-- over one input: project 3, filter 4, sort 7, limit 8, aggregate 9, offset 13, deduplicate 14, subquery_alias 16, to_df 18,
-- with_columns_renamed 19, drop 21, with_columns 23; another member stands for itself. A level is how many messages may be nested in an expression, itself among them.
unfoldable pub unary_of : {R : Type 0} → ℕ → ℕ → R → List Field → RelationMember R
unary_of level number input fields =
    if number == 3 then V.Project (project_of level input fields)
    else if number == 4 then V.Filter (filter_of level input fields)
    else if number == 7 then V.Sort (sort_of level input fields)
    else if number == 8 then V.Limit (limit_of input fields)
    else if number == 9 then V.Aggregate (aggregate_of level input fields)
    else if number == 13 then V.Offset (offset_of input fields)
    else if number == 14 then V.Deduplicate (deduplicate_of input fields)
    else if number == 16 then V.SubqueryAlias (subquery_alias_of input fields)
    else if number == 18 then V.ToDf (to_df_of input fields)
    else if number == 19 then V.WithColumnsRenamed (renamed_of input fields)
    else if number == 21 then V.DropColumns (drop_columns_of level input fields)
    else if number == 23 then V.WithColumns (with_columns_of level input fields)
    else V.Other number

-- over two inputs: join 5, set_op 6; another member stands for itself
unfoldable pub binary_of : {R : Type 0} → ℕ → ℕ → R → R → List Field → RelationMember R
binary_of level number first second fields =
    if number == 5 then V.Join (join_of level first second fields)
    else if number == 6 then V.SetOperation (set_operation_of first second fields)
    else V.Other number

-- how many inputs a member of this number has
unfoldable pub input_count : ℕ → ℕ
input_count number =
    if number == 5 || number == 6 then 2
    else if number == 3 || number == 4 || number == 7 || number == 8 || number == 9 || number == 13 || number == 14 || number == 16
    || number == 18 || number == 19 || number == 21 || number == 23 then 1
    else 0

-- a member with these fields, where the relations in it are read so: an input is the field 1, and of two the second is the field 2
unfoldable pub relation_member_of : {R : Type 0} → (List Field → R) → ℕ → ℕ → List Field → RelationMember R
relation_member_of inner level number fields =
    if input_count number == 2 then binary_of level number (inner (message_at 1 fields)) (inner (message_at 2 fields)) fields
    else if input_count number == 1 then unary_of level number (inner (message_at 1 fields)) fields
    else leaf_of number fields

-- the member that was set last
abbrev pub member_at : {R : Type 0} → (List Field → R) → ℕ → Member → RelationMember R
member_at inner level member = relation_member_of inner level member.number (message_at member.number member.since)
