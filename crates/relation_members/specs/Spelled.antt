-- A member as fields: its inputs as the fields 1 and 2 of its message, and then the rest.
use Rattle.std.specs.Prelude.{ℕ, List, [], ◌++◌, Option, option_map, unwrap_or}
use Rattle.proto_fields.specs.Fields.{Field}
use Rattle.proto_fields.specs.Spelling.{spell, payload_fields, optional_payload_fields}
use Rattle.relation_parts.specs.Spelled.{read_fields, range_fields, local_relation_fields}
use Rattle.plain_relations.specs.Spelled.{limit_rest, offset_rest, subquery_alias_rest, to_df_rest, deduplicate_rest, renamed_rest, set_operation_rest}
use Rattle.expression_relations.specs.Spelled.{project_rest, filter_rest, join_rest, sort_rest, aggregate_rest, drop_columns_rest, with_columns_rest}
use Rattle.relation_members.specs.declared.member.RelationMember.{RelationMember}
use Rattle.relation_members.specs.declared.member.RelationMember.TheVariants as V
use Rattle.relation_members.specs.Inputs.{member_number_of, first_of, second_of}

-- the fields of a member's message besides its inputs
abbrev pub rest_fields : {R : Type 0} → RelationMember R → List Field
rest_fields (V.Read it) = read_fields it
rest_fields (V.Project it) = project_rest it
rest_fields (V.Filter it) = filter_rest it
rest_fields (V.Join it) = join_rest it
rest_fields (V.SetOperation it) = set_operation_rest it
rest_fields (V.Sort it) = sort_rest it
rest_fields (V.Limit it) = limit_rest it
rest_fields (V.Aggregate it) = aggregate_rest it
rest_fields (V.LocalRelation it) = local_relation_fields it
rest_fields (V.Offset it) = offset_rest it
rest_fields (V.Deduplicate it) = deduplicate_rest it
rest_fields (V.Range it) = range_fields it
rest_fields (V.SubqueryAlias it) = subquery_alias_rest it
rest_fields (V.ToDf it) = to_df_rest it
rest_fields (V.WithColumnsRenamed it) = renamed_rest it
rest_fields (V.DropColumns it) = drop_columns_rest it
rest_fields (V.WithColumns it) = with_columns_rest it
rest_fields (V.Other number) = []

-- an input, where a relation is spelled so
abbrev pub input_fields : {R : Type 0} → (R → List Field) → ℕ → Option R → List Field
input_fields inner number input = optional_payload_fields number (option_map (λ present. spell (inner present)) input)

-- the fields of a member's message
abbrev pub message_fields : {R : Type 0} → (R → List Field) → RelationMember R → List Field
message_fields inner member = input_fields inner 1 (first_of member) ++ input_fields inner 2 (second_of member) ++ rest_fields member

-- the field that a member is; none where it is outside the profile
abbrev pub member_fields : {R : Type 0} → (R → List Field) → RelationMember R → List Field
member_fields inner member = unwrap_or (option_map (λ number. payload_fields number (spell (message_fields inner member))) (member_number_of member)) []
