-- Whatever fields are read, the numbers of a member have the bits of their types, its texts are UTF-8, and its inputs are what is read as inputs.
use Rattle.std.proofs.Common.{ℕ, ◌==◌, List}
use Rattle.std.specs.Prelude.{IfSome, if◌then◌else◌}
use Rattle.proto_fields.specs.Fields.{Field}
use Rattle.expression_messages.specs.Messages.{message_at}
use Rattle.expression_messages.proofs.Valid.{either}
use Rattle.relation_parts.specs.Parts.{read_of, range_of, local_relation_of}
use Rattle.relation_parts.proofs.PartsValid.{read_valid, range_valid, local_relation_valid}
use Rattle.plain_relations.specs.Plain.{limit_of, offset_of, subquery_alias_of, to_df_of, deduplicate_of, renamed_of, set_operation_of}
use Rattle.plain_relations.proofs.Valid.{limit_valid, offset_valid, subquery_alias_valid, to_df_valid, deduplicate_valid, renamed_valid, set_operation_valid}
use Rattle.expression_relations.specs.Reading.{project_of, filter_of, join_of, sort_of, aggregate_of, drop_columns_of, with_columns_of}
use Rattle.expression_relations.proofs.Valid.{project_valid, filter_valid, join_valid, sort_valid, aggregate_valid, drop_columns_valid, with_columns_valid}
use Rattle.relation_members.specs.declared.member.RelationMember.{RelationMember}
use Rattle.relation_members.specs.declared.member.RelationMember.TheVariants as V
use Rattle.relation_members.specs.Inputs.{first_of, second_of}
use Rattle.relation_members.specs.Members.{leaf_of, unary_of, binary_of, input_count, relation_member_of}
use Rattle.relation_members.specs.Known.{HasRestBits}

-- a member has the bits of its types, and its inputs have a property
pub record IsValid {R : Type 0} (P : R → Type 0) (member : RelationMember R) : Type 0 where
  pub rest : HasRestBits member
  pub first : IfSome (first_of member) P
  pub second : IfSome (second_of member) P

pub leaf_valid : {R : Type 0} (P : R → Type 0) (number : ℕ) (fields : List Field) → IsValid P (leaf_of number fields)
unfolding leaf_of
leaf_valid {R} P number fields =
    either (IsValid P) (number == 2) (V.Read (read_of fields)) _ (record { rest = read_valid fields; first = tt; second = tt })
    (either (IsValid P) (number == 11) (V.LocalRelation (local_relation_of fields)) _ (record { rest = local_relation_valid fields; first = tt; second = tt })
    (either (IsValid P) (number == 15) (V.Range (range_of fields)) (V.Other number) (record { rest = range_valid fields; first = tt; second = tt })
    (record { rest = tt; first = tt; second = tt })))

unary_valid : {R : Type 0} (P : R → Type 0) (level number : ℕ) (input : R) (fields : List Field) → P input → IsValid P (unary_of level number input fields)
unfolding unary_of
unary_valid {R} P level number input fields inner =
    either (IsValid P) (number == 3) (V.Project (project_of level input fields)) _ (record { rest = project_valid level input fields; first = inner; second = tt })
    (either (IsValid P) (number == 4) (V.Filter (filter_of level input fields)) _ (record { rest = filter_valid level input fields; first = inner; second = tt })
    (either (IsValid P) (number == 7) (V.Sort (sort_of level input fields)) _ (record { rest = sort_valid level input fields; first = inner; second = tt })
    (either (IsValid P) (number == 8) (V.Limit (limit_of input fields)) _ (record { rest = limit_valid input fields; first = inner; second = tt })
    (either (IsValid P) (number == 9) (V.Aggregate (aggregate_of level input fields)) _ (record { rest = aggregate_valid level input fields; first = inner; second = tt })
    (either (IsValid P) (number == 13) (V.Offset (offset_of input fields)) _ (record { rest = offset_valid input fields; first = inner; second = tt })
    (either (IsValid P) (number == 14) (V.Deduplicate (deduplicate_of input fields)) _ (record { rest = deduplicate_valid input fields; first = inner; second = tt })
    (either (IsValid P) (number == 16) (V.SubqueryAlias (subquery_alias_of input fields)) _ (record { rest = subquery_alias_valid input fields; first = inner; second = tt })
    (either (IsValid P) (number == 18) (V.ToDf (to_df_of input fields)) _ (record { rest = to_df_valid input fields; first = inner; second = tt })
    (either (IsValid P) (number == 19) (V.WithColumnsRenamed (renamed_of input fields)) _ (record { rest = renamed_valid input fields; first = inner; second = tt })
    (either (IsValid P) (number == 21) (V.DropColumns (drop_columns_of level input fields)) _ (record { rest = drop_columns_valid level input fields; first = inner; second = tt })
    (either (IsValid P) (number == 23) (V.WithColumns (with_columns_of level input fields)) (V.Other number)
    (record { rest = with_columns_valid level input fields; first = inner; second = tt })
    (record { rest = tt; first = tt; second = tt }))))))))))))

binary_valid : {R : Type 0} (P : R → Type 0) (level number : ℕ) (left right : R) (fields : List Field) → P left → P right → IsValid P (binary_of level number left right fields)
unfolding binary_of
binary_valid {R} P level number left right fields first second =
    either (IsValid P) (number == 5) (V.Join (join_of level left right fields)) _ (record { rest = join_valid level left right fields; first = first; second = second })
    (either (IsValid P) (number == 6) (V.SetOperation (set_operation_of left right fields)) (V.Other number)
    (record { rest = set_operation_valid left right fields; first = first; second = second })
    (record { rest = tt; first = tt; second = tt }))

pub member_valid : {R : Type 0} (P : R → Type 0) (inner : List Field → R) → ((fields : List Field) → P (inner fields)) → (level number : ℕ) (fields : List Field) →
    IsValid P (relation_member_of inner level number fields)
unfolding relation_member_of
member_valid {R} P inner each level number fields =
    either (IsValid P) (input_count number == 2) (binary_of level number (inner (message_at 1 fields)) (inner (message_at 2 fields)) fields) _
    (binary_valid P level number (inner (message_at 1 fields)) (inner (message_at 2 fields)) fields (each (message_at 1 fields)) (each (message_at 2 fields)))
    (either (IsValid P) (input_count number == 1) (unary_of level number (inner (message_at 1 fields)) fields) (leaf_of number fields)
    (unary_valid P level number (inner (message_at 1 fields)) fields (each (message_at 1 fields)))
    (leaf_valid P number fields))
