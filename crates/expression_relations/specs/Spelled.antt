-- The fields of the same messages besides their inputs, in one spelling: by ascending number, a scalar left out at its default, a present optional
-- and a message that is present written.
use Rattle.std.specs.Prelude.{List, ◌++◌, option_map}
use Rattle.proto_fields.specs.Fields.{Field}
use Rattle.proto_fields.specs.Spelling.{spell, payload_fields, int_fields, optional_bool_fields, optional_payload_fields}
use Rattle.expression_messages.specs.Messages.{repeated_fields, messages_fields}
use Rattle.expression_messages.specs.Spelled.{expr_fields, alias_fields, sort_order_fields}
use Rattle.expression_relations.specs.declared.project.Project.{Project}
use Rattle.expression_relations.specs.declared.filter.Filter.{Filter}
use Rattle.expression_relations.specs.declared.join.Join.{Join}
use Rattle.expression_relations.specs.declared.sort.Sort.{Sort}
use Rattle.expression_relations.specs.declared.aggregate.Aggregate.{Aggregate}
use Rattle.expression_relations.specs.declared.drop_columns.DropColumns.{DropColumns}
use Rattle.expression_relations.specs.declared.with_columns.WithColumns.{WithColumns}

-- expressions 3
abbrev pub project_rest : {R : Type 0} → Project R → List Field
project_rest project = messages_fields expr_fields 3 project.expressions

-- condition 2
abbrev pub filter_rest : {R : Type 0} → Filter R → List Field
filter_rest filter = payload_fields 2 (spell (expr_fields filter.condition))

-- join_condition 3, join_type 4, using_columns 5
abbrev pub join_rest : {R : Type 0} → Join R → List Field
join_rest join =
    optional_payload_fields 3 (option_map (λ condition. spell (expr_fields condition)) join.join_condition) ++ int_fields 4 join.join_type
    ++ repeated_fields 5 join.using_columns

-- order 2, is_global 3
abbrev pub sort_rest : {R : Type 0} → Sort R → List Field
sort_rest sort = messages_fields sort_order_fields 2 sort.order ++ optional_bool_fields 3 sort.is_global

-- group_type 2, grouping_expressions 3, aggregate_expressions 4
abbrev pub aggregate_rest : {R : Type 0} → Aggregate R → List Field
aggregate_rest aggregate =
    int_fields 2 aggregate.group_type ++ messages_fields expr_fields 3 aggregate.grouping_expressions
    ++ messages_fields expr_fields 4 aggregate.aggregate_expressions

-- columns 2, column_names 3
abbrev pub drop_columns_rest : {R : Type 0} → DropColumns R → List Field
drop_columns_rest drop = messages_fields expr_fields 2 drop.columns ++ repeated_fields 3 drop.column_names

-- aliases 2
abbrev pub with_columns_rest : {R : Type 0} → WithColumns R → List Field
with_columns_rest with = messages_fields alias_fields 2 with.aliases
