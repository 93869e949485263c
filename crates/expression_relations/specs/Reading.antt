-- Relations that hold expressions, read of the fields of their messages (`relations.proto`), over the inputs that are given. A level is how many
-- messages may be nested in a message of theirs, that one among them.
use Rattle.std.specs.Prelude.{ℕ, List, option_map}
use Rattle.proto_fields.specs.Fields.{Field}
use Rattle.proto_fields.specs.Readings.{int32_field, optional_bool, texts, merged}
use Rattle.expression_messages.specs.Messages.{message_at, messages_at}
use Rattle.expression_messages.specs.Expressions.{expr_at, alias_at, sort_order_at}
use Rattle.expression_relations.specs.declared.project.Project.{Project}
use Rattle.expression_relations.specs.declared.filter.Filter.{Filter}
use Rattle.expression_relations.specs.declared.join.Join.{Join}
use Rattle.expression_relations.specs.declared.sort.Sort.{Sort}
use Rattle.expression_relations.specs.declared.aggregate.Aggregate.{Aggregate}
use Rattle.expression_relations.specs.declared.drop_columns.DropColumns.{DropColumns}
use Rattle.expression_relations.specs.declared.with_columns.WithColumns.{WithColumns}

-- input 1, expressions 3
abbrev pub project_of : {R : Type 0} → ℕ → R → List Field → Project R
project_of level input fields = record { input = input; expressions = messages_at (expr_at level) 3 fields }

-- input 1, condition 2
abbrev pub filter_of : {R : Type 0} → ℕ → R → List Field → Filter R
filter_of level input fields = record { input = input; condition = expr_at level (message_at 2 fields) }

-- left 1, right 2, join_condition 3, join_type 4, using_columns 5; no condition where it is absent
abbrev pub join_of : {R : Type 0} → ℕ → R → R → List Field → Join R
join_of level left right fields = record {
  left = left;
  right = right;
  join_condition = option_map (expr_at level) (merged 3 fields);
  join_type = int32_field 4 fields;
  using_columns = texts 5 fields;
}

-- input 1, order 2, is_global 3
abbrev pub sort_of : {R : Type 0} → ℕ → R → List Field → Sort R
sort_of level input fields = record {
  input = input;
  order = messages_at (sort_order_at level) 2 fields;
  is_global = optional_bool 3 fields;
}

-- input 1, group_type 2, grouping_expressions 3, aggregate_expressions 4
abbrev pub aggregate_of : {R : Type 0} → ℕ → R → List Field → Aggregate R
aggregate_of level input fields = record {
  input = input;
  group_type = int32_field 2 fields;
  grouping_expressions = messages_at (expr_at level) 3 fields;
  aggregate_expressions = messages_at (expr_at level) 4 fields;
}

-- input 1, columns 2, column_names 3
abbrev pub drop_columns_of : {R : Type 0} → ℕ → R → List Field → DropColumns R
drop_columns_of level input fields = record {
  input = input;
  columns = messages_at (expr_at level) 2 fields;
  column_names = texts 3 fields;
}

-- input 1, aliases 2
abbrev pub with_columns_of : {R : Type 0} → ℕ → R → List Field → WithColumns R
with_columns_of level input fields = record { input = input; aliases = messages_at (alias_at level) 2 fields }
