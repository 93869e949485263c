-- Whatever fields are read, the numbers of a relation with expressions have the bits of their types, and its texts are UTF-8.
use Rattle.std.proofs.Common.{ℕ, List}
use Rattle.proto_fields.specs.Fields.{Field}
use Rattle.proto_fields.specs.Readings.{merged}
use Rattle.proto_fields.proofs.TextReadings.{int32_valid, texts_valid}
use Rattle.expression_messages.specs.Messages.{message_at}
use Rattle.expression_messages.specs.Expressions.{expr_at, alias_at, sort_order_at}
use Rattle.expression_messages.specs.Known.{HasExprBits, HasAliasBits, HasSortOrderBits}
use Rattle.expression_messages.proofs.Valid.{each_read, if_there, expr_valid, alias_valid, sort_order_valid}
use Rattle.expression_relations.specs.Reading.{project_of, filter_of, join_of, sort_of, aggregate_of, drop_columns_of, with_columns_of}
use Rattle.expression_relations.specs.Known.{HasProjectBits, HasFilterBits, HasJoinBits, HasSortBits, HasAggregateBits, HasDropColumnsBits, HasWithColumnsBits}

pub project_valid : {R : Type 0} (level : ℕ) (input : R) (fields : List Field) → HasProjectBits (project_of level input fields)
project_valid level input fields = each_read HasExprBits (expr_at level) (expr_valid level) 3 fields

pub filter_valid : {R : Type 0} (level : ℕ) (input : R) (fields : List Field) → HasFilterBits (filter_of level input fields)
filter_valid level input fields = expr_valid level (message_at 2 fields)

pub join_valid : {R : Type 0} (level : ℕ) (left right : R) (fields : List Field) → HasJoinBits (join_of level left right fields)
join_valid level left right fields = record {
  join_condition = if_there HasExprBits (expr_at level) (expr_valid level) (merged 3 fields);
  join_type = int32_valid 4 fields;
  using_columns = texts_valid 5 fields;
}

pub sort_valid : {R : Type 0} (level : ℕ) (input : R) (fields : List Field) → HasSortBits (sort_of level input fields)
sort_valid level input fields = each_read HasSortOrderBits (sort_order_at level) (sort_order_valid level) 2 fields

pub aggregate_valid : {R : Type 0} (level : ℕ) (input : R) (fields : List Field) → HasAggregateBits (aggregate_of level input fields)
aggregate_valid level input fields = record {
  group_type = int32_valid 2 fields;
  grouping_expressions = each_read HasExprBits (expr_at level) (expr_valid level) 3 fields;
  aggregate_expressions = each_read HasExprBits (expr_at level) (expr_valid level) 4 fields;
}

pub drop_columns_valid : {R : Type 0} (level : ℕ) (input : R) (fields : List Field) → HasDropColumnsBits (drop_columns_of level input fields)
drop_columns_valid level input fields = record {
  columns = each_read HasExprBits (expr_at level) (expr_valid level) 2 fields;
  column_names = texts_valid 3 fields;
}

pub with_columns_valid : {R : Type 0} (level : ℕ) (input : R) (fields : List Field) → HasWithColumnsBits (with_columns_of level input fields)
with_columns_valid level input fields = each_read HasAliasBits (alias_at level) (alias_valid level) 2 fields
