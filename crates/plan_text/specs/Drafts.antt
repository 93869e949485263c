-- What is built of the deeds of a text: a line an action. Where a pile is empty, which no text leads to, a default stands.
use Rattle.std.specs.Prelude.{ℕ, ◌++◌, ◌==◌, Bool, true, false, min, ℤ, pos, negsuc, neg_ℤ, List, [], ◌∷◌, reverse, codes, flat_map, Option, Some, None, unwrap_or}
use Rattle.std.specs.Int.{int_min, int_max}
use Rattle.cn_types.specs.declared.value.DataType.{DataType}
use Rattle.cn_types.specs.declared.value.DataType.TheVariants as kind
use Rattle.cn_types.specs.declared.value.Value.{Value}
use Rattle.cn_types.specs.declared.value.Value.TheVariants as value
use Rattle.cn_types.specs.declared.schema.Field.{Field}
use Rattle.arrow_ipc.specs.Stream.{stream_of}
use Rattle.expression_messages.specs.declared.data_type.TypeMessage.{TypeMessage}
use Rattle.expression_messages.specs.declared.data_type.TypeMessage.TheVariants as type
use Rattle.expression_messages.specs.declared.literal.Literal.{Literal}
use Rattle.expression_messages.specs.declared.literal.Literal.TheVariants as literal
use Rattle.expression_messages.specs.declared.expression.Alias.{Alias}
use Rattle.expression_messages.specs.declared.expression.CastTarget.TheVariants as target
use Rattle.expression_messages.specs.declared.expression.Expr.{Expr}
use Rattle.expression_messages.specs.declared.expression.Expr.TheVariants as expr
use Rattle.plain_relations.specs.RenameMaps.{rename_map_of}
use Rattle.relation_members.specs.declared.member.RelationMember.{RelationMember}
use Rattle.relation_members.specs.declared.member.RelationMember.TheVariants as member
use Rattle.relation_messages.specs.declared.relation.Relation.{Relation}
use Rattle.relation_messages.specs.declared.relation.Relation.TheViews.{out-Relation, roll-Relation}
use Rattle.command_messages.specs.declared.command.Command.TheVariants as command
use Rattle.plan_messages.specs.declared.plan.Plan.{Plan}
use Rattle.plan_messages.specs.declared.plan.Plan.TheVariants as plan
use Rattle.plan_tokens.specs.declared.token.Token.{Token}
use Rattle.plan_tokens.specs.declared.token.Token.TheVariants as token
use Rattle.plan_grammar.specs.declared.symbol.Action.{Action}
use Rattle.plan_grammar.specs.declared.symbol.Action.TheVariants as action
use Rattle.plan_grammar.specs.declared.symbol.Binary.{Binary}
use Rattle.plan_grammar.specs.declared.symbol.Binary.TheVariants as binary
use Rattle.plan_grammar.specs.declared.symbol.Unary.{Unary}
use Rattle.plan_grammar.specs.declared.symbol.Unary.TheVariants as unary
use Rattle.plan_grammar.specs.declared.symbol.UnitAction.{UnitAction}
use Rattle.plan_grammar.specs.declared.symbol.UnitAction.TheVariants as unit
use Rattle.plan_grammar.specs.declared.symbol.Part.{Part}
use Rattle.plan_grammar.specs.declared.symbol.Part.TheVariants as part
use Rattle.plan_grammar.specs.declared.symbol.Choice.{Choice}
use Rattle.plan_grammar.specs.declared.symbol.Choice.TheVariants as choice
use Rattle.plan_grammar.specs.declared.symbol.StepAction.{StepAction}
use Rattle.plan_grammar.specs.declared.symbol.StepAction.TheVariants as step
use Rattle.plan_grammar.specs.declared.symbol.Use.{Use}
use Rattle.plan_grammar.specs.declared.symbol.Use.TheVariants as uses
use Rattle.plan_grammar.specs.declared.symbol.Cell.{Cell}
use Rattle.plan_grammar.specs.declared.symbol.Cell.TheVariants as cell
use Rattle.plan_grammar.specs.declared.symbol.Deed.{Deed}
use Rattle.plan_grammar.specs.declared.symbol.Deed.TheVariants as deed
use Rattle.plan_text.specs.declared.draft.Draft.{Draft}
use Rattle.plan_text.specs.declared.draft.Write.{Write}
use Rattle.plan_text.specs.Piles.{top, rest}
use Rattle.plan_text.specs.Names.{part_of, json_escaped}

abbrev pub no_draft : Draft
no_draft = record { relations = []; expressions = []; outer = []; keys = []; aliases = []; orders = []; renames = []; names = []; numbers = []; choices = []; kinds = []; columns = []; row = []; rows = []; write = None }

-- ---- expressions

-- all columns, which stands where an expression lacks
abbrev pub star : Expr
star = expr.UnresolvedStar (record { unparsed_target = None })

abbrev pub call : List ℕ → List Expr → Bool → Expr
call name arguments distinct = expr.UnresolvedFunction (record { function_name = name; arguments = arguments; is_distinct = distinct })

abbrev pub binary_name : Binary → List ℕ
binary_name binary.Or = codes "or"
binary_name binary.And = codes "and"
binary_name binary.Equal = codes "="
binary_name binary.NotEqual = codes "!="
binary_name binary.Less = codes "<"
binary_name binary.LessEqual = codes "<="
binary_name binary.Greater = codes ">"
binary_name binary.GreaterEqual = codes ">="
binary_name binary.SameOrNull = codes "<=>"
binary_name binary.Plus = codes "+"
binary_name binary.Minus = codes "-"
binary_name binary.Times = codes "*"
binary_name binary.Remainder = codes "%"
binary_name binary.Div = codes "div"

abbrev pub unary_name : Unary → List ℕ
unary_name unary.Not = codes "not"
unary_name unary.IsNull = codes "isnull"
unary_name unary.IsNotNull = codes "isnotnull"
unary_name unary.Negative = codes "negative"

-- the last two expressions are the arguments, the last one on the right
abbrev pub with_binary : List ℕ → List Expr → List Expr
with_binary name expressions = call name (top star (rest expressions) ∷ top star expressions ∷ []) false ∷ rest (rest expressions)

abbrev pub with_unary : List ℕ → List Expr → List Expr
with_unary name expressions = call name (top star expressions ∷ []) false ∷ rest expressions

abbrev pub type_of : DataType → TypeMessage
type_of kind.Boolean = type.Boolean
type_of kind.Integer = type.Integer
type_of kind.Long = type.Long
type_of kind.Text = type.String
type_of kind.Date = type.Date

abbrev pub attribute : List ℕ → Option ℤ → Expr
attribute identifier plan_id = expr.UnresolvedAttribute (record { unparsed_identifier = identifier; plan_id = plan_id })

abbrev pub alias : List ℕ → Expr → Alias Expr
alias name one = record { expr = one; name = name ∷ [] }

abbrev pub with_literal : Literal → Draft → Draft
with_literal one draft = record draft { expressions = expr.Literal one ∷ draft.expressions }

-- a call's arguments are all expressions since its mark
abbrev pub with_call : Bool → Draft → Draft
with_call distinct draft =
    record draft {
      expressions = call (top [] draft.names) (reverse draft.expressions) distinct ∷ reverse (top [] draft.outer);
      outer = rest draft.outer;
      names = rest draft.names;
    }

abbrev pub top_name : Draft → List ℕ
top_name draft = top [] draft.names

abbrev pub without_name : Draft → Draft
without_name draft = record draft { names = rest draft.names }

abbrev pub with_cast : Draft → Draft
with_cast draft =
    record draft {
      expressions = expr.Cast (record { expr = top star draft.expressions; target = target.Kind (type_of (top kind.Long draft.kinds)) }) ∷ rest draft.expressions;
      kinds = rest draft.kinds;
    }

abbrev pub with_alias : Draft → Draft
with_alias draft = record draft { expressions = expr.Alias (alias (top_name draft) (top star draft.expressions)) ∷ rest draft.expressions; names = rest draft.names }

abbrev pub with_attribute_of_plan : Draft → Draft
with_attribute_of_plan draft =
    record draft {
      expressions = attribute (part_of (top_name draft)) (Some (top (pos 0) draft.numbers)) ∷ draft.expressions;
      names = rest draft.names;
      numbers = rest draft.numbers;
    }

abbrev pub with_identifier : Draft → Draft
with_identifier draft = record draft { names = part_of (top_name draft) ∷ rest draft.names }

unfoldable pub unit_done : UnitAction → Draft → Draft
unit_done unit.True draft = with_literal (literal.Boolean true) draft
unit_done unit.False draft = with_literal (literal.Boolean false) draft
unit_done unit.Null draft = record draft { expressions = expr.Literal (literal.Null (type_of (top kind.Long draft.kinds))) ∷ draft.expressions; kinds = rest draft.kinds }
unit_done unit.Cast draft = with_cast draft
unit_done unit.Identifier draft = with_identifier draft
unit_done unit.Attribute draft = record draft { expressions = attribute (top_name draft) None ∷ draft.expressions; names = rest draft.names }
unit_done unit.AttributeOfPlan draft = with_attribute_of_plan draft
unit_done unit.Mark draft = record draft { outer = reverse draft.expressions ∷ draft.outer; expressions = [] }
unit_done unit.Call draft = with_call false draft
unit_done unit.CallDistinct draft = with_call true draft
unit_done unit.Star draft = record draft { expressions = star ∷ draft.expressions }
unit_done unit.StarOf draft = record draft { expressions = expr.UnresolvedStar (record { unparsed_target = Some (top_name draft) }) ∷ draft.expressions; names = rest draft.names }
unit_done unit.Alias draft = with_alias draft

-- ---- choices

abbrev pub chosen : Choice → List ℤ → List ℤ
chosen choice.Append choices = pos 1 ∷ choices
chosen choice.Overwrite choices = pos 2 ∷ choices
chosen choice.ErrorIfExists choices = pos 3 ∷ choices
chosen choice.Ignore choices = pos 4 ∷ choices
chosen choice.NoMode choices = pos 0 ∷ choices
chosen choice.Intersect choices = pos 1 ∷ choices
chosen choice.Union choices = pos 2 ∷ choices
chosen choice.Except choices = pos 3 ∷ choices
chosen choice.All choices = pos 1 ∷ choices
chosen choice.NotAll choices = pos 0 ∷ choices
chosen choice.Ascending choices = pos 1 ∷ choices
chosen choice.Descending choices = pos 2 ∷ choices
chosen choice.NullsFirst choices = pos 1 ∷ choices
chosen choice.NullsLast choices = pos 2 ∷ choices
-- nulls are first where the direction is ascending, and else last: the numbers are the same
chosen choice.NullsByDirection choices = top (pos 1) choices ∷ top (pos 1) choices ∷ rest choices
chosen choice.InnerJoin choices = pos 1 ∷ choices
chosen choice.FullJoin choices = pos 2 ∷ choices
chosen choice.LeftJoin choices = pos 3 ∷ choices
chosen choice.RightJoin choices = pos 4 ∷ choices
chosen choice.AntiJoin choices = pos 5 ∷ choices
chosen choice.SemiJoin choices = pos 6 ∷ choices
chosen choice.CrossJoin choices = pos 7 ∷ choices

-- ---- parts of steps

abbrev pub with_assignment : Draft → Draft
with_assignment draft =
    record draft { aliases = draft.aliases ++ alias (top_name draft) (top star draft.expressions) ∷ []; names = rest draft.names; expressions = rest draft.expressions }

abbrev pub with_order : Draft → Draft
with_order draft =
    record draft {
      orders = draft.orders ++ record { child = top star draft.expressions; direction = top (pos 1) (rest draft.choices); null_ordering = top (pos 1) draft.choices } ∷ [];
      expressions = rest draft.expressions;
      choices = rest (rest draft.choices);
    }

abbrev pub with_renaming : Draft → Draft
with_renaming draft =
    record draft { renames = draft.renames ++ record { key = top [] (rest draft.names); value = top_name draft } ∷ []; names = rest (rest draft.names) }

abbrev pub part_done : Part → Draft → Draft
part_done part.Assign draft = with_assignment draft
part_done part.Order draft = with_order draft
part_done part.Renaming draft = with_renaming draft
part_done part.GroupKeys draft = record draft { keys = reverse draft.expressions; expressions = [] }

-- ---- relations

abbrev pub relation : RelationMember Relation → Relation
relation member = roll-Relation (record { common = None; member = member })

-- no rows, which stands where a relation lacks
abbrev pub no_relation : Relation
no_relation = relation (member.Range (record { start = None; end = pos 0; step = pos 0; num_partitions = None }))

abbrev pub with_plan_id : ℤ → Relation → Relation
with_plan_id number one = roll-Relation (record { common = Some (record { plan_id = Some number }); member = (out-Relation one).member })

-- a number of a step as an integer of 32 bits, which it is
abbrev pub as_integer : ℤ → ℤ
as_integer number = int_max (negsuc 2147483647) (int_min (pos 2147483647) number)

abbrev pub is_one : ℤ → Bool
is_one (pos n) = n == 1
is_one (negsuc n) = false

abbrev pub top_relation : Draft → Relation
top_relation draft = top no_relation draft.relations

abbrev pub without_relation : Draft → Draft
without_relation draft = record draft { relations = rest draft.relations }

abbrev pub with_relation : RelationMember Relation → Draft → Draft
with_relation member draft = record draft { relations = relation member ∷ draft.relations }

-- the relation so far becomes the input of a step
abbrev pub over_input : RelationMember Relation → Draft → Draft
over_input member draft = record draft { relations = relation member ∷ rest draft.relations }

-- ---- values

abbrev pub kind_word : DataType → List ℕ
kind_word kind.Boolean = codes "boolean"
kind_word kind.Integer = codes "integer"
kind_word kind.Long = codes "long"
kind_word kind.Text = codes "string"
kind_word kind.Date = codes "date"

abbrev pub field_json : Field → List ℕ
field_json field = (((codes "{\"name\":\"" ++ json_escaped field.name) ++ codes "\",\"type\":\"") ++ kind_word field.kind) ++ codes "\",\"nullable\":true,\"metadata\":{}}"

-- 44 is `,`
abbrev pub more_fields_json : List Field → List ℕ
more_fields_json fields = flat_map (λ field. 44 ∷ field_json field) fields

abbrev pub fields_json : List Field → List ℕ
fields_json [] = []
fields_json (field ∷ fields) = field_json field ++ more_fields_json fields

abbrev pub schema_json : List Field → List ℕ
schema_json fields = (codes "{\"type\":\"struct\",\"fields\":[" ++ fields_json fields) ++ codes "]}"

-- the columns and rows that were read, as an Arrow stream and a schema's text
abbrev pub values_of : Draft → RelationMember Relation
values_of draft =
    member.LocalRelation (record {
      payload = Some (stream_of (record { 0 = draft.columns }) draft.rows);
      schema = Some (schema_json draft.columns);
    })

abbrev pub values_done : Draft → Draft
values_done draft = record draft { relations = relation (values_of draft) ∷ draft.relations; columns = []; rows = [] }

-- ---- steps

abbrev pub range_of : List ℤ → RelationMember Relation
range_of numbers =
    member.Range (record {
      start = Some (top (pos 0) (rest (rest numbers)));
      end = top (pos 0) (rest numbers);
      step = top (pos 0) numbers;
      num_partitions = None;
    })

abbrev pub range_done : Draft → Draft
range_done draft = record draft { relations = relation (range_of draft.numbers) ∷ draft.relations; numbers = rest (rest (rest draft.numbers)) }

abbrev pub read_of : List ℕ → RelationMember Relation
read_of name = member.Read (record { named_table = Some (record { unparsed_identifier = part_of name }) })

abbrev pub read_done : Draft → Draft
read_done draft = record draft { relations = relation (read_of (top_name draft)) ∷ draft.relations; names = rest draft.names }

abbrev pub filter_done : Draft → Draft
filter_done draft =
    record draft {
      relations = relation (member.Filter (record { input = top_relation draft; condition = top star draft.expressions })) ∷ rest draft.relations;
      expressions = rest draft.expressions;
    }

abbrev pub project_done : Draft → Draft
project_done draft =
    record draft {
      relations = relation (member.Project (record { input = top_relation draft; expressions = reverse draft.expressions })) ∷ rest draft.relations;
      expressions = [];
    }

abbrev pub with_columns_done : Draft → Draft
with_columns_done draft =
    record draft { relations = relation (member.WithColumns (record { input = top_relation draft; aliases = draft.aliases })) ∷ rest draft.relations; aliases = [] }

abbrev pub drop_done : Draft → Draft
drop_done draft =
    record draft {
      relations = relation (member.DropColumns (record { input = top_relation draft; columns = []; column_names = reverse draft.names })) ∷ rest draft.relations;
      names = [];
    }

abbrev pub rename_done : Draft → Draft
rename_done draft =
    record draft {
      relations = relation (member.WithColumnsRenamed (record { input = top_relation draft; rename_map = rename_map_of draft.renames })) ∷ rest draft.relations;
      renames = [];
    }

abbrev pub names_done : Draft → Draft
names_done draft =
    record draft { relations = relation (member.ToDf (record { input = top_relation draft; column_names = reverse draft.names })) ∷ rest draft.relations; names = [] }

abbrev pub alias_done : Draft → Draft
alias_done draft =
    record draft {
      relations = relation (member.SubqueryAlias (record { input = top_relation draft; alias = top_name draft; qualifier = [] })) ∷ rest draft.relations;
      names = rest draft.names;
    }

abbrev pub sort_done : Draft → Draft
sort_done draft =
    record draft { relations = relation (member.Sort (record { input = top_relation draft; order = draft.orders; is_global = None })) ∷ rest draft.relations; orders = [] }

abbrev pub limit_done : Draft → Draft
limit_done draft =
    record draft {
      relations = relation (member.Limit (record { input = top_relation draft; number = as_integer (top (pos 0) draft.numbers) })) ∷ rest draft.relations;
      numbers = rest draft.numbers;
    }

abbrev pub offset_done : Draft → Draft
offset_done draft =
    record draft {
      relations = relation (member.Offset (record { input = top_relation draft; number = as_integer (top (pos 0) draft.numbers) })) ∷ rest draft.relations;
      numbers = rest draft.numbers;
    }

abbrev pub aggregate_done : Draft → Draft
aggregate_done draft =
    record draft {
      relations = relation (member.Aggregate (record {
        input = top_relation draft;
        group_type = pos 1;
        grouping_expressions = draft.keys;
        aggregate_expressions = reverse draft.expressions;
      })) ∷ rest draft.relations;
      keys = [];
      expressions = [];
    }

-- the last two relations, the last one on the right
abbrev pub set_operation_of : Draft → RelationMember Relation
set_operation_of draft =
    member.SetOperation (record {
      left_input = top no_relation (rest draft.relations);
      right_input = top_relation draft;
      set_op_type = top (pos 2) (rest draft.choices);
      is_all = Some (is_one (top (pos 0) draft.choices));
      by_name = None;
      allow_missing_columns = None;
    })

abbrev pub set_operation_done : Draft → Draft
set_operation_done draft =
    record draft { relations = relation (set_operation_of draft) ∷ rest (rest draft.relations); choices = rest (rest draft.choices) }

abbrev pub plan_id_done : Draft → Draft
plan_id_done draft =
    record draft { relations = with_plan_id (top (pos 0) draft.numbers) (top_relation draft) ∷ rest draft.relations; numbers = rest draft.numbers }

abbrev pub with_deduplicate : List (List ℕ) → Option Bool → Draft → Draft
with_deduplicate names all draft =
    record draft { relations = relation (member.Deduplicate (record { input = top_relation draft; column_names = names; all_columns_as_keys = all })) ∷ rest draft.relations }

-- the last two relations are joined, the last one on the right
abbrev pub with_join : Option Expr → List (List ℕ) → Draft → Draft
with_join condition names draft =
    record draft {
      relations = relation (member.Join (record {
        left = top no_relation (rest draft.relations);
        right = top_relation draft;
        join_condition = condition;
        join_type = top (pos 1) draft.choices;
        using_columns = names;
      })) ∷ rest (rest draft.relations);
      choices = rest draft.choices;
    }

abbrev pub with_write : ℤ → Draft → Draft
with_write method draft =
    record draft {
      write = Some (record { table = part_of (top_name draft); method = method; mode = top (pos 0) draft.choices });
      names = rest draft.names;
      choices = rest draft.choices;
    }

abbrev pub without_names : Draft → Draft
without_names draft = record draft { names = [] }

abbrev pub without_expression : Draft → Draft
without_expression draft = record draft { expressions = rest draft.expressions }

abbrev pub step_done : StepAction → Draft → Draft
step_done step.Range draft = range_done draft
step_done step.Read draft = read_done draft
step_done step.Values draft = values_done draft
step_done step.Filter draft = filter_done draft
step_done step.Project draft = project_done draft
step_done step.WithColumns draft = with_columns_done draft
step_done step.Drop draft = drop_done draft
step_done step.Rename draft = rename_done draft
step_done step.ToDf draft = names_done draft
step_done step.SubqueryAlias draft = alias_done draft
step_done step.Sort draft = sort_done draft
step_done step.Limit draft = limit_done draft
step_done step.Offset draft = offset_done draft
step_done step.Aggregate draft = aggregate_done draft
step_done step.SetOperation draft = set_operation_done draft
step_done step.PlanId draft = plan_id_done draft
step_done step.DeduplicateOn draft = with_deduplicate (reverse draft.names) None (without_names draft)
step_done step.Deduplicate draft = with_deduplicate [] (Some true) draft
step_done step.JoinOn draft = with_join (Some (top star draft.expressions)) [] (without_expression draft)
step_done step.JoinUsing draft = with_join None (reverse draft.names) (without_names draft)
step_done step.JoinAll draft = with_join None [] draft
step_done step.Write draft = with_write (pos 1) draft
step_done step.Insert draft = with_write (pos 2) draft

abbrev pub done : Action → Draft → Draft
done (action.Binary one) draft = record draft { expressions = with_binary (binary_name one) draft.expressions }
done (action.Unary one) draft = record draft { expressions = with_unary (unary_name one) draft.expressions }
done (action.Unit one) draft = unit_done one draft
done (action.Part one) draft = part_done one draft
done (action.Choice one) draft = record draft { choices = chosen one draft.choices }
done (action.Step one) draft = step_done one draft
done (action.Kind one) draft = record draft { kinds = one ∷ draft.kinds }

-- ---- tokens

abbrev pub name_in : Token → List ℕ
name_in (token.Name name) = name
name_in (token.Word word) = codes "id"
name_in other = []

abbrev pub number_in : Token → ℕ
number_in (token.Number number) = number.value
number_in other = 0

abbrev pub text_in : Token → List ℕ
text_in (token.Quotation quotation) = quotation.text
text_in other = []

abbrev pub day_in : Token → ℤ
day_in (token.Quotation quotation) = unwrap_or quotation.day (pos 0)
day_in other = pos 0

-- numbers as they fit their types, which they do
abbrev pub long_of : ℕ → ℤ
long_of n = pos (min n 9223372036854775807)

abbrev pub negative_long_of : ℕ → ℤ
negative_long_of n = neg_ℤ (pos (min n 9223372036854775808))

abbrev pub cell_of : Cell → Token → Value
cell_of cell.Null token = value.Null
cell_of cell.Integer token = value.Integer (as_integer (long_of (number_in token)))
cell_of cell.Long token = value.Long (long_of (number_in token))
cell_of cell.NegativeInteger token = value.Integer (as_integer (negative_long_of (number_in token)))
cell_of cell.NegativeLong token = value.Long (negative_long_of (number_in token))
cell_of cell.Text token = value.Text (text_in token)
cell_of cell.True token = value.Boolean true
cell_of cell.False token = value.Boolean false
cell_of cell.Date token = value.Date (day_in token)

abbrev pub name_put : Token → Draft → Draft
name_put token draft = record draft { names = name_in token ∷ draft.names }

-- 46 is `.`
abbrev pub part_put : Token → Draft → Draft
part_put token draft = record draft { names = ((top_name draft ++ 46 ∷ []) ++ part_of (name_in token)) ∷ rest draft.names }

abbrev pub cell_put : Cell → Token → Draft → Draft
cell_put cell token draft = record draft { row = draft.row ++ cell_of cell token ∷ [] }

abbrev pub text_put : Token → Draft → Draft
text_put token draft = with_literal (literal.String (text_in token)) draft

abbrev pub number_put : ℤ → Draft → Draft
number_put number draft = record draft { numbers = number ∷ draft.numbers }

abbrev pub taken : Use → Token → Draft → Draft
taken uses.Nothing token draft = draft
taken uses.NewColumns token draft = record draft { columns = []; row = []; rows = [] }
taken uses.Name token draft = name_put token draft
taken uses.Part token draft = part_put token draft
taken uses.Integer token draft = number_put (long_of (number_in token)) draft
taken uses.NegativeInteger token draft = number_put (negative_long_of (number_in token)) draft
taken uses.Long token draft = number_put (long_of (number_in token)) draft
taken uses.NegativeLong token draft = number_put (negative_long_of (number_in token)) draft
taken uses.IntegerLiteral token draft = with_literal (literal.Integer (as_integer (long_of (number_in token)))) draft
taken uses.LongLiteral token draft = with_literal (literal.Long (long_of (number_in token))) draft
taken uses.NegativeIntegerLiteral token draft = with_literal (literal.Integer (as_integer (negative_long_of (number_in token)))) draft
taken uses.NegativeLongLiteral token draft = with_literal (literal.Long (negative_long_of (number_in token))) draft
taken uses.Text token draft = text_put token draft
taken uses.Date token draft = with_literal (literal.Date (day_in token)) draft
taken (uses.Cell cell) token draft = cell_put cell token draft

-- ---- deeds

abbrev pub built : Deed → Draft → Draft
built (deed.Take used token) draft = taken used token draft
built (deed.Act action) draft = done action draft
built (deed.Column kind) draft = record draft { columns = draft.columns ++ record { name = top [] draft.names; kind = kind; nullable = true } ∷ []; names = rest draft.names }
built deed.Row draft = record draft { rows = draft.rows ++ record { 0 = draft.row } ∷ []; row = [] }

-- all deeds in their order
abbrev pub all_built : List Deed → Draft → Draft
all_built [] draft = draft
all_built (one ∷ deeds) draft = all_built deeds (built one draft)

abbrev pub planned : Option Write → Relation → Plan
planned None root = plan.Root root
planned (Some write) root =
    plan.Command (command.WriteOperation (record { input = root; source = None; table = Some (record { table_name = write.table; save_method = write.method }); mode = write.mode }))

abbrev pub plan_of_draft : Draft → Plan
plan_of_draft draft = planned draft.write (top no_relation draft.relations)

-- the plan of a text's deeds
abbrev pub plan_of_deeds : List Deed → Plan
plan_of_deeds deeds = plan_of_draft (all_built deeds no_draft)
