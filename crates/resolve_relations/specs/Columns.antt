-- The columns of a relation, its limits, and what a rule makes of its input.
use Rattle.std.specs.Prelude.{ℕ, suc, ◌+◌, nat_lt, Bool, List, [], ◌∷◌, map, length, find, slice_get, Option, Some, None, Ok, option_and_then}
use Rattle.std.specs.Fmt.{decimal}
use Rattle.cn_types.specs.declared.value.DataType.{DataType}
use Rattle.plan_model.specs.declared.expression.TypedExpr.{TypedExpr}
use Rattle.plan_model.specs.declared.node.Node.{Node}
use Rattle.plan_model.specs.declared.node.Node.TheVariants as node
use Rattle.plan_model.specs.NodeTypes.{kind_of}
use Rattle.resolve_names.specs.declared.error.ErrorName.TheVariants.{NameTooLong, TooManyColumns}
use Rattle.resolve_names.specs.declared.scope.ColumnOf.{ColumnOf}
use Rattle.resolve_names.specs.Checks.{Checked, ◌>>=◌, refused}
use Rattle.resolve_names.specs.Refusals.{Refusal, refusal}
use Rattle.resolve_types.specs.Calls.{unless}
use Rattle.resolve_expressions.specs.declared.item.Item.{Item}
use Rattle.resolve_relations.specs.declared.found.FoundOf.{FoundOf}

-- one item after another, each with its number
abbrev pub numbered_from : {X Y : Type 0} → (ℕ → X → Y) → ℕ → List X → List Y
numbered_from make number [] = []
numbered_from make number (item ∷ items) = make number item ∷ numbered_from make (suc number) items

abbrev pub numbered : {X Y : Type 0} → (ℕ → X → Y) → List X → List Y
numbered make items = numbered_from make 0 items

-- ids that follow this one
abbrev pub ids_from : ℕ → ℕ → ℕ
ids_from base number = base + number

-- the input's columns, and the relations with plan ids in it, over another node
abbrev pub over : {I : Type 0} → FoundOf I → Node → FoundOf I
over input node = record { node = node; columns = input.columns; relations = input.relations }

-- other columns over another node
abbrev pub remade : {I : Type 0} → FoundOf I → Node → List (ColumnOf I) → FoundOf I
remade input node columns = record { node = node; columns = columns; relations = input.relations }

-- a column of its own: a fresh id, and no qualifier
abbrev pub fresh_column : {I : Type 0} → I → List ℕ → DataType → Bool → ColumnOf I
fresh_column id name kind nullable = record { qualifier = []; name = name; id = id; kind = kind; nullable = nullable }

-- the column of an item: the input's column where it is one, else one of its own
abbrev pub made_by : {I : Type 0} → I → Item → Option (ColumnOf I) → ColumnOf I
made_by id item (Some column) = record { qualifier = column.qualifier; name = item.name; id = column.id; kind = kind_of item.expr; nullable = item.nullable }
made_by id item None = fresh_column id item.name (kind_of item.expr) item.nullable

abbrev pub made_column : {I : Type 0} → (ℕ → I) → List (ColumnOf I) → ℕ → Item → ColumnOf I
made_column fresh columns number item = made_by (fresh number) item (option_and_then (slice_get columns) item.source)

abbrev pub made_columns : {I : Type 0} → (ℕ → I) → List (ColumnOf I) → List Item → List (ColumnOf I)
made_columns fresh columns items = numbered (made_column fresh columns) items

abbrev pub expr_of : Item → TypedExpr
expr_of item = item.expr

abbrev pub exprs_of : List Item → List TypedExpr
exprs_of items = map expr_of items

-- the items over the input, as columns
abbrev pub projection : {I : Type 0} → (ℕ → I) → FoundOf I → List Item → FoundOf I
projection fresh input items = remade input (node.Project input.node (exprs_of items)) (made_columns fresh input.columns items)

-- ---- limits

-- at most 1,000 columns
abbrev pub column_limit : ℕ → Checked (Unit {0})
column_limit count = unless (nat_lt 1000 count) (refusal TooManyColumns (decimal count))

-- names of at most 1,024 bytes
abbrev pub is_too_long : {I : Type 0} → ColumnOf I → Bool
is_too_long column = nat_lt 1024 (length column.name)

abbrev pub no_long_name : {I : Type 0} → Option (ColumnOf I) → Checked (Unit {0})
no_long_name (Some column) = refused (refusal NameTooLong (decimal (length column.name)))
no_long_name None = Ok tt

-- the number of the columns, and then their names from the left
unfoldable pub within_limits : {I : Type 0} → List (ColumnOf I) → Checked (Unit {0})
within_limits columns = do
  counted ← column_limit (length columns)
  no_long_name (find is_too_long columns)
