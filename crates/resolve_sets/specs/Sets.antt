-- Set operations: the rows of two relations with the same columns.
use Rattle.std.specs.Prelude.{ℕ, ℤ, pos, ◌&&◌, ◌||◌, not, Bool, true, false, if◌then◌else◌, List, [], ◌∷◌, ◌++◌, map, find, slice_get, Option, Some, None, Ok, option_map}
use Rattle.std.specs.Ordering.{int_eq}
use Rattle.cn_types.specs.declared.value.DataType.{DataType}
use Rattle.cn_types.specs.declared.value.Value.{Value}
use Rattle.plan_model.specs.declared.expression.TypedExpr.{TypedExpr}
use Rattle.plan_model.specs.declared.expression.TypedExpr.TheVariants as typed
use Rattle.plan_model.specs.declared.node.Node.{Node}
use Rattle.plan_model.specs.declared.node.Node.TheVariants as node
use Rattle.plan_model.specs.declared.node.SetKind.{SetKind}
use Rattle.plan_model.specs.declared.node.SetKind.TheVariants as kind
use Rattle.plan_model.specs.FunctionTypes.{same_kind}
use Rattle.resolve_names.specs.declared.scope.ColumnOf.{ColumnOf}
use Rattle.resolve_names.specs.Checks.{Checked, ◌>>=◌, or_refused}
use Rattle.resolve_types.specs.Calls.{unless}
use Rattle.resolve_expressions.specs.Same.{all_same, same_expr}
use Rattle.resolve_relations.specs.declared.found.FoundOf.{FoundOf}
use Rattle.resolve_relations.specs.Columns.{fresh_column, numbered}
use Rattle.resolve_relations.specs.Making.{bad_option}
use Rattle.resolve_sets.specs.declared.aligned.Aligned.{Aligned}
use Rattle.resolve_sets.specs.declared.aligned.Places.{Places}
use Rattle.resolve_sets.specs.Aligning.{aligned, by_name, by_place, column_at}

-- the kinds, by their numbers (`relations.proto`, SetOperation.SetOpType)
abbrev pub kinds : List (ℤ × SetKind)
kinds = (pos 1, kind.Intersect) ∷ (pos 2, kind.Union) ∷ (pos 3, kind.Except) ∷ []

unfoldable pub kind_numbered : ℤ → Option SetKind
kind_numbered number = option_map (λ entry. entry.1) (find (λ entry. int_eq entry.0 number) kinds)

abbrev pub is_union : SetKind → Bool
is_union kind.Union = true
is_union kind.Intersect = false
is_union kind.Except = false

-- ---- a side

-- a column as it is, or cast to another type
abbrev pub as_kind : {I : Type 0} → DataType → ℕ → ColumnOf I → TypedExpr
as_kind kind place column = if same_kind kind column.kind then typed.Column place column.kind else typed.Cast (typed.Column place column.kind) kind

abbrev pub value_at : {I : Type 0} → DataType → ℕ → Option (ColumnOf I) → TypedExpr
value_at kind place (Some column) = as_kind kind place column
value_at kind place None = typed.Literal Value.Null kind

-- the side's column of this type, or null where it has none
abbrev pub side_value : {I : Type 0} → List (ColumnOf I) → DataType → Option ℕ → TypedExpr
side_value columns kind (Some place) = value_at kind place (slice_get columns place)
side_value columns kind None = typed.Literal Value.Null kind

abbrev pub own_value : {I : Type 0} → ℕ → ColumnOf I → TypedExpr
own_value place column = typed.Column place column.kind

-- whether these are just the side's own columns
unfoldable pub is_whole : {I : Type 0} → List (ColumnOf I) → List TypedExpr → Bool
is_whole columns values = all_same (map same_expr values) (numbered own_value columns)

-- a side that has just these values stays as it is
abbrev pub side_over : {I : Type 0} → List (ColumnOf I) → Node → List TypedExpr → Node
side_over columns input values = if is_whole columns values then input else node.Project input values

unfoldable pub side : {I : Type 0} → FoundOf I → List TypedExpr → Node
side input values = side_over input.columns input.node values

abbrev pub left_value : {I : Type 0} → List (ColumnOf I) → Aligned → TypedExpr
left_value columns one = side_value columns one.kind one.left

abbrev pub right_value : {I : Type 0} → List (ColumnOf I) → Aligned → TypedExpr
right_value columns one = side_value columns one.kind one.right

-- ---- the columns

-- the left's column, of this type, and perhaps null
abbrev pub left_column : {I : Type 0} → DataType → Bool → ColumnOf I → ColumnOf I
left_column kind nullable column = record { qualifier = column.qualifier; name = column.name; id = column.id; kind = kind; nullable = nullable }

-- the left's columns keep their ids, and are perhaps null where one of the two is; a column that the right has alone is a fresh one
abbrev pub set_column : {I : Type 0} → I → DataType → Option (ColumnOf I) → Option (ColumnOf I) → ColumnOf I
set_column id kind (Some left) (Some right) = left_column kind (left.nullable || right.nullable) left
set_column id kind (Some left) None = left_column kind true left
set_column id kind None (Some right) = fresh_column id right.name kind true
set_column id kind None None = fresh_column id [] kind true

abbrev pub aligned_column : {I : Type 0} → (ℕ → I) → List (ColumnOf I) → List (ColumnOf I) → ℕ → Aligned → ColumnOf I
aligned_column fresh left right number one = set_column (fresh number) one.kind (column_at left one.left) (column_at right one.right)

-- both sides' rows, under the left's names
unfoldable pub combined : {I : Type 0} → (ℕ → I) → FoundOf I → FoundOf I → SetKind → Bool → List Aligned → FoundOf I
combined fresh left right kind all columns = record {
  node = node.SetOp (side left (map (left_value left.columns) columns)) (side right (map (right_value right.columns) columns)) kind all;
  columns = numbered (aligned_column fresh left.columns right.columns) columns;
  relations = left.relations ++ right.relations;
}

-- ---- the rule

-- which columns become one
abbrev pub places_of : {I : Type 0} → Bool → Bool → Bool → List (ColumnOf I) → List (ColumnOf I) → Checked (List Places)
places_of exact named missing left right = if named then by_name exact missing left right else by_place left right

-- a set operation of a kind: which columns become one, and then their types
abbrev pub of_kind : {I : Type 0} → Bool → (ℕ → I) → SetKind → FoundOf I → FoundOf I → Bool → Bool → Bool → Checked (FoundOf I)
of_kind exact fresh kind left right all named missing = do
  places ← places_of exact named missing left.columns right.columns
  columns ← aligned left.columns right.columns places
  Ok (combined fresh left right kind all columns)

-- `set_op`: its options come first
unfoldable pub set_rule : {I : Type 0} → Bool → (ℕ → I) → FoundOf I → FoundOf I → ℤ → Bool → Bool → Bool → Checked (FoundOf I)
set_rule exact fresh left right number all named missing = do
  kind ← or_refused (bad_option number) (kind_numbered number)
  options ← unless (named && not (is_union kind)) (bad_option (pos 0))
  of_kind exact fresh kind left right all named missing
