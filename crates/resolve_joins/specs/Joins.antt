-- Joins: the pairs of the rows of two relations, with a condition or by keys of the same name.
use Rattle.std.specs.Prelude.{ℕ, ℤ, pos, ◌&&◌, ◌||◌, ◌==◌, not, Bool, true, false, if◌then◌else◌, List, [], ◌∷◌, ◌++◌, map, find, length, Option, Some, None, Ok, codes, option_map}
use Rattle.std.specs.Ordering.{int_eq}
use Rattle.expression_messages.specs.declared.expression.Expr.{Expr}
use Rattle.plan_model.specs.declared.expression.TypedExpr.{TypedExpr}
use Rattle.plan_model.specs.declared.node.JoinKind.{JoinKind}
use Rattle.plan_model.specs.declared.node.JoinKind.TheVariants as kind
use Rattle.plan_model.specs.declared.node.Node.TheVariants as node
use Rattle.resolve_names.specs.declared.scope.ColumnOf.{ColumnOf}
use Rattle.resolve_names.specs.Checks.{Checked, ◌>>=◌, or_refused}
use Rattle.resolve_types.specs.Calls.{unless}
use Rattle.resolve_expressions.specs.Grouping.{all_checked}
use Rattle.resolve_expressions.specs.Outputs.{condition_of}
use Rattle.resolve_expressions.specs.Stars.{any_column, items_where}
use Rattle.resolve_relations.specs.declared.found.FoundOf.{FoundOf}
use Rattle.resolve_relations.specs.Columns.{column_limit, projection}
use Rattle.resolve_relations.specs.Making.{bad_option}
use Rattle.resolve_joins.specs.declared.keys.KeyPair.{KeyPair}
use Rattle.resolve_joins.specs.Keys.{all_equal, key_pair, using_items}

-- the kinds, by their numbers (`relations.proto`, Join.JoinType)
abbrev pub kinds : List (ℤ × JoinKind)
kinds =
    (pos 1, kind.Inner) ∷ (pos 2, kind.Full) ∷ (pos 3, kind.Left) ∷ (pos 4, kind.Right)
    ∷ (pos 5, kind.Anti) ∷ (pos 6, kind.Semi) ∷ (pos 7, kind.Cross) ∷ []

unfoldable pub kind_numbered : ℤ → Option JoinKind
kind_numbered number = option_map (λ entry. entry.1) (find (λ entry. int_eq entry.0 number) kinds)

-- ---- the columns

-- the left's columns are nulls beside a row of the right that matches none
abbrev pub has_left_nulls : JoinKind → Bool
has_left_nulls kind.Inner = false
has_left_nulls kind.Full = true
has_left_nulls kind.Left = false
has_left_nulls kind.Right = true
has_left_nulls kind.Anti = false
has_left_nulls kind.Semi = false
has_left_nulls kind.Cross = false

-- the right's columns are nulls beside a row of the left that matches none
abbrev pub has_right_nulls : JoinKind → Bool
has_right_nulls kind.Inner = false
has_right_nulls kind.Full = true
has_right_nulls kind.Left = true
has_right_nulls kind.Right = false
has_right_nulls kind.Anti = false
has_right_nulls kind.Semi = false
has_right_nulls kind.Cross = false

-- a semi join and an anti join have rows of the left alone
abbrev pub has_right : JoinKind → Bool
has_right kind.Inner = true
has_right kind.Full = true
has_right kind.Left = true
has_right kind.Right = true
has_right kind.Anti = false
has_right kind.Semi = false
has_right kind.Cross = true

-- a column that is perhaps null where no row matches
abbrev pub perhaps_null : {I : Type 0} → Bool → ColumnOf I → ColumnOf I
perhaps_null nulls column = record {
  qualifier = column.qualifier;
  name = column.name;
  id = column.id;
  kind = column.kind;
  nullable = column.nullable || nulls;
}

abbrev pub side_columns : {I : Type 0} → Bool → List (ColumnOf I) → List (ColumnOf I)
side_columns nulls columns = map (perhaps_null nulls) columns

-- the left's columns and then the right's
unfoldable pub joined_columns : {I : Type 0} → JoinKind → List (ColumnOf I) → List (ColumnOf I) → List (ColumnOf I)
joined_columns kind left right =
    side_columns (has_left_nulls kind) left ++ (if has_right kind then side_columns (has_right_nulls kind) right else [])

-- both relations, of whose pairs the condition tells those that match; without one all do
abbrev pub joined : {I : Type 0} → JoinKind → FoundOf I → FoundOf I → Option TypedExpr → FoundOf I
joined kind left right condition = record {
  node = node.Join left.node right.node kind condition;
  columns = joined_columns kind left.columns right.columns;
  relations = left.relations ++ right.relations;
}

-- ---- the rule

-- an inner join without a condition is a cross join
abbrev pub kind_without : JoinKind → JoinKind
kind_without kind.Inner = kind.Cross
kind_without kind.Full = kind.Full
kind_without kind.Left = kind.Left
kind_without kind.Right = kind.Right
kind_without kind.Anti = kind.Anti
kind_without kind.Semi = kind.Semi
kind_without kind.Cross = kind.Cross

abbrev pub is_cross : JoinKind → Bool
is_cross kind.Inner = false
is_cross kind.Full = false
is_cross kind.Left = false
is_cross kind.Right = false
is_cross kind.Anti = false
is_cross kind.Semi = false
is_cross kind.Cross = true

abbrev pub is_there : {X : Type 0} → Option X → Bool
is_there (Some x) = true
is_there None = false

-- keys and a condition don't go together, and a cross join has neither
abbrev pub clash : JoinKind → Bool → Bool → Bool
clash kind conditioned keyed = (conditioned && keyed) || (is_cross kind && (conditioned || keyed))

module _ {I : Type 0} (same : I → I → Bool) (exact : Bool) where
  -- with a condition over both relations' columns, or without one
  unfoldable pub on_rule : JoinKind → FoundOf I → FoundOf I → Option Expr → Checked (FoundOf I)
  on_rule kind left right None = Ok (joined (kind_without kind) left right None)
  on_rule kind left right (Some condition) =
      condition_of same exact (left.columns ++ right.columns) (left.relations ++ right.relations) (codes "join") condition
      >>= λ test. Ok (joined kind left right (Some test))

  -- by keys: rows match whose keys are equal; the keys come first, and then the other columns
  abbrev pub keyed : (ℕ → I) → JoinKind → ℕ → FoundOf I → List KeyPair → Checked (FoundOf I)
  keyed fresh kind width pairs keys = do
    counted ← column_limit (length (using_items kind width keys (items_where any_column 0 pairs.columns)))
    Ok (projection fresh pairs (using_items kind width keys (items_where any_column 0 pairs.columns)))

  unfoldable pub using_rule : (ℕ → I) → JoinKind → FoundOf I → FoundOf I → List (List ℕ) → Checked (FoundOf I)
  using_rule fresh kind left right names = do
    keys ← all_checked (map (key_pair exact left.columns right.columns) names)
    keyed fresh kind (length left.columns) (joined kind left right (all_equal (length left.columns) keys)) keys

  -- `join`: its options, and then its keys or its condition
  unfoldable pub join_rule : (ℕ → I) → FoundOf I → FoundOf I → ℤ → Option Expr → List (List ℕ) → Checked (FoundOf I)
  join_rule fresh left right number condition names = do
    kind ← or_refused (bad_option number) (kind_numbered number)
    options ← unless (clash kind (is_there condition) (not (length names == 0))) (bad_option (pos 0))
    if length names == 0 then on_rule kind left right condition else using_rule fresh kind left right names
