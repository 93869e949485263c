-- Keys of a join: a column of each relation, of one name.
use Rattle.std.specs.Prelude.{ℕ, ◌+◌, ◌||◌, not, nat_eq, Bool, true, false, List, [], ◌∷◌, ◌++◌, filter, filter_map, slice_get, Option, Some, None, codes, option_map}
use Rattle.std.specs.List.{list_any}
use Rattle.cn_types.specs.declared.value.DataType.{DataType}
use Rattle.plan_model.specs.declared.expression.TypedExpr.{TypedExpr}
use Rattle.plan_model.specs.declared.expression.TypedExpr.TheVariants as typed
use Rattle.plan_model.specs.declared.function.Function.{Function}
use Rattle.plan_model.specs.declared.node.JoinKind.{JoinKind}
use Rattle.plan_model.specs.declared.node.JoinKind.TheVariants as kind
use Rattle.plan_model.specs.FunctionTypes.{common}
use Rattle.resolve_names.specs.declared.scope.ColumnOf.{ColumnOf}
use Rattle.resolve_names.specs.Checks.{Checked, ◌>>=◌, or_refused}
use Rattle.resolve_functions.specs.Arguments.{mismatch}
use Rattle.resolve_expressions.specs.declared.item.Item.{Item}
use Rattle.resolve_relations.specs.Keeping.{plain_place}
use Rattle.resolve_joins.specs.declared.keys.KeyPair.{KeyPair}

-- two columns that have a type together
abbrev pub paired : {I : Type 0} → ℕ → ℕ → Option (ColumnOf I) → Option (ColumnOf I) → Option KeyPair
paired left right (Some a) (Some b) =
    option_map (λ kind. record { left = left; left_kind = a.kind; right = right; right_kind = b.kind; kind = kind }) (common a.kind b.kind)
paired left right (Some a) None = None
paired left right None other = None

-- the columns of a key's name: the left's is looked up first; their types must go together
unfoldable pub key_pair : {I : Type 0} → Bool → List (ColumnOf I) → List (ColumnOf I) → List ℕ → Checked KeyPair
key_pair exact left right name = do
  on_left ← plain_place exact left name
  on_right ← plain_place exact right name
  or_refused (mismatch (codes "join")) (paired on_left on_right (slice_get left on_left) (slice_get right on_right))

-- ---- the condition, over the left's columns, which are so many, and then the right's

abbrev pub left_value : KeyPair → TypedExpr
left_value key = typed.Column key.left key.left_kind

abbrev pub right_value : ℕ → KeyPair → TypedExpr
right_value width key = typed.Column (width + key.right) key.right_kind

abbrev pub are_equal : ℕ → KeyPair → TypedExpr
are_equal width key = typed.Call Function.EqualTo (left_value key ∷ right_value width key ∷ []) DataType.Boolean

abbrev pub both : TypedExpr → Option TypedExpr → TypedExpr
both test None = test
both test (Some rest) = typed.Call Function.And (test ∷ rest ∷ []) DataType.Boolean

-- each key is the same on both sides
unfoldable pub all_equal : ℕ → List KeyPair → Option TypedExpr
all_equal width [] = None
all_equal width (key ∷ keys) = Some (both (are_equal width key) (all_equal width keys))

-- ---- the columns

-- of a full join the first value that is not null
abbrev pub merged : ℕ → KeyPair → Item → Item
merged width key item = record {
  name = item.name;
  expr = typed.Call Function.Coalesce (left_value key ∷ right_value width key ∷ []) key.kind;
  source = None;
  nullable = true;
}

-- a key: the left's column, of a right join the right's, and of a full join both in one
abbrev pub key_item : JoinKind → ℕ → List Item → KeyPair → Option Item
key_item kind.Inner width items key = slice_get items key.left
key_item kind.Full width items key = option_map (merged width key) (slice_get items key.left)
key_item kind.Left width items key = slice_get items key.left
key_item kind.Right width items key = slice_get items (width + key.right)
key_item kind.Anti width items key = slice_get items key.left
key_item kind.Semi width items key = slice_get items key.left
key_item kind.Cross width items key = slice_get items key.left

abbrev pub is_at : ℕ → Option ℕ → Bool
is_at place (Some source) = nat_eq source place
is_at place None = false

-- a column that is a key's on one side
unfoldable pub is_of_key : ℕ → Option ℕ → KeyPair → Bool
is_of_key width source key = is_at key.left source || is_at (width + key.right) source

-- a column that is no key's, neither of the left nor of the right
abbrev pub is_rest : ℕ → List KeyPair → Item → Bool
is_rest width keys item = not (list_any (is_of_key width item.source) keys)

-- the keys, and then the other columns as they are
unfoldable pub using_items : JoinKind → ℕ → List KeyPair → List Item → List Item
using_items kind width keys items = filter_map (key_item kind width items) keys ++ filter (is_rest width keys) items
