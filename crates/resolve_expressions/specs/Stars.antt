-- The columns that a star means: all, or those with a qualifier.
use Rattle.std.specs.Prelude.{ℕ, suc, ◌-◌, Bool, true, List, [], ◌∷◌, ◌++◌, length, take, drop, bytes_eq, codes, if◌then◌else◌, Option, Some, None, Ok}
use Rattle.plan_model.specs.declared.expression.TypedExpr.TheVariants as typed
use Rattle.resolve_names.specs.declared.scope.ColumnOf.{ColumnOf}
use Rattle.resolve_names.specs.declared.error.ErrorName.TheVariants.{BadIdentifier}
use Rattle.resolve_names.specs.Checks.{Checked, ◌>>=◌, or_refused, refused}
use Rattle.resolve_names.specs.Identifiers.{parts_in}
use Rattle.resolve_names.specs.Refusals.{refusal}
use Rattle.resolve_names.specs.Scopes.{parts_match, unresolved}
use Rattle.resolve_expressions.specs.declared.item.Item.{Item}

-- the column at a place, as it is
abbrev pub column_item : {I : Type 0} → ℕ → ColumnOf I → Item
column_item place column = record { name = column.name; expr = typed.Column place column.kind; source = Some place; nullable = column.nullable }

abbrev pub item_where : {I : Type 0} → Bool → ℕ → ColumnOf I → List Item
item_where passes place column = if passes then column_item place column ∷ [] else []

-- the columns that pass, of which the first stands at this place
abbrev pub items_where : {I : Type 0} → (ColumnOf I → Bool) → ℕ → List (ColumnOf I) → List Item
items_where passes place [] = []
items_where passes place (column ∷ columns) = item_where (passes column) place column ++ items_where passes (suc place) columns

-- a target without the `.*` at its end
abbrev pub target_name : List ℕ → List ℕ
target_name target = if bytes_eq (drop (length target - 2) target) (codes ".*") then take (length target - 2) target else target

abbrev pub some_items : List ℕ → List Item → Checked (List Item)
some_items identifier [] = refused (unresolved identifier)
some_items identifier (item ∷ items) = Ok (item ∷ items)

-- every column passes; or those with this qualifier
abbrev pub any_column : {I : Type 0} → ColumnOf I → Bool
any_column column = true

abbrev pub has_qualifier : {I : Type 0} → Bool → List (List ℕ) → ColumnOf I → Bool
has_qualifier exact parts column = parts_match exact parts column.qualifier

-- errors tell the identifier as it was given, with the `.*` that its name may have lost
abbrev pub qualified : {I : Type 0} → Bool → List (ColumnOf I) → List ℕ → List ℕ → Checked (List Item)
qualified exact columns identifier name = do
  parts ← or_refused (refusal BadIdentifier identifier) (parts_in name)
  some_items identifier (items_where (has_qualifier exact parts) 0 columns)

-- without a target all columns, of which there may be none; with one those with this qualifier, of which there is one at least
unfoldable pub star_items : {I : Type 0} → Bool → List (ColumnOf I) → Option (List ℕ) → Checked (List Item)
star_items exact columns None = Ok (items_where any_column 0 columns)
star_items exact columns (Some target) = qualified exact columns target (target_name target)
