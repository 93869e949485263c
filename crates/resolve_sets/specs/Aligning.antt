-- Which columns of two relations become one: those at one place, or those of one name.
use Rattle.std.specs.Prelude.{ℕ, suc, ◌&&◌, ◌==◌, not, nat_eq, Bool, true, false, if◌then◌else◌, List, [], ◌∷◌, ◌++◌, map, filter, length, slice_get, count_by, Option, Some, None, Ok, option_map}
use Rattle.std.specs.Fmt.{decimal}
use Rattle.std.specs.List.{list_any}
use Rattle.cn_types.specs.declared.value.DataType.{DataType}
use Rattle.plan_model.specs.FunctionTypes.{common}
use Rattle.resolve_names.specs.declared.error.ErrorName.TheVariants.{IncompatibleColumnType}
use Rattle.resolve_names.specs.declared.scope.ColumnOf.{ColumnOf}
use Rattle.resolve_names.specs.Checks.{Checked, ◌>>=◌, or_refused}
use Rattle.resolve_names.specs.Matching.{name_matches}
use Rattle.resolve_names.specs.Refusals.{refusal}
use Rattle.resolve_types.specs.Calls.{unless}
use Rattle.resolve_expressions.specs.Grouping.{all_checked}
use Rattle.resolve_relations.specs.Columns.{numbered}
use Rattle.resolve_relations.specs.Keeping.{its_place, plain_place}
use Rattle.resolve_relations.specs.Making.{columns_differ}
use Rattle.resolve_sets.specs.declared.aligned.Aligned.{Aligned}
use Rattle.resolve_sets.specs.declared.aligned.Places.{Places}

-- the places, in the left and in the right, of what becomes one column; none where a side has no such column
abbrev pub at : Option ℕ → Option ℕ → Places
at left right = record { left = left; right = right }

-- ---- by place

abbrev pub both_at : {X : Type 0} → ℕ → X → Places
both_at place column = at (Some place) (Some place)

unfoldable pub by_place : {I : Type 0} → List (ColumnOf I) → List (ColumnOf I) → Checked (List Places)
by_place left right = do
  as_many ← unless (not (nat_eq (length left) (length right))) (columns_differ (length left) (length right))
  Ok (numbered both_at left)

-- ---- by name

abbrev pub has_name_of : {I : Type 0} → Bool → ColumnOf I → ColumnOf I → Bool
has_name_of exact column other = name_matches exact column.name other.name

-- the place in the right of the column with the left's name; one may be missing where that is allowed
abbrev pub partner : {I : Type 0} → Bool → Bool → List (ColumnOf I) → ColumnOf I → Checked (Option ℕ)
partner exact missing right column =
    if missing && (count_by (has_name_of exact column) right == 0) then Ok None else (plain_place exact right column.name >>= λ place. Ok (Some place))

abbrev pub is_place : ℕ → Option ℕ → Bool
is_place place (Some other) = nat_eq place other
is_place place None = false

-- the right's columns that no column of the left has for a partner
abbrev pub surplus : {I : Type 0} → List (ColumnOf I) → List (Option ℕ) → List ℕ
surplus right partners = filter (λ place. not (list_any (is_place place) partners)) (numbered its_place right)

abbrev pub beside : ℕ → Option ℕ → Places
beside place partner = at (Some place) partner

abbrev pub alone : ℕ → Places
alone place = at None (Some place)

-- the left's columns in their order with the right's of their names; columns that the right has beyond them come last where that is allowed
unfoldable pub by_name : {I : Type 0} → Bool → Bool → List (ColumnOf I) → List (ColumnOf I) → Checked (List Places)
by_name exact missing left right = do
  partners ← all_checked (map (partner exact missing right) left)
  complete ← unless (not missing && not (length (surplus right partners) == 0)) (columns_differ (length left) (length right))
  Ok (numbered beside partners ++ map alone (surplus right partners))

-- ---- types

-- the type of both columns, or of the one that is there
abbrev pub kind_together : {I : Type 0} → Option (ColumnOf I) → Option (ColumnOf I) → Option DataType
kind_together (Some left) (Some right) = common left.kind right.kind
kind_together (Some left) None = Some left.kind
kind_together None (Some right) = Some right.kind
kind_together None None = None

abbrev pub column_at : {I : Type 0} → List (ColumnOf I) → Option ℕ → Option (ColumnOf I)
column_at columns (Some place) = slice_get columns place
column_at columns None = None

abbrev pub typed_as : Places → DataType → Aligned
typed_as places kind = record { left = places.left; right = places.right; kind = kind }

-- one column of the result, told by its number from 1 where its types don't go together
abbrev pub aligned_at : {I : Type 0} → List (ColumnOf I) → List (ColumnOf I) → ℕ → Places → Checked Aligned
aligned_at left right number places =
    or_refused (refusal IncompatibleColumnType (decimal (suc number))) (option_map (typed_as places) (kind_together (column_at left places.left) (column_at right places.right)))

unfoldable pub aligned : {I : Type 0} → List (ColumnOf I) → List (ColumnOf I) → List Places → Checked (List Aligned)
aligned left right places = all_checked (numbered (aligned_at left right) places)
