-- Which column an attribute names. `I` is what tells columns apart, and `same` whether two such are one.
use Rattle.std.specs.Prelude.{ℕ, ◌-◌, ◌&&◌, ◌||◌, nat_eq, nat_lt, zip, Bool, false, if◌then◌else◌, ℤ, List, [], ◌∷◌, length, take, slice_index_or, count_by, position, find, Option, None, Some}
use Rattle.std.specs.Fmt.{signed_decimal}
use Rattle.std.specs.List.{list_all}
use Rattle.std.specs.Ordering.{int_eq}
use Rattle.resolve_names.specs.declared.error.ErrorName.TheVariants.{UnresolvedColumn, AmbiguousReference, BadIdentifier, CannotResolvePlanId}
use Rattle.resolve_names.specs.declared.scope.ColumnOf.{ColumnOf}
use Rattle.resolve_names.specs.declared.scope.Tagged.{Tagged}
use Rattle.resolve_names.specs.Checks.{Checked, ◌>>=◌, or_refused, refused}
use Rattle.resolve_names.specs.Identifiers.{parts_in}
use Rattle.resolve_names.specs.Matching.{name_matches}
use Rattle.resolve_names.specs.Refusals.{Refusal, refusal}

-- the last part of an identifier, which is a column's name, and those before it, which are its qualifier
abbrev pub last_part : List (List ℕ) → List ℕ
last_part parts = slice_index_or parts (length parts - 1) []

abbrev pub parts_before : List (List ℕ) → List (List ℕ)
parts_before parts = take (length parts - 1) parts

-- the same number of parts, and each matches
abbrev pub parts_match : Bool → List (List ℕ) → List (List ℕ) → Bool
parts_match exact a b = nat_eq (length a) (length b) && list_all (λ pair. name_matches exact pair.0 pair.1) (zip a b)

-- without a qualifier every column of the name is meant, and else those with this qualifier
abbrev pub qualifier_matches : Bool → List (List ℕ) → List (List ℕ) → Bool
qualifier_matches exact parts qualifier = nat_eq (length parts) 0 || parts_match exact parts qualifier

-- whether these parts name the column
abbrev pub is_named : {I : Type 0} → Bool → List (List ℕ) → ColumnOf I → Bool
is_named exact [] column = false
is_named exact (part ∷ parts) column =
    name_matches exact (last_part (part ∷ parts)) column.name && qualifier_matches exact (parts_before (part ∷ parts)) column.qualifier

-- the one item that passes, or its place: an error where several do, another where none does
abbrev pub only_item : {X : Type 0} → Refusal → Refusal → (X → Bool) → List X → Checked X
only_item none many passes items = if nat_lt 1 (count_by passes items) then refused many else or_refused none (find passes items)

abbrev pub only_place : {X : Type 0} → Refusal → Refusal → (X → Bool) → List X → Checked ℕ
only_place none many passes items = if nat_lt 1 (count_by passes items) then refused many else or_refused none (position passes items)

-- errors at an identifier tell it as it was given
abbrev pub unresolved : List ℕ → Refusal
unresolved identifier = refusal UnresolvedColumn identifier

abbrev pub ambiguous : List ℕ → Refusal
ambiguous identifier = refusal AmbiguousReference identifier

unfoldable pub parts_of : List ℕ → Checked (List (List ℕ))
parts_of identifier = or_refused (refusal BadIdentifier identifier) (parts_in identifier)

-- the one column that these parts name, and its place
unfoldable pub named_column : {I : Type 0} → Bool → List ℕ → List (List ℕ) → List (ColumnOf I) → Checked (ColumnOf I)
named_column exact identifier parts columns = only_item (unresolved identifier) (ambiguous identifier) (is_named exact parts) columns

unfoldable pub named_place : {I : Type 0} → Bool → List ℕ → List (List ℕ) → List (ColumnOf I) → Checked ℕ
named_place exact identifier parts columns = only_place (unresolved identifier) (ambiguous identifier) (is_named exact parts) columns

-- the one relation with this plan id
abbrev pub has_plan_id : {I : Type 0} → ℤ → Tagged I → Bool
has_plan_id plan relation = int_eq relation.plan_id plan

unfoldable pub relation_of : {I : Type 0} → List ℕ → ℤ → List (Tagged I) → Checked (Tagged I)
relation_of identifier plan relations =
    only_item (refusal CannotResolvePlanId (signed_decimal plan)) (ambiguous identifier) (has_plan_id plan) relations

unfoldable pub bare_at : {I : Type 0} → Bool → List (ColumnOf I) → List ℕ → Checked ℕ
bare_at exact columns identifier = do
  parts ← parts_of identifier
  named_place exact identifier parts columns

module _ {I : Type 0} (same : I → I → Bool) where
  -- the one place of a column's id
  unfoldable pub place_of_id : List ℕ → I → List (ColumnOf I) → Checked ℕ
  place_of_id identifier id columns = only_place (unresolved identifier) (ambiguous identifier) (λ column. same column.id id) columns

  -- the place of the column that an attribute names: by its name alone, or by its name in the relation with a plan id, whose column's id
  -- must stand once among these columns
  unfoldable pub planned_at : Bool → List (ColumnOf I) → List (Tagged I) → List ℕ → ℤ → Checked ℕ
  planned_at exact columns relations identifier plan = do
    parts ← parts_of identifier
    relation ← relation_of identifier plan relations
    column ← named_column exact identifier parts relation.columns
    place_of_id identifier column.id columns

  unfoldable pub attribute_at : Bool → List (ColumnOf I) → List (Tagged I) → List ℕ → Option ℤ → Checked ℕ
  attribute_at exact columns relations identifier None = bare_at exact columns identifier
  attribute_at exact columns relations identifier (Some plan) = planned_at exact columns relations identifier plan
