-- Rules of relations that keep the columns of their input.
use Rattle.std.specs.Prelude.{ℕ, ℤ, pos, int_lt, unsigned_abs, ◌||◌, ◌==◌, Bool, if◌then◌else◌, List, [], ◌∷◌, map, length, Option, Some, None, Ok, codes}
use Rattle.std.specs.Fmt.{signed_decimal}
use Rattle.expression_messages.specs.declared.expression.SortOrder.{SortOrder}
use Rattle.expression_messages.specs.declared.expression.Expr.{Expr}
use Rattle.plan_model.specs.declared.node.Node.TheVariants as node
use Rattle.resolve_names.specs.declared.error.ErrorName.TheVariants.{BadNumber}
use Rattle.resolve_names.specs.declared.scope.ColumnOf.{ColumnOf}
use Rattle.resolve_names.specs.Checks.{Checked, ◌>>=◌}
use Rattle.resolve_names.specs.Refusals.{refusal}
use Rattle.resolve_names.specs.Scopes.{named_place}
use Rattle.resolve_types.specs.Calls.{unless}
use Rattle.resolve_expressions.specs.Grouping.{all_checked}
use Rattle.resolve_expressions.specs.Outputs.{condition_of, sort_keys_of}
use Rattle.resolve_relations.specs.declared.found.FoundOf.{FoundOf}
use Rattle.resolve_relations.specs.Columns.{numbered, over, remade}

-- a number of rows
abbrev pub row_number : ℤ → Checked ℕ
row_number number = do
  negative ← unless (int_lt number (pos 0)) (refusal BadNumber (signed_decimal number))
  Ok (unsigned_abs number)

-- `limit` and `offset`: the first rows, and the rows behind the first
unfoldable pub limit_rule : {I : Type 0} → FoundOf I → ℤ → Checked (FoundOf I)
limit_rule input number = row_number number >>= λ rows. Ok (over input (node.Slice input.node 0 (Some rows)))

unfoldable pub offset_rule : {I : Type 0} → FoundOf I → ℤ → Checked (FoundOf I)
offset_rule input number = row_number number >>= λ rows. Ok (over input (node.Slice input.node rows None))

-- an alias of a relation qualifies its columns, in place of every other qualifier
abbrev pub qualified : {I : Type 0} → List ℕ → ColumnOf I → ColumnOf I
qualified alias column = record { qualifier = alias ∷ []; name = column.name; id = column.id; kind = column.kind; nullable = column.nullable }

abbrev pub alias_rule : {I : Type 0} → FoundOf I → List ℕ → FoundOf I
alias_rule input alias = remade input input.node (map (qualified alias) input.columns)

-- the column of a plain name, which is no identifier
abbrev pub plain_place : {I : Type 0} → Bool → List (ColumnOf I) → List ℕ → Checked ℕ
plain_place exact columns name = named_place exact name (name ∷ []) columns

abbrev pub its_place : {X : Type 0} → ℕ → X → ℕ
its_place place item = place

-- the columns whose values are to be different: the named ones, or all
abbrev pub key_places : {I : Type 0} → Bool → List (ColumnOf I) → Bool → List (List ℕ) → Checked (List ℕ)
key_places exact columns all names =
    if all || length names == 0 then Ok (numbered its_place columns) else all_checked (map (plain_place exact columns) names)

-- `deduplicate`: one row for each value of these columns
unfoldable pub deduplicate_rule : {I : Type 0} → Bool → FoundOf I → Bool → List (List ℕ) → Checked (FoundOf I)
deduplicate_rule exact input all names = key_places exact input.columns all names >>= λ places. Ok (over input (node.DistinctOn input.node places))

module _ {I : Type 0} (same : I → I → Bool) (exact : Bool) where
  -- `filter`: the rows of which the condition is true
  unfoldable pub filter_rule : FoundOf I → Expr → Checked (FoundOf I)
  filter_rule input condition =
      condition_of same exact input.columns input.relations (codes "filter") condition >>= λ test. Ok (over input (node.Filter input.node test))

  -- `sort`: the rows in the order of the keys
  unfoldable pub sort_rule : FoundOf I → List (SortOrder Expr) → Checked (FoundOf I)
  sort_rule input orders = sort_keys_of same exact input.columns input.relations orders >>= λ keys. Ok (over input (node.Sort input.node keys))
