-- Limits judge alike, and what they let pass is the very same under other ids.
use Rattle.std.proofs.Common.{◌≡◌, ℕ, Bool, true, false, List, find, length, refl, sym, ap, ◌∙◌, Option, Some, None, ltb-false}
use Rattle.std.specs.Prelude.{Ok, Err, nat_lt, option_map}
use Rattle.std.specs.Fmt.{decimal}
use Rattle.resolve_names.specs.declared.error.ErrorName.TheVariants.{TooManyColumns}
use Rattle.resolve_names.specs.declared.scope.ColumnOf.{ColumnOf}
use Rattle.resolve_names.specs.Checks.{Checked, ◌>>=◌, refused}
use Rattle.resolve_names.specs.Refusals.{refusal}
use Rattle.resolve_types.specs.Calls.{unless}
use Rattle.resolve_relations.specs.declared.found.FoundOf.{FoundOf}
use Rattle.resolve_relations.specs.Columns.{column_limit, is_too_long, no_long_name, within_limits}
use Rattle.resolve_ids.specs.Renaming.{Alike, FoundAlike, limited, renamed, renamed_column, renamed_columns}
use Rattle.resolve_ids.proofs.Places.{count_renamed}
use Rattle.resolve_ids.proofs.Searches.{find-map, made, made-bind}

module _ {I J : Type 0} (name : I → J) where
  long_renamed : (column : Option (ColumnOf I)) → no_long_name (option_map (renamed_column name) column) ≡ no_long_name column
  long_renamed (Some column) = refl
  long_renamed None = refl

  pub within_renamed : (columns : List (ColumnOf I)) → within_limits (renamed_columns name columns) ≡ within_limits columns
  unfolding within_limits
  within_renamed columns =
      ap (λ (n : ℕ). column_limit n >>= λ counted. no_long_name (find is_too_long (renamed_columns name columns)))
      (count_renamed name columns)
      ∙ ap (λ (o : Checked (Unit {0})). column_limit (length columns) >>= λ counted. o)
      (ap no_long_name (find-map (renamed_column name) is_too_long columns) ∙ long_renamed (find is_too_long columns))

  -- ---- answers that are alike

  too_many : {K : Type 0} (columns : List (ColumnOf K)) → nat_lt 1000 (length columns) ≡ true →
      within_limits columns ≡ refused (refusal TooManyColumns (decimal (length columns)))
  unfolding within_limits
  too_many columns many =
      ap (λ (b : Bool). unless b (refusal TooManyColumns (decimal (length columns))) >>= λ counted. no_long_name (find is_too_long columns))
      many

  module _ (found : FoundOf I) where
    few_limited : limited (Ok (renamed name found)) ≡ made (renamed name) (limited (Ok found))
    few_limited =
        ap (λ (o : Checked (Unit {0})). o >>= λ fine. Ok (renamed name found)) (within_renamed found.columns)
        ∙ sym (made-bind (renamed name) (within_limits found.columns) (λ fine. Ok found))

    many_limited : (other : FoundOf J) → length other.columns ≡ length found.columns → nat_lt 1000 (length found.columns) ≡ true →
        limited (Ok other) ≡ made (renamed name) (limited (Ok found))
    many_limited other count many =
        ap (λ (o : Checked (Unit {0})). o >>= λ fine. Ok other) (too_many other.columns (ap (nat_lt 1000) count ∙ many))
        ∙ ap (λ (n : ℕ). refused (refusal TooManyColumns (decimal n))) count
        ∙ sym (ap (λ (o : Checked (Unit {0})). made (renamed name) (o >>= λ fine. Ok found)) (too_many found.columns many))

    found_limited : (other : FoundOf J) → FoundAlike name found other → (many : Bool) → nat_lt 1000 (length found.columns) ≡ many →
        limited (Ok other) ≡ made (renamed name) (limited (Ok found))
    found_limited other alike true is = many_limited other alike.count is
    found_limited other alike false is =
        ap (λ (f : FoundOf J). limited (Ok f)) (alike.whole (ltb-false 1000 (length found.columns) is)) ∙ few_limited

  pub limited_alike : (answer : Checked (FoundOf I)) (other : Checked (FoundOf J)) → Alike name answer other →
      limited other ≡ made (renamed name) (limited answer)
  limited_alike (Ok found) (Ok other) alike = found_limited found other alike (nat_lt 1000 (length found.columns)) refl
  limited_alike (Ok found) (Err stop) alike = absurd alike
  limited_alike (Err stop) (Ok other) alike = absurd alike
  limited_alike (Err stop) (Err stop_too) alike = ap Err alike
