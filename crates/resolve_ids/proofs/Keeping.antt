-- Rules that keep the columns of their input answer alike under other ids.
use Rattle.std.proofs.Common.{◌≡◌, ℕ, ℤ, Bool, List, [], ◌∷◌, map, length, refl, sym, ap, ◌∙◌, Some, None, ◌||◌, ◌==◌}
use Rattle.std.specs.Prelude.{Ok, if◌then◌else◌, codes}
use Rattle.expression_messages.specs.declared.expression.SortOrder.{SortOrder}
use Rattle.expression_messages.specs.declared.expression.Expr.{Expr}
use Rattle.plan_model.specs.declared.node.Node.TheVariants as node
use Rattle.resolve_names.specs.declared.scope.ColumnOf.{ColumnOf}
use Rattle.resolve_names.specs.Checks.{Checked}
use Rattle.resolve_expressions.specs.Grouping.{all_checked}
use Rattle.resolve_expressions.specs.Outputs.{condition_of, sort_keys_of}
use Rattle.resolve_relations.specs.declared.found.FoundOf.{FoundOf}
use Rattle.resolve_relations.specs.Columns.{numbered, over, remade}
use Rattle.resolve_relations.specs.Keeping.{alias_rule, deduplicate_rule, filter_rule, its_place, key_places, limit_rule, offset_rule, plain_place, qualified, row_number, sort_rule}
use Rattle.resolve_ids.specs.Renaming.{Alike, TellsApart, renamed, renamed_column, renamed_columns}
use Rattle.resolve_ids.proofs.Expressions.{condition_renamed, sort_keys_renamed}
use Rattle.resolve_ids.proofs.Places.{place_named}
use Rattle.resolve_ids.proofs.Searches.{all-same, map-made, numbered-made}
use Rattle.resolve_ids.proofs.Steps.{renamed_alike, then_alike}

module _ {I J : Type 0} (name : I → J) where
  pub limit_alike : (input : FoundOf I) (number : ℤ) → Alike name (limit_rule input number) (limit_rule (renamed name input) number)
  unfolding limit_rule
  limit_alike input number = then_alike name (row_number number) (row_number number) _ _ refl
      (λ rows. renamed_alike name (over input (node.Slice input.node 0 (Some rows))))

  pub offset_alike : (input : FoundOf I) (number : ℤ) → Alike name (offset_rule input number) (offset_rule (renamed name input) number)
  unfolding offset_rule
  offset_alike input number = then_alike name (row_number number) (row_number number) _ _ refl
      (λ rows. renamed_alike name (over input (node.Slice input.node rows None)))

  pub alias_alike : (input : FoundOf I) (alias : List ℕ) → alias_rule (renamed name input) alias ≡ renamed name (alias_rule input alias)
  alias_alike input alias = ap (λ (columns : List (ColumnOf J)). remade (renamed name input) input.node columns)
      (map-made (renamed_column name) (qualified alias) input.columns
      ∙ sym (map-made (qualified alias) (renamed_column name) input.columns))

  pub plain_renamed : (exact : Bool) (columns : List (ColumnOf I)) (given : List ℕ) →
      plain_place exact (renamed_columns name columns) given ≡ plain_place exact columns given
  plain_renamed exact columns given = place_named name exact given (given ∷ []) columns

  places_renamed : (exact : Bool) (columns : List (ColumnOf I)) (all : Bool) (names : List (List ℕ)) →
      key_places exact (renamed_columns name columns) all names ≡ key_places exact columns all names
  places_renamed exact columns all names =
      ap (λ (places : List ℕ). if all || length names == 0 then Ok places else all_checked
      (map (plain_place exact (renamed_columns name columns)) names))
      (numbered-made (renamed_column name) its_place columns)
      ∙ ap (λ (places : Checked (List ℕ)). if all || length names == 0 then Ok (numbered its_place columns) else places)
      (all-same (plain_place exact (renamed_columns name columns)) (plain_place exact columns) (plain_renamed exact columns) names)

  pub deduplicate_alike : (exact : Bool) (input : FoundOf I) (all : Bool) (names : List (List ℕ)) →
      Alike name (deduplicate_rule exact input all names) (deduplicate_rule exact (renamed name input) all names)
  unfolding deduplicate_rule
  deduplicate_alike exact input all names =
      then_alike name (key_places exact input.columns all names) (key_places exact (renamed_columns name input.columns) all names) _ _
      (places_renamed exact input.columns all names)
      (λ places. renamed_alike name (over input (node.DistinctOn input.node places)))

  module _ (same : I → I → Bool) (same_too : J → J → Bool) (tells : TellsApart same same_too name) (exact : Bool) (input : FoundOf I) where
    pub filter_alike : (condition : Expr) → Alike name (filter_rule same exact input condition)
        (filter_rule same_too exact (renamed name input) condition)
    unfolding filter_rule
    filter_alike condition =
        then_alike name (condition_of same exact input.columns input.relations (codes "filter") condition) _ _ _
        (condition_renamed name same same_too tells exact input.columns input.relations (codes "filter") condition)
        (λ test. renamed_alike name (over input (node.Filter input.node test)))

    pub sort_alike : (orders : List (SortOrder Expr)) →
        Alike name (sort_rule same exact input orders) (sort_rule same_too exact (renamed name input) orders)
    unfolding sort_rule
    sort_alike orders =
        then_alike name (sort_keys_of same exact input.columns input.relations orders) _ _ _
        (sort_keys_renamed name same same_too tells exact input.columns input.relations orders)
        (λ keys. renamed_alike name (over input (node.Sort input.node keys)))
