-- Attributes, stars and plain names mean the same places under other ids.
use Rattle.std.proofs.Common.{◌≡◌, ℕ, suc, ℤ, Bool, List, [], ◌∷◌, ◌++◌, length, refl, ap, ◌∙◌, Option, Some, None}
use Rattle.std.specs.Prelude.{Ok, slice_get, option_map}
use Rattle.std.proofs.lemmas.List.{length-map}
use Rattle.std.proofs.lemmas.Option.{slice_get-map}
use Rattle.expression_messages.specs.declared.expression.UnresolvedAttribute.{UnresolvedAttribute}
use Rattle.plan_model.specs.declared.expression.TypedExpr.TheVariants as typed
use Rattle.resolve_names.specs.declared.scope.ColumnOf.{ColumnOf}
use Rattle.resolve_names.specs.declared.scope.Tagged.{Tagged}
use Rattle.resolve_names.specs.Checks.{Checked, ◌>>=◌, or_refused}
use Rattle.resolve_names.specs.Refusals.{Refusal}
use Rattle.resolve_names.specs.Scopes.{ambiguous, attribute_at, bare_at, has_plan_id, is_named, named_column, named_place, parts_of, place_of_id, planned_at, relation_of, unresolved}
use Rattle.resolve_types.specs.Leaves.{column_at, typed_attribute}
use Rattle.resolve_expressions.specs.declared.item.Item.{Item}
use Rattle.resolve_expressions.specs.Stars.{any_column, has_qualifier, item_where, items_where, star_items}
use Rattle.resolve_ids.specs.Renaming.{TellsApart, renamed_column, renamed_columns, renamed_relations, renamed_tagged}
use Rattle.resolve_ids.proofs.Searches.{bind-made, bind-same, item-agree, made, place-agree}

module _ {I J : Type 0} (name : I → J) where
  abbrev other : ColumnOf I → ColumnOf J
  other = renamed_column name

  abbrev others : List (ColumnOf I) → List (ColumnOf J)
  others = renamed_columns name

  pub is_named-renamed : (exact : Bool) (parts : List (List ℕ)) (column : ColumnOf I) →
      is_named exact parts (other column) ≡ is_named exact parts column
  is_named-renamed exact [] column = refl
  is_named-renamed exact (part ∷ parts) column = refl

  pub place_named : (exact : Bool) (identifier : List ℕ) (parts : List (List ℕ)) (columns : List (ColumnOf I)) →
      named_place exact identifier parts (others columns) ≡ named_place exact identifier parts columns
  unfolding named_place
  place_named exact identifier parts columns =
      place-agree other (is_named exact parts) (is_named exact parts) (is_named-renamed exact parts) (unresolved identifier)
      (ambiguous identifier) columns

  pub column_named : (exact : Bool) (identifier : List ℕ) (parts : List (List ℕ)) (columns : List (ColumnOf I)) →
      named_column exact identifier parts (others columns) ≡ made other (named_column exact identifier parts columns)
  unfolding named_column
  column_named exact identifier parts columns =
      item-agree other (is_named exact parts) (is_named exact parts) (is_named-renamed exact parts) (unresolved identifier)
      (ambiguous identifier) columns

  pub relation_planned : (identifier : List ℕ) (plan : ℤ) (relations : List (Tagged I)) →
      relation_of identifier plan (renamed_relations name relations) ≡ made (renamed_tagged name) (relation_of identifier plan relations)
  unfolding relation_of
  relation_planned identifier plan relations =
      item-agree (renamed_tagged name) (has_plan_id plan) (has_plan_id plan) (λ relation. refl) _ (ambiguous identifier) relations

  pub bare_place : (exact : Bool) (columns : List (ColumnOf I)) (identifier : List ℕ) →
      bare_at exact (others columns) identifier ≡ bare_at exact columns identifier
  unfolding bare_at
  bare_place exact columns identifier =
      bind-same (parts_of identifier) (λ parts. named_place exact identifier parts (others columns))
      (λ parts. named_place exact identifier parts columns)
      (λ parts. place_named exact identifier parts columns)

  pub get_renamed : (columns : List (ColumnOf I)) (place : ℕ) →
      slice_get (others columns) place ≡ option_map other (slice_get columns place)
  get_renamed columns place = slice_get-map other columns place

  pub count_renamed : (columns : List (ColumnOf I)) → length (others columns) ≡ length columns
  count_renamed columns = length-map columns other

  module _ (same : I → I → Bool) (same_too : J → J → Bool) (tells : TellsApart same same_too name) where
    id_place : (identifier : List ℕ) (id : I) (columns : List (ColumnOf I)) →
        place_of_id same_too identifier (name id) (others columns) ≡ place_of_id same identifier id columns
    unfolding place_of_id
    id_place identifier id columns =
        place-agree other (λ column. same_too column.id (name id)) (λ column. same column.id id) (λ column. tells.told column.id id)
        (unresolved identifier) (ambiguous identifier) columns

    module _ (exact : Bool) (columns : List (ColumnOf I)) (relations : List (Tagged I)) (identifier : List ℕ) where
      in_column : List (List ℕ) → Tagged I → Checked ℕ
      in_column parts relation = named_column exact identifier parts relation.columns
          >>= λ column. place_of_id same identifier column.id columns

      in_column_too : List (List ℕ) → Tagged J → Checked ℕ
      in_column_too parts relation = named_column exact identifier parts relation.columns
          >>= λ column. place_of_id same_too identifier column.id (others columns)

      column_place : (parts : List (List ℕ)) (relation : Tagged I) →
          in_column_too parts (renamed_tagged name relation) ≡ in_column parts relation
      unfolding in_column in_column_too
      column_place parts relation =
          ap (λ (o : Checked (ColumnOf J)). o >>= λ column. place_of_id same_too identifier column.id (others columns))
          (column_named exact identifier parts relation.columns)
          ∙ bind-made other (named_column exact identifier parts relation.columns)
          (λ column. place_of_id same_too identifier column.id (others columns))
          ∙ bind-same (named_column exact identifier parts relation.columns) _ _ (λ column. id_place identifier column.id columns)

      relation_place : (plan : ℤ) (parts : List (List ℕ)) →
          (relation_of identifier plan (renamed_relations name relations) >>= in_column_too parts)
          ≡ (relation_of identifier plan relations >>= in_column parts)
      relation_place plan parts =
          ap (λ (o : Checked (Tagged J)). o >>= in_column_too parts) (relation_planned identifier plan relations)
          ∙ bind-made (renamed_tagged name) (relation_of identifier plan relations) (in_column_too parts)
          ∙ bind-same (relation_of identifier plan relations) _ _ (column_place parts)

      planned_place : (plan : ℤ) → planned_at same_too exact (others columns) (renamed_relations name relations) identifier plan
          ≡ planned_at same exact columns relations identifier plan
      unfolding planned_at in_column in_column_too
      planned_place plan = bind-same (parts_of identifier) _ _ (relation_place plan)

      pub attribute_place : (plan : Option ℤ) →
          attribute_at same_too exact (others columns) (renamed_relations name relations) identifier plan
          ≡ attribute_at same exact columns relations identifier plan
      unfolding attribute_at
      attribute_place None = bare_place exact columns identifier
      attribute_place (Some plan) = planned_place plan

  -- ---- attributes with their types

  column_typed : (why : Refusal) (place : ℕ) (column : Option (ColumnOf I)) →
      (or_refused why (option_map other column) >>= λ c. Ok (typed.Column place c.kind))
      ≡ (or_refused why column >>= λ c. Ok (typed.Column place c.kind))
  column_typed why place (Some column) = refl
  column_typed why place None = refl

  pub typed_at : (identifier : List ℕ) (columns : List (ColumnOf I)) (place : ℕ) →
      column_at identifier (others columns) place ≡ column_at identifier columns place
  typed_at identifier columns place =
      ap (λ (o : Option (ColumnOf J)). or_refused (unresolved identifier) o >>= λ c. Ok (typed.Column place c.kind))
      (get_renamed columns place)
      ∙ column_typed (unresolved identifier) place (slice_get columns place)

  module _ (same : I → I → Bool) (same_too : J → J → Bool) (tells : TellsApart same same_too name) (exact : Bool)
      (columns : List (ColumnOf I)) (relations : List (Tagged I)) where
    pub attribute_typed : (attribute : UnresolvedAttribute) →
        typed_attribute same_too exact (others columns) (renamed_relations name relations) attribute
        ≡ typed_attribute same exact columns relations attribute
    unfolding typed_attribute
    attribute_typed attribute =
        ap (λ (o : Checked ℕ). o >>= λ place. column_at attribute.unparsed_identifier (others columns) place)
        (attribute_place same same_too tells exact columns relations attribute.unparsed_identifier attribute.plan_id)
        ∙ bind-same (attribute_at same exact columns relations attribute.unparsed_identifier attribute.plan_id) _ _
        (typed_at attribute.unparsed_identifier columns)

  -- ---- stars

  pub items_renamed : (passes : ColumnOf J → Bool) (before : ColumnOf I → Bool) →
      ((column : ColumnOf I) → passes (other column) ≡ before column) →
      (place : ℕ) (columns : List (ColumnOf I)) → items_where passes place (others columns) ≡ items_where before place columns
  items_renamed passes before agree place [] = refl
  items_renamed passes before agree place (column ∷ columns) =
      ap (λ (b : Bool). item_where b place column ++ items_where passes (suc place) (others columns)) (agree column)
      ∙ ap (λ (l : List Item). item_where (before column) place column ++ l) (items_renamed passes before agree (suc place) columns)

  qualified_items : (exact : Bool) (columns : List (ColumnOf I)) (parts : List (List ℕ)) →
      items_where (has_qualifier exact parts) 0 (others columns) ≡ items_where (has_qualifier exact parts) 0 columns
  qualified_items exact columns parts = items_renamed (has_qualifier exact parts) (has_qualifier exact parts) (λ column. refl) 0 columns

  pub star_renamed : (exact : Bool) (columns : List (ColumnOf I)) (target : Option (List ℕ)) →
      star_items exact (others columns) target ≡ star_items exact columns target
  unfolding star_items
  star_renamed exact columns None = ap Ok (items_renamed any_column any_column (λ column. refl) 0 columns)
  star_renamed exact columns (Some target) = simp (qualified_items exact columns)
