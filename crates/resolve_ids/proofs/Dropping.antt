-- `drop` answers alike under other ids.
use Rattle.std.proofs.Common.{◌≡◌, ℕ, ℤ, Bool, List, map, filter, refl, sym, ap, ◌∙◌, Option, Some, None, not, ◌||◌}
use Rattle.std.specs.Prelude.{Ok}
use Rattle.std.specs.List.{list_any}
use Rattle.expression_messages.specs.declared.expression.UnresolvedAttribute.{UnresolvedAttribute}
use Rattle.expression_messages.specs.declared.expression.Expr.{Expr}
use Rattle.expression_messages.specs.declared.expression.Expr.TheViews.{out-Expr}
use Rattle.plan_model.specs.declared.node.Node.TheVariants as node
use Rattle.resolve_names.specs.declared.scope.ColumnOf.{ColumnOf}
use Rattle.resolve_names.specs.declared.scope.Tagged.{Tagged}
use Rattle.resolve_names.specs.Checks.{Checked, ◌>>=◌}
use Rattle.resolve_names.specs.Matching.{name_matches}
use Rattle.resolve_names.specs.Scopes.{is_named, parts_of, relation_of}
use Rattle.resolve_expressions.specs.declared.item.Item.{Item}
use Rattle.resolve_expressions.specs.Grouping.{all_checked}
use Rattle.resolve_relations.specs.declared.dropping.Meant.{Meant}
use Rattle.resolve_relations.specs.declared.dropping.Meant.TheVariants.{Ids, Parts}
use Rattle.resolve_relations.specs.declared.found.FoundOf.{FoundOf}
use Rattle.resolve_relations.specs.Columns.{exprs_of, remade}
use Rattle.resolve_relations.specs.Making.{attribute_in, drop_rule, ids_named, is_kept, is_meant, kept, meant, meant_by, meant_in}
use Rattle.resolve_ids.specs.Renaming.{Alike, TellsApart, renamed, renamed_column, renamed_columns, renamed_relations, renamed_tagged}
use Rattle.resolve_ids.proofs.Places.{is_named-renamed, items_renamed, relation_planned}
use Rattle.resolve_ids.proofs.Searches.{all-made, any-agree, bind-made, bind-same, filter-agree, made, made-bind, map-made}
use Rattle.resolve_ids.proofs.Steps.{same_alike, then_made_alike}

module _ {I J : Type 0} (name : I → J) where
  abbrev other : ColumnOf I → ColumnOf J
  other = renamed_column name

  -- the same meaning under other ids
  abbrev other_meaning : Meant I → Meant J
  other_meaning (Parts parts) = Parts parts
  other_meaning (Ids ids) = Ids (map name ids)

  ids_renamed : (exact : Bool) (parts : List (List ℕ)) (columns : List (ColumnOf I)) →
      ids_named exact parts (renamed_columns name columns) ≡ map name (ids_named exact parts columns)
  ids_renamed exact parts columns =
      ap (λ (l : List (ColumnOf J)). map (λ column. column.id) l)
      (filter-agree other (is_named exact parts) (is_named exact parts) (is_named-renamed name exact parts) columns)
      ∙ map-made other (λ column. column.id) (filter (is_named exact parts) columns)
      ∙ sym (map-made (λ (column : ColumnOf I). column.id) name (filter (is_named exact parts) columns))

  module _ (exact : Bool) (relations : List (Tagged I)) where
    abbrev relations_too : List (Tagged J)
    relations_too = renamed_relations name relations

    module _ (identifier : List ℕ) (parts : List (List ℕ)) where
      abbrev ids_in : {K : Type 0} → Tagged K → Checked (Meant K)
      ids_in relation = Ok (Ids (ids_named exact parts relation.columns))

      planned_meaning : (plan : ℤ) → meant_in exact relations_too identifier parts plan
          ≡ made other_meaning (meant_in exact relations identifier parts plan)
      planned_meaning plan =
          ap (λ (o : Checked (Tagged J)). o >>= ids_in) (relation_planned name identifier plan relations)
          ∙ bind-made (renamed_tagged name) (relation_of identifier plan relations) ids_in
          ∙ bind-same (relation_of identifier plan relations) (λ relation. ids_in (renamed_tagged name relation))
          (λ relation. made other_meaning (ids_in relation))
          (λ relation. ap (λ (ids : List J). Ok (Ids ids)) (ids_renamed exact parts relation.columns))
          ∙ sym (made-bind other_meaning (relation_of identifier plan relations) ids_in)

      meaning_by : (plan : Option ℤ) → meant_by exact relations_too identifier parts plan
          ≡ made other_meaning (meant_by exact relations identifier parts plan)
      meaning_by None = refl
      meaning_by (Some plan) = planned_meaning plan

    abbrev meaning_with : {K : Type 0} → List (Tagged K) → UnresolvedAttribute → Checked (Meant K)
    meaning_with tagged attribute = parts_of attribute.unparsed_identifier
        >>= λ parts. meant_by exact tagged attribute.unparsed_identifier parts attribute.plan_id

    attribute_meaning : (attribute : UnresolvedAttribute) →
        meaning_with relations_too attribute ≡ made other_meaning (meaning_with relations attribute)
    attribute_meaning attribute =
        bind-same (parts_of attribute.unparsed_identifier) _
        (λ parts. made other_meaning (meant_by exact relations attribute.unparsed_identifier parts attribute.plan_id))
        (λ parts. meaning_by attribute.unparsed_identifier parts attribute.plan_id)
        ∙ sym (made-bind other_meaning (parts_of attribute.unparsed_identifier)
        (λ parts. meant_by exact relations attribute.unparsed_identifier parts attribute.plan_id))

    meaning_renamed : (expr : Expr) → meant exact relations_too expr ≡ made other_meaning (meant exact relations expr)
    meaning_renamed expr =
        bind-same (attribute_in (out-Expr expr)) (meaning_with relations_too)
        (λ attribute. made other_meaning (meaning_with relations attribute)) attribute_meaning
        ∙ sym (made-bind other_meaning (attribute_in (out-Expr expr)) (meaning_with relations))

  module _ (same : I → I → Bool) (same_too : J → J → Bool) (tells : TellsApart same same_too name) (exact : Bool) where
    is_meant_renamed : (meaning : Meant I) (column : ColumnOf I) →
        is_meant same_too exact (other_meaning meaning) (other column) ≡ is_meant same exact meaning column
    is_meant_renamed (Parts parts) column = is_named-renamed name exact parts column
    is_meant_renamed (Ids ids) column = any-agree name (λ id. same_too id (name column.id)) (λ id. same id column.id)
        (λ id. tells.told id column.id) ids

    kept_renamed : (meanings : List (Meant I)) (names : List (List ℕ)) (column : ColumnOf I) →
        is_kept same_too exact (map other_meaning meanings) names (other column) ≡ is_kept same exact meanings names column
    kept_renamed meanings names column =
        ap (λ (b : Bool). not (b || list_any (λ given. name_matches exact given column.name) names))
        (any-agree other_meaning (λ one. is_meant same_too exact one (other column)) (λ one. is_meant same exact one column)
        (λ one. is_meant_renamed one column) meanings)

    module _ (input : FoundOf I) where
      kept_alike : (keeps : ColumnOf I → Bool) (keeps_too : ColumnOf J → Bool) →
          ((column : ColumnOf I) → keeps_too (other column) ≡ keeps column) →
          kept (renamed name input) keeps_too ≡ renamed name (kept input keeps)
      kept_alike keeps keeps_too agree =
          ap (λ (items : List Item). remade (renamed name input) (node.Project input.node (exprs_of items))
          (filter keeps_too (renamed_columns name input.columns)))
          (items_renamed name keeps_too keeps agree 0 input.columns)
          ∙ ap (remade (renamed name input) (node.Project input.node (exprs_of _))) (filter-agree other keeps_too keeps agree input.columns)

      pub drop_alike : (exprs : List Expr) (names : List (List ℕ)) →
          Alike name (drop_rule same exact input exprs names) (drop_rule same_too exact (renamed name input) exprs names)
      unfolding drop_rule
      drop_alike exprs names =
          then_made_alike name (map other_meaning) (all_checked (map (meant exact input.relations) exprs))
          (all_checked (map (meant exact (renamed_relations name input.relations)) exprs)) _ _
          (all-made other_meaning (meant exact input.relations) (meant exact (renamed_relations name input.relations))
          (meaning_renamed exact input.relations) exprs)
          (λ meanings. same_alike name (kept input (is_kept same exact meanings names))
          (kept (renamed name input) (is_kept same_too exact (map other_meaning meanings) names))
          (kept_alike (is_kept same exact meanings names) (is_kept same_too exact (map other_meaning meanings) names)
          (kept_renamed meanings names)))
