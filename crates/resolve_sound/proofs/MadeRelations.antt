-- Projections and aggregates.
use Rattle.std.proofs.Common.{ℕ, ℤ, Bool, true, false, List, [], ◌++◌, map, length, sym, ◌∙◌, subst, Option, Some, None}
use Rattle.std.specs.Prelude.{All, IfOk, IfSome, nat_eq, filter, find, option_map, unwrap_or}
use Rattle.std.specs.List.{AllZip, list_any}
use Rattle.std.proofs.lemmas.List.Elements.{All-append, All-filter, All-map, All-nil}
use Rattle.std.proofs.lemmas.Result.{IfOk-at_ok}
use Rattle.cn_types.specs.declared.value.DataType.{DataType}
use Rattle.expression_messages.specs.declared.expression.Alias.{Alias}
use Rattle.expression_messages.specs.declared.expression.Expr.{Expr}
use Rattle.plan_model.specs.NodeTypes.{kinds_of, types}
use Rattle.plan_model.specs.WellFormed.{IsCallOver, IsOver, IsSound}
use Rattle.plan_model.proofs.NodeFacts.{made-Aggregate, made-Project}
use Rattle.plan_model.proofs.TypesFacts.{types-Aggregate, types-Project}
use Rattle.resolve_names.specs.declared.scope.ColumnOf.{ColumnOf}
use Rattle.resolve_names.specs.Matching.{name_matches}
use Rattle.resolve_expressions.specs.declared.item.Item.{Item}
use Rattle.resolve_expressions.specs.Grouping.{all_checked, has_aggregate}
use Rattle.resolve_expressions.specs.Outputs.{Grouped, added_items, grouped, key_items, projected}
use Rattle.resolve_expressions.specs.Stars.{column_item, items_where}
use Rattle.resolve_relations.specs.declared.found.FoundOf.{FoundOf}
use Rattle.resolve_relations.specs.Columns.{column_limit, expr_of, exprs_of, numbered, numbered_from, projection}
use Rattle.resolve_relations.specs.Making.{aggregate_rule, aggregated, aggregation, drop_rule, grouping_only, is_kept, is_new, item_name, kept, key_value, later_twin, meant, no_twin, plain_projection, project_rule, replaced, same_name, with_added, with_columns_rule}
use Rattle.resolve_sound.specs.Laws.{AggregatesAre, FewerColumnsAre, ProjectionsAre}
use Rattle.resolve_sound.specs.Sound.{IsSoundFound, kinds}
use Rattle.resolve_sound.proofs.Chains.{either_way, found_holds, then_holds}
use Rattle.resolve_sound.proofs.GroupedItems.{AreGroupedOver, all_grouped, key_values_over}
use Rattle.resolve_sound.proofs.PlainItems.{all_added_over, keys_over, projected_over}
use Rattle.resolve_sound.proofs.Places.{ItemOver, OfEach, all_numbered, columns_over, kinds_of_made, kinds_of_passing, passing_over}

-- ---- projections

module _ {I : Type 0} (input : FoundOf I) (sound : IsSoundFound input) where
  -- expressions of items over the input's columns are over the types of its node
  pub exprs_over : (items : List Item) → All (ItemOver (kinds input.columns)) items → All (IsOver (types input.node)) (exprs_of items)
  exprs_over items over =
      subst (λ (ks : List DataType). All (IsOver ks) (exprs_of items)) (sym sound.columns)
      (All-map (IsOver (kinds input.columns)) expr_of items over)

  pub projection_sound : (fresh : ℕ → I) (items : List Item) → All (ItemOver (kinds input.columns)) items →
      IsSoundFound (projection fresh input items)
  projection_sound fresh items over = record {
    node = made-Project IsSound input.node (exprs_of items) (exprs_over items over) sound.node;
    columns = types-Project input.node (exprs_of items) ∙ sym (kinds_of_made fresh input.columns items);
  }

  -- ---- without some columns

  kept_sound : (keeps : ColumnOf I → Bool) → IsSoundFound (kept input keeps)
  kept_sound keeps = record {
    node = made-Project IsSound input.node (exprs_of (items_where keeps 0 input.columns))
        (exprs_over (items_where keeps 0 input.columns) (passing_over keeps input.columns)) sound.node;
    columns = types-Project input.node (exprs_of (items_where keeps 0 input.columns))
        ∙ kinds_of_passing keeps input.columns 0 input.columns;
  }

  pub fewer : (same : I → I → Bool) (exact : Bool) (exprs : List Expr) (names : List (List ℕ)) →
      IfOk (drop_rule same exact input exprs names) IsSoundFound
  unfolding drop_rule
  fewer same exact exprs names = then_holds IsSoundFound (all_checked (map (meant exact input.relations) exprs)) _
      (λ all is. kept_sound (is_kept same exact all names))

-- ---- more columns

module _ (exact : Bool) (columns : List (ColumnOf ℕ)) (P : Item → Type 0) (as_they_are : OfEach columns P column_item) (added : List Item)
    (hold : All P added) where
  found_or : (o : Option Item) → IfSome o P → (item : Item) → P item → P (unwrap_or o item)
  found_or (Some found) h item k = h
  found_or None h item k = k

  replaced_holds : OfEach columns P (replaced nat_eq exact added)
  replaced_holds front c rest whole =
      found_or (find (λ item. name_matches exact item.name c.name) added)
      (found_holds P (λ item. name_matches exact item.name c.name) added hold)
      (column_item (length front) c) (as_they_are front c rest whole)

  pub with_added_hold : All P (with_added nat_eq exact columns added)
  with_added_hold =
      All-append P (numbered_from (replaced nat_eq exact added) 0 columns) (filter (is_new nat_eq exact columns) added)
      (all_numbered P (replaced nat_eq exact added) columns replaced_holds) (All-filter (is_new nat_eq exact columns) P added hold)

-- ---- over expressions

module _ (exact : Bool) (fresh : ℕ → ℕ) (input : FoundOf ℕ) (sound : IsSoundFound input) where
  abbrev Over : Item → Type 0
  Over = ItemOver (kinds input.columns)

  plain_sound : (exprs : List Expr) → IfOk (plain_projection nat_eq exact fresh input exprs) IsSoundFound
  unfolding plain_projection
  plain_sound exprs = then_holds IsSoundFound (projected nat_eq exact input.columns input.relations exprs) _ (λ items is.
      projection_sound input sound fresh items (IfOk-at_ok (All Over) is (projected_over exact input.columns input.relations exprs)))

  module _ (added : List Item) (over : All Over added) where
    with_added_over : All Over (with_added nat_eq exact input.columns added)
    with_added_over = with_added_hold exact input.columns Over (columns_over input.columns) added over

  more_sound : (aliases : List (Alias Expr)) → IfOk (with_columns_rule nat_eq exact fresh input aliases) IsSoundFound
  unfolding with_columns_rule
  more_sound aliases =
      then_holds IsSoundFound (added_items nat_eq exact input.columns input.relations aliases) _ (λ added is.
      then_holds IsSoundFound (column_limit (length (with_added nat_eq exact input.columns added))) _ (λ u counted.
      then_holds IsSoundFound (no_twin (option_map item_name (later_twin (same_name exact) [] added))) _ (λ v once.
      projection_sound input sound fresh (with_added nat_eq exact input.columns added)
      (with_added_over added (IfOk-at_ok (All Over) is (all_added_over exact input.columns input.relations aliases))))))

  -- ---- aggregates

  module _ (keys : List Item) (over : All Over keys) where
    grouped_sound : (found : Grouped) → AreGroupedOver exact input.columns input.relations (exprs_of keys) [] found →
        IsSoundFound (aggregation fresh input (exprs_of keys) found.calls (numbered key_value keys ++ found.items))
    grouped_sound found h = record {
      node = made-Aggregate IsSound input.node (exprs_of keys) found.calls (exprs_of (numbered key_value keys ++ found.items)) (record {
        keys_over = exprs_over input sound keys over;
        call_types = [] ++ h.more;
        calls_over = subst (λ (ks : List DataType). AllZip (IsCallOver ks) found.calls ([] ++ h.more)) (sym sound.columns) h.calls;
        items_over = All-map (IsOver (kinds_of (exprs_of keys) ++ ([] ++ h.more))) expr_of (numbered key_value keys ++ found.items)
            (All-append (ItemOver (kinds_of (exprs_of keys) ++ ([] ++ h.more))) (numbered key_value keys) found.items
            (key_values_over ([] ++ h.more) keys) h.items);
      }) sound.node;
      columns = types-Aggregate input.node (exprs_of keys) found.calls (exprs_of (numbered key_value keys ++ found.items))
          ∙ sym (kinds_of_made fresh input.columns (numbered key_value keys ++ found.items));
    }

    aggregated_sound : (stars : Bool) (exprs : List Expr) → IfOk (aggregated nat_eq exact fresh input stars keys exprs) IsSoundFound
    unfolding aggregated
    aggregated_sound stars exprs = then_holds IsSoundFound
        (grouped nat_eq exact input.columns input.relations stars (exprs_of keys) exprs []) _ (λ found is.
        grouped_sound found (IfOk-at_ok (AreGroupedOver exact input.columns input.relations (exprs_of keys) []) is
        (all_grouped exact input.columns input.relations (exprs_of keys) stars exprs [] [] tt)))

  groups_sound : (group_type : ℤ) (groupings exprs : List Expr) →
      IfOk (aggregate_rule nat_eq exact fresh input group_type groupings exprs) IsSoundFound
  unfolding aggregate_rule
  groups_sound group_type groupings exprs =
      then_holds IsSoundFound (grouping_only group_type) _ (λ u one.
      then_holds IsSoundFound (key_items nat_eq exact input.columns input.relations groupings) _ (λ keys are.
      aggregated_sound keys (IfOk-at_ok (All Over) are (keys_over exact input.columns input.relations groupings)) false exprs))

  project_sound : (exprs : List Expr) → IfOk (project_rule nat_eq exact fresh input exprs) IsSoundFound
  unfolding project_rule
  project_sound exprs = either_way IsSoundFound (list_any has_aggregate exprs) _ _ (aggregated_sound [] (All-nil Over) true exprs)
      (plain_sound exprs)

pub projections_sound : ProjectionsAre IsSoundFound
projections_sound = record {
  values = λ exact fresh exprs input sound. plain_sound exact fresh input sound exprs;
  more_columns = λ exact fresh aliases input sound. more_sound exact fresh input sound aliases;
}

pub fewer_sound : (I : Type 0) → FewerColumnsAre I IsSoundFound
fewer_sound I = record { fewer_columns = λ same exact exprs names input sound. fewer input sound same exact exprs names }

pub aggregates_sound : AggregatesAre IsSoundFound
aggregates_sound = record {
  groups = λ exact fresh group_type groupings exprs input sound. groups_sound exact fresh input sound group_type groupings exprs;
  projections = λ exact fresh exprs input sound. project_sound exact fresh input sound exprs;
}
