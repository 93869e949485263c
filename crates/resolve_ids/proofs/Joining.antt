-- `join` answers alike under other ids.
use Rattle.std.proofs.Common.{◌≡◌, ℕ, ℤ, pos, Bool, true, false, List, [], ◌++◌, map, length, refl, sym, ap, ◌∙◌, subst, Option, Some, None, not, ◌==◌}
use Rattle.std.specs.Prelude.{Ok, if◌then◌else◌, codes, option_map, slice_get}
use Rattle.std.proofs.lemmas.List.{map-append}
use Rattle.expression_messages.specs.declared.expression.Expr.{Expr}
use Rattle.plan_model.specs.declared.expression.TypedExpr.{TypedExpr}
use Rattle.plan_model.specs.declared.node.JoinKind.{JoinKind}
use Rattle.plan_model.specs.declared.node.Node.TheVariants as node
use Rattle.resolve_names.specs.declared.scope.ColumnOf.{ColumnOf}
use Rattle.resolve_names.specs.declared.scope.Tagged.{Tagged}
use Rattle.resolve_names.specs.Checks.{Checked, ◌>>=◌, or_refused}
use Rattle.resolve_functions.specs.Arguments.{mismatch}
use Rattle.resolve_types.specs.Calls.{unless}
use Rattle.resolve_expressions.specs.declared.item.Item.{Item}
use Rattle.resolve_expressions.specs.Grouping.{all_checked}
use Rattle.resolve_expressions.specs.Outputs.{condition_of}
use Rattle.resolve_expressions.specs.Stars.{any_column, items_where}
use Rattle.resolve_relations.specs.declared.found.FoundOf.{FoundOf}
use Rattle.resolve_relations.specs.Columns.{column_limit, projection}
use Rattle.resolve_relations.specs.Keeping.{plain_place}
use Rattle.resolve_relations.specs.Making.{bad_option}
use Rattle.resolve_joins.specs.declared.keys.KeyPair.{KeyPair}
use Rattle.resolve_joins.specs.Joins.{clash, has_left_nulls, has_right, has_right_nulls, is_there, join_rule, joined, joined_columns, kind_numbered, kind_without, on_rule, perhaps_null, side_columns, using_rule}
use Rattle.resolve_joins.specs.Keys.{all_equal, key_pair, paired, using_items}
use Rattle.resolve_ids.specs.Renaming.{Alike, DrawnAlike, TellsApart, renamed, renamed_column, renamed_columns, renamed_relations, renamed_tagged}
use Rattle.resolve_ids.proofs.Expressions.{condition_renamed}
use Rattle.resolve_ids.proofs.Keeping.{plain_renamed}
use Rattle.resolve_ids.proofs.Making.{projection_alike}
use Rattle.resolve_ids.proofs.Places.{count_renamed, get_renamed, items_renamed}
use Rattle.resolve_ids.proofs.Searches.{all-same, bind-same, map-made}
use Rattle.resolve_ids.proofs.Steps.{same_alike, then_alike}

module _ {I J : Type 0} (name : I → J) where
  abbrev other : ColumnOf I → ColumnOf J
  other = renamed_column name

  -- ---- columns

  side_renamed : (nulls : Bool) (columns : List (ColumnOf I)) →
      side_columns nulls (renamed_columns name columns) ≡ renamed_columns name (side_columns nulls columns)
  side_renamed nulls columns = map-made other (perhaps_null nulls) columns ∙ sym (map-made (perhaps_null nulls) other columns)

  right_renamed : (there nulls : Bool) (columns : List (ColumnOf I)) →
      (if there then side_columns nulls (renamed_columns name columns) else [])
      ≡ renamed_columns name (if there then side_columns nulls columns else [])
  right_renamed true nulls columns = side_renamed nulls columns
  right_renamed false nulls columns = refl

  columns_joined : (kind : JoinKind) (left right : List (ColumnOf I)) →
      joined_columns kind (renamed_columns name left) (renamed_columns name right) ≡ renamed_columns name (joined_columns kind left right)
  unfolding joined_columns
  columns_joined kind left right =
      ap (λ (l : List (ColumnOf J)). l ++ (if has_right kind then side_columns (has_right_nulls kind) (renamed_columns name right) else []))
      (side_renamed (has_left_nulls kind) left)
      ∙ ap (λ (l : List (ColumnOf J)). renamed_columns name (side_columns (has_left_nulls kind) left) ++ l)
      (right_renamed (has_right kind) (has_right_nulls kind) right)
      ∙ sym (map-append other (side_columns (has_left_nulls kind) left)
      (if has_right kind then side_columns (has_right_nulls kind) right else []))

  pub relations_renamed : (left right : List (Tagged I)) →
      renamed_relations name left ++ renamed_relations name right ≡ renamed_relations name (left ++ right)
  relations_renamed left right = sym (map-append (renamed_tagged name) left right)

  joined_renamed : (kind : JoinKind) (left right : FoundOf I) (condition : Option TypedExpr) →
      joined kind (renamed name left) (renamed name right) condition ≡ renamed name (joined kind left right condition)
  joined_renamed kind left right condition =
      ap (λ (columns : List (ColumnOf J)). record {
        node = node.Join left.node right.node kind condition;
        columns = columns;
        relations = renamed_relations name left.relations ++ renamed_relations name right.relations;
      }) (columns_joined kind left.columns right.columns)
      ∙ ap (λ (relations : List (Tagged J)). record {
        node = node.Join left.node right.node kind condition;
        columns = renamed_columns name (joined_columns kind left.columns right.columns);
        relations = relations;
      }) (relations_renamed left.relations right.relations)

  -- ---- keys

  paired_renamed : (left right : ℕ) (a b : Option (ColumnOf I)) →
      paired left right (option_map other a) (option_map other b) ≡ paired left right a b
  paired_renamed left right (Some a) (Some b) = refl
  paired_renamed left right (Some a) None = refl
  paired_renamed left right None b = refl

  module _ (exact : Bool) (left right : List (ColumnOf I)) where
    abbrev pairing : {K : Type 0} → List (ColumnOf K) → List (ColumnOf K) → ℕ → ℕ → Checked KeyPair
    pairing a b on_left on_right = or_refused (mismatch (codes "join"))
        (paired on_left on_right (slice_get a on_left) (slice_get b on_right))

    pairing_renamed : (on_left on_right : ℕ) →
        pairing (renamed_columns name left) (renamed_columns name right) on_left on_right ≡ pairing left right on_left on_right
    pairing_renamed on_left on_right = ap (or_refused (mismatch (codes "join")))
        (ap (λ (a : Option (ColumnOf J)). paired on_left on_right a (slice_get (renamed_columns name right) on_right))
        (get_renamed name left on_left)
        ∙ ap (paired on_left on_right (option_map other (slice_get left on_left))) (get_renamed name right on_right)
        ∙ paired_renamed on_left on_right (slice_get left on_left) (slice_get right on_right))

    key_renamed : (given : List ℕ) → key_pair exact (renamed_columns name left) (renamed_columns name right) given
        ≡ key_pair exact left right given
    unfolding key_pair
    key_renamed given =
        ap (λ (o : Checked ℕ). o >>= λ a. plain_place exact (renamed_columns name right) given
        >>= λ b. pairing (renamed_columns name left) (renamed_columns name right) a b)
        (plain_renamed name exact left given)
        ∙ ap (λ (o : Checked ℕ). plain_place exact left given >>= λ a. o
        >>= λ b. pairing (renamed_columns name left) (renamed_columns name right) a b)
        (plain_renamed name exact right given)
        ∙ bind-same (plain_place exact left given) _ (λ a. plain_place exact right given >>= λ b. pairing left right a b)
        (λ a. bind-same (plain_place exact right given) _ (λ b. pairing left right a b) (λ b. pairing_renamed a b))

  -- ---- the rule

  module _ (same : I → I → Bool) (same_too : J → J → Bool) (tells : TellsApart same same_too name) (exact : Bool)
      (left right : FoundOf I) where
    condition_joined : (condition : Expr) →
        condition_of same_too exact (renamed_columns name left.columns ++ renamed_columns name right.columns)
        (renamed_relations name left.relations ++ renamed_relations name right.relations) (codes "join") condition
        ≡ condition_of same exact (left.columns ++ right.columns) (left.relations ++ right.relations) (codes "join") condition
    condition_joined condition =
        ap (λ (columns : List (ColumnOf J)). condition_of same_too exact columns
        (renamed_relations name left.relations ++ renamed_relations name right.relations) (codes "join") condition)
        (sym (map-append other left.columns right.columns))
        ∙ ap (λ (relations : List (Tagged J)). condition_of same_too exact (renamed_columns name (left.columns ++ right.columns)) relations
        (codes "join") condition)
        (relations_renamed left.relations right.relations)
        ∙ condition_renamed name same same_too tells exact (left.columns ++ right.columns) (left.relations ++ right.relations)
        (codes "join") condition

    on_alike : (kind : JoinKind) (condition : Option Expr) →
        Alike name (on_rule same exact kind left right condition)
        (on_rule same_too exact kind (renamed name left) (renamed name right) condition)
    unfolding on_rule
    on_alike kind None = same_alike name (joined (kind_without kind) left right None)
        (joined (kind_without kind) (renamed name left) (renamed name right) None) (joined_renamed (kind_without kind) left right None)
    on_alike kind (Some condition) =
        then_alike name (condition_of same exact (left.columns ++ right.columns) (left.relations ++ right.relations) (codes "join")
        condition) _
        (λ test. Ok (joined kind left right (Some test))) (λ test. Ok (joined kind (renamed name left) (renamed name right) (Some test)))
        (condition_joined condition)
        (λ test. same_alike name (joined kind left right (Some test)) (joined kind (renamed name left) (renamed name right) (Some test))
        (joined_renamed kind left right (Some test)))

    module _ (fresh : ℕ → I) (fresh_too : ℕ → J) (draws : DrawnAlike name fresh fresh_too) (kind : JoinKind) where
      -- the items over the pairs, where they are few enough
      abbrev limited_items : {K : Type 0} → (ℕ → K) → FoundOf K → List Item → Checked (FoundOf K)
      limited_items draw pairs items = column_limit (length items) >>= λ counted. Ok (projection draw pairs items)

      abbrev with_keys : {K : Type 0} → (ℕ → K) → ℕ → FoundOf K → List KeyPair → Checked (FoundOf K)
      with_keys draw width pairs keys = limited_items draw pairs (using_items kind width keys (items_where any_column 0 pairs.columns))

      items_limited : (pairs : FoundOf I) (items : List Item) →
          Alike name (limited_items fresh pairs items) (limited_items fresh_too (renamed name pairs) items)
      items_limited pairs items = then_alike name (column_limit (length items)) (column_limit (length items)) _ _ refl
          (λ counted. projection_alike name fresh fresh_too draws pairs items)

      keys_alike : (width : ℕ) (pairs : FoundOf I) (keys : List KeyPair) →
          Alike name (with_keys fresh width pairs keys) (with_keys fresh_too width (renamed name pairs) keys)
      keys_alike width pairs keys =
          subst (λ (items : List Item). Alike name (with_keys fresh width pairs keys)
          (limited_items fresh_too (renamed name pairs) (using_items kind width keys items)))
          (sym (items_renamed name any_column any_column (λ column. refl) 0 pairs.columns))
          (items_limited pairs (using_items kind width keys (items_where any_column 0 pairs.columns)))

      keyed_alike : (keys : List KeyPair) →
          Alike name (with_keys fresh (length left.columns) (joined kind left right (all_equal (length left.columns) keys)) keys)
          (with_keys fresh_too (length (renamed_columns name left.columns))
          (joined kind (renamed name left) (renamed name right) (all_equal (length (renamed_columns name left.columns)) keys)) keys)
      keyed_alike keys =
          subst (λ (width : ℕ). Alike name (with_keys fresh (length left.columns)
          (joined kind left right (all_equal (length left.columns) keys)) keys)
          (with_keys fresh_too width (joined kind (renamed name left) (renamed name right) (all_equal width keys)) keys))
          (sym (count_renamed name left.columns))
          (subst (λ (pairs : FoundOf J). Alike name
          (with_keys fresh (length left.columns) (joined kind left right (all_equal (length left.columns) keys)) keys)
          (with_keys fresh_too (length left.columns) pairs keys))
          (sym (joined_renamed kind left right (all_equal (length left.columns) keys)))
          (keys_alike (length left.columns) (joined kind left right (all_equal (length left.columns) keys)) keys))

      using_alike : (names : List (List ℕ)) → Alike name (using_rule same exact fresh kind left right names)
          (using_rule same_too exact fresh_too kind (renamed name left) (renamed name right) names)
      unfolding using_rule
      using_alike names =
          then_alike name (all_checked (map (key_pair exact left.columns right.columns) names))
          (all_checked (map (key_pair exact (renamed_columns name left.columns) (renamed_columns name right.columns)) names)) _ _
          (all-same (key_pair exact (renamed_columns name left.columns) (renamed_columns name right.columns))
          (key_pair exact left.columns right.columns) (key_renamed exact left.columns right.columns) names)
          keyed_alike

      by_keys : (none : Bool) (condition : Option Expr) (names : List (List ℕ)) →
          Alike name (if none then on_rule same exact kind left right condition else using_rule same exact fresh kind left right names)
          (if none then on_rule same_too exact kind (renamed name left) (renamed name right)
          condition else using_rule same_too exact fresh_too kind (renamed name left) (renamed name right) names)
      by_keys true condition names = on_alike kind condition
      by_keys false condition names = using_alike names

    pub join_alike : (fresh : ℕ → I) (fresh_too : ℕ → J) → DrawnAlike name fresh fresh_too →
        (number : ℤ) (condition : Option Expr) (names : List (List ℕ)) →
        Alike name (join_rule same exact fresh left right number condition names)
        (join_rule same_too exact fresh_too (renamed name left) (renamed name right) number condition names)
    unfolding join_rule
    join_alike fresh fresh_too draws number condition names =
        then_alike name (or_refused (bad_option number) (kind_numbered number)) (or_refused (bad_option number) (kind_numbered number))
        _ _ refl
        (λ kind. let options : Checked (Unit {0}) =
        unless (clash kind (is_there condition) (not (length names == 0))) (bad_option (pos 0)) in
        then_alike name options options
        (λ u. if length names == 0 then on_rule same exact kind left right condition else using_rule same exact fresh kind left right names)
        (λ u. if length names == 0 then on_rule same_too exact kind (renamed name left) (renamed name right)
        condition else using_rule same_too exact fresh_too kind (renamed name left) (renamed name right) names)
        refl (λ u. by_keys fresh fresh_too draws kind (length names == 0) condition names))
