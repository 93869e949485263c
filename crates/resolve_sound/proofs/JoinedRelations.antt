-- Joins.
use Rattle.std.proofs.Common.{◌≡◌, ℕ, ℤ, zero, suc, ◌+◌, Bool, true, false, List, [], ◌∷◌, ◌++◌, map, length, refl, sym, ap, ◌∙◌, subst, Option, Some, None}
use Rattle.std.specs.Prelude.{All, IfOk, IfSome, Ok, nat_eq, codes, filter, filter_map, option_map, slice_get, ◌==◌, not}
use Rattle.std.specs.List.{cons_option}
use Rattle.std.proofs.lemmas.List.{append-nil, length-map, map-append}
use Rattle.std.proofs.lemmas.List.Elements.{All-append, All-cons, All-filter, All-head, All-nil, All-tail}
use Rattle.std.proofs.lemmas.Option.{slice_get-map}
use Rattle.std.proofs.lemmas.Result.{IfOk-at_ok}
use Rattle.cn_types.specs.declared.value.DataType.{DataType}
use Rattle.expression_messages.specs.declared.expression.Expr.{Expr}
use Rattle.plan_model.specs.declared.expression.TypedExpr.{TypedExpr}
use Rattle.plan_model.specs.declared.expression.TypedExpr.TheOpen.{TypedExpr-F}
use Rattle.plan_model.specs.declared.expression.TypedExpr.TheVariants as T
use Rattle.plan_model.specs.declared.function.Function.{Function}
use Rattle.plan_model.specs.declared.node.JoinKind.{JoinKind}
use Rattle.plan_model.specs.FunctionTypes.{always, call_type, common, exactly}
use Rattle.plan_model.specs.NodeTypes.{join_types, kind_of, types}
use Rattle.plan_model.specs.WellFormed.{IsCondition, IsFormOver, IsOver, IsSound}
use Rattle.plan_model.proofs.ExpressionFacts.{kind_of-Call, kind_of-Column, made-Call, made-Column}
use Rattle.plan_model.proofs.NodeFacts.{made-Join}
use Rattle.plan_model.proofs.TypesFacts.{types-Join}
use Rattle.resolve_names.specs.declared.scope.ColumnOf.{ColumnOf}
use Rattle.resolve_names.specs.Checks.{◌>>=◌, or_refused}
use Rattle.resolve_types.specs.Calls.{unless}
use Rattle.resolve_expressions.specs.declared.item.Item.{Item}
use Rattle.resolve_expressions.specs.Grouping.{all_checked}
use Rattle.resolve_expressions.specs.Outputs.{condition_of}
use Rattle.resolve_expressions.specs.Stars.{any_column, items_where}
use Rattle.resolve_expressions.proofs.TypedFacts.{conditions_are_well_formed, get_behind, get_more}
use Rattle.resolve_relations.specs.declared.found.FoundOf.{FoundOf}
use Rattle.resolve_relations.specs.Columns.{column_limit, projection}
use Rattle.resolve_relations.specs.Keeping.{plain_place}
use Rattle.resolve_joins.specs.declared.keys.KeyPair.{KeyPair}
use Rattle.resolve_joins.specs.Joins.{clash, is_there, join_rule, joined, joined_columns, kind_numbered, kind_without, on_rule, perhaps_null, side_columns, using_rule}
use Rattle.resolve_joins.specs.Keys.{all_equal, are_equal, both, is_rest, key_item, key_pair, left_value, merged, paired, right_value, using_items}
use Rattle.resolve_sound.specs.PairLaws.{JoinsAre}
use Rattle.resolve_sound.specs.Sound.{IsSoundFound, kinds}
use Rattle.resolve_sound.proofs.Chains.{all_hold, either_way, then_holds, there}
use Rattle.resolve_sound.proofs.MadeRelations.{projection_sound}
use Rattle.resolve_sound.proofs.Places.{ItemOver, kinds_of_map, passing_over}

-- ---- both sides' columns

module _ {I : Type 0} (left right : List (ColumnOf I)) where
  both_kinds : (a b : Bool) → kinds (side_columns a left ++ side_columns b right) ≡ kinds left ++ kinds right
  both_kinds a b =
      map-append (λ (c : ColumnOf I). c.kind) (side_columns a left) (side_columns b right)
      ∙ ap (λ (ks : List DataType). ks ++ kinds (side_columns b right)) (kinds_of_map (perhaps_null a) (λ c. refl) left)
      ∙ ap (λ (ks : List DataType). kinds left ++ ks) (kinds_of_map (perhaps_null b) (λ c. refl) right)

  left_kinds : (a : Bool) → kinds (side_columns a left ++ []) ≡ kinds left
  left_kinds a = ap kinds (append-nil (side_columns a left)) ∙ kinds_of_map (perhaps_null a) (λ c. refl) left

  joined_kinds : (kind : JoinKind) → kinds (joined_columns kind left right) ≡ join_types kind (kinds left) (kinds right)
  unfolding joined_columns
  joined_kinds JoinKind.Inner = both_kinds false false
  joined_kinds JoinKind.Full = both_kinds true true
  joined_kinds JoinKind.Left = both_kinds false true
  joined_kinds JoinKind.Right = both_kinds true false
  joined_kinds JoinKind.Anti = left_kinds false
  joined_kinds JoinKind.Semi = left_kinds false
  joined_kinds JoinKind.Cross = both_kinds false false

module _ {I : Type 0} (left right : FoundOf I) (on_left : IsSoundFound left) (on_right : IsSoundFound right) where
  abbrev Columns : List DataType
  Columns = kinds left.columns ++ kinds right.columns

  joined_sound : (kind : JoinKind) (condition : Option TypedExpr) → IfSome condition (IsCondition Columns) →
      IsSoundFound (joined kind left right condition)
  joined_sound kind condition holds = record {
    node = made-Join IsSound left.node right.node kind condition
        (subst (λ (ks : List DataType). IfSome condition (IsCondition ks))
        (ap (λ (ks : List DataType). ks ++ kinds right.columns) (sym on_left.columns)
        ∙ ap (λ (ks : List DataType). types left.node ++ ks) (sym on_right.columns)) holds)
        on_left.node on_right.node;
    columns = types-Join left.node right.node kind condition
        ∙ ap (λ (ks : List DataType). join_types kind ks (types right.node)) on_left.columns
        ∙ ap (λ (ks : List DataType). join_types kind (kinds left.columns) ks) on_right.columns
        ∙ sym (joined_kinds left.columns right.columns kind);
  }

-- ---- keys

record IsKey (left right : List DataType) (key : KeyPair) : Type 0 where
  on_left : slice_get left key.left ≡ Some key.left_kind
  on_right : slice_get right key.right ≡ Some key.right_kind
  together : common key.left_kind key.right_kind ≡ Some key.kind

kind_at : {I : Type 0} (columns : List (ColumnOf I)) (place : ℕ) (column : ColumnOf I) → slice_get columns place ≡ Some column →
    slice_get (kinds columns) place ≡ Some column.kind
kind_at columns place column is = slice_get-map (λ c. c.kind) columns place ∙ ap (option_map (λ c. c.kind)) is

module _ {I : Type 0} (exact : Bool) (left right : List (ColumnOf I)) where
  abbrev Key : KeyPair → Type 0
  Key = IsKey (kinds left) (kinds right)

  abbrev pair_of : ℕ → ℕ → ColumnOf I → ColumnOf I → DataType → KeyPair
  pair_of l r a b kind = record { left = l; left_kind = a.kind; right = r; right_kind = b.kind; kind = kind }

  typed_key : (l r : ℕ) (a b : ColumnOf I) → slice_get left l ≡ Some a → slice_get right r ≡ Some b → (kind : Option DataType) →
      common a.kind b.kind ≡ kind →
      IfSome (option_map (pair_of l r a b) kind) Key
  typed_key l r a b on_left on_right None is = tt
  typed_key l r a b on_left on_right (Some kind) is =
      record { on_left = kind_at left l a on_left; on_right = kind_at right r b on_right; together = is }

  paired_key : (l r : ℕ) (a b : Option (ColumnOf I)) → slice_get left l ≡ a → slice_get right r ≡ b → IfSome (paired l r a b) Key
  paired_key l r (Some a) (Some b) on_left on_right = typed_key l r a b on_left on_right (common a.kind b.kind) refl
  paired_key l r (Some a) None on_left on_right = tt
  paired_key l r None b on_left on_right = tt

  key_found : (name : List ℕ) → IfOk (key_pair exact left right name) Key
  unfolding key_pair
  key_found name =
      then_holds Key (plain_place exact left name) _ (λ l is.
      then_holds Key (plain_place exact right name) _ (λ r also.
      there Key _ (paired l r (slice_get left l) (slice_get right r)) (paired_key l r (slice_get left l) (slice_get right r) refl refl)))

module _ (left right : List DataType) (width : ℕ) (wide : width ≡ length left) where
  abbrev Sides : List DataType
  Sides = left ++ right

  abbrev Form : TypedExpr-F TypedExpr → Type 0
  Form = IsFormOver Sides

  module _ (key : KeyPair) (is_key : IsKey left right key) where
    left_over : IsOver Sides (left_value key)
    left_over = made-Column Form key.left key.left_kind (get_more left right key.left key.left_kind is_key.on_left)

    right_over : IsOver Sides (right_value width key)
    right_over = made-Column Form (width + key.right) key.right_kind
        (get_behind left right key.right (width + key.right) (ap (λ (n : ℕ). n + key.right) wide) ∙ is_key.on_right)

    -- their types
    sides_common : (f : Option DataType → Option DataType) →
        f (common (kind_of (left_value key)) (kind_of (right_value width key))) ≡ f (Some key.kind)
    sides_common f =
        ap (λ (a : DataType). f (common a (kind_of (right_value width key)))) (kind_of-Column key.left key.left_kind)
        ∙ ap (λ (b : DataType). f (common key.left_kind b)) (kind_of-Column (width + key.right) key.right_kind)
        ∙ ap f is_key.together

    equal_over : IsCondition Sides (are_equal width key)
    unfolding call_type
    equal_over = record {
      over = made-Call Form Function.EqualTo (left_value key ∷ right_value width key ∷ []) DataType.Boolean
          (sides_common (always DataType.Boolean)) (left_over, (right_over, tt));
      boolean = kind_of-Call Function.EqualTo (left_value key ∷ right_value width key ∷ []) DataType.Boolean;
    }

    coalesced_over : IsOver Sides (T.Call Function.Coalesce (left_value key ∷ right_value width key ∷ []) key.kind)
    unfolding call_type
    coalesced_over = made-Call Form Function.Coalesce (left_value key ∷ right_value width key ∷ []) key.kind (sides_common (λ o. o))
        (left_over, (right_over, tt))

  both_over : (test : TypedExpr) (rest : Option TypedExpr) → IsCondition Sides test → IfSome rest (IsCondition Sides) →
      IsCondition Sides (both test rest)
  unfolding call_type
  both_over test None h k = h
  both_over test (Some rest) h k = record {
    over = made-Call Form Function.And (test ∷ rest ∷ []) DataType.Boolean
        (ap (λ (a : DataType). exactly (DataType.Boolean ∷ DataType.Boolean ∷ []) DataType.Boolean (a ∷ kind_of rest ∷ [])) h.boolean
        ∙ ap (λ (b : DataType). exactly (DataType.Boolean ∷ DataType.Boolean ∷ []) DataType.Boolean (DataType.Boolean ∷ b ∷ [])) k.boolean)
        (h.over, (k.over, tt));
    boolean = kind_of-Call Function.And (test ∷ rest ∷ []) DataType.Boolean;
  }

  all_over : (keys : List KeyPair) → All (IsKey left right) keys → IfSome (all_equal width keys) (IsCondition Sides)
  unfolding all_equal
  all_over [] all = tt
  all_over (key ∷ keys) all =
      both_over (are_equal width key) (all_equal width keys) (equal_over key (All-head (IsKey left right) key keys all))
      (all_over keys (All-tail (IsKey left right) key keys all))

-- ---- the items of a join by keys

pub at_place : {X : Type 0} (P : X → Type 0) (xs : List X) (place : ℕ) → All P xs → IfSome (slice_get xs place) P
at_place P [] place all = tt
at_place P (x ∷ xs) zero all = All-head P x xs all
at_place P (x ∷ xs) (suc n) all = at_place P xs n (All-tail P x xs all)

maybe_more : {X : Type 0} (P : X → Type 0) (o : Option X) (xs : List X) → IfSome o P → All P xs → All P (cons_option o xs)
maybe_more P (Some x) xs h all = All-cons P x xs h all
maybe_more P None xs h all = all

pub all_given : {X Y : Type 0} (P : Y → Type 0) (Q : X → Type 0) (f : X → Option Y) → ((x : X) → Q x → IfSome (f x) P) → (xs : List X) →
    All Q xs → All P (filter_map f xs)
all_given P Q f h [] all = All-nil P
all_given P Q f h (x ∷ xs) all = maybe_more P (f x) (filter_map f xs) (h x (All-head Q x xs all))
    (all_given P Q f h xs (All-tail Q x xs all))

module _ (left right : List DataType) (width : ℕ) (wide : width ≡ length left) (items : List Item) where
  merged_over : (key : KeyPair) → IsKey left right key → (o : Option Item) →
      IfSome (option_map (merged width key) o) (ItemOver (left ++ right))
  merged_over key is_key None = tt
  merged_over key is_key (Some item) = coalesced_over left right width wide key is_key

  item_over : (kind : JoinKind) → All (ItemOver (join_types kind left right)) items → (key : KeyPair) → IsKey left right key →
      IfSome (key_item kind width items key) (ItemOver (join_types kind left right))
  item_over JoinKind.Inner all key is_key = at_place (ItemOver (left ++ right)) items key.left all
  item_over JoinKind.Full all key is_key = merged_over key is_key (slice_get items key.left)
  item_over JoinKind.Left all key is_key = at_place (ItemOver (left ++ right)) items key.left all
  item_over JoinKind.Right all key is_key = at_place (ItemOver (left ++ right)) items (width + key.right) all
  item_over JoinKind.Anti all key is_key = at_place (ItemOver left) items key.left all
  item_over JoinKind.Semi all key is_key = at_place (ItemOver left) items key.left all
  item_over JoinKind.Cross all key is_key = at_place (ItemOver (left ++ right)) items key.left all

  using_over : (kind : JoinKind) (keys : List KeyPair) → All (ItemOver (join_types kind left right)) items → All (IsKey left right) keys →
      All (ItemOver (join_types kind left right)) (using_items kind width keys items)
  unfolding using_items
  using_over kind keys all are_keys =
      All-append (ItemOver (join_types kind left right)) (filter_map (key_item kind width items) keys) (filter (is_rest width keys) items)
      (all_given (ItemOver (join_types kind left right)) (IsKey left right) (key_item kind width items) (item_over kind all) keys are_keys)
      (All-filter (is_rest width keys) (ItemOver (join_types kind left right)) items all)

-- ---- the rule

module _ (exact : Bool) (fresh : ℕ → ℕ) (left right : FoundOf ℕ) (on_left : IsSoundFound left) (on_right : IsSoundFound right) where
  on_condition : (kind : JoinKind) (condition : Option Expr) → IfOk (on_rule nat_eq exact kind left right condition) IsSoundFound
  unfolding on_rule
  on_condition kind None = joined_sound left right on_left on_right (kind_without kind) None tt
  on_condition kind (Some condition) =
      then_holds IsSoundFound (condition_of nat_eq exact (left.columns ++ right.columns) (left.relations ++ right.relations)
      (codes "join") condition) _ (λ test is.
      joined_sound left right on_left on_right kind (Some test)
      (subst (λ (ks : List DataType). IsCondition ks test) (map-append (λ (c : ColumnOf ℕ). c.kind) left.columns right.columns)
      (conditions_are_well_formed exact (left.columns ++ right.columns) (left.relations ++ right.relations)
      (codes "join") condition test is)))

  abbrev Wide : length left.columns ≡ length (kinds left.columns)
  Wide = sym (length-map left.columns (λ column. column.kind))

  module _ (kind : JoinKind) (keys : List KeyPair) (are_keys : All (IsKey (kinds left.columns) (kinds right.columns)) keys) where
    abbrev width : ℕ
    width = length left.columns

    abbrev pairs : FoundOf ℕ
    pairs = joined kind left right (all_equal width keys)

    pairs_sound : IsSoundFound pairs
    pairs_sound = joined_sound left right on_left on_right kind (all_equal width keys)
        (all_over (kinds left.columns) (kinds right.columns) width Wide keys are_keys)

    abbrev its_items : List Item
    its_items = items_where any_column 0 pairs.columns

    same_kinds : kinds pairs.columns ≡ join_types kind (kinds left.columns) (kinds right.columns)
    same_kinds = joined_kinds left.columns right.columns kind

    keyed_over : All (ItemOver (kinds pairs.columns)) (using_items kind width keys its_items)
    keyed_over = subst (λ (ks : List DataType). All (ItemOver ks) (using_items kind width keys its_items)) (sym same_kinds)
        (using_over (kinds left.columns) (kinds right.columns) width Wide its_items kind keys
        (subst (λ (ks : List DataType). All (ItemOver ks) its_items) same_kinds (passing_over any_column pairs.columns)) are_keys)

    abbrev made : List Item
    made = using_items kind width keys its_items

    keyed_sound : IfOk (column_limit (length made) >>= λ counted. Ok (projection fresh pairs made)) IsSoundFound
    keyed_sound = then_holds IsSoundFound (column_limit (length made)) _ (λ u is. projection_sound pairs pairs_sound fresh made keyed_over)

  by_keys : (kind : JoinKind) (names : List (List ℕ)) → IfOk (using_rule nat_eq exact fresh kind left right names) IsSoundFound
  unfolding using_rule
  by_keys kind names = then_holds IsSoundFound (all_checked (map (key_pair exact left.columns right.columns) names)) _ (λ keys are.
      keyed_sound kind keys (IfOk-at_ok (All Its) are
      (all_hold Its (key_pair exact left.columns right.columns) (key_found exact left.columns right.columns) names)))
    where
      Its : KeyPair → Type 0
      Its = IsKey (kinds left.columns) (kinds right.columns)

  pub join_sound : (number : ℤ) (condition : Option Expr) (names : List (List ℕ)) →
      IfOk (join_rule nat_eq exact fresh left right number condition names) IsSoundFound
  unfolding join_rule
  join_sound number condition names =
      then_holds IsSoundFound (or_refused _ (kind_numbered number)) _ (λ kind is.
      then_holds IsSoundFound (unless (clash kind (is_there condition) (not (length names == 0))) _) _ (λ u options.
      either_way IsSoundFound (length names == 0) _ _ (on_condition kind condition) (by_keys kind names)))

pub joins_sound : JoinsAre IsSoundFound
joins_sound = record {
  joins = λ exact fresh number condition names left right on_left on_right.
      join_sound exact fresh left right on_left on_right number condition names;
}
