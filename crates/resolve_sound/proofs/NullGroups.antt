-- Aggregates give no null but where their columns may have one.
use Rattle.std.proofs.Common.{◌≡◌, ℕ, ℤ, zero, suc, ◌+◌, ◌-◌, ◌<◌, Bool, true, false, List, [], ◌∷◌, ◌++◌, map, length, get_or, refl, sym, ap, ◌∙◌, subst, arith, append_assoc, Option, Some, None}
use Rattle.std.specs.Prelude.{not, All, IfOk, IfSome, Ok, nat_eq, option_map, position, slice_get, unwrap_or}
use Rattle.std.specs.List.{AllByRecursion, list_any}
use Rattle.std.proofs.lemmas.List.{length-map, length_push}
use Rattle.std.proofs.lemmas.List.Elements.{All-append, All-cons, All-head, All-map, All-nil, All-tail, All-weaker}
use Rattle.std.proofs.lemmas.List.Quantifiers.{position-Some}
use Rattle.std.proofs.lemmas.Option.{slice_get-map}
use Rattle.std.proofs.lemmas.Result.{IfOk-at_ok}
use Rattle.cn_types.specs.declared.row.Row.{Row}
use Rattle.cn_types.specs.declared.value.DataType.{DataType}
use Rattle.cn_types.specs.declared.value.Value.{Value}
use Rattle.cn_types.specs.declared.value.Value.TheVariants.{Null}
use Rattle.expression_messages.specs.declared.expression.Alias.{Alias}
use Rattle.expression_messages.specs.declared.expression.UnresolvedStar.{UnresolvedStar}
use Rattle.expression_messages.specs.declared.expression.Expr.{Expr}
use Rattle.plan_model.specs.declared.expression.TypedExpr.{TypedExpr}
use Rattle.plan_model.specs.declared.expression.TypedExpr.TheVariants as T
use Rattle.plan_model.specs.declared.node.AggregateCall.{AggregateCall}
use Rattle.plan_model.specs.Aggregates.{call_value}
use Rattle.plan_model.specs.Groups.{aggregated as group_row, group as group_of, key_and_calls, key_values}
use Rattle.plan_model.specs.NodeTypes.{kind_of}
use Rattle.plan_model.specs.Selections.{image}
use Rattle.plan_model.specs.Truth.{is_present}
use Rattle.plan_model.specs.Val.{val}
use Rattle.plan_model.specs.WellFormed.{IsOver}
use Rattle.plan_model.proofs.ExpressionFacts.{Forms, induct}
use Rattle.plan_model.proofs.ValueFacts.{values_of_forms}
use Rattle.resolve_names.specs.declared.scope.ColumnOf.{ColumnOf}
use Rattle.resolve_names.specs.declared.scope.Tagged.{Tagged}
use Rattle.resolve_names.specs.Checks.{Checked, or_refused}
use Rattle.resolve_functions.specs.Arguments.{untyped}
use Rattle.resolve_types.specs.Calls.{is_count}
use Rattle.resolve_expressions.specs.declared.item.Item.{Item}
use Rattle.resolve_expressions.specs.Grouping.{has_aggregate, key_or, regrouped, regrouped_item, ungrouped}
use Rattle.resolve_expressions.specs.Items.{Itemized, alias_of, attribute_title, call_is_nullable, column_is_nullable, is_nullable, item_by, item_of, one_name, typed_item}
use Rattle.resolve_expressions.specs.Outputs.{Grouped, grouped, grouped_by, grouped_item, grouped_star, key_items, regrouped_items, star_meant}
use Rattle.resolve_expressions.specs.Same.{same_expr}
use Rattle.resolve_expressions.specs.Stars.{column_item, star_items}
use Rattle.resolve_expressions.specs.Titles.{title}
use Rattle.resolve_expressions.specs.Typings.{typed_over}
use Rattle.resolve_expressions.proofs.GroupForms.{keyed-Column, keyed-Literal}
use Rattle.resolve_expressions.proofs.SameFacts.{same_is_equal}
use Rattle.resolve_expressions.proofs.TypedFacts.{get_behind, get_more, same_ok}
use Rattle.resolve_relations.specs.declared.found.FoundOf.{FoundOf}
use Rattle.resolve_relations.specs.Columns.{expr_of, exprs_of, made_columns, numbered, numbered_from}
use Rattle.resolve_relations.specs.Making.{aggregate_rule, aggregated, aggregation, grouping_only, key_value, project_rule}
use Rattle.resolve_sound.specs.Laws.{AggregatesAre}
use Rattle.resolve_sound.specs.Sound.{FitsNulls, IsNullSafe, flags, kinds}
use Rattle.resolve_sound.proofs.Chains.{all_hold_of, either_way, then_holds}
use Rattle.resolve_sound.proofs.CountValues.{count_may}
use Rattle.resolve_sound.proofs.JoinedRelations.{at_place}
use Rattle.resolve_sound.proofs.KeptCalls.{Grows, calls_grow, grows_more, grows_none}
use Rattle.resolve_sound.proofs.MadeRelations.{aggregates_sound}
use Rattle.resolve_sound.proofs.NodeRows.{all_mapped, each_group}
use Rattle.resolve_sound.proofs.NullFacts.{Gives, May, flags_of_made, image_may}
use Rattle.resolve_sound.proofs.NullItems.{expr_tells, literal_may, null_Call, null_Cast, null_Column, null_Literal, typed_give}
use Rattle.resolve_sound.proofs.NullRelations.{TellsNulls, plain_tells, safe_answer, told}
use Rattle.resolve_sound.proofs.PlainItems.{keys_hold, keys_over, star_holds}
use Rattle.resolve_sound.proofs.Places.{ItemOver, OfEach}

-- ---- places

get_front : {X : Type 0} (xs ys : List X) (n : ℕ) → n < length xs → slice_get (xs ++ ys) n ≡ slice_get xs n
get_front [] ys n within = absurd (let h : ⊥ = omega arith in h)
get_front (x ∷ xs) ys zero within = refl
get_front (x ∷ xs) ys (suc n) within = get_front xs ys n (omega arith)

get_within : {X : Type 0} (xs : List X) (n : ℕ) (x : X) → slice_get xs n ≡ Some x → n < length xs
get_within [] n x is = absurd (let h : ⊥ = cc in h)
get_within (y ∷ ys) zero x is = omega arith
get_within (y ∷ ys) (suc n) x is = let h : n < length ys = get_within ys n x is in omega arith

here : {X : Type 0} (xs : List X) (n : ℕ) → n < length xs → (x : X) × (slice_get xs n ≡ Some x) × (get_or xs n x ≡ x)
here [] n within = absurd (let h : ⊥ = omega arith in h)
here (x ∷ xs) zero within = (x, refl, refl)
here (x ∷ xs) (suc n) within = let h : n < length xs = omega arith in here xs n h

position_within : (p : TypedExpr → Bool) (xs : List TypedExpr) (i : ℕ) → position p xs ≡ Some i → i < length xs
position_within p [] i e = absurd (let h : ⊥ = cc in h)
position_within p (x ∷ xs) i e = (position-Some p (x ∷ xs) i x e).0

at_front : {X : Type 0} (front : List X) (x : X) (rest : List X) → slice_get (front ++ x ∷ rest) (length front) ≡ Some x
at_front [] x rest = refl
at_front (y ∷ ys) x rest = at_front ys x rest

-- the key that is the same stands at its place
key_at : (expr : TypedExpr) (keys : List TypedExpr) (place : ℕ) → position (same_expr expr) keys ≡ Some place →
    slice_get keys place ≡ Some expr
key_at expr keys place is =
    let own = here keys place (position_within (same_expr expr) keys place is) in
    let passes : same_expr expr own.0 ≡ true = ap (same_expr expr) (sym own.2) ∙ (position-Some (same_expr expr) keys place own.0 is).1 in
    own.1 ∙ ap Some (sym ((same_is_equal expr own.0).0 passes))

-- ---- the rows of keys

module _ (columns : List (ColumnOf ℕ)) (keys : List TypedExpr) where
  abbrev FitsHere : Row → Type 0
  FitsHere = FitsNulls (flags columns)

  -- a value for each key, that of some row
  record IsKeyRow (key : Row) : Type 0 where
    long : length key.0 ≡ length keys
    values : (place : ℕ) (expr : TypedExpr) (nullable : Bool) → slice_get keys place ≡ Some expr →
        ((row : Row) → FitsHere row → May nullable (val expr row)) →
        May nullable (unwrap_or (slice_get key.0 place) Null)

  image_key : (row : Row) → FitsHere row → IsKeyRow (image keys row)
  image_key row fits = record {
    long = length-map keys (λ item. val item row);
    values = λ place expr nullable is h.
        subst (λ (o : Option Value). May nullable (unwrap_or o Null))
        (sym (slice_get-map (λ item. val item row) keys place ∙ ap (option_map (λ item. val item row)) is)) (h row fits);
  }

no_key : (columns : List (ColumnOf ℕ)) → IsKeyRow columns [] (record { 0 = [] })
no_key columns = record { long = refl; values = λ place expr nullable is h. absurd (let f : ⊥ = cc in f) }

key_rows : (columns : List (ColumnOf ℕ)) (keys : List TypedExpr) (a : List Row) → AllByRecursion (FitsNulls (flags columns)) a →
    AllByRecursion (IsKeyRow columns keys) (key_values keys a)
key_rows columns [] a all = (no_key columns, tt)
key_rows columns (key ∷ keys) a all = all_mapped (FitsNulls (flags columns)) (IsKeyRow columns (key ∷ keys)) (image (key ∷ keys))
    (image_key columns (key ∷ keys)) a all

-- ---- a part of an item over the keys' and the calls' values

module _ (columns : List (ColumnOf ℕ)) (keys : List TypedExpr) (keys_are_over : All (IsOver (kinds columns)) keys) where
  abbrev Key : Row → Type 0
  Key = IsKeyRow columns keys

  -- over the groups, whatever calls come behind these
  abbrev Good : List AggregateCall → Bool → TypedExpr → Type 0
  Good calls nullable made =
      (all : List AggregateCall) → Grows calls all → (a : List Row) (key : Row) → Key key →
      May nullable (val made (key_and_calls keys all a key))

  good_more : (calls more : List AggregateCall) (nullable : Bool) (made : TypedExpr) → Grows calls more → Good calls nullable made →
      Good more nullable made
  good_more calls more nullable made grown h all grows a key is = h all (grows_more calls more all grown grows) a key is

  -- a key's value
  key_good : (calls : List AggregateCall) (place : ℕ) (expr : TypedExpr) (kind : DataType) (nullable : Bool) →
      slice_get keys place ≡ Some expr →
      ((row : Row) → FitsNulls (flags columns) row → May nullable (val expr row)) → Good calls nullable (T.Column place kind)
  key_good calls place expr kind nullable there h all grows a key is =
      let within : place < length keys = get_within keys place expr there in
      let long : length key.0 ≡ length keys = is.long in
      subst (May nullable)
      (sym (values_of_forms.column place kind (key_and_calls keys all a key)
      ∙ ap (λ (o : Option Value). unwrap_or o Null)
      (get_front key.0 (map (λ c. call_value c (group_of keys a key)) all) place (omega arith))))
      (is.values place expr nullable there h)

  over_at : (place : ℕ) (expr : TypedExpr) → slice_get keys place ≡ Some expr → IsOver (kinds columns) expr
  over_at place expr there = subst (λ (o : Option TypedExpr). IfSome o (IsOver (kinds columns))) there
      (at_place (IsOver (kinds columns)) keys place keys_are_over)

  module _ (calls : List AggregateCall) where
    -- a call's value
    behind_may : (n : ℕ) (o : Option AggregateCall) → slice_get calls n ≡ o → (kind : DataType) →
        Good calls (call_is_nullable o) (T.Column (length keys + n) kind)
    behind_may n None none kind all grows a key is = refl
    behind_may n (Some call) there kind all grows a key is =
        let long : length key.0 ≡ length keys = is.long in
        let value = λ (c : AggregateCall). call_value c (group_of keys a key) in
        let found : slice_get (key.0 ++ map value all) (length keys + n) ≡ Some (value call) =
        get_behind key.0 (map value all) n (length keys + n) (omega arith)
        ∙ slice_get-map value all n
        ∙ ap (option_map value) (subst (λ (cs : List AggregateCall). slice_get cs n ≡ Some call) (sym grows.1)
        (get_more calls grows.0 n call there)) in
        subst (May (not (is_count call.function)))
        (sym (values_of_forms.column (length keys + n) kind (key_and_calls keys all a key)
        ∙ ap (λ (o : Option Value). unwrap_or o Null) found))
        (count_may call.function call.distinct call.argument (group_of keys a key))

    abbrev over : TypedExpr → Checked TypedExpr
    over = regrouped same_expr columns keys

    abbrev Holds : TypedExpr → Type 0
    Holds expr = (made : TypedExpr) → over expr ≡ Ok made → Good calls (is_nullable columns calls expr) made

    by_or : (o : Option ℕ) (expr made : TypedExpr) (otherwise : Checked TypedExpr) → position (same_expr expr) keys ≡ o →
        (otherwise ≡ Ok made → Good calls (is_nullable columns calls expr) made) → key_or o expr otherwise ≡ Ok made →
        Good calls (is_nullable columns calls expr) made
    by_or (Some place) expr made otherwise found rest is =
        let there : slice_get keys place ≡ Some expr = key_at expr keys place found in
        subst (Good calls (is_nullable columns calls expr)) (same_ok (T.Column place (kind_of expr)) made is)
        (key_good calls place expr (kind_of expr) (is_nullable columns calls expr) there
        (λ row fits. expr_tells columns calls expr (over_at place expr there) row fits))
    by_or None expr made otherwise found rest is = rest is

    by_form : (expr made : TypedExpr) (otherwise : Checked TypedExpr) → over expr ≡ key_or (position (same_expr expr) keys) expr otherwise →
        (otherwise ≡ Ok made → Good calls (is_nullable columns calls expr) made) → over expr ≡ Ok made →
        Good calls (is_nullable columns calls expr) made
    by_form expr made otherwise form rest is = by_or (position (same_expr expr) keys) expr made otherwise refl rest (sym form ∙ is)

    may_be : (expr made : TypedExpr) → is_nullable columns calls expr ≡ true → Good calls (is_nullable columns calls expr) made
    may_be expr made e = subst (λ (b : Bool). Good calls b made) (sym e) (λ all grows a key is. refl)

    column_good : (o : Option (ColumnOf ℕ)) (place : ℕ) (kind : DataType) (made : TypedExpr) →
        ungrouped o (length columns) (length keys) place kind ≡ Ok made →
        Good calls (column_is_nullable columns calls place o) made
    column_good (Some column) place kind made is = absurd (let h : ⊥ = cc in h)
    column_good None place kind made is =
        subst (Good calls (call_is_nullable (slice_get calls (place - length columns))))
        (same_ok (T.Column (length keys + (place - length columns)) kind) made is)
        (behind_may (place - length columns) (slice_get calls (place - length columns)) refl kind)

    forms : Forms Holds
    forms = record {
      column = λ place kind made is. by_form (T.Column place kind) made _ (keyed-Column same_expr columns keys place kind)
          (λ e. subst (λ (b : Bool). Good calls b made) (sym (null_Column columns calls place kind))
          (column_good (slice_get columns place) place kind made e)) is;
      literal = λ value kind made is. by_form (T.Literal value kind) made _ (keyed-Literal same_expr columns keys value kind)
          (λ e. subst (λ (b : Bool). Good calls b made) (sym (null_Literal columns calls value kind))
          (subst (Good calls (not (is_present value))) (same_ok (T.Literal value kind) made e)
          (λ all grows a key is_key. subst (May (not (is_present value)))
          (sym (values_of_forms.literal value kind (key_and_calls keys all a key))) (literal_may value)))) is;
      call_form = λ function arguments kind parts made is. may_be (T.Call function arguments kind) made
          (null_Call columns calls function arguments kind);
      cast = λ child kind part made is. may_be (T.Cast child kind) made (null_Cast columns calls child kind);
    }

    regrouped_good : (expr : TypedExpr) → Holds expr
    regrouped_good = induct Holds forms

  -- ---- items

  abbrev GoodItem : List AggregateCall → Item → Type 0
  GoodItem calls item = Good calls item.nullable item.expr

  -- what an item will be over the groups
  abbrev WillBe : List AggregateCall → Item → Type 0
  WillBe calls item = (made : TypedExpr) → regrouped same_expr columns keys item.expr ≡ Ok made → Good calls item.nullable made

  one_regrouped : (calls : List AggregateCall) (item : Item) → WillBe calls item →
      IfOk (regrouped_item same_expr columns keys item) (GoodItem calls)
  one_regrouped calls item h = then_holds (GoodItem calls) (regrouped same_expr columns keys item.expr) _ (λ made is. h made is)

  all_regrouped : (calls : List AggregateCall) (items : List Item) → All (WillBe calls) items →
      IfOk (regrouped_items columns keys items) (All (GoodItem calls))
  all_regrouped calls items h = all_hold_of (WillBe calls) (GoodItem calls) (regrouped_item same_expr columns keys)
      (one_regrouped calls) items h

  module _ (exact : Bool) (relations : List (Tagged ℕ)) where
    record IsItemizedWell (calls : List AggregateCall) (itemized : Itemized) : Type 0 where
      grows : Grows calls itemized.calls
      item : WillBe itemized.calls itemized.item

    typed_well : (calls : List AggregateCall) (name : List ℕ) (bare : Bool) (expr : Expr) →
        IfOk (typed_item nat_eq exact columns relations name bare expr true calls) (IsItemizedWell calls)
    typed_well calls name bare expr =
        then_holds (IsItemizedWell calls) (typed_over nat_eq exact columns relations expr true calls) _ (λ typing is.
        then_holds (IsItemizedWell calls) (or_refused untyped typing.expr) _ (λ typed there_is. record {
          grows = IfOk-at_ok (λ t. Grows calls t.calls) is (calls_grow nat_eq exact columns relations expr true calls);
          item = regrouped_good typing.calls typed;
        }))

    by_well : (calls : List AggregateCall) (alias : Option (Alias Expr)) (expr : Expr) →
        IfOk (item_by nat_eq exact columns relations alias expr true calls) (IsItemizedWell calls)
    by_well calls (Some alias) expr = then_holds (IsItemizedWell calls) (one_name alias.name) _
        (λ name is. typed_well calls name false alias.expr)
    by_well calls None expr = typed_well calls (title (attribute_title nat_eq exact columns relations) expr) true expr

    item_well : (calls : List AggregateCall) (expr : Expr) →
        IfOk (item_of nat_eq exact columns relations expr true calls) (IsItemizedWell calls)
    unfolding item_of
    item_well calls expr = by_well calls (alias_of expr) expr

    record AreWell (calls : List AggregateCall) (found : Grouped) : Type 0 where
      grows : Grows calls found.calls
      items : All (GoodItem found.calls) found.items

    item_grouped : (calls : List AggregateCall) (expr : Expr) →
        IfOk (grouped_item nat_eq exact columns relations keys expr calls) (AreWell calls)
    unfolding grouped_item
    item_grouped calls expr =
        then_holds (AreWell calls) (item_of nat_eq exact columns relations expr true calls) _ (λ itemized is.
        let h = IfOk-at_ok (IsItemizedWell calls) is (item_well calls expr) in
        then_holds (AreWell calls) (regrouped_items columns keys (itemized.item ∷ [])) _ (λ items are. record {
          grows = h.grows;
          items = IfOk-at_ok (All (GoodItem itemized.calls)) are (all_regrouped itemized.calls (itemized.item ∷ [])
              (All-cons (WillBe itemized.calls) itemized.item [] h.item (All-nil (WillBe itemized.calls))));
        }))

    columns_well : (calls : List AggregateCall) → OfEach columns (WillBe calls) column_item
    columns_well calls front c rest whole made is =
        subst (λ (b : Bool). Good calls b made)
        (null_Column columns calls (length front) c.kind
        ∙ ap (column_is_nullable columns calls (length front))
        (subst (λ (cs : List (ColumnOf ℕ)). slice_get cs (length front) ≡ Some c) whole (at_front front c rest)))
        (regrouped_good calls (T.Column (length front) c.kind) made is)

    star_grouped : (calls : List AggregateCall) (star : UnresolvedStar) →
        IfOk (grouped_star nat_eq exact columns relations keys star calls) (AreWell calls)
    unfolding grouped_star
    star_grouped calls star =
        then_holds (AreWell calls) (star_items exact columns star.unparsed_target) _ (λ meant is.
        then_holds (AreWell calls) (regrouped_items columns keys meant) _ (λ items are. record {
          grows = grows_none calls;
          items = IfOk-at_ok (All (GoodItem calls)) are (all_regrouped calls meant
              (IfOk-at_ok (All (WillBe calls)) is (star_holds exact columns relations (WillBe calls)
              (columns_well calls) star.unparsed_target)));
        }))

    one_grouped : (calls : List AggregateCall) (star : Option UnresolvedStar) (expr : Expr) →
        IfOk (grouped_by nat_eq exact columns relations star keys expr calls) (AreWell calls)
    one_grouped calls (Some star) expr = star_grouped calls star
    one_grouped calls None expr = item_grouped calls expr

    all_grouped : (stars : Bool) (exprs : List Expr) (calls : List AggregateCall) →
        IfOk (grouped nat_eq exact columns relations stars keys exprs calls) (AreWell calls)
    unfolding grouped
    all_grouped stars [] calls = record { grows = grows_none calls; items = All-nil (GoodItem calls) }
    all_grouped stars (expr ∷ exprs) calls =
        then_holds (AreWell calls) (grouped_by nat_eq exact columns relations (star_meant stars expr) keys expr calls) _ (λ first is.
        let h = IfOk-at_ok (AreWell calls) is (one_grouped calls (star_meant stars expr) expr) in
        then_holds (AreWell calls) (grouped nat_eq exact columns relations stars keys exprs first.calls) _ (λ rest are.
        let k = IfOk-at_ok (AreWell first.calls) are (all_grouped stars exprs first.calls) in
        record {
          grows = grows_more calls first.calls rest.calls h.grows k.grows;
          items = All-append (GoodItem rest.calls) first.items rest.items
              (All-weaker (GoodItem first.calls) (GoodItem rest.calls)
              (λ item g. good_more first.calls rest.calls item.nullable item.expr k.grows g) first.items h.items) k.items;
        }))

-- ---- the values of keys

module _ (columns : List (ColumnOf ℕ)) (calls : List AggregateCall) where
  -- the expression at a number of the keys
  key_stands : (front : List Item) (key : Item) (rest : List Item) (n : ℕ) → n ≡ length front →
      slice_get (exprs_of (front ++ key ∷ rest)) n ≡ Some key.expr
  key_stands [] key rest n is = ap (slice_get (exprs_of (key ∷ rest))) is
  key_stands (k ∷ ks) key rest zero is = absurd (let h : ⊥ = omega arith in h)
  key_stands (k ∷ ks) key rest (suc n) is = let h : n ≡ length ks = omega arith in key_stands ks key rest n h

  module _ (all : List Item) (over : All (IsOver (kinds columns)) (exprs_of all)) where
    abbrev ValueGood : Item → Type 0
    ValueGood = GoodItem columns (exprs_of all) over calls

    values_good : (front keys : List Item) (n : ℕ) → n ≡ length front → front ++ keys ≡ all → All (Gives columns) keys →
        All ValueGood (numbered_from key_value n keys)
    values_good front [] n is whole give = All-nil ValueGood
    values_good front (key ∷ keys) n is whole give =
        All-cons ValueGood (key_value n key) (numbered_from key_value (suc n) keys)
        (key_good columns (exprs_of all) over calls n key.expr (kind_of key.expr) key.nullable
        (subst (λ (ks : List Item). slice_get (exprs_of ks) n ≡ Some key.expr) whole (key_stands front key keys n is))
        (All-head (Gives columns) key keys give))
        (values_good (front ++ key ∷ []) keys (suc n) (omega (arith, length_push front key)) (append_assoc front (key ∷ []) keys ∙ whole)
        (All-tail (Gives columns) key keys give))

-- ---- the rules

weaker : (P Q : Row → Type 0) → ((row : Row) → P row → Q row) → (rows : List Row) → AllByRecursion P rows → AllByRecursion Q rows
weaker P Q h [] all = tt
weaker P Q h (row ∷ rows) all = (h row all.0, weaker P Q h rows all.1)

module _ (exact : Bool) (fresh : ℕ → ℕ) (input : FoundOf ℕ) (safe : IsNullSafe input) where
  abbrev Over : Item → Type 0
  Over = ItemOver (kinds input.columns)

  module _ (keys : List Item) (over : All Over keys) (give : All (Gives input.columns) keys) where
    abbrev exprs : List TypedExpr
    exprs = exprs_of keys

    exprs_over : All (IsOver (kinds input.columns)) exprs
    exprs_over = All-map (IsOver (kinds input.columns)) expr_of keys over

    abbrev items_of : Grouped → List Item
    items_of found = numbered key_value keys ++ found.items

    grouped_tells : (found : Grouped) → AreWell input.columns exprs exprs_over exact input.relations [] found →
        TellsNulls (aggregation fresh input exprs found.calls (items_of found))
    grouped_tells found h = each_group (FitsNulls (flags input.columns))
        (FitsNulls (flags (made_columns fresh input.columns (items_of found)))) input.node (told input safe) exprs found.calls
        (exprs_of (items_of found))
        (λ a all. weaker (IsKeyRow input.columns exprs)
        (λ key. FitsNulls (flags (made_columns fresh input.columns (items_of found)))
        (group_row exprs found.calls (exprs_of (items_of found)) a key))
        (λ key is. subst (λ (fs : List Bool). FitsNulls fs (group_row exprs found.calls (exprs_of (items_of found)) a key))
        (sym (flags_of_made fresh input.columns (items_of found)))
        (image_may (GoodItem input.columns exprs exprs_over found.calls) (key_and_calls exprs found.calls a key)
        (λ item good. good found.calls (grows_none found.calls) a key is) (items_of found)
        (All-append (GoodItem input.columns exprs exprs_over found.calls) (numbered key_value keys) found.items
        (values_good input.columns found.calls keys exprs_over [] keys 0 refl refl give) h.items)))
        (key_values exprs a) (key_rows input.columns exprs a all))

    aggregated_tells : (stars : Bool) (items : List Expr) → IfOk (aggregated nat_eq exact fresh input stars keys items) TellsNulls
    unfolding aggregated
    aggregated_tells stars items = then_holds TellsNulls (grouped nat_eq exact input.columns input.relations stars exprs items []) _
        (λ found is.
        grouped_tells found (IfOk-at_ok (AreWell input.columns exprs exprs_over exact input.relations []) is
        (all_grouped input.columns exprs exprs_over exact input.relations stars items [])))

  groups_tell : (group_type : ℤ) (groupings items : List Expr) →
      IfOk (aggregate_rule nat_eq exact fresh input group_type groupings items) TellsNulls
  unfolding aggregate_rule
  groups_tell group_type groupings items =
      then_holds TellsNulls (grouping_only group_type) _ (λ u one.
      then_holds TellsNulls (key_items nat_eq exact input.columns input.relations groupings) _ (λ keys are.
      aggregated_tells keys (IfOk-at_ok (All Over) are (keys_over exact input.columns input.relations groupings))
      (IfOk-at_ok (All (Gives input.columns)) are
      (keys_hold exact input.columns input.relations (Gives input.columns)
      (typed_give exact input.columns input.relations) groupings)) false items))

  project_tells : (items : List Expr) → IfOk (project_rule nat_eq exact fresh input items) TellsNulls
  unfolding project_rule
  project_tells items = either_way TellsNulls (list_any has_aggregate items) _ _
      (aggregated_tells [] (All-nil Over) (All-nil (Gives input.columns)) true items)
      (plain_tells exact input (told input safe) fresh items)

pub aggregates_are_safe : AggregatesAre IsNullSafe
aggregates_are_safe = record {
  groups = λ exact fresh group_type groupings exprs input safe.
      safe_answer (aggregate_rule nat_eq exact fresh input group_type groupings exprs)
      (aggregates_sound.groups exact fresh group_type groupings exprs input safe.sound)
      (groups_tell exact fresh input safe group_type groupings exprs);
  projections = λ exact fresh exprs input safe.
      safe_answer (project_rule nat_eq exact fresh input exprs) (aggregates_sound.projections exact fresh exprs input safe.sound)
      (project_tells exact fresh input safe exprs);
}
