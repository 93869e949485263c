-- Items of an aggregate are over the keys' and the calls' values.
use Rattle.std.proofs.Common.{◌≡◌, ℕ, zero, suc, Bool, true, false, List, [], ◌∷◌, ◌++◌, length, refl, sym, ap, ◌∙◌, subst, append_assoc, arith, Option, Some, None}
use Rattle.std.specs.Prelude.{All, IfOk, nat_eq, slice_get}
use Rattle.std.specs.List.{AllZip}
use Rattle.std.proofs.lemmas.List.{append-nil, length_push}
use Rattle.std.proofs.lemmas.List.Elements.{All-append, All-cons, All-nil, All-weaker}
use Rattle.std.proofs.lemmas.Result.{IfOk-at_ok}
use Rattle.cn_types.specs.declared.value.DataType.{DataType}
use Rattle.expression_messages.specs.declared.expression.Alias.{Alias}
use Rattle.expression_messages.specs.declared.expression.UnresolvedStar.{UnresolvedStar}
use Rattle.expression_messages.specs.declared.expression.Expr.{Expr}
use Rattle.plan_model.specs.declared.expression.TypedExpr.{TypedExpr}
use Rattle.plan_model.specs.declared.node.AggregateCall.{AggregateCall}
use Rattle.plan_model.specs.NodeTypes.{kind_of, kinds_of}
use Rattle.plan_model.specs.WellFormed.{IsCallOver, IsFormOver, IsOver}
use Rattle.plan_model.proofs.ExpressionFacts.{made-Column}
use Rattle.resolve_names.specs.declared.scope.ColumnOf.{ColumnOf}
use Rattle.resolve_names.specs.declared.scope.Tagged.{Tagged}
use Rattle.resolve_names.specs.Checks.{or_refused}
use Rattle.resolve_functions.specs.Arguments.{untyped}
use Rattle.resolve_expressions.specs.declared.item.Item.{Item}
use Rattle.resolve_expressions.specs.Grouping.{regrouped, regrouped_item}
use Rattle.resolve_expressions.specs.Items.{Itemized, alias_of, attribute_title, item_by, item_of, one_name, typed_item}
use Rattle.resolve_expressions.specs.Outputs.{Grouped, grouped, grouped_by, grouped_item, grouped_star, regrouped_items, star_meant}
use Rattle.resolve_expressions.specs.Same.{same_expr}
use Rattle.resolve_expressions.specs.Stars.{star_items}
use Rattle.resolve_expressions.specs.Titles.{title}
use Rattle.resolve_expressions.specs.Typings.{typed_over}
use Rattle.resolve_expressions.proofs.GroupFacts.{regrouped_is_well_formed}
use Rattle.resolve_expressions.proofs.TypedFacts.{typed_is_well_formed}
use Rattle.resolve_relations.specs.Columns.{exprs_of, numbered_from}
use Rattle.resolve_relations.specs.Making.{key_value}
use Rattle.resolve_sound.specs.Sound.{kinds}
use Rattle.resolve_sound.proofs.Chains.{all_hold_of, then_holds, there}
use Rattle.resolve_sound.proofs.PlainItems.{star_over}
use Rattle.resolve_sound.proofs.Places.{ItemOver}
use Rattle.resolve_sound.proofs.Wider.{widen}

-- ---- the values of keys

module _ (calls : List DataType) where
  abbrev beside : List Item → List DataType
  beside keys = kinds_of (exprs_of keys) ++ calls

  key_place : (front : List Item) (key : Item) (rest : List Item) (n : ℕ) → n ≡ length front →
      slice_get (beside (front ++ key ∷ rest)) n ≡ Some (kind_of key.expr)
  key_place [] key rest n is = ap (slice_get (beside (key ∷ rest))) is
  key_place (k ∷ ks) key rest zero is = absurd (let h : ⊥ = omega arith in h)
  key_place (k ∷ ks) key rest (suc n) is = let h : n ≡ length ks = omega arith in key_place ks key rest n h

  values_over : (all front keys : List Item) (n : ℕ) → n ≡ length front → front ++ keys ≡ all →
      All (ItemOver (beside all)) (numbered_from key_value n keys)
  values_over all front [] n is whole = All-nil (ItemOver (beside all))
  values_over all front (key ∷ keys) n is whole =
      All-cons (ItemOver (beside all)) (key_value n key) (numbered_from key_value (suc n) keys)
      (made-Column (IsFormOver (beside all)) n (kind_of key.expr)
      (subst (λ (ks : List Item). slice_get (beside ks) n ≡ Some (kind_of key.expr)) whole (key_place front key keys n is)))
      (values_over all (front ++ key ∷ []) keys (suc n) (omega (arith, length_push front key)) (append_assoc front (key ∷ []) keys ∙ whole))

  pub key_values_over : (keys : List Item) → All (ItemOver (beside keys)) (numbered_from key_value 0 keys)
  key_values_over keys = values_over keys [] keys 0 refl refl

-- ---- items with calls

module _ (exact : Bool) (columns : List (ColumnOf ℕ)) (relations : List (Tagged ℕ)) where
  abbrev Calls : List AggregateCall → List DataType → Type 0
  Calls = AllZip (IsCallOver (kinds columns))

  -- the item is over the columns and the calls' values
  record IsItemizedOver (before : List DataType) (itemized : Itemized) : Type 0 where
    more : List DataType
    calls : Calls itemized.calls (before ++ more)
    item : ItemOver (kinds columns ++ (before ++ more)) itemized.item

  module _ (before : List DataType) (calls : List AggregateCall) (over : Calls calls before) where
    typed_with_calls : (name : List ℕ) (bare : Bool) (expr : Expr) →
        IfOk (typed_item nat_eq exact columns relations name bare expr true calls) (IsItemizedOver before)
    typed_with_calls name bare expr =
        then_holds (IsItemizedOver before) (typed_over nat_eq exact columns relations expr true calls) _ (λ typing is.
        let h = typed_is_well_formed exact columns relations expr true calls before typing over is in
        then_holds (IsItemizedOver before) (or_refused untyped typing.expr) _ (λ typed there_is. record {
          more = h.more;
          calls = h.calls;
          item = IfOk-at_ok (IsOver (kinds columns ++ (before ++ h.more))) there_is
              (there (IsOver (kinds columns ++ (before ++ h.more))) untyped typing.expr h.expr);
        }))

    by_with_calls : (alias : Option (Alias Expr)) (expr : Expr) →
        IfOk (item_by nat_eq exact columns relations alias expr true calls) (IsItemizedOver before)
    by_with_calls (Some alias) expr = then_holds (IsItemizedOver before) (one_name alias.name) _
        (λ name is. typed_with_calls name false alias.expr)
    by_with_calls None expr = typed_with_calls (title (attribute_title nat_eq exact columns relations) expr) true expr

    item_with_calls : (expr : Expr) → IfOk (item_of nat_eq exact columns relations expr true calls) (IsItemizedOver before)
    unfolding item_of
    item_with_calls expr = by_with_calls (alias_of expr) expr

  -- ---- over the values of keys

  module _ (keys : List TypedExpr) where
    abbrev Grouping : List DataType → Item → Type 0
    Grouping calls = ItemOver (kinds_of keys ++ calls)

    one_regrouped : (calls : List DataType) (item : Item) → ItemOver (kinds columns ++ calls) item →
        IfOk (regrouped_item same_expr columns keys item) (Grouping calls)
    one_regrouped calls item over = then_holds (Grouping calls) (regrouped same_expr columns keys item.expr) _ (λ made is.
        (regrouped_is_well_formed columns keys calls item.expr made over is).0)

    all_regrouped : (calls : List DataType) (items : List Item) → All (ItemOver (kinds columns ++ calls)) items →
        IfOk (regrouped_items columns keys items) (All (Grouping calls))
    all_regrouped calls items over = all_hold_of (ItemOver (kinds columns ++ calls)) (Grouping calls)
        (regrouped_item same_expr columns keys) (one_regrouped calls) items over

    -- the items are over the keys' and the calls' values, and the calls over the columns
    pub record AreGroupedOver (before : List DataType) (found : Grouped) : Type 0 where
      pub more : List DataType
      pub calls : Calls found.calls (before ++ more)
      pub items : All (Grouping (before ++ more)) found.items

    module _ (before : List DataType) (calls : List AggregateCall) (over : Calls calls before) where
      no_more : Calls calls (before ++ [])
      no_more = subst (Calls calls) (sym (append-nil before)) over

      item_grouped : (expr : Expr) → IfOk (grouped_item nat_eq exact columns relations keys expr calls) (AreGroupedOver before)
      unfolding grouped_item
      item_grouped expr =
          then_holds (AreGroupedOver before) (item_of nat_eq exact columns relations expr true calls) _ (λ itemized is.
          let h = IfOk-at_ok (IsItemizedOver before) is (item_with_calls before calls over expr) in
          then_holds (AreGroupedOver before) (regrouped_items columns keys (itemized.item ∷ [])) _ (λ items are. record {
            more = h.more;
            calls = h.calls;
            items = IfOk-at_ok (All (Grouping (before ++ h.more))) are (all_regrouped (before ++ h.more) (itemized.item ∷ [])
                (All-cons (ItemOver (kinds columns ++ (before ++ h.more))) itemized.item [] h.item
                (All-nil (ItemOver (kinds columns ++ (before ++ h.more))))));
          }))

      star_grouped : (star : UnresolvedStar) → IfOk (grouped_star nat_eq exact columns relations keys star calls) (AreGroupedOver before)
      unfolding grouped_star
      star_grouped star =
          then_holds (AreGroupedOver before) (star_items exact columns star.unparsed_target) _ (λ meant is.
          let h : All (ItemOver (kinds columns)) meant = IfOk-at_ok (All (ItemOver (kinds columns))) is
          (star_over exact columns relations star.unparsed_target) in
          then_holds (AreGroupedOver before) (regrouped_items columns keys meant) _ (λ items are. record {
            more = [];
            calls = no_more;
            items = IfOk-at_ok (All (Grouping (before ++ []))) are (all_regrouped (before ++ []) meant
                (All-weaker (ItemOver (kinds columns)) (ItemOver (kinds columns ++ (before ++ [])))
                (λ item o. widen (kinds columns) (before ++ []) item.expr o) meant h));
          }))

      one_grouped : (star : Option UnresolvedStar) (expr : Expr) →
          IfOk (grouped_by nat_eq exact columns relations star keys expr calls) (AreGroupedOver before)
      one_grouped (Some star) expr = star_grouped star
      one_grouped None expr = item_grouped expr

    pub all_grouped : (stars : Bool) (exprs : List Expr) (before : List DataType) (calls : List AggregateCall) → Calls calls before →
        IfOk (grouped nat_eq exact columns relations stars keys exprs calls) (AreGroupedOver before)
    unfolding grouped
    all_grouped stars [] before calls over = record {
      more = [];
      calls = no_more before calls over;
      items =
          All-nil (Grouping (before ++ []));
    }
    all_grouped stars (expr ∷ exprs) before calls over =
        then_holds (AreGroupedOver before) (grouped_by nat_eq exact columns relations (star_meant stars expr) keys expr calls) _
        (λ first is.
        let h = IfOk-at_ok (AreGroupedOver before) is (one_grouped before calls over (star_meant stars expr) expr) in
        then_holds (AreGroupedOver before) (grouped nat_eq exact columns relations stars keys exprs first.calls) _ (λ rest are.
        let k = IfOk-at_ok (AreGroupedOver (before ++ h.more)) are (all_grouped stars exprs (before ++ h.more) first.calls h.calls) in
        let wide : (kinds_of keys ++ (before ++ h.more)) ++ k.more ≡ kinds_of keys ++ (before ++ (h.more ++ k.more)) =
        append_assoc (kinds_of keys) (before ++ h.more) k.more
        ∙ ap (λ (ks : List DataType). kinds_of keys ++ ks) (append_assoc before h.more k.more) in
        record {
          more = h.more ++ k.more;
          calls = subst (Calls rest.calls) (append_assoc before h.more k.more) k.calls;
          items = All-append (Grouping (before ++ (h.more ++ k.more))) first.items rest.items
              (All-weaker (Grouping (before ++ h.more)) (Grouping (before ++ (h.more ++ k.more)))
              (λ item o. subst (λ (ks : List DataType). IsOver ks item.expr) wide
              (widen (kinds_of keys ++ (before ++ h.more)) k.more item.expr o)) first.items h.items)
              (subst (λ (ks : List DataType). All (Grouping ks) rest.items) (append_assoc before h.more k.more) k.items);
        }))
