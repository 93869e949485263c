-- Items without aggregate calls are over the columns alone.
use Rattle.std.proofs.Common.{rules, ℕ, Bool, true, false, List, [], ◌∷◌, ap, ◌∙◌, Option, Some, None}
use Rattle.std.specs.Prelude.{All, IfOk, nat_eq}
use Rattle.std.proofs.lemmas.List.Elements.{All-append, All-cons, All-nil}
use Rattle.std.proofs.lemmas.Result.{IfOk-at_ok}
use Rattle.expression_messages.specs.declared.expression.Alias.{Alias}
use Rattle.expression_messages.specs.declared.expression.UnresolvedStar.{UnresolvedStar}
use Rattle.expression_messages.specs.declared.expression.Expr.{Expr}
use Rattle.resolve_names.specs.declared.scope.ColumnOf.{ColumnOf}
use Rattle.resolve_names.specs.declared.scope.Tagged.{Tagged}
use Rattle.resolve_names.specs.Checks.{Checked, ◌>>=◌, or_refused}
use Rattle.resolve_functions.specs.Arguments.{untyped}
use Rattle.resolve_expressions.specs.declared.item.Item.{Item}
use Rattle.resolve_expressions.specs.Items.{Itemized, alias_of, attribute_title, item_by, item_of, one_name, typed_item}
use Rattle.resolve_expressions.specs.Outputs.{added_item, added_items, key_items, plain_item, projected, projected_by, star_of, value_of}
use Rattle.resolve_expressions.specs.Stars.{any_column, column_item, has_qualifier, items_where, some_items, star_items}
use Rattle.resolve_expressions.specs.Titles.{title}
use Rattle.resolve_expressions.specs.Typings.{typed_over}
use Rattle.resolve_expressions.proofs.TypedFacts.{values_are_well_formed}
use Rattle.resolve_sound.specs.Sound.{kinds}
use Rattle.resolve_sound.proofs.Chains.{all_hold, then_holds}
use Rattle.resolve_sound.proofs.Places.{ItemOver, OfEach, all_passing, columns_over}

-- ---- what holds of items, where it holds of columns as they are and of expressions with their types

module _ (exact : Bool) (columns : List (ColumnOf ℕ)) (relations : List (Tagged ℕ)) (P : Item → Type 0) where
  abbrev Here : Itemized → Type 0
  Here itemized = P itemized.item

  abbrev pub TypedHold : Type 0
  TypedHold = (name : List ℕ) (bare : Bool) (expr : Expr) →
      IfOk (typed_item nat_eq exact columns relations name bare expr false []) (λ itemized. P itemized.item)

  some_hold : (identifier : List ℕ) (items : List Item) → All P items → IfOk (some_items identifier items) (All P)
  some_hold identifier [] h = tt
  some_hold identifier (item ∷ items) h = h

  module _ (as_they_are : OfEach columns P column_item) where
    qualified_hold : (found : Checked (List (List ℕ))) (identifier : List ℕ) →
        IfOk (found >>= λ parts. some_items identifier (items_where (has_qualifier exact parts) 0 columns)) (All P)
    qualified_hold found identifier = then_holds (All P) found _ (λ parts is.
        some_hold identifier (items_where (has_qualifier exact parts) 0 columns)
        (all_passing P (has_qualifier exact parts) columns as_they_are))

    pub star_holds : (target : Option (List ℕ)) → IfOk (star_items exact columns target) (All P)
    unfolding star_items
    star_holds None = all_passing P any_column columns as_they_are
    star_holds (Some target) = search (rules, qualified_hold)

  module _ (typed : TypedHold) where
    by_holds : (alias : Option (Alias Expr)) (expr : Expr) → IfOk (item_by nat_eq exact columns relations alias expr false []) Here
    by_holds (Some alias) expr = then_holds Here (one_name alias.name) _ (λ name is. typed name false alias.expr)
    by_holds None expr = typed (title (attribute_title nat_eq exact columns relations) expr) true expr

    plain_holds : (expr : Expr) → IfOk (plain_item nat_eq exact columns relations expr) P
    unfolding plain_item item_of
    plain_holds expr = then_holds P (item_by nat_eq exact columns relations (alias_of expr) expr false []) _ (λ itemized is.
        IfOk-at_ok Here is (by_holds (alias_of expr) expr))

    pub keys_hold : (exprs : List Expr) → IfOk (key_items nat_eq exact columns relations exprs) (All P)
    unfolding key_items
    keys_hold = all_hold P (plain_item nat_eq exact columns relations) plain_holds

    added_holds : (alias : Alias Expr) → IfOk (added_item nat_eq exact columns relations alias) P
    unfolding added_item
    added_holds alias = then_holds P (item_by nat_eq exact columns relations (Some alias) alias.expr false []) _ (λ itemized is.
        IfOk-at_ok Here is (by_holds (Some alias) alias.expr))

    pub all_added_hold : (aliases : List (Alias Expr)) → IfOk (added_items nat_eq exact columns relations aliases) (All P)
    unfolding added_items
    all_added_hold = all_hold P (added_item nat_eq exact columns relations) added_holds

    module _ (as_they_are : OfEach columns P column_item) where
      one_holds : (star : Option UnresolvedStar) (expr : Expr) → IfOk (projected_by nat_eq exact columns relations star expr) (All P)
      one_holds (Some star) expr = star_holds as_they_are star.unparsed_target
      one_holds None expr = then_holds (All P) (plain_item nat_eq exact columns relations expr) _ (λ item is.
          All-cons P item [] (IfOk-at_ok P is (plain_holds expr)) (All-nil P))

      pub projected_hold : (exprs : List Expr) → IfOk (projected nat_eq exact columns relations exprs) (All P)
      unfolding projected
      projected_hold [] = All-nil P
      projected_hold (expr ∷ exprs) =
          then_holds (All P) (projected_by nat_eq exact columns relations (star_of expr) expr) _ (λ first is.
          then_holds (All P) (projected nat_eq exact columns relations exprs) _ (λ rest are.
          All-append P first rest (IfOk-at_ok (All P) is (one_holds (star_of expr) expr)) (IfOk-at_ok (All P) are (projected_hold exprs))))

-- ---- they are over the columns

module _ (exact : Bool) (columns : List (ColumnOf ℕ)) (relations : List (Tagged ℕ)) where
  abbrev Over : Item → Type 0
  Over = ItemOver (kinds columns)

  typed_over_columns : TypedHold exact columns relations Over
  unfolding value_of
  typed_over_columns name bare expr =
      then_holds (λ itemized. Over itemized.item) (typed_over nat_eq exact columns relations expr false []) _ (λ typing is.
      then_holds (λ itemized. Over itemized.item) (or_refused untyped typing.expr) _ (λ typed there_is.
      values_are_well_formed exact columns relations expr typed
      (ap (λ (o : Checked _). o >>= λ t. or_refused untyped t.expr) is ∙ there_is)))

  pub star_over : (target : Option (List ℕ)) → IfOk (star_items exact columns target) (All Over)
  star_over = star_holds exact columns relations Over (columns_over columns)

  pub keys_over : (exprs : List Expr) → IfOk (key_items nat_eq exact columns relations exprs) (All Over)
  keys_over = keys_hold exact columns relations Over typed_over_columns

  pub all_added_over : (aliases : List (Alias Expr)) → IfOk (added_items nat_eq exact columns relations aliases) (All Over)
  all_added_over = all_added_hold exact columns relations Over typed_over_columns

  pub projected_over : (exprs : List Expr) → IfOk (projected nat_eq exact columns relations exprs) (All Over)
  projected_over = projected_hold exact columns relations Over typed_over_columns (columns_over columns)
