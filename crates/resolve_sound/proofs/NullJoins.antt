-- Joins give no null but where their columns may have one.
use Rattle.std.proofs.Common.{◌≡◌, ℕ, ℤ, zero, suc, Bool, true, false, List, [], ◌∷◌, ◌++◌, map, length, replicate, refl, sym, ap, ◌∙◌, subst, Option, Some, None}
use Rattle.std.specs.Prelude.{◌||◌, ◌==◌, ◌+◌, not, All, IfOk, IfSome, IsTrue, Ok, nat_eq, codes, filter, filter_map, option_map, slice_get}
use Rattle.std.specs.List.{AllByRecursion}
use Rattle.std.proofs.lemmas.List.{append-nil, length-map, map-append}
use Rattle.std.proofs.lemmas.List.Elements.{All-append, All-filter}
use Rattle.cn_types.specs.declared.row.Row.{Row}
use Rattle.cn_types.specs.declared.value.DataType.{DataType}
use Rattle.cn_types.specs.declared.value.Value.{Value}
use Rattle.cn_types.specs.declared.value.Value.TheVariants.{Null}
use Rattle.expression_messages.specs.declared.expression.Expr.{Expr}
use Rattle.plan_model.specs.declared.expression.TypedExpr.{TypedExpr}
use Rattle.plan_model.specs.declared.node.JoinKind.{JoinKind}
use Rattle.plan_model.specs.Allows.{joining_of}
use Rattle.plan_model.specs.Joins.{Joining, beside, has_left, has_right, left_alone, pairs, right_alone}
use Rattle.plan_model.specs.Joins as rows
use Rattle.plan_model.specs.NodeTypes.{types}
use Rattle.plan_model.specs.Truth.{is_present}
use Rattle.plan_model.proofs.Multisets.{AllByRecursion-filter}
use Rattle.resolve_names.specs.declared.scope.ColumnOf.{ColumnOf}
use Rattle.resolve_names.specs.Checks.{◌>>=◌, or_refused}
use Rattle.resolve_types.specs.Calls.{unless}
use Rattle.resolve_expressions.specs.declared.item.Item.{Item}
use Rattle.resolve_expressions.specs.Grouping.{all_checked}
use Rattle.resolve_expressions.specs.Outputs.{condition_of}
use Rattle.resolve_expressions.specs.Stars.{any_column, items_where}
use Rattle.resolve_relations.specs.declared.found.FoundOf.{FoundOf}
use Rattle.resolve_relations.specs.Columns.{column_limit, projection}
use Rattle.resolve_joins.specs.declared.keys.KeyPair.{KeyPair}
use Rattle.resolve_joins.specs.Joins.{clash, is_there, join_rule, joined, joined_columns, kind_numbered, kind_without, on_rule, side_columns, using_rule}
use Rattle.resolve_joins.specs.Keys.{all_equal, is_rest, key_item, key_pair, merged, using_items}
use Rattle.resolve_sound.specs.PairLaws.{JoinsAre}
use Rattle.resolve_sound.specs.Sound.{FitsNulls, HaveNullsWithin, IsNullSafe, flags}
use Rattle.resolve_sound.proofs.Chains.{either_way, then_holds}
use Rattle.resolve_sound.proofs.JoinedRelations.{all_given, at_place, joins_sound}
use Rattle.resolve_sound.proofs.NodeRows.{all_flat, all_joined, all_mapped, each_pair}
use Rattle.resolve_sound.proofs.NullFacts.{Gives}
use Rattle.resolve_sound.proofs.NullItems.{columns_give}
use Rattle.resolve_sound.proofs.NullRelations.{TellsNulls, projection_tells, safe_answer, told}
use Rattle.resolve_sound.proofs.Places.{all_passing}

-- ---- a side

more_may : (a b p : Bool) → IsTrue (a || p) → IsTrue ((a || b) || p)
more_may true b p h = refl
more_may false true p h = refl
more_may false false p h = h

always_may : (a p : Bool) → IsTrue ((a || true) || p)
always_may true p = refl
always_may false p = refl

module _ {I : Type 0} where
  real_side : (nulls : Bool) (columns : List (ColumnOf I)) (values : List Value) → HaveNullsWithin (flags columns) values →
      HaveNullsWithin (flags (side_columns nulls columns)) values
  real_side nulls [] [] h = tt
  real_side nulls [] (v ∷ vs) h = absurd h
  real_side nulls (c ∷ cs) [] h = absurd h
  real_side nulls (c ∷ cs) (v ∷ vs) h = (more_may c.nullable nulls (is_present v) h.0, real_side nulls cs vs h.1)

  null_side : (columns : List (ColumnOf I)) (n : ℕ) → n ≡ length columns →
      HaveNullsWithin (flags (side_columns true columns)) (replicate n Null)
  null_side [] zero is = tt
  null_side [] (suc n) is = absurd (let h : ⊥ = cc in h)
  null_side (c ∷ cs) zero is = absurd (let h : ⊥ = cc in h)
  null_side (c ∷ cs) (suc n) is = (always_may c.nullable false, null_side cs n (let h : n ≡ length cs = cc in h))

both_within : (fs gs : List Bool) (vs ws : List Value) → HaveNullsWithin fs vs → HaveNullsWithin gs ws →
    HaveNullsWithin (fs ++ gs) (vs ++ ws)
both_within [] gs [] ws h k = k
both_within [] gs (v ∷ vs) ws h k = absurd h
both_within (f ∷ fs) gs [] ws h k = absurd h
both_within (f ∷ fs) gs (v ∷ vs) ws h k = (h.0, both_within fs gs vs ws h.1 k)

-- ---- the rows of a join

module _ {I : Type 0} (left right : FoundOf I) (on_left : IsNullSafe left) (on_right : IsNullSafe right)
    (condition : Option TypedExpr) where
  abbrev Left : Row → Type 0
  Left = FitsNulls (flags left.columns)

  abbrev Right : Row → Type 0
  Right = FitsNulls (flags right.columns)

  abbrev Both : Bool → Bool → Row → Type 0
  Both a b = FitsNulls (flags (side_columns a left.columns ++ side_columns b right.columns))

  abbrev joining : Joining
  joining = joining_of condition left.node right.node

  sides : (a b : Bool) (vs ws : List Value) → HaveNullsWithin (flags (side_columns a left.columns)) vs →
      HaveNullsWithin (flags (side_columns b right.columns)) ws →
      HaveNullsWithin (flags (side_columns a left.columns ++ side_columns b right.columns)) (vs ++ ws)
  sides a b vs ws h k =
      subst (λ (fs : List Bool). HaveNullsWithin fs (vs ++ ws))
      (sym (map-append (λ (c : ColumnOf I). c.nullable) (side_columns a left.columns) (side_columns b right.columns)))
      (both_within (flags (side_columns a left.columns)) (flags (side_columns b right.columns)) vs ws h k)

  no_left : HaveNullsWithin (flags (side_columns true left.columns)) joining.left_nulls.0
  no_left = null_side left.columns (length (types left.node))
      (ap (λ (ks : List DataType). length ks) on_left.sound.columns ∙ length-map left.columns (λ c. c.kind))

  no_right : HaveNullsWithin (flags (side_columns true right.columns)) joining.right_nulls.0
  no_right = null_side right.columns (length (types right.node))
      (ap (λ (ks : List DataType). length ks) on_right.sound.columns ∙ length-map right.columns (λ c. c.kind))

  module _ (a b : List Row) (f : AllByRecursion Left a) (g : AllByRecursion Right b) where
    pairs_fit : (nl nr : Bool) → AllByRecursion (Both nl nr) (pairs joining a b)
    pairs_fit nl nr = all_flat Left (Both nl nr) (λ l. map (beside l) (filter (joining.matching l) b))
        (λ l p. all_mapped Right (Both nl nr) (beside l)
        (λ r q. sides nl nr l.0 r.0 (real_side nl left.columns l.0 p) (real_side nr right.columns r.0 q))
        (filter (joining.matching l) b) (AllByRecursion-filter Right (joining.matching l) b g)) a f

    left_alone_fit : (nl : Bool) → AllByRecursion (Both nl true) (left_alone joining a b)
    left_alone_fit nl = all_mapped Left (Both nl true) (λ l. beside l joining.right_nulls)
        (λ l p. sides nl true l.0 joining.right_nulls.0 (real_side nl left.columns l.0 p) no_right)
        (filter (λ l. not (has_right joining b l)) a) (AllByRecursion-filter Left (λ l. not (has_right joining b l)) a f)

    right_alone_fit : (nr : Bool) → AllByRecursion (Both true nr) (right_alone joining a b)
    right_alone_fit nr = all_mapped Right (Both true nr) (λ r. beside joining.left_nulls r)
        (λ r q. sides true nr joining.left_nulls.0 r.0 no_left (real_side nr right.columns r.0 q))
        (filter (λ r. not (has_left joining a r)) b) (AllByRecursion-filter Right (λ r. not (has_left joining a r)) b g)

    left_fit : (test : Row → Bool) → AllByRecursion (FitsNulls (flags (side_columns false left.columns ++ []))) (filter test a)
    left_fit test = subst (λ (cs : List (ColumnOf I)). AllByRecursion (FitsNulls (flags cs)) (filter test a))
        (sym (append-nil (side_columns false left.columns)))
        (kept (filter test a) (AllByRecursion-filter Left test a f))
      where
        kept : (rs : List Row) → AllByRecursion Left rs → AllByRecursion (FitsNulls (flags (side_columns false left.columns))) rs
        kept [] h = tt
        kept (r ∷ rs) h = (real_side false left.columns r.0 h.0, kept rs h.1)

    rows_fit : (kind : JoinKind) → AllByRecursion (FitsNulls (flags (joined_columns kind left.columns right.columns)))
        (rows.joined kind joining a b)
    unfolding joined_columns
    rows_fit JoinKind.Inner = pairs_fit false false
    rows_fit JoinKind.Cross = pairs_fit false false
    rows_fit JoinKind.Left = all_joined (Both false true) (pairs joining a b) (left_alone joining a b) (pairs_fit false true)
        (left_alone_fit false)
    rows_fit JoinKind.Right = all_joined (Both true false) (pairs joining a b) (right_alone joining a b) (pairs_fit true false)
        (right_alone_fit false)
    rows_fit JoinKind.Full = all_joined (Both true true) (pairs joining a b ++ left_alone joining a b) (right_alone joining a b)
        (all_joined (Both true true) (pairs joining a b) (left_alone joining a b) (pairs_fit true true) (left_alone_fit true))
        (right_alone_fit true)
    rows_fit JoinKind.Semi = left_fit (has_right joining b)
    rows_fit JoinKind.Anti = left_fit (λ l. not (has_right joining b l))

  joined_tells : (kind : JoinKind) → TellsNulls (joined kind left right condition)
  joined_tells kind = each_pair Left Right (FitsNulls (flags (joined_columns kind left.columns right.columns))) left.node right.node
      (told left on_left) (told right on_right) kind condition
      (λ a b f g. rows_fit a b f g kind)

-- ---- the items of a join by keys

module _ {I : Type 0} (columns : List (ColumnOf I)) (width : ℕ) (items : List Item) (all : All (Gives columns) items) where
  merged_gives : (key : KeyPair) (o : Option Item) → IfSome (option_map (merged width key) o) (Gives columns)
  merged_gives key None = tt
  merged_gives key (Some item) = λ row fits. refl

  item_gives : (kind : JoinKind) (key : KeyPair) → IfSome (key_item kind width items key) (Gives columns)
  item_gives JoinKind.Inner key = at_place (Gives columns) items key.left all
  item_gives JoinKind.Full key = merged_gives key (slice_get items key.left)
  item_gives JoinKind.Left key = at_place (Gives columns) items key.left all
  item_gives JoinKind.Right key = at_place (Gives columns) items (width + key.right) all
  item_gives JoinKind.Anti key = at_place (Gives columns) items key.left all
  item_gives JoinKind.Semi key = at_place (Gives columns) items key.left all
  item_gives JoinKind.Cross key = at_place (Gives columns) items key.left all

  using_give : (kind : JoinKind) (keys : List KeyPair) → All (Gives columns) (using_items kind width keys items)
  unfolding using_items
  using_give kind keys =
      All-append (Gives columns) (filter_map (key_item kind width items) keys) (filter (is_rest width keys) items)
      (all_given (Gives columns) (λ key. Unit {0}) (key_item kind width items) (λ key u. item_gives kind key) keys (λ k d lt. tt))
      (All-filter (is_rest width keys) (Gives columns) items all)

-- ---- the rule

module _ (exact : Bool) (fresh : ℕ → ℕ) (left right : FoundOf ℕ) (on_left : IsNullSafe left) (on_right : IsNullSafe right) where
  on_condition : (kind : JoinKind) (condition : Option Expr) → IfOk (on_rule nat_eq exact kind left right condition) TellsNulls
  unfolding on_rule
  on_condition kind None = joined_tells left right on_left on_right None (kind_without kind)
  on_condition kind (Some condition) =
      then_holds TellsNulls (condition_of nat_eq exact (left.columns ++ right.columns) (left.relations ++ right.relations)
      (codes "join") condition) _ (λ test is.
      joined_tells left right on_left on_right (Some test) kind)

  module _ (kind : JoinKind) (keys : List KeyPair) where
    abbrev width : ℕ
    width = length left.columns

    abbrev both : FoundOf ℕ
    both = joined kind left right (all_equal width keys)

    abbrev its_items : List Item
    its_items = items_where any_column 0 both.columns

    abbrev made : List Item
    made = using_items kind width keys its_items

    keyed_tells : IfOk (column_limit (length made) >>= λ counted. Ok (projection fresh both made)) TellsNulls
    keyed_tells = then_holds TellsNulls (column_limit (length made)) _ (λ u is.
        projection_tells both (joined_tells left right on_left on_right (all_equal width keys) kind) fresh made
        (using_give both.columns width its_items (all_passing (Gives both.columns) any_column both.columns
        (columns_give both.columns)) kind keys))

  by_keys : (kind : JoinKind) (names : List (List ℕ)) → IfOk (using_rule nat_eq exact fresh kind left right names) TellsNulls
  unfolding using_rule
  by_keys kind names = then_holds TellsNulls (all_checked (map (key_pair exact left.columns right.columns) names)) _
      (λ keys are. keyed_tells kind keys)

  join_tells : (number : ℤ) (condition : Option Expr) (names : List (List ℕ)) →
      IfOk (join_rule nat_eq exact fresh left right number condition names) TellsNulls
  unfolding join_rule
  join_tells number condition names =
      then_holds TellsNulls (or_refused _ (kind_numbered number)) _ (λ kind is.
      then_holds TellsNulls (unless (clash kind (is_there condition) (not (length names == 0))) _) _ (λ u options.
      either_way TellsNulls (length names == 0) _ _ (on_condition kind condition) (by_keys kind names)))

pub joins_are_safe : JoinsAre IsNullSafe
joins_are_safe = record {
  joins = λ exact fresh number condition names left right on_left on_right.
      safe_answer (join_rule nat_eq exact fresh left right number condition names)
      (joins_sound.joins exact fresh number condition names left right on_left.sound on_right.sound)
      (join_tells exact fresh left right on_left on_right number condition names);
}
