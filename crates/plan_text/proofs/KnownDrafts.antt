-- No deed makes what is outside the profile, so a plan that is built has a spelling.
use Rattle.std.proofs.Common.{◌≡◌, ℕ, Bool, true, false, List, [], ◌∷◌, ◌++◌, refl, sym, ap, subst, ◌∙◌}
use Rattle.std.specs.Prelude.{◌&&◌, Option, Some, None, ℤ, reverse}
use Rattle.std.specs.List.{list_all}
use Rattle.std.proofs.lemmas.List.{reverse-append}
use Rattle.std.proofs.lemmas.List.Folds.{list_all-append}
use Rattle.std.proofs.lemmas.Bool.{and_parts}
use Rattle.cn_types.specs.declared.value.DataType.{DataType}
use Rattle.cn_types.specs.declared.value.DataType.TheVariants as kind
use Rattle.expression_messages.specs.declared.literal.Literal.{Literal}
use Rattle.expression_messages.specs.declared.literal.Literal.TheVariants as literal
use Rattle.expression_messages.specs.declared.expression.Expr.{Expr}
use Rattle.expression_messages.specs.declared.expression.Expr.TheVariants as expr
use Rattle.expression_messages.specs.declared.expression.Alias.{Alias}
use Rattle.expression_messages.specs.declared.expression.SortOrder.{SortOrder}
use Rattle.expression_messages.specs.declared.expression.CastTarget.TheVariants as target
use Rattle.expression_messages.specs.Known.{is_known_type, is_known_literal, is_known_expr}
use Rattle.expression_messages.proofs.TypeCases.{is_known_type-Boolean, is_known_type-Integer, is_known_type-Long, is_known_type-String, is_known_type-Date}
use Rattle.expression_messages.proofs.ExprCases.{is_known_expr-Literal, is_known_expr-UnresolvedAttribute, is_known_expr-UnresolvedFunction, is_known_expr-UnresolvedStar, is_known_expr-Alias, is_known_expr-Cast}
use Rattle.relation_members.specs.declared.member.RelationMember.{RelationMember}
use Rattle.relation_members.specs.declared.member.RelationMember.TheVariants as member
use Rattle.relation_members.specs.Known.{is_known_member}
use Rattle.relation_messages.specs.declared.relation.Relation.{Relation}
use Rattle.relation_messages.specs.declared.relation.Relation.TheOpen.{Relation-F}
use Rattle.relation_messages.specs.declared.relation.Relation.TheViews.{out-Relation, roll-Relation, out-roll-Relation}
use Rattle.relation_messages.specs.Known.{is_known_relation}
use Rattle.relation_messages.proofs.Folds.{relation_known}
use Rattle.plan_messages.specs.declared.plan.Plan.{Plan}
use Rattle.plan_messages.specs.Known.{IsKnownPlan}
use Rattle.plan_tokens.specs.declared.token.Token.{Token}
use Rattle.plan_grammar.specs.declared.symbol.Action.{Action}
use Rattle.plan_grammar.specs.declared.symbol.Action.TheVariants as action
use Rattle.plan_grammar.specs.declared.symbol.UnitAction.{UnitAction}
use Rattle.plan_grammar.specs.declared.symbol.UnitAction.TheVariants as unit
use Rattle.plan_grammar.specs.declared.symbol.Part.{Part}
use Rattle.plan_grammar.specs.declared.symbol.Part.TheVariants as part
use Rattle.plan_grammar.specs.declared.symbol.StepAction.{StepAction}
use Rattle.plan_grammar.specs.declared.symbol.StepAction.TheVariants as step
use Rattle.plan_grammar.specs.declared.symbol.Use.{Use}
use Rattle.plan_grammar.specs.declared.symbol.Use.TheVariants as uses
use Rattle.plan_grammar.specs.declared.symbol.Deed.{Deed}
use Rattle.plan_grammar.specs.declared.symbol.Deed.TheVariants as deed
use Rattle.plan_text.specs.declared.draft.Draft.{Draft}
use Rattle.plan_text.specs.declared.draft.Write.{Write}
use Rattle.plan_text.specs.Piles.{top, rest}
use Rattle.plan_text.specs.Drafts.{no_draft, star, call, alias, type_of, binary_name, unary_name, relation, no_relation, with_plan_id, top_relation, top_name, unit_done, part_done, step_done, done, taken, built, all_built, planned, plan_of_deeds}

-- ---- lists

both : {x y : Bool} → x ≡ true → y ≡ true → (x && y) ≡ true
both {x} {y} e f = ap (λ (b : Bool). b && y) e ∙ f

first_of_both : (x y : Bool) → (x && y) ≡ true → x ≡ true
first_of_both x y e = (and_parts x y e).0

top_known : {A : Type 0} (known : A → Bool) (default : A) (items : List A) → known default ≡ true → list_all known items ≡ true → known (top default items) ≡ true
top_known known default [] d e = d
top_known known default (item ∷ items) d e = (and_parts _ _ e).0

rest_known : {A : Type 0} (known : A → Bool) (items : List A) → list_all known items ≡ true → list_all known (rest items) ≡ true
rest_known known [] e = e
rest_known known (item ∷ items) e = (and_parts _ _ e).1

pushed_known : {A : Type 0} (known : A → Bool) (items : List A) (one : A) → list_all known items ≡ true → known one ≡ true → list_all known (items ++ one ∷ []) ≡ true
pushed_known known items one e f = list_all-append known items (one ∷ []) ∙ both e (both f refl)

reverse_known : {A : Type 0} (known : A → Bool) (items : List A) → list_all known items ≡ true → list_all known (reverse items) ≡ true
reverse_known known [] e = refl
reverse_known known (item ∷ items) e =
    let parts = and_parts _ _ e in
    ap (list_all known) (reverse-append (item ∷ []) items) ∙ pushed_known known (reverse items) item (reverse_known known items parts.1) parts.0

-- ---- expressions

star_known : is_known_expr star ≡ true
star_known = is_known_expr-UnresolvedStar (record { unparsed_target = None })

call_known : (name : List ℕ) (arguments : List Expr) (distinct : Bool) → list_all is_known_expr arguments ≡ true → is_known_expr (call name arguments distinct) ≡ true
call_known name arguments distinct e = is_known_expr-UnresolvedFunction (record { function_name = name; arguments = arguments; is_distinct = distinct }) ∙ e

kind_known : (one : DataType) → is_known_type (type_of one) ≡ true
kind_known kind.Boolean = is_known_type-Boolean
kind_known kind.Integer = is_known_type-Integer
kind_known kind.Long = is_known_type-Long
kind_known kind.Text = is_known_type-String
kind_known kind.Date = is_known_type-Date

literal_known : (one : Literal) → is_known_literal one ≡ true → is_known_expr (expr.Literal one) ≡ true
literal_known one e = is_known_expr-Literal one ∙ e

cast_known : (one : Expr) (to : DataType) → is_known_expr one ≡ true → is_known_expr (expr.Cast (record { expr = one; target = target.Kind (type_of to) })) ≡ true
cast_known one to e = is_known_expr-Cast (record { expr = one; target = target.Kind (type_of to) }) ∙ both e (kind_known to)

alias_known : (name : List ℕ) (one : Expr) → is_known_expr one ≡ true → is_known_expr (expr.Alias (alias name one)) ≡ true
alias_known name one e = is_known_expr-Alias (alias name one) ∙ e

-- ---- relations

layer_known : (layer : Relation-F Relation) → is_known_relation (roll-Relation layer) ≡ is_known_member is_known_relation layer.member
layer_known layer = relation_known (roll-Relation layer) ∙ ap (λ (l : Relation-F Relation). is_known_member is_known_relation l.member) (out-roll-Relation layer)

made_known : (one : RelationMember Relation) → is_known_member is_known_relation one ≡ true → is_known_relation (relation one) ≡ true
made_known one e = layer_known (record { common = None; member = one }) ∙ e

no_relation_known : is_known_relation no_relation ≡ true
no_relation_known = made_known (member.Range (record { start = None; end = _; step = _; num_partitions = None })) refl

plan_id_known : (number : ℤ) (one : Relation) → is_known_relation one ≡ true → is_known_relation (with_plan_id number one) ≡ true
plan_id_known number one e = layer_known (record { common = Some (record { plan_id = Some number }); member = (out-Relation one).member }) ∙ sym (relation_known one) ∙ e

-- ---- drafts

abbrev all_known : List Expr → Bool
all_known items = list_all is_known_expr items

abbrev alias_is_known : Alias Expr → Bool
alias_is_known one = is_known_expr one.expr

abbrev order_is_known : SortOrder Expr → Bool
order_is_known one = is_known_expr one.child

record Known (expressions : List Expr) (outer : List (List Expr)) (keys : List Expr) (aliases : List (Alias Expr)) (orders : List (SortOrder Expr)) (relations : List Relation) : Type 0 where
  expressions_known : all_known expressions ≡ true
  outer_known : list_all all_known outer ≡ true
  keys_known : all_known keys ≡ true
  aliases_known : list_all alias_is_known aliases ≡ true
  orders_known : list_all order_is_known orders ≡ true
  relations_known : list_all is_known_relation relations ≡ true

abbrev KnownDraft : Draft → Type 0
KnownDraft draft = Known draft.expressions draft.outer draft.keys draft.aliases draft.orders draft.relations

module _ {expressions : List Expr} {outer : List (List Expr)} {keys : List Expr} {aliases : List (Alias Expr)} {orders : List (SortOrder Expr)} {relations : List Relation} (known : Known expressions outer keys aliases orders relations) where
  with_expressions : {others : List Expr} → all_known others ≡ true → Known others outer keys aliases orders relations
  with_expressions e = record { expressions_known = e; outer_known = known.outer_known; keys_known = known.keys_known; aliases_known = known.aliases_known; orders_known = known.orders_known; relations_known = known.relations_known }

  with_outer : {others : List Expr} {more : List (List Expr)} → all_known others ≡ true → list_all all_known more ≡ true → Known others more keys aliases orders relations
  with_outer e f = record { expressions_known = e; outer_known = f; keys_known = known.keys_known; aliases_known = known.aliases_known; orders_known = known.orders_known; relations_known = known.relations_known }

  with_relations : {others : List Relation} → list_all is_known_relation others ≡ true → Known expressions outer keys aliases orders others
  with_relations e = record { expressions_known = known.expressions_known; outer_known = known.outer_known; keys_known = known.keys_known; aliases_known = known.aliases_known; orders_known = known.orders_known; relations_known = e }

  with_keys : {others : List Expr} {more : List Expr} → all_known others ≡ true → all_known more ≡ true → Known more outer others aliases orders relations
  with_keys e f = record { expressions_known = f; outer_known = known.outer_known; keys_known = e; aliases_known = known.aliases_known; orders_known = known.orders_known; relations_known = known.relations_known }

  with_aliases : {others : List (Alias Expr)} {more : List Expr} → list_all alias_is_known others ≡ true → all_known more ≡ true → Known more outer keys others orders relations
  with_aliases e f = record { expressions_known = f; outer_known = known.outer_known; keys_known = known.keys_known; aliases_known = e; orders_known = known.orders_known; relations_known = known.relations_known }

  with_orders : {others : List (SortOrder Expr)} {more : List Expr} → list_all order_is_known others ≡ true → all_known more ≡ true → Known more outer keys aliases others relations
  with_orders e f = record { expressions_known = f; outer_known = known.outer_known; keys_known = known.keys_known; aliases_known = known.aliases_known; orders_known = e; relations_known = known.relations_known }

  last_known : is_known_expr (top star expressions) ≡ true
  last_known = top_known is_known_expr star expressions star_known known.expressions_known

  left_known : all_known (rest expressions) ≡ true
  left_known = rest_known is_known_expr expressions known.expressions_known

  every_known : all_known (reverse expressions) ≡ true
  every_known = reverse_known is_known_expr expressions known.expressions_known

  input_known : is_known_relation (top no_relation relations) ≡ true
  input_known = top_known is_known_relation no_relation relations no_relation_known known.relations_known

  others_known : list_all is_known_relation (rest relations) ≡ true
  others_known = rest_known is_known_relation relations known.relations_known

  -- a step over the last relation
  over_known : (one : RelationMember Relation) → is_known_member is_known_relation one ≡ true → list_all is_known_relation (relation one ∷ rest relations) ≡ true
  over_known one e = both (made_known one e) others_known

  over_two_known : (one : RelationMember Relation) → is_known_member is_known_relation one ≡ true → list_all is_known_relation (relation one ∷ rest (rest relations)) ≡ true
  over_two_known one e = both (made_known one e) (rest_known is_known_relation (rest relations) others_known)

  other_input_known : is_known_relation (top no_relation (rest relations)) ≡ true
  other_input_known = top_known is_known_relation no_relation (rest relations) no_relation_known others_known

  put_known : (one : Expr) → is_known_expr one ≡ true → Known (one ∷ expressions) outer keys aliases orders relations
  put_known one e = with_expressions (both e known.expressions_known)

  put_over_known : (one : Expr) → is_known_expr one ≡ true → Known (one ∷ rest expressions) outer keys aliases orders relations
  put_over_known one e = with_expressions (both e left_known)

unit_keeps : (one : UnitAction) (draft : Draft) → KnownDraft draft → KnownDraft (unit_done one draft)
unfolding unit_done
unit_keeps unit.True draft k = put_known k _ (literal_known (literal.Boolean true) refl)
unit_keeps unit.False draft k = put_known k _ (literal_known (literal.Boolean false) refl)
unit_keeps unit.Null draft k = put_known k _ (literal_known (literal.Null (type_of (top kind.Long draft.kinds))) (kind_known (top kind.Long draft.kinds)))
unit_keeps unit.Cast draft k = put_over_known k _ (cast_known (top star draft.expressions) (top kind.Long draft.kinds) (last_known k))
unit_keeps unit.Identifier draft k = k
unit_keeps unit.Attribute draft k = put_known k _ (is_known_expr-UnresolvedAttribute _)
unit_keeps unit.AttributeOfPlan draft k = put_known k _ (is_known_expr-UnresolvedAttribute _)
unit_keeps unit.Mark draft k = with_outer k refl (both (every_known k) k.outer_known)
unit_keeps unit.Call draft k = call_keeps draft k false
  where
    call_keeps : (draft : Draft) (k : KnownDraft draft) (distinct : Bool) → Known (call (top_name draft) (reverse draft.expressions) distinct ∷ reverse (top [] draft.outer)) (rest draft.outer) draft.keys draft.aliases draft.orders draft.relations
    call_keeps draft k distinct =
        with_outer k (both (call_known (top_name draft) (reverse draft.expressions) distinct (every_known k)) (reverse_known is_known_expr (top [] draft.outer) (top_known all_known [] draft.outer refl k.outer_known)))
        (rest_known all_known draft.outer k.outer_known)
unit_keeps unit.CallDistinct draft k =
    with_outer k (both (call_known (top_name draft) (reverse draft.expressions) true (every_known k)) (reverse_known is_known_expr (top [] draft.outer) (top_known all_known [] draft.outer refl k.outer_known)))
    (rest_known all_known draft.outer k.outer_known)
unit_keeps unit.Star draft k = put_known k _ star_known
unit_keeps unit.StarOf draft k = put_known k _ (is_known_expr-UnresolvedStar _)
unit_keeps unit.Alias draft k = put_over_known k _ (alias_known (top_name draft) (top star draft.expressions) (last_known k))

part_keeps : (one : Part) (draft : Draft) → KnownDraft draft → KnownDraft (part_done one draft)
part_keeps part.Assign draft k = with_aliases k (pushed_known alias_is_known draft.aliases (alias (top_name draft) (top star draft.expressions)) k.aliases_known (last_known k)) (left_known k)
part_keeps part.Order draft k = with_orders k (pushed_known order_is_known draft.orders _ k.orders_known (last_known k)) (left_known k)
part_keeps part.Renaming draft k = k
part_keeps part.GroupKeys draft k = with_keys k (every_known k) refl

step_keeps : (one : StepAction) (draft : Draft) → KnownDraft draft → KnownDraft (step_done one draft)
step_keeps step.Range draft k = with_relations k (both (made_known _ refl) k.relations_known)
step_keeps step.Read draft k = with_relations k (both (made_known _ refl) k.relations_known)
step_keeps step.Values draft k = with_relations k (both (made_known _ refl) k.relations_known)
step_keeps step.Filter draft k = with_expressions (with_relations k (over_known k _ (both (both (last_known k) (input_known k)) refl))) (left_known k)
step_keeps step.Project draft k = with_expressions (with_relations k (over_known k _ (both (both (every_known k) (input_known k)) refl))) refl
step_keeps step.WithColumns draft k = with_aliases (with_relations k (over_known k _ (both (both k.aliases_known (input_known k)) refl))) refl k.expressions_known
step_keeps step.Drop draft k = with_relations k (over_known k _ (both (both refl (input_known k)) refl))
step_keeps step.Rename draft k = with_relations k (over_known k _ (both (both refl (input_known k)) refl))
step_keeps step.ToDf draft k = with_relations k (over_known k _ (both (both refl (input_known k)) refl))
step_keeps step.SubqueryAlias draft k = with_relations k (over_known k _ (both (both refl (input_known k)) refl))
step_keeps step.Sort draft k = with_orders (with_relations k (over_known k _ (both (both k.orders_known (input_known k)) refl))) refl k.expressions_known
step_keeps step.Limit draft k = with_relations k (over_known k _ (both (both refl (input_known k)) refl))
step_keeps step.Offset draft k = with_relations k (over_known k _ (both (both refl (input_known k)) refl))
step_keeps step.Aggregate draft k = with_keys (with_relations k (over_known k _ (both (both (both k.keys_known (every_known k)) (input_known k)) refl))) refl refl
step_keeps step.SetOperation draft k = with_relations k (over_two_known k _ (both (both refl (other_input_known k)) (input_known k)))
step_keeps step.PlanId draft k = with_relations k (both (plan_id_known _ (top_relation draft) (input_known k)) (others_known k))
step_keeps step.DeduplicateOn draft k = with_relations k (over_known k _ (both (both refl (input_known k)) refl))
step_keeps step.Deduplicate draft k = with_relations k (over_known k _ (both (both refl (input_known k)) refl))
step_keeps step.JoinOn draft k = with_expressions (with_relations k (over_two_known k _ (both (both (last_known k) (other_input_known k)) (input_known k)))) (left_known k)
step_keeps step.JoinUsing draft k = with_relations k (over_two_known k _ (both (both refl (other_input_known k)) (input_known k)))
step_keeps step.JoinAll draft k = with_relations k (over_two_known k _ (both (both refl (other_input_known k)) (input_known k)))
step_keeps step.Write draft k = k
step_keeps step.Insert draft k = k

action_keeps : (one : Action) (draft : Draft) → KnownDraft draft → KnownDraft (done one draft)
action_keeps (action.Binary one) draft k =
    let left = top_known is_known_expr star (rest draft.expressions) star_known (left_known k) in
    with_expressions k (both (call_known (binary_name one) _ false (both left (both (last_known k) refl))) (rest_known is_known_expr (rest draft.expressions) (left_known k)))
action_keeps (action.Unary one) draft k = put_over_known k _ (call_known (unary_name one) _ false (both (last_known k) refl))
action_keeps (action.Unit one) draft k = unit_keeps one draft k
action_keeps (action.Part one) draft k = part_keeps one draft k
action_keeps (action.Choice one) draft k = k
action_keeps (action.Step one) draft k = step_keeps one draft k
action_keeps (action.Kind one) draft k = k

use_keeps : (used : Use) (token : Token) (draft : Draft) → KnownDraft draft → KnownDraft (taken used token draft)
use_keeps uses.IntegerLiteral token draft k = put_known k _ (literal_known (literal.Integer _) refl)
use_keeps uses.LongLiteral token draft k = put_known k _ (literal_known (literal.Long _) refl)
use_keeps uses.NegativeIntegerLiteral token draft k = put_known k _ (literal_known (literal.Integer _) refl)
use_keeps uses.NegativeLongLiteral token draft k = put_known k _ (literal_known (literal.Long _) refl)
use_keeps uses.Text token draft k = put_known k _ (literal_known (literal.String _) refl)
use_keeps uses.Date token draft k = put_known k _ (literal_known (literal.Date _) refl)
use_keeps other token draft k = k

deed_keeps : (one : Deed) (draft : Draft) → KnownDraft draft → KnownDraft (built one draft)
deed_keeps (deed.Take used token) draft k = use_keeps used token draft k
deed_keeps (deed.Act action) draft k = action_keeps action draft k
deed_keeps (deed.Column kind) draft k = k
deed_keeps deed.Row draft k = k

all_keep : (deeds : List Deed) (draft : Draft) → KnownDraft draft → KnownDraft (all_built deeds draft)
all_keep [] draft k = k
all_keep (one ∷ deeds) draft k = all_keep deeds (built one draft) (deed_keeps one draft k)

none_known : KnownDraft no_draft
none_known = record { expressions_known = refl; outer_known = refl; keys_known = refl; aliases_known = refl; orders_known = refl; relations_known = refl }

planned_known : (write : Option Write) (root : Relation) → is_known_relation root ≡ true → IsKnownPlan (planned write root)
planned_known None root e = e
planned_known (Some write) root e = e

-- a plan of deeds has a spelling
pub plan_is_known : (deeds : List Deed) → IsKnownPlan (plan_of_deeds deeds)
plan_is_known deeds = planned_known (all_built deeds no_draft).write (top_relation (all_built deeds no_draft)) (input_known (all_keep deeds no_draft none_known))

pub known_by_deeds : (plan : Plan) (deeds : List Deed) → plan ≡ plan_of_deeds deeds → IsKnownPlan plan
known_by_deeds plan deeds e = subst IsKnownPlan (sym e) (plan_is_known deeds)
