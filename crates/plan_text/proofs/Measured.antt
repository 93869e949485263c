-- What a draft measures goes on as the draft does, so that a plan's depth is known before it is built.
use Rattle.std.proofs.Common.{◌≡◌, ℕ, ◌+◌, ◌≤◌, max, Bool, true, false, List, [], ◌∷◌, ◌++◌, map, refl, sym, ap, ◌∙◌, cond, arith}
use Rattle.std.specs.Prelude.{Option, Some, None, ℤ, reverse, is_some}
use Rattle.std.proofs.lemmas.List.{map-append, reverse-append}
use Rattle.std.specs.Ordering.{nat_cmp, is_lt, is_eq}
use Rattle.std.specs.Cmp.Lexicographic.{slice_cmp}
use Rattle.cn_types.specs.declared.value.DataType.{DataType}
use Rattle.cn_types.specs.declared.value.DataType.TheVariants as kind
use Rattle.expression_messages.specs.declared.literal.Literal.{Literal}
use Rattle.expression_messages.specs.declared.literal.Literal.TheVariants as literal
use Rattle.expression_messages.specs.declared.expression.Expr.{Expr}
use Rattle.expression_messages.specs.declared.expression.Expr.TheVariants as expr
use Rattle.expression_messages.specs.declared.expression.CastTarget.TheVariants as target
use Rattle.expression_messages.specs.Depths.{largest, told, type_depth, literal_depth, expr_depth, alias_depth, sort_order_depth}
use Rattle.expression_messages.proofs.TypeCases.{type_depth-Boolean, type_depth-Integer, type_depth-Long, type_depth-String, type_depth-Date}
use Rattle.expression_messages.proofs.ExprCases.{expr_depth-Literal, expr_depth-UnresolvedAttribute, expr_depth-UnresolvedFunction, expr_depth-UnresolvedStar, expr_depth-Alias, expr_depth-Cast}
use Rattle.plain_relations.specs.declared.rename_entry.RenameEntry.{RenameEntry}
use Rattle.plain_relations.specs.Maps.{put_before, map_of}
use Rattle.plain_relations.specs.Depths.{entries_depth}
use Rattle.relation_parts.specs.declared.common.RelationCommon.{RelationCommon}
use Rattle.relation_members.specs.declared.member.RelationMember.{RelationMember}
use Rattle.relation_members.specs.declared.member.RelationMember.TheVariants as member
use Rattle.relation_members.specs.Depths.{member_depth}
use Rattle.relation_messages.specs.declared.relation.Relation.{Relation}
use Rattle.relation_messages.specs.declared.relation.Relation.TheOpen.{Relation-F}
use Rattle.relation_messages.specs.declared.relation.Relation.TheViews.{out-Relation, roll-Relation, out-roll-Relation}
use Rattle.relation_messages.specs.Depths.{common_depth, relation_depth}
use Rattle.relation_messages.proofs.Folds.{relation_deep}
use Rattle.plan_messages.specs.Depths.{plan_depth}
use Rattle.plan_tokens.specs.declared.token.Token.{Token}
use Rattle.plan_grammar.specs.declared.symbol.Action.{Action}
use Rattle.plan_grammar.specs.declared.symbol.Action.TheVariants as action
use Rattle.plan_grammar.specs.declared.symbol.UnitAction.{UnitAction}
use Rattle.plan_grammar.specs.declared.symbol.UnitAction.TheVariants as unit
use Rattle.plan_grammar.specs.declared.symbol.Part.{Part}
use Rattle.plan_grammar.specs.declared.symbol.Part.TheVariants as part
use Rattle.plan_grammar.specs.declared.symbol.StepAction.{StepAction}
use Rattle.plan_grammar.specs.declared.symbol.StepAction.TheVariants as step
use Rattle.plan_grammar.specs.declared.symbol.Use.{Use}
use Rattle.plan_grammar.specs.declared.symbol.Use.TheVariants as uses
use Rattle.plan_grammar.specs.declared.symbol.Deed.{Deed}
use Rattle.plan_grammar.specs.declared.symbol.Deed.TheVariants as deed
use Rattle.plan_text.specs.declared.draft.Draft.{Draft}
use Rattle.plan_text.specs.declared.draft.Write.{Write}
use Rattle.plan_text.specs.Piles.{top, rest}
use Rattle.plan_text.specs.Drafts.{no_draft, star, call, attribute, alias, type_of, binary_name, unary_name, relation, no_relation, with_plan_id, top_relation, top_name, unit_done, part_done, step_done, done, taken, built, all_built, planned, plan_of_draft, plan_of_deeds}
use Rattle.plan_text.specs.Heights.{expr_height, relation_height, heights_of, no_heights, above, unit_height, part_height, step_height, action_height, taken_height, deed_height, all_heights, plan_height}

-- ---- piles

top_map : {A B : Type 0} (f : A → B) (default : A) (items : List A) → top (f default) (map f items) ≡ f (top default items)
top_map f default [] = refl
top_map f default (item ∷ items) = refl

rest_map : {A B : Type 0} (f : A → B) (items : List A) → map f (rest items) ≡ rest (map f items)
rest_map f [] = refl
rest_map f (item ∷ items) = refl

map_reverse : {A B : Type 0} (f : A → B) (items : List A) → map f (reverse items) ≡ reverse (map f items)
map_reverse f [] = refl
map_reverse f (item ∷ items) =
    ap (map f) (reverse-append (item ∷ []) items) ∙ map-append f (reverse items) (reverse (item ∷ [])) ∙ ap (λ (front : List _). front ++ f item ∷ []) (map_reverse f items)
    ∙ sym (reverse-append (f item ∷ []) (map f items))

cons_same : {A : Type 0} {one other : A} {items others : List A} → one ≡ other → items ≡ others → one ∷ items ≡ other ∷ others
cons_same {A} {one} {other} {items} {others} e f = ap (λ (x : A). x ∷ items) e ∙ ap (λ (xs : List A). other ∷ xs) f

-- ---- numbers

told_max : (a b : ℕ) → told (max a b) ≡ max (told a) (told b)
told_max a b = omega arith

told_above : (a : ℕ) → told (2 + a) ≡ above (told a)
told_above a = omega arith

largest_told : {A : Type 0} (depth : A → ℕ) (items : List A) → largest (map (λ (one : A). told (depth one)) items) ≡ told (largest (map depth items))
largest_told depth [] = refl
largest_told depth (one ∷ items) = let more = largest_told depth items in let both = told_max (depth one) (largest (map depth items)) in cc

largest_push : (depths : List ℕ) (depth : ℕ) → largest (depths ++ depth ∷ []) ≡ max (largest depths) depth
largest_push [] depth = omega arith
largest_push (d ∷ depths) depth = let more = largest_push depths depth in omega arith

-- ---- expressions

star_height : expr_height star ≡ 2
star_height = ap told (expr_depth-UnresolvedStar (record { unparsed_target = None }))

target_star_height : (target : List ℕ) → expr_height (expr.UnresolvedStar (record { unparsed_target = Some target })) ≡ 2
target_star_height target = ap told (expr_depth-UnresolvedStar (record { unparsed_target = Some target }))

attribute_height : (identifier : List ℕ) (plan_id : Option ℤ) → expr_height (attribute identifier plan_id) ≡ 2
attribute_height identifier plan_id = ap told (expr_depth-UnresolvedAttribute (record { unparsed_identifier = identifier; plan_id = plan_id }))

plain_height : (one : Literal) → literal_depth one ≡ 1 → expr_height (expr.Literal one) ≡ 2
plain_height one e = ap told (expr_depth-Literal one) ∙ ap (λ (n : ℕ). told (1 + n)) e

kind_depth : (one : DataType) → type_depth (type_of one) ≡ 2
kind_depth kind.Boolean = type_depth-Boolean
kind_depth kind.Integer = type_depth-Integer
kind_depth kind.Long = type_depth-Long
kind_depth kind.Text = type_depth-String
kind_depth kind.Date = type_depth-Date

null_height : (one : DataType) → expr_height (expr.Literal (literal.Null (type_of one))) ≡ 4
null_height one = ap told (expr_depth-Literal (literal.Null (type_of one))) ∙ ap (λ (n : ℕ). told (1 + (1 + n))) (kind_depth one)

call_height : (name : List ℕ) (arguments : List Expr) (distinct : Bool) → expr_height (call name arguments distinct) ≡ above (largest (map expr_height arguments))
call_height name arguments distinct =
    ap told (expr_depth-UnresolvedFunction (record { function_name = name; arguments = arguments; is_distinct = distinct })) ∙ told_above (largest (map expr_depth arguments))
    ∙ ap above (sym (largest_told expr_depth arguments))

alias_height : (name : List ℕ) (one : Expr) → expr_height (expr.Alias (alias name one)) ≡ above (expr_height one)
alias_height name one = ap told (expr_depth-Alias (alias name one)) ∙ told_above (expr_depth one)

cast_height : (one : Expr) (to : DataType) → expr_height (expr.Cast (record { expr = one; target = target.Kind (type_of to) })) ≡ above (max (expr_height one) 2)
cast_height one to =
    let depth = expr_depth-Cast (record { expr = one; target = target.Kind (type_of to) }) in
    let of_kind = kind_depth to in
    ap told depth ∙ ap (λ (n : ℕ). told (2 + max (expr_depth one) n)) of_kind ∙ cast_told (expr_depth one)
  where
    cast_told : (a : ℕ) → told (2 + max a 2) ≡ above (max (told a) 2)
    cast_told a = omega arith

-- the last expression
last_same : (items : List Expr) → expr_height (top star items) ≡ top 2 (map expr_height items)
last_same items = sym (top_map expr_height star items) ∙ ap (λ (n : ℕ). top n (map expr_height items)) star_height

last_but_one_same : (items : List Expr) → expr_height (top star (rest items)) ≡ top 2 (rest (map expr_height items))
last_but_one_same items = last_same (rest items) ∙ ap (top 2) (rest_map expr_height items)

two_same : (left right : ℕ) → above (max left (max right 0)) ≡ above (max left right)
two_same left right = omega arith

one_same : (height : ℕ) → above (max height 0) ≡ above height
one_same height = omega arith

binary_same : (name : List ℕ) (items : List Expr) → expr_height (call name (top star (rest items) ∷ top star items ∷ []) false) ≡ above (max (top 2 (rest (map expr_height items))) (top 2 (map expr_height items)))
binary_same name items =
    call_height name (top star (rest items) ∷ top star items ∷ []) false ∙ two_same (expr_height (top star (rest items))) (expr_height (top star items))
    ∙ ap (λ (n : ℕ). above (max n (expr_height (top star items)))) (last_but_one_same items)
    ∙ ap (λ (n : ℕ). above (max (top 2 (rest (map expr_height items))) n)) (last_same items)

unary_same : (name : List ℕ) (items : List Expr) → expr_height (call name (top star items ∷ []) false) ≡ above (top 2 (map expr_height items))
unary_same name items = call_height name (top star items ∷ []) false ∙ one_same (expr_height (top star items)) ∙ ap above (last_same items)

rest_twice : (items : List Expr) → map expr_height (rest (rest items)) ≡ rest (rest (map expr_height items))
rest_twice items = rest_map expr_height (rest items) ∙ ap rest (rest_map expr_height items)

all_same : (items : List Expr) → told (largest (map expr_depth (reverse items))) ≡ largest (reverse (map expr_height items))
all_same items = sym (largest_told expr_depth (reverse items)) ∙ ap largest (map_reverse expr_height items)

call_same : (name : List ℕ) (items : List Expr) (distinct : Bool) → expr_height (call name (reverse items) distinct) ≡ above (largest (reverse (map expr_height items)))
call_same name items distinct = call_height name (reverse items) distinct ∙ ap (λ (heights : List ℕ). above (largest heights)) (map_reverse expr_height items)

abbrev heights : List Expr → List ℕ
heights items = map expr_height items

outer_same : (outer : List (List Expr)) → heights (reverse (top [] outer)) ≡ reverse (top [] (map heights outer))
outer_same outer = map_reverse expr_height (top [] outer) ∙ ap reverse (sym (top_map heights [] outer))

-- ---- relations

layered : (layer : Relation-F Relation) → relation_depth (roll-Relation layer) ≡ 1 + max (common_depth layer.common) (member_depth relation_depth layer.member)
layered layer =
    relation_deep (roll-Relation layer) ∙ ap (λ (l : Relation-F Relation). 1 + max (common_depth l.common) (member_depth relation_depth l.member)) (out-roll-Relation layer)

made : (one : RelationMember Relation) (depth : ℕ) → member_depth relation_depth one ≡ depth → relation_height (relation one) ≡ told (1 + max 0 depth)
made one depth e = ap told (layered (record { common = None; member = one })) ∙ ap (λ (n : ℕ). told (1 + max 0 n)) e

no_relation_height : relation_height no_relation ≡ 2
no_relation_height = made (member.Range (record { start = None; end = _; step = _; num_partitions = None })) 1 refl

input_told : (input other : ℕ) → told (1 + max 0 (1 + max (max input 0) other)) ≡ above (max (told input) (told other))
input_told input other = omega arith

inputs_told : (left right other : ℕ) → told (1 + max 0 (1 + max (max left right) other)) ≡ above (max (max (told left) (told right)) (told other))
inputs_told left right other = omega arith

over_one : (one : RelationMember Relation) (input : Relation) (other : ℕ) → member_depth relation_depth one ≡ 1 + max (max (relation_depth input) 0) other
    → relation_height (relation one) ≡ above (max (relation_height input) (told other))
over_one one input other e = made one _ e ∙ input_told (relation_depth input) other

over_two : (one : RelationMember Relation) (left right : Relation) (other : ℕ) → member_depth relation_depth one ≡ 1 + max (max (relation_depth left) (relation_depth right)) other
    → relation_height (relation one) ≡ above (max (max (relation_height left) (relation_height right)) (told other))
over_two one left right other e = made one _ e ∙ inputs_told (relation_depth left) (relation_depth right) other

top_relation_same : (items : List Relation) → relation_height (top no_relation items) ≡ top 2 (map relation_height items)
top_relation_same items = sym (top_map relation_height no_relation items) ∙ ap (λ (n : ℕ). top n (map relation_height items)) no_relation_height

-- a step over the last relation
input_same : (one : RelationMember Relation) (items : List Relation) (other height : ℕ) → member_depth relation_depth one ≡ 1 + max (max (relation_depth (top no_relation items)) 0) other → told other ≡ height
    → map relation_height (relation one ∷ rest items) ≡ above (max (top 2 (map relation_height items)) height) ∷ rest (map relation_height items)
input_same one items other height e f =
    cons_same
    (over_one one (top no_relation items) other e ∙ ap (λ (n : ℕ). above (max n (told other))) (top_relation_same items) ∙ ap (λ (n : ℕ). above (max (top 2 (map relation_height items)) n)) f)
    (rest_map relation_height items)

-- a step over the last two
inputs_same : (one : RelationMember Relation) (items : List Relation) (other height : ℕ)
    → member_depth relation_depth one ≡ 1 + max (max (relation_depth (top no_relation (rest items))) (relation_depth (top no_relation items))) other → told other ≡ height
    → map relation_height (relation one ∷ rest (rest items)) ≡ above (max (max (top 2 (rest (map relation_height items))) (top 2 (map relation_height items))) height) ∷ rest (rest (map relation_height items))
inputs_same one items other height e f =
    let left = top_relation_same (rest items) ∙ ap (top 2) (rest_map relation_height items) in
    let right = top_relation_same items in
    cons_same
    (over_two one (top no_relation (rest items)) (top no_relation items) other e
    ∙ ap (λ (n : ℕ). above (max (max n (relation_height (top no_relation items))) (told other))) left
    ∙ ap (λ (n : ℕ). above (max (max (top 2 (rest (map relation_height items))) n) (told other))) right
    ∙ ap (λ (n : ℕ). above (max (max (top 2 (rest (map relation_height items))) (top 2 (map relation_height items))) n)) f)
    (rest_map relation_height (rest items) ∙ ap rest (rest_map relation_height items))

common_small : (common : Option RelationCommon) → common_depth common ≤ 1
common_small None = omega arith
common_small (Some common) = omega arith

plan_id_told : (common member : ℕ) → common ≤ 1 → told (1 + max 1 member) ≡ max 2 (told (1 + max common member))
plan_id_told common member small = omega arith

plan_id_same : (number : ℤ) (items : List Relation) → relation_height (with_plan_id number (top no_relation items)) ≡ max 2 (top 2 (map relation_height items))
plan_id_same number items =
    let one = top no_relation items in
    let layer = out-Relation one in
    ap told (layered (record { common = Some (record { plan_id = Some number }); member = layer.member }))
    ∙ plan_id_told (common_depth layer.common) (member_depth relation_depth layer.member) (common_small layer.common)
    ∙ ap (λ (n : ℕ). max 2 (told n)) (sym (relation_deep one)) ∙ ap (λ (n : ℕ). max 2 n) (top_relation_same items)

-- ---- new names

put_is_there : (entry : RenameEntry) (entries : List RenameEntry) → entries_depth (put_before entry entries) ≡ 1
unfolding put_before
put_is_there entry [] = refl
put_is_there entry (next ∷ others) =
    first_or_next (is_lt (slice_cmp nat_cmp entry.key next.key)) (is_eq (slice_cmp nat_cmp entry.key next.key)) entry next next (next ∷ others) others (put_before entry others)
  where
    first_or_next : (less same : Bool) (a b c : RenameEntry) (x y z : List RenameEntry) → entries_depth (cond less (a ∷ x) (cond same (b ∷ y) (c ∷ z))) ≡ 1
    first_or_next true same a b c x y z = refl
    first_or_next false true a b c x y z = refl
    first_or_next false false a b c x y z = refl

pushed_is_there : (entries : List RenameEntry) (entry : RenameEntry) → entries_depth (map_of (entries ++ entry ∷ [])) ≡ 1
unfolding map_of
pushed_is_there [] entry = put_is_there entry []
pushed_is_there (first ∷ entries) entry = put_is_there first (map_of (entries ++ entry ∷ []))

-- no new names
none_there : entries_depth (map_of []) ≡ 0
unfolding map_of
none_there = refl

-- ---- parts put aside

pushed_told : {A : Type 0} (depth : A → ℕ) (items : List A) (one : A) (height : ℕ) → told (depth one) ≡ height → told (largest (map depth (items ++ one ∷ []))) ≡ max (told (largest (map depth items))) height
pushed_told {A} depth items one height e =
    ap (λ (ds : List ℕ). told (largest ds)) (map-append depth items (one ∷ [])) ∙ ap told (largest_push (map depth items) (depth one)) ∙ told_max (largest (map depth items)) (depth one)
    ∙ ap (λ (n : ℕ). max (told (largest (map depth items))) n) e

one_more_told : (items : List Expr) → told (1 + expr_depth (top star items)) ≡ told (1 + top 2 (map expr_height items))
one_more_told items = one_told (expr_depth (top star items)) ∙ ap (λ (n : ℕ). told (1 + n)) (last_same items)
  where
    one_told : (a : ℕ) → told (1 + a) ≡ told (1 + told a)
    one_told a = omega arith

-- ---- deeds

set_expressions : (draft : Draft) {a b : List ℕ} → a ≡ b → record (heights_of draft) { expressions = a } ≡ record (heights_of draft) { expressions = b }
set_expressions draft e = ap (λ (x : List ℕ). record (heights_of draft) { expressions = x }) e

set_relations : (draft : Draft) {a b : List ℕ} → a ≡ b → record (heights_of draft) { relations = a } ≡ record (heights_of draft) { relations = b }
set_relations draft e = ap (λ (x : List ℕ). record (heights_of draft) { relations = x }) e

-- expressions that were taken, and what was made of them
set_both : (draft : Draft) {a b c d : List ℕ} → a ≡ b → c ≡ d → record (heights_of draft) { relations = a; expressions = c } ≡ record (heights_of draft) { relations = b; expressions = d }
set_both draft {a} {b} {c} {d} e f = ap (λ (x : List ℕ). record (heights_of draft) { relations = x; expressions = c }) e ∙ ap (λ (y : List ℕ). record (heights_of draft) { relations = b; expressions = y }) f

set_outer : (draft : Draft) {a b : List ℕ} {c d : List (List ℕ)} → a ≡ b → c ≡ d → record (heights_of draft) { expressions = a; outer = c } ≡ record (heights_of draft) { expressions = b; outer = d }
set_outer draft {a} {b} {c} {d} e f = ap (λ (x : List ℕ). record (heights_of draft) { expressions = x; outer = c }) e ∙ ap (λ (y : List (List ℕ)). record (heights_of draft) { expressions = b; outer = y }) f

set_aliases : (draft : Draft) {a b : ℕ} {c d : List ℕ} → a ≡ b → c ≡ d → record (heights_of draft) { aliases = a; expressions = c } ≡ record (heights_of draft) { aliases = b; expressions = d }
set_aliases draft {a} {b} {c} {d} e f = ap (λ (x : ℕ). record (heights_of draft) { aliases = x; expressions = c }) e ∙ ap (λ (y : List ℕ). record (heights_of draft) { aliases = b; expressions = y }) f

set_orders : (draft : Draft) {a b : ℕ} {c d : List ℕ} → a ≡ b → c ≡ d → record (heights_of draft) { orders = a; expressions = c } ≡ record (heights_of draft) { orders = b; expressions = d }
set_orders draft {a} {b} {c} {d} e f = ap (λ (x : ℕ). record (heights_of draft) { orders = x; expressions = c }) e ∙ ap (λ (y : List ℕ). record (heights_of draft) { orders = b; expressions = y }) f

rests : (draft : Draft) → heights (rest draft.expressions) ≡ rest (heights draft.expressions)
rests draft = rest_map expr_height draft.expressions

unit_measured : (one : UnitAction) (draft : Draft) → heights_of (unit_done one draft) ≡ unit_height one (heights_of draft)
unfolding unit_done
unit_measured unit.True draft = set_expressions draft (cons_same (plain_height (literal.Boolean true) refl) refl)
unit_measured unit.False draft = set_expressions draft (cons_same (plain_height (literal.Boolean false) refl) refl)
unit_measured unit.Null draft = set_expressions draft (cons_same (null_height (top kind.Long draft.kinds)) refl)
unit_measured unit.Cast draft =
    set_expressions draft
    (cons_same (cast_height (top star draft.expressions) (top kind.Long draft.kinds) ∙ ap (λ (n : ℕ). above (max n 2)) (last_same draft.expressions)) (rests draft))
unit_measured unit.Identifier draft = refl
unit_measured unit.Attribute draft = set_expressions draft (cons_same (attribute_height (top_name draft) None) refl)
unit_measured unit.AttributeOfPlan draft = set_expressions draft (cons_same (attribute_height _ _) refl)
unit_measured unit.Mark draft = set_outer draft refl (cons_same (map_reverse expr_height draft.expressions) refl)
unit_measured unit.Call draft = set_outer draft (cons_same (call_same (top_name draft) draft.expressions false) (outer_same draft.outer)) (rest_map heights draft.outer)
unit_measured unit.CallDistinct draft = set_outer draft (cons_same (call_same (top_name draft) draft.expressions true) (outer_same draft.outer)) (rest_map heights draft.outer)
unit_measured unit.Star draft = set_expressions draft (cons_same star_height refl)
unit_measured unit.StarOf draft = set_expressions draft (cons_same (target_star_height (top_name draft)) refl)
unit_measured unit.Alias draft =
    set_expressions draft (cons_same (alias_height (top_name draft) (top star draft.expressions) ∙ ap above (last_same draft.expressions)) (rests draft))

part_measured : (one : Part) (draft : Draft) → heights_of (part_done one draft) ≡ part_height one (heights_of draft)
part_measured part.Assign draft =
    set_aliases draft (pushed_told alias_depth draft.aliases (alias (top_name draft) (top star draft.expressions)) _ (one_more_told draft.expressions)) (rests draft)
part_measured part.Order draft = set_orders draft (pushed_told sort_order_depth draft.orders _ _ (one_more_told draft.expressions)) (rests draft)
part_measured part.Renaming draft =
    ap (λ (n : ℕ). record (heights_of draft) { renames = n }) (pushed_is_there draft.renames (record { key = top [] (rest draft.names); value = top_name draft }))
part_measured part.GroupKeys draft =
    ap (λ (n : ℕ). record (heights_of draft) { keys = n; expressions = [] }) (all_same draft.expressions)

over_input_same : (draft : Draft) (one : RelationMember Relation) → member_depth relation_depth one ≡ 1 + max (max (relation_depth (top_relation draft)) 0) 0
    → record (heights_of draft) { relations = map relation_height (relation one ∷ rest draft.relations) }
    ≡ record (heights_of draft) { relations = above (max (top 2 (map relation_height draft.relations)) 0) ∷ rest (map relation_height draft.relations) }
over_input_same draft one e = set_relations draft (input_same one draft.relations 0 0 e refl)

over_inputs_same : (draft : Draft) (one : RelationMember Relation) → member_depth relation_depth one ≡ 1 + max (max (relation_depth (top no_relation (rest draft.relations))) (relation_depth (top_relation draft))) 0
    → record (heights_of draft) { relations = map relation_height (relation one ∷ rest (rest draft.relations)) }
    ≡ record (heights_of draft) { relations = above (max (max (top 2 (rest (map relation_height draft.relations))) (top 2 (map relation_height draft.relations))) 0) ∷ rest (rest (map relation_height draft.relations)) }
over_inputs_same draft one e = set_relations draft (inputs_same one draft.relations 0 0 e refl)

step_measured : (one : StepAction) (draft : Draft) → heights_of (step_done one draft) ≡ step_height one (heights_of draft)
step_measured step.Range draft = set_relations draft (cons_same (made _ 1 refl) refl)
step_measured step.Read draft = set_relations draft (cons_same (made _ 2 refl) refl)
step_measured step.Values draft = set_relations draft (cons_same (made _ 1 refl) refl)
step_measured step.Filter draft = set_both draft (input_same _ draft.relations (expr_depth (top star draft.expressions)) _ refl (last_same draft.expressions)) (rests draft)
step_measured step.Project draft =
    ap (λ (x : List ℕ). record (heights_of draft) { relations = x; expressions = [] }) (input_same _ draft.relations (largest (map expr_depth (reverse draft.expressions))) _ refl (all_same draft.expressions))
step_measured step.WithColumns draft =
    ap (λ (x : List ℕ). record (heights_of draft) { relations = x; aliases = 0 }) (input_same _ draft.relations (largest (map alias_depth draft.aliases)) _ refl refl)
step_measured step.Drop draft = over_input_same draft _ refl
step_measured step.Rename draft = renamed_same draft
  where
    small : (entries : List RenameEntry) → told (entries_depth entries) ≡ entries_depth entries
    small [] = refl
    small (entry ∷ entries) = refl

    renamed_same : (draft : Draft) → heights_of (step_done step.Rename draft) ≡ step_height step.Rename (heights_of draft)
    renamed_same draft =
        ap (λ (n : ℕ). record (heights_of (step_done step.Rename draft)) { renames = n }) none_there
        ∙ ap (λ (x : List ℕ). record (heights_of draft) { relations = x; renames = 0 }) (input_same _ draft.relations (entries_depth (map_of draft.renames)) _ refl (small (map_of draft.renames)))
step_measured step.ToDf draft = over_input_same draft _ refl
step_measured step.SubqueryAlias draft = over_input_same draft _ refl
step_measured step.Sort draft =
    ap (λ (x : List ℕ). record (heights_of draft) { relations = x; orders = 0 }) (input_same _ draft.relations (largest (map sort_order_depth draft.orders)) _ refl refl)
step_measured step.Limit draft = over_input_same draft _ refl
step_measured step.Offset draft = over_input_same draft _ refl
step_measured step.Aggregate draft =
    let keys = largest (map expr_depth draft.keys) in
    let aggregates = largest (map expr_depth (reverse draft.expressions)) in
    ap (λ (x : List ℕ). record (heights_of draft) { relations = x; keys = 0; expressions = [] })
    (input_same _ draft.relations (max keys aggregates) _ refl (told_max keys aggregates ∙ ap (λ (n : ℕ). max (told keys) n) (all_same draft.expressions)))
step_measured step.SetOperation draft = over_inputs_same draft _ refl
step_measured step.PlanId draft = set_relations draft (cons_same (plan_id_same _ draft.relations) (rest_map relation_height draft.relations))
step_measured step.DeduplicateOn draft = over_input_same draft _ refl
step_measured step.Deduplicate draft = over_input_same draft _ refl
step_measured step.JoinOn draft = set_both draft (inputs_same _ draft.relations (expr_depth (top star draft.expressions)) _ refl (last_same draft.expressions)) (rests draft)
step_measured step.JoinUsing draft = over_inputs_same draft _ refl
step_measured step.JoinAll draft = over_inputs_same draft _ refl
step_measured step.Write draft = refl
step_measured step.Insert draft = refl

action_measured : (one : Action) (draft : Draft) → heights_of (done one draft) ≡ action_height one (heights_of draft)
action_measured (action.Binary one) draft = set_expressions draft (cons_same (binary_same (binary_name one) draft.expressions) (rest_twice draft.expressions))
action_measured (action.Unary one) draft = set_expressions draft (cons_same (unary_same (unary_name one) draft.expressions) (rests draft))
action_measured (action.Unit one) draft = unit_measured one draft
action_measured (action.Part one) draft = part_measured one draft
action_measured (action.Choice one) draft = refl
action_measured (action.Step one) draft = step_measured one draft
action_measured (action.Kind one) draft = refl

literal_measured : (one : Literal) (draft : Draft) → literal_depth one ≡ 1
    → record (heights_of draft) { expressions = expr_height (expr.Literal one) ∷ heights draft.expressions } ≡ record (heights_of draft) { expressions = 2 ∷ heights draft.expressions }
literal_measured one draft e = set_expressions draft (cons_same (plain_height one e) refl)

use_measured : (used : Use) (token : Token) (draft : Draft) → heights_of (taken used token draft) ≡ taken_height used (heights_of draft)
use_measured uses.Nothing token draft = refl
use_measured uses.NewColumns token draft = refl
use_measured uses.Name token draft = refl
use_measured uses.Part token draft = refl
use_measured uses.Integer token draft = refl
use_measured uses.NegativeInteger token draft = refl
use_measured uses.Long token draft = refl
use_measured uses.NegativeLong token draft = refl
use_measured uses.IntegerLiteral token draft = literal_measured _ draft refl
use_measured uses.LongLiteral token draft = literal_measured _ draft refl
use_measured uses.NegativeIntegerLiteral token draft = literal_measured _ draft refl
use_measured uses.NegativeLongLiteral token draft = literal_measured _ draft refl
use_measured uses.Text token draft = literal_measured _ draft refl
use_measured uses.Date token draft = literal_measured _ draft refl
use_measured (uses.Cell cell) token draft = refl

measured : (one : Deed) (draft : Draft) → heights_of (built one draft) ≡ deed_height one (heights_of draft)
measured (deed.Take used token) draft = use_measured used token draft
measured (deed.Act action) draft = action_measured action draft
measured (deed.Column kind) draft = refl
measured deed.Row draft = refl

all_measured : (deeds : List Deed) (draft : Draft) → heights_of (all_built deeds draft) ≡ all_heights deeds (heights_of draft)
all_measured [] draft = refl
all_measured (one ∷ deeds) draft = all_measured deeds (built one draft) ∙ ap (all_heights deeds) (measured one draft)

none_measured : heights_of no_draft ≡ no_heights
none_measured = ap (λ (n : ℕ). record no_heights { renames = n }) none_there

-- ---- plans

write_told : (root : ℕ) → told (1 + (1 + (1 + max root 1))) ≡ told (3 + max (told root) 1)
write_told root = omega arith

root_told : (root : ℕ) → told (1 + root) ≡ told (1 + told root)
root_told root = omega arith

planned_measured : (write : Option Write) (relations : List Relation)
    → told (plan_depth (planned write (top no_relation relations))) ≡ cond (is_some write) (told (3 + max (top 2 (map relation_height relations)) 1)) (told (1 + top 2 (map relation_height relations)))
planned_measured None relations = root_told (relation_depth (top no_relation relations)) ∙ ap (λ (n : ℕ). told (1 + n)) (top_relation_same relations)
planned_measured (Some write) relations = write_told (relation_depth (top no_relation relations)) ∙ ap (λ (n : ℕ). told (3 + max n 1)) (top_relation_same relations)

draft_measured : (draft : Draft) → told (plan_depth (plan_of_draft draft)) ≡ plan_height (heights_of draft)
draft_measured draft = planned_measured draft.write draft.relations

-- a plan is as deep as its deeds tell
pub plan_measured : (deeds : List Deed) → told (plan_depth (plan_of_deeds deeds)) ≡ plan_height (all_heights deeds no_heights)
plan_measured deeds = draft_measured (all_built deeds no_draft) ∙ ap plan_height (all_measured deeds no_draft ∙ ap (all_heights deeds) none_measured)
