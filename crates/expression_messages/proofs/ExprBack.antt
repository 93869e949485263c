-- What expressions are spelled as is read as the expressions.
use Rattle.std.proofs.Common.{◌≡◌, ◌≢◌, ℕ, ℤ, pos, zero, suc, ◌+◌, ◌-◌, ◌^◌, ◌<◌, ◌≤◌, max, Bool, true, false, List, [], ◌∷◌, ◌++◌, map, length, Option, None, Some, refl, sym, ap, ◌∙◌, subst, append_assoc, arith}
use Rattle.std.specs.Prelude.{◌&&◌, IsTrue, FitsSigned, IsUtf8, option_map, unwrap_or}
use Rattle.std.specs.Int.{w32}
use Rattle.std.specs.Str.Lossy.{utf8_lossy}
use Rattle.std.specs.List.{list_all, after_last, AllByRecursion}
use Rattle.std.proofs.lemmas.Bool.{false≢true}
use Rattle.proto_fields.specs.declared.kind.MessageKind.{MessageKind}
use Rattle.proto_fields.specs.declared.kind.MessageKind.TheVariants as kinds
use Rattle.proto_fields.specs.declared.kind.PayloadKind.TheVariants.{Message}
use Rattle.proto_fields.specs.Fields.{Field, fields_of}
use Rattle.proto_fields.specs.Kinds.{is_member, payload_of}
use Rattle.proto_fields.specs.Readings.{last_some, last_number, payloads, Member, latest, bool_of, int32_of, bool_field, int32_field, text_field, texts}
use Rattle.proto_fields.specs.Spelling.{spell, payload_fields, text_fields, int_fields, bool_fields}
use Rattle.proto_fields.proofs.ReturnLemmas.{text_back, bool_back, int32_back}
use Rattle.expression_messages.specs.declared.literal.Literal.{Literal}
use Rattle.expression_messages.specs.declared.expression.UnresolvedAttribute.{UnresolvedAttribute}
use Rattle.expression_messages.specs.declared.expression.UnresolvedFunction.{UnresolvedFunction}
use Rattle.expression_messages.specs.declared.expression.UnresolvedStar.{UnresolvedStar}
use Rattle.expression_messages.specs.declared.expression.Alias.{Alias}
use Rattle.expression_messages.specs.declared.expression.CastTarget.{CastTarget}
use Rattle.expression_messages.specs.declared.expression.Cast.{Cast}
use Rattle.expression_messages.specs.declared.expression.SortOrder.{SortOrder}
use Rattle.expression_messages.specs.declared.expression.Expr.{Expr}
use Rattle.expression_messages.specs.declared.expression.Expr.TheVariants as V
use Rattle.expression_messages.specs.declared.expression.Expr.TheOpen as O
use Rattle.expression_messages.specs.declared.expression.Expr.TheOpen.{Expr-F}
use Rattle.expression_messages.specs.declared.expression.Expr.TheViews.{out-Expr, roll-Expr, roll-out-Expr, outs-Literal, outs-UnresolvedAttribute, outs-UnresolvedFunction, outs-UnresolvedStar, outs-Alias, outs-Cast, outs-SortOrder}
use Rattle.expression_messages.specs.declared.expression.Expr.TheFolds.{every_here-Expr, every_held-Expr, every-Expr, map-Expr}
use Rattle.expression_messages.specs.Messages.{message_at, messages_at, repeated_fields, messages_fields}
use Rattle.expression_messages.specs.Types.{type_at}
use Rattle.expression_messages.specs.Expressions.{literal_of, attribute_of, star_of, target_of, function_of, alias_of, cast_of, sort_order_of, expr_member, expr_at, alias_at, sort_order_at}
use Rattle.expression_messages.specs.Spelled.{literal_fields, attribute_fields, star_fields, target_fields, function_fields, alias_fields, cast_fields, sort_order_fields, expr_fields}
use Rattle.expression_messages.specs.Depths.{largest, literal_depth, target_depth, expr_depth, alias_depth, sort_order_depth}
use Rattle.expression_messages.specs.Known.{is_known_literal, is_known_target, is_known_expr, IsKnownExpr, IsKnownAlias, IsKnownSortOrder, HasOrderBits, HasExprBitsHere, HasExprBits, HasAliasBits, HasSortOrderBits}
use Rattle.expression_messages.specs.Laws.{IsShort, IsReadBack}
use Rattle.expression_messages.proofs.Levels.{expr_at-Some}
use Rattle.expression_messages.proofs.ExprCases
use Rattle.expression_messages.proofs.Pieces.{Stands, two_stand, three_stand, read_back, short_two, short_payload, short_repeated, short_messages, IsNumber, is_numbered, Piece, payload_piece, text_piece, texts_piece, bool_piece, int_piece, wider, number_front, number_back, payload_front, payloads_front, payloads_back, payloads_one, payloads_repeated, message_at-one, texts_back, ItemBack, messages_piece, messages_read}
use Rattle.expression_messages.proofs.TypeBack.{and_true}
use Rattle.expression_messages.proofs.LeafBack.{literal_back, attribute_back, star_back, TargetBack, target_back}

-- an expression that is read back at this level
abbrev pub ExprBack : ℕ → Expr → Type 0
ExprBack level expr = IsReadBack level kinds.Expression (expr_fields expr) (expr_at level) expr

is_1 : IsNumber 1
is_1 = is_numbered 1 (omega arith) (omega arith)

is_2 : IsNumber 2
is_2 = is_numbered 2 (omega arith) (omega arith)

is_3 : IsNumber 3
is_3 = is_numbered 3 (omega arith) (omega arith)

-- ---- messages that hold expressions, where these are read back one level further in

same_function : {name name2 : List ℕ} {arguments arguments2 : List Expr} {distinct distinct2 : Bool} → name ≡ name2 → arguments ≡ arguments2 → distinct ≡ distinct2 →
    ◌≡◌ {A = UnresolvedFunction Expr} (record { function_name = name; arguments = arguments; is_distinct = distinct }) (record { function_name = name2; arguments = arguments2; is_distinct = distinct2 })
same_function name_is arguments_is distinct_is = rw name_is (rw arguments_is (rw distinct_is refl))

function_back : (level : ℕ) (function : UnresolvedFunction Expr) → 0 < level → IsUtf8 function.function_name → AllByRecursion (ItemBack (level - 1) kinds.Expression expr_fields (expr_at (level - 1))) function.arguments →
    IsShort (function_fields expr_fields function) → IsReadBack level kinds.UnresolvedFunction (function_fields expr_fields function) (function_of (expr_at (level - 1))) function
unfolding payload_of
function_back level function some utf8 items short = read_back level kinds.UnresolvedFunction whole (function_of (expr_at (level - 1))) function some stands same
  where
    name : List Field
    name = text_fields 1 function.function_name

    arguments : List Field
    arguments = messages_fields expr_fields 2 function.arguments

    distinct : List Field
    distinct = bool_fields 3 function.is_distinct

    whole : List Field
    whole = name ++ arguments ++ distinct

    name_piece : Piece (level - 1) kinds.UnresolvedFunction 1 name
    name_piece = text_piece (level - 1) kinds.UnresolvedFunction 1 function.function_name is_1 refl utf8 (short_two name arguments (short_two (name ++ arguments) distinct short).0).0

    arguments_piece : Piece (level - 1) kinds.UnresolvedFunction 2 arguments
    arguments_piece = messages_piece (level - 1) kinds.UnresolvedFunction kinds.Expression 2 expr_fields (expr_at (level - 1)) function.arguments is_2 refl items

    distinct_piece : Piece (level - 1) kinds.UnresolvedFunction 3 distinct
    distinct_piece = bool_piece (level - 1) kinds.UnresolvedFunction 3 function.is_distinct is_3

    stands : Stands (level - 1) kinds.UnresolvedFunction whole
    stands = three_stand (level - 1) kinds.UnresolvedFunction name arguments distinct name_piece.stands arguments_piece.stands distinct_piece.stands

    name_read : text_field 1 whole ≡ function.function_name
    name_read =
        ap (λ (p : Option (List ℕ)). unwrap_or (option_map utf8_lossy p) [])
        (payload_front 1 3 (name ++ arguments) distinct distinct_piece.numbered (omega arith) ∙ payload_front 1 2 name arguments arguments_piece.numbered (omega arith))
        ∙ text_back 1 function.function_name utf8

    arguments_found : payloads 2 whole ≡ map (λ argument. spell (expr_fields argument)) function.arguments
    arguments_found =
        payloads_front 2 3 (name ++ arguments) distinct distinct_piece.numbered (omega arith) ∙ payloads_back 2 1 name arguments name_piece.numbered (omega arith)
        ∙ payloads_repeated 2 (map (λ argument. spell (expr_fields argument)) function.arguments)

    arguments_read : messages_at (expr_at (level - 1)) 2 whole ≡ function.arguments
    arguments_read =
        ap (map (λ payload. expr_at (level - 1) (fields_of payload))) arguments_found ∙ messages_read (level - 1) kinds.Expression expr_fields (expr_at (level - 1)) function.arguments items

    distinct_read : bool_field 3 whole ≡ function.is_distinct
    distinct_read =
        ap (λ (n : Option ℕ). unwrap_or (option_map bool_of n) false)
        (ap (last_number 3) (append_assoc name arguments distinct) ∙ number_back 3 1 name (arguments ++ distinct) name_piece.numbered (omega arith) ∙ number_back 3 2 arguments distinct arguments_piece.numbered (omega arith))
        ∙ bool_back 3 function.is_distinct

    same : function_of (expr_at (level - 1)) whole ≡ function
    same = same_function name_read arguments_read distinct_read

same_alias : {expr expr2 : Expr} {name name2 : List (List ℕ)} → expr ≡ expr2 → name ≡ name2 →
    ◌≡◌ {A = Alias Expr} (record { expr = expr; name = name }) (record { expr = expr2; name = name2 })
same_alias expr_is name_is = rw expr_is (rw name_is refl)

pub alias_back : (level : ℕ) (alias : Alias Expr) → 0 < level → ExprBack (level - 1) alias.expr → AllByRecursion IsUtf8 alias.name → IsShort (alias_fields alias) →
    IsReadBack level kinds.Alias (alias_fields alias) (alias_of (expr_at (level - 1))) alias
unfolding payload_of
alias_back level alias some expr_back utf8 short = read_back level kinds.Alias (expr ++ names) (alias_of (expr_at (level - 1))) alias some stands same
  where
    payload : List ℕ
    payload = spell (expr_fields alias.expr)

    expr : List Field
    expr = payload_fields 1 payload

    names : List Field
    names = repeated_fields 2 alias.name

    shorts : IsShort expr × IsShort names
    shorts = short_two expr names short

    expr_piece : Piece (level - 1) kinds.Alias 1 expr
    expr_piece = payload_piece (level - 1) kinds.Alias 1 (Message kinds.Expression) payload is_1 refl expr_back.sound (short_payload 1 payload shorts.0)

    names_piece : Piece (level - 1) kinds.Alias 2 names
    names_piece = texts_piece (level - 1) kinds.Alias 2 alias.name is_2 refl utf8 (short_repeated 2 alias.name shorts.1)

    stands : Stands (level - 1) kinds.Alias (expr ++ names)
    stands = two_stand (level - 1) kinds.Alias expr names expr_piece.stands names_piece.stands

    expr_read : expr_at (level - 1) (message_at 1 (expr ++ names)) ≡ alias.expr
    expr_read =
        ap (expr_at (level - 1)) (message_at-one 1 (expr ++ names) payload (payloads_front 1 2 expr names names_piece.numbered (omega arith) ∙ payloads_one 1 payload)) ∙ expr_back.same

    names_read : texts 2 (expr ++ names) ≡ alias.name
    names_read =
        ap (map utf8_lossy) (payloads_back 2 1 expr names expr_piece.numbered (omega arith) ∙ payloads_repeated 2 alias.name) ∙ texts_back alias.name utf8

    same : alias_of (expr_at (level - 1)) (expr ++ names) ≡ alias
    same = same_alias expr_read names_read

same_cast : {expr expr2 : Expr} {target target2 : CastTarget} → expr ≡ expr2 → target ≡ target2 →
    ◌≡◌ {A = Cast Expr} (record { expr = expr; target = target }) (record { expr = expr2; target = target2 })
same_cast expr_is target_is = rw expr_is (rw target_is refl)

cast_back : (level : ℕ) (cast : Cast Expr) → 0 < level → ExprBack (level - 1) cast.expr → TargetBack (level - 1) cast.target → IsShort (cast_fields expr_fields cast) →
    IsReadBack level kinds.Cast (cast_fields expr_fields cast) (cast_of (type_at (level - 1)) (expr_at (level - 1))) cast
unfolding payload_of
cast_back level cast some expr_back it short = read_back level kinds.Cast (expr ++ target) (cast_of (type_at (level - 1)) (expr_at (level - 1))) cast some stands same
  where
    payload : List ℕ
    payload = spell (expr_fields cast.expr)

    expr : List Field
    expr = payload_fields 1 payload

    target : List Field
    target = target_fields cast.target

    expr_piece : Piece (level - 1) kinds.Cast 1 expr
    expr_piece = payload_piece (level - 1) kinds.Cast 1 (Message kinds.Expression) payload is_1 refl expr_back.sound (short_payload 1 payload (short_two expr target short).0)

    stands : Stands (level - 1) kinds.Cast (expr ++ target)
    stands = two_stand (level - 1) kinds.Cast expr target expr_piece.stands it.stands

    same : cast_of (type_at (level - 1)) (expr_at (level - 1)) (expr ++ target) ≡ cast
    same = same_cast (ap (expr_at (level - 1)) (message_at-one 1 (expr ++ target) payload (it.others payload)) ∙ expr_back.same) (it.same payload)

same_order : {child child2 : Expr} {direction direction2 nulls nulls2 : ℤ} → child ≡ child2 → direction ≡ direction2 → nulls ≡ nulls2 →
    ◌≡◌ {A = SortOrder Expr} (record { child = child; direction = direction; null_ordering = nulls }) (record { child = child2; direction = direction2; null_ordering = nulls2 })
same_order child_is direction_is nulls_is = rw child_is (rw direction_is (rw nulls_is refl))

pub sort_order_back : (level : ℕ) (order : SortOrder Expr) → 0 < level → ExprBack (level - 1) order.child → HasOrderBits order → IsShort (sort_order_fields order) →
    IsReadBack level kinds.SortOrder (sort_order_fields order) (sort_order_of (expr_at (level - 1))) order
unfolding payload_of
sort_order_back level order some child_back bits short = read_back level kinds.SortOrder whole (sort_order_of (expr_at (level - 1))) order some stands same
  where
    payload : List ℕ
    payload = spell (expr_fields order.child)

    child : List Field
    child = payload_fields 1 payload

    direction : List Field
    direction = int_fields 2 order.direction

    nulls : List Field
    nulls = int_fields 3 order.null_ordering

    whole : List Field
    whole = child ++ direction ++ nulls

    child_piece : Piece (level - 1) kinds.SortOrder 1 child
    child_piece = payload_piece (level - 1) kinds.SortOrder 1 (Message kinds.Expression) payload is_1 refl child_back.sound (short_payload 1 payload (short_two child direction (short_two (child ++ direction) nulls short).0).0)

    direction_piece : Piece (level - 1) kinds.SortOrder 2 direction
    direction_piece = int_piece (level - 1) kinds.SortOrder 2 order.direction is_2 (wider order.direction bits.direction)

    nulls_piece : Piece (level - 1) kinds.SortOrder 3 nulls
    nulls_piece = int_piece (level - 1) kinds.SortOrder 3 order.null_ordering is_3 (wider order.null_ordering bits.null_ordering)

    stands : Stands (level - 1) kinds.SortOrder whole
    stands = three_stand (level - 1) kinds.SortOrder child direction nulls child_piece.stands direction_piece.stands nulls_piece.stands

    child_read : expr_at (level - 1) (message_at 1 whole) ≡ order.child
    child_read =
        ap (expr_at (level - 1)) (message_at-one 1 whole payload
        (payloads_front 1 3 (child ++ direction) nulls nulls_piece.numbered (omega arith) ∙ payloads_front 1 2 child direction direction_piece.numbered (omega arith) ∙ payloads_one 1 payload))
        ∙ child_back.same

    direction_read : int32_field 2 whole ≡ order.direction
    direction_read =
        ap (λ (n : Option ℕ). unwrap_or (option_map int32_of n) (pos 0))
        (number_front 2 3 (child ++ direction) nulls nulls_piece.numbered (omega arith) ∙ number_back 2 1 child direction child_piece.numbered (omega arith))
        ∙ int32_back 2 order.direction bits.direction

    nulls_read : int32_field 3 whole ≡ order.null_ordering
    nulls_read =
        ap (λ (n : Option ℕ). unwrap_or (option_map int32_of n) (pos 0))
        (ap (last_number 3) (append_assoc child direction nulls) ∙ number_back 3 1 child (direction ++ nulls) child_piece.numbered (omega arith) ∙ number_back 3 2 direction nulls direction_piece.numbered (omega arith))
        ∙ int32_back 3 order.null_ordering bits.null_ordering

    same : sort_order_of (expr_at (level - 1)) whole ≡ order
    same = same_order child_read direction_read nulls_read

-- ---- layers

by_layers : (P : Expr → Type 0) → ((x : Expr-F Expr) → P (roll-Expr x)) → (expr : Expr) → P expr
by_layers P each expr = subst P (roll-out-Expr expr) (each (out-Expr expr))

depth_of : (expr : Expr) (n : ℕ) → expr_depth expr ≡ n → 1 ≤ n → 1 ≤ expr_depth expr
depth_of expr n is some = omega arith

-- an expression is a message
pub expr_depth-some : (expr : Expr) → 1 ≤ expr_depth expr
expr_depth-some = by_layers (λ expr. 1 ≤ expr_depth expr) each
  where
    each : (x : Expr-F Expr) → 1 ≤ expr_depth (roll-Expr x)
    each (O.Literal it) = depth_of (roll-Expr (O.Literal it)) (1 + literal_depth it) (ap expr_depth (V.rolls-Literal it) ∙ ExprCases.expr_depth-Literal it) (omega arith)
    each (O.UnresolvedAttribute it) = depth_of (roll-Expr (O.UnresolvedAttribute it)) 2 (ap expr_depth (V.rolls-UnresolvedAttribute it) ∙ ExprCases.expr_depth-UnresolvedAttribute it) (omega arith)
    each (O.UnresolvedFunction it) =
        depth_of (roll-Expr (O.UnresolvedFunction it)) (2 + largest (map expr_depth it.arguments)) (ap expr_depth (V.rolls-UnresolvedFunction it) ∙ ExprCases.expr_depth-UnresolvedFunction it) (omega arith)
    each (O.UnresolvedStar it) = depth_of (roll-Expr (O.UnresolvedStar it)) 2 (ap expr_depth (V.rolls-UnresolvedStar it) ∙ ExprCases.expr_depth-UnresolvedStar it) (omega arith)
    each (O.Alias it) = depth_of (roll-Expr (O.Alias it)) (2 + expr_depth it.expr) (ap expr_depth (V.rolls-Alias it) ∙ ExprCases.expr_depth-Alias it) (omega arith)
    each (O.Cast it) = depth_of (roll-Expr (O.Cast it)) (2 + max (expr_depth it.expr) (target_depth it.target)) (ap expr_depth (V.rolls-Cast it) ∙ ExprCases.expr_depth-Cast it) (omega arith)
    each (O.SortOrder it) = depth_of (roll-Expr (O.SortOrder it)) (2 + expr_depth it.child) (ap expr_depth (V.rolls-SortOrder it) ∙ ExprCases.expr_depth-SortOrder it) (omega arith)
    each (O.Other number) = depth_of (roll-Expr (O.Other number)) 1 (ap expr_depth (V.rolls-Other number) ∙ ExprCases.expr_depth-Other number) (omega arith)

-- ---- a fact of each layer, in the expressions of an expression

abbrev Held : (Expr-F Expr → Type 0) → Type 0
Held Q = (expr : Expr) × every-Expr Q expr

exprs_in : {A : Type 0} → Expr-F A → List A
exprs_in (O.Literal it) = []
exprs_in (O.UnresolvedAttribute it) = []
exprs_in (O.UnresolvedFunction it) = it.arguments
exprs_in (O.UnresolvedStar it) = []
exprs_in (O.Alias it) = it.expr ∷ []
exprs_in (O.Cast it) = it.expr ∷ []
exprs_in (O.SortOrder it) = it.child ∷ []
exprs_in (O.Other number) = []

exprs_in-map : {A B : Type 0} (f : A → B) (x : Expr-F A) → exprs_in (map-Expr A B f x) ≡ map f (exprs_in x)
unfolding exprs_in
exprs_in-map f (O.Literal it) = refl
exprs_in-map f (O.UnresolvedAttribute it) = refl
exprs_in-map f (O.UnresolvedFunction it) = refl
exprs_in-map f (O.UnresolvedStar it) = refl
exprs_in-map f (O.Alias it) = refl
exprs_in-map f (O.Cast it) = refl
exprs_in-map f (O.SortOrder it) = refl
exprs_in-map f (O.Other number) = refl

all_held : (Q : Expr-F Expr → Type 0) (exprs : List (Held Q)) → AllByRecursion (every-Expr Q) (map (λ e. e.0) exprs)
all_held Q [] = tt
all_held Q (expr ∷ exprs) = (expr.1, all_held Q exprs)

every_in : (Q : Expr-F Expr → Type 0) (expr : Expr) → every-Expr Q expr → AllByRecursion (every-Expr Q) (exprs_in (out-Expr expr))
every_in Q expr every = subst (AllByRecursion (every-Expr Q)) same (all_held Q (exprs_in held.0))
  where
    held : (y : Expr-F (Held Q)) × (map-Expr (Held Q) Expr (λ e. e.0) y ≡ out-Expr expr)
    held = every_held-Expr Q expr every

    same : map (λ e. e.0) (exprs_in held.0) ≡ exprs_in (out-Expr expr)
    same = sym (exprs_in-map (λ e. e.0) held.0) ∙ ap exprs_in held.1

-- an expression, of which the layer is known, has the bits of its types, and so have the expressions in it
bits_here : (expr : Expr) (x : Expr-F Expr) → out-Expr expr ≡ x → HasExprBits expr → HasExprBitsHere x
unfolding HasExprBits
bits_here expr x is bits = subst HasExprBitsHere is (every_here-Expr HasExprBitsHere expr bits)

bits_in : (expr : Expr) (x : Expr-F Expr) → out-Expr expr ≡ x → HasExprBits expr → AllByRecursion HasExprBits (exprs_in x)
unfolding HasExprBits
bits_in expr x is bits = subst (λ (y : Expr-F Expr). AllByRecursion (every-Expr HasExprBitsHere) (exprs_in y)) is (every_in HasExprBitsHere expr bits)

-- ---- an expression

-- what is asked of an expression that is read back at this level
abbrev pub ReadsBack : ℕ → Expr → Type 0
ReadsBack level expr = IsKnownExpr expr → HasExprBits expr → IsShort (expr_fields expr) → expr_depth expr ≤ level → ExprBack level expr

-- an expression is read back where its member's message is, one level further in
member_back : {A : Type 0} (level number : ℕ) (inner : MessageKind) (fields : List Field) (read : List Field → A) (value : A) (made : A → Expr) → 1 ≤ level → IsNumber number →
    payload_of kinds.Expression number ≡ Message inner → length (spell fields) < 2 ^ 64 → IsReadBack (level - 1) inner fields read value →
    (member : Member) → latest kinds.Expression (payload_fields number (spell fields)) ≡ Some member → member.since ≡ payload_fields number (spell fields) →
    expr_member (type_at (level - 1 - 1)) (expr_at (level - 1 - 1)) member ≡ made (read (message_at number member.since)) →
    IsReadBack level kinds.Expression (payload_fields number (spell fields)) (expr_at level) (made value)
member_back level number inner fields read value made some is_number is short back member found since member_is =
    let payload = spell fields in
    let piece = payload_piece (level - 1) kinds.Expression number (Message inner) payload is_number is back.sound short in
    let level_is : level - 2 ≡ level - 1 - 1 = omega arith in
    read_back level kinds.Expression (payload_fields number payload) (expr_at level) (made value) some piece.stands
    (expr_at-Some level (payload_fields number payload) member some found
    ∙ ap (λ (n : ℕ). expr_member (type_at n) (expr_at n) member) level_is
    ∙ member_is
    ∙ ap (λ (fs : List Field). made (read (message_at number fs))) since
    ∙ ap (λ (fs : List Field). made (read fs)) (message_at-one number (payload_fields number payload) payload (payloads_one number payload))
    ∙ ap made back.same)

-- expressions of a list
exprs_back : (level : ℕ) → ((expr : Expr) → ReadsBack level expr) → (exprs : List Expr) → list_all is_known_expr exprs ≡ true → AllByRecursion HasExprBits exprs →
    AllByRecursion (λ expr. IsShort (expr_fields expr)) exprs → largest (map expr_depth exprs) ≤ level → AllByRecursion (ItemBack level kinds.Expression expr_fields (expr_at level)) exprs
exprs_back level inner [] known bits short deep = tt
exprs_back level inner (expr ∷ exprs) known bits short deep =
    let both = and_true (is_known_expr expr) (list_all is_known_expr exprs) known in
    let here : ItemBack level kinds.Expression expr_fields (expr_at level) expr = record { back = inner expr both.0 bits.0 short.0 (omega arith); short = short.0 } in
    (here, exprs_back level inner exprs both.1 bits.1 short.1 (omega arith))

-- the layers one by one

abbrev Inner : ℕ → Type 0
Inner level = (expr : Expr) → ReadsBack (level - 1 - 1) expr

moved : (level : ℕ) (expr : Expr) (fields : List Field) → expr_fields expr ≡ fields → IsReadBack level kinds.Expression fields (expr_at level) expr → ExprBack level expr
moved level expr fields is back = subst (λ (fs : List Field). IsReadBack level kinds.Expression fs (expr_at level) expr) (sym is) back

shorter : (expr : Expr) (number : ℕ) (fields : List Field) → expr_fields expr ≡ payload_fields number (spell fields) → IsShort (expr_fields expr) → IsShort fields
shorter expr number fields is short = short_payload number (spell fields) (subst IsShort is short)

literal_case : (level : ℕ) → Inner level → (it : Literal) → ReadsBack level (V.Literal it)
unfolding latest last_some is_member payload_of
literal_case level inner it known bits short deep =
    let is = ExprCases.expr_fields-Literal it in
    let few = shorter (V.Literal it) 1 (literal_fields it) is short in
    let depth = ExprCases.expr_depth-Literal it in
    let back = literal_back (level - 1) it (sym (ExprCases.is_known_expr-Literal it) ∙ known) (bits_here (V.Literal it) (O.Literal it) (outs-Literal it) bits) few (omega arith) in
    moved level (V.Literal it) (payload_fields 1 (spell (literal_fields it))) is
    (member_back level 1 kinds.Literal (literal_fields it) (literal_of (type_at (level - 1 - 1))) it (λ l. V.Literal l) (omega arith) is_1 refl few back
    (record { number = 1; since = payload_fields 1 (spell (literal_fields it)) }) refl refl refl)

attribute_case : (level : ℕ) (it : UnresolvedAttribute) → ReadsBack level (V.UnresolvedAttribute it)
unfolding latest last_some is_member payload_of
attribute_case level it known bits short deep =
    let is = ExprCases.expr_fields-UnresolvedAttribute it in
    let few = shorter (V.UnresolvedAttribute it) 2 (attribute_fields it) is short in
    let depth = ExprCases.expr_depth-UnresolvedAttribute it in
    let back = attribute_back (level - 1) it (omega arith) (bits_here (V.UnresolvedAttribute it) (O.UnresolvedAttribute it) (outs-UnresolvedAttribute it) bits) few in
    moved level (V.UnresolvedAttribute it) (payload_fields 2 (spell (attribute_fields it))) is
    (member_back level 2 kinds.UnresolvedAttribute (attribute_fields it) attribute_of it (λ a. V.UnresolvedAttribute a) (omega arith) is_2 refl few back
    (record { number = 2; since = payload_fields 2 (spell (attribute_fields it)) }) refl refl refl)

function_case : (level : ℕ) → Inner level → (it : UnresolvedFunction Expr) → ReadsBack level (V.UnresolvedFunction it)
unfolding latest last_some is_member payload_of exprs_in
function_case level inner it known bits short deep =
    let is = ExprCases.expr_fields-UnresolvedFunction it in
    let few = shorter (V.UnresolvedFunction it) 3 (function_fields expr_fields it) is short in
    let depth = ExprCases.expr_depth-UnresolvedFunction it in
    let name = text_fields 1 it.function_name in
    let arguments = messages_fields expr_fields 2 it.arguments in
    let short_arguments = short_messages expr_fields 2 it.arguments (short_two name arguments (short_two (name ++ arguments) (bool_fields 3 it.is_distinct) few).0).1 in
    let items = exprs_back (level - 1 - 1) inner it.arguments (sym (ExprCases.is_known_expr-UnresolvedFunction it) ∙ known)
    (bits_in (V.UnresolvedFunction it) (O.UnresolvedFunction it) (outs-UnresolvedFunction it) bits) short_arguments (omega arith) in
    let back = function_back (level - 1) it (omega arith) (bits_here (V.UnresolvedFunction it) (O.UnresolvedFunction it) (outs-UnresolvedFunction it) bits) items few in
    moved level (V.UnresolvedFunction it) (payload_fields 3 (spell (function_fields expr_fields it))) is
    (member_back level 3 kinds.UnresolvedFunction (function_fields expr_fields it) (function_of (expr_at (level - 1 - 1))) it (λ f. V.UnresolvedFunction f) (omega arith) is_3 refl few back
    (record { number = 3; since = payload_fields 3 (spell (function_fields expr_fields it)) }) refl refl refl)

star_case : (level : ℕ) (it : UnresolvedStar) → ReadsBack level (V.UnresolvedStar it)
unfolding latest last_some is_member payload_of
star_case level it known bits short deep =
    let is = ExprCases.expr_fields-UnresolvedStar it in
    let few = shorter (V.UnresolvedStar it) 5 (star_fields it) is short in
    let depth = ExprCases.expr_depth-UnresolvedStar it in
    let back = star_back (level - 1) it (omega arith) (bits_here (V.UnresolvedStar it) (O.UnresolvedStar it) (outs-UnresolvedStar it) bits) few in
    moved level (V.UnresolvedStar it) (payload_fields 5 (spell (star_fields it))) is
    (member_back level 5 kinds.UnresolvedStar (star_fields it) star_of it (λ s. V.UnresolvedStar s) (omega arith) (is_numbered 5 (omega arith) (omega arith)) refl few back
    (record { number = 5; since = payload_fields 5 (spell (star_fields it)) }) refl refl refl)

alias_case : (level : ℕ) → Inner level → (it : Alias Expr) → ReadsBack level (V.Alias it)
unfolding latest last_some is_member payload_of exprs_in
alias_case level inner it known bits short deep =
    let is = ExprCases.expr_fields-Alias it in
    let few = shorter (V.Alias it) 6 (alias_fields it) is short in
    let depth = ExprCases.expr_depth-Alias it in
    let short_expr = short_payload 1 (spell (expr_fields it.expr)) (short_two (payload_fields 1 (spell (expr_fields it.expr))) (repeated_fields 2 it.name) few).0 in
    let expr_back = inner it.expr (sym (ExprCases.is_known_expr-Alias it) ∙ known) (bits_in (V.Alias it) (O.Alias it) (outs-Alias it) bits).0 short_expr (omega arith) in
    let back = alias_back (level - 1) it (omega arith) expr_back (bits_here (V.Alias it) (O.Alias it) (outs-Alias it) bits) few in
    moved level (V.Alias it) (payload_fields 6 (spell (alias_fields it))) is
    (member_back level 6 kinds.Alias (alias_fields it) (alias_of (expr_at (level - 1 - 1))) it (λ a. V.Alias a) (omega arith) (is_numbered 6 (omega arith) (omega arith)) refl few back
    (record { number = 6; since = payload_fields 6 (spell (alias_fields it)) }) refl refl refl)

cast_case : (level : ℕ) → Inner level → (it : Cast Expr) → ReadsBack level (V.Cast it)
unfolding latest last_some is_member payload_of exprs_in
cast_case level inner it known bits short deep =
    let is = ExprCases.expr_fields-Cast it in
    let few = shorter (V.Cast it) 7 (cast_fields expr_fields it) is short in
    let depth = ExprCases.expr_depth-Cast it in
    let shorts = short_two (payload_fields 1 (spell (expr_fields it.expr))) (target_fields it.target) few in
    let both = and_true (is_known_expr it.expr) (is_known_target it.target) (sym (ExprCases.is_known_expr-Cast it) ∙ known) in
    let expr_back = inner it.expr both.0 (bits_in (V.Cast it) (O.Cast it) (outs-Cast it) bits).0 (short_payload 1 (spell (expr_fields it.expr)) shorts.0) (omega arith) in
    let target = target_back (level - 1 - 1) it.target both.1 (bits_here (V.Cast it) (O.Cast it) (outs-Cast it) bits) shorts.1 (omega arith) in
    let back = cast_back (level - 1) it (omega arith) expr_back target few in
    moved level (V.Cast it) (payload_fields 7 (spell (cast_fields expr_fields it))) is
    (member_back level 7 kinds.Cast (cast_fields expr_fields it) (cast_of (type_at (level - 1 - 1)) (expr_at (level - 1 - 1))) it (λ c. V.Cast c) (omega arith) (is_numbered 7 (omega arith) (omega arith)) refl few back
    (record { number = 7; since = payload_fields 7 (spell (cast_fields expr_fields it)) }) refl refl refl)

sort_order_case : (level : ℕ) → Inner level → (it : SortOrder Expr) → ReadsBack level (V.SortOrder it)
unfolding latest last_some is_member payload_of exprs_in
sort_order_case level inner it known bits short deep =
    let is = ExprCases.expr_fields-SortOrder it in
    let few = shorter (V.SortOrder it) 9 (sort_order_fields it) is short in
    let depth = ExprCases.expr_depth-SortOrder it in
    let child = payload_fields 1 (spell (expr_fields it.child)) in
    let direction = int_fields 2 it.direction in
    let short_child = short_payload 1 (spell (expr_fields it.child)) (short_two child direction (short_two (child ++ direction) (int_fields 3 it.null_ordering) few).0).0 in
    let child_back = inner it.child (sym (ExprCases.is_known_expr-SortOrder it) ∙ known) (bits_in (V.SortOrder it) (O.SortOrder it) (outs-SortOrder it) bits).0 short_child (omega arith) in
    let back = sort_order_back (level - 1) it (omega arith) child_back (bits_here (V.SortOrder it) (O.SortOrder it) (outs-SortOrder it) bits) few in
    moved level (V.SortOrder it) (payload_fields 9 (spell (sort_order_fields it))) is
    (member_back level 9 kinds.SortOrder (sort_order_fields it) (sort_order_of (expr_at (level - 1 - 1))) it (λ o. V.SortOrder o) (omega arith) (is_numbered 9 (omega arith) (omega arith)) refl few back
    (record { number = 9; since = payload_fields 9 (spell (sort_order_fields it)) }) refl refl refl)

each_layer : (level : ℕ) → Inner level → (x : Expr-F Expr) → ReadsBack level (roll-Expr x)
each_layer level inner (O.Literal it) = subst (ReadsBack level) (sym (V.rolls-Literal it)) (literal_case level inner it)
each_layer level inner (O.UnresolvedAttribute it) = subst (ReadsBack level) (sym (V.rolls-UnresolvedAttribute it)) (attribute_case level it)
each_layer level inner (O.UnresolvedFunction it) = subst (ReadsBack level) (sym (V.rolls-UnresolvedFunction it)) (function_case level inner it)
each_layer level inner (O.UnresolvedStar it) = subst (ReadsBack level) (sym (V.rolls-UnresolvedStar it)) (star_case level it)
each_layer level inner (O.Alias it) = subst (ReadsBack level) (sym (V.rolls-Alias it)) (alias_case level inner it)
each_layer level inner (O.Cast it) = subst (ReadsBack level) (sym (V.rolls-Cast it)) (cast_case level inner it)
each_layer level inner (O.SortOrder it) = subst (ReadsBack level) (sym (V.rolls-SortOrder it)) (sort_order_case level inner it)
each_layer level inner (O.Other number) = subst (ReadsBack level) (sym (V.rolls-Other number)) (λ known bits short deep. absurd (false≢true (sym (ExprCases.is_known_expr-Other number) ∙ known)))

-- with so many levels left in the proof
back_to : (fuel level : ℕ) → level ≤ fuel → (expr : Expr) → ReadsBack level expr
back_to zero level few = by_layers (ReadsBack level) (each_layer level (λ expr known bits short deep. absurd (omega (arith, expr_depth-some expr, deep))))
back_to (suc fuel) level few = by_layers (ReadsBack level) (each_layer level (back_to fuel (level - 1 - 1) (omega arith)))

-- what an expression is spelled as is sound and read back, at every level that its depth allows
pub expr_read_back : (level : ℕ) (expr : Expr) → ReadsBack level expr
expr_read_back level = back_to level level (omega arith)

-- an alias and a sort order by themselves

pub alias_read_back : (level : ℕ) (alias : Alias Expr) → IsKnownAlias alias → HasAliasBits alias → IsShort (alias_fields alias) → alias_depth alias ≤ level →
    IsReadBack level kinds.Alias (alias_fields alias) (alias_at level) alias
alias_read_back level alias known bits short deep =
    let short_expr = short_payload 1 (spell (expr_fields alias.expr)) (short_two (payload_fields 1 (spell (expr_fields alias.expr))) (repeated_fields 2 alias.name) short).0 in
    alias_back level alias (omega arith) (expr_read_back (level - 1) alias.expr known bits.expr short_expr (omega arith)) bits.name short

pub sort_order_read_back : (level : ℕ) (order : SortOrder Expr) → IsKnownSortOrder order → HasSortOrderBits order → IsShort (sort_order_fields order) → sort_order_depth order ≤ level →
    IsReadBack level kinds.SortOrder (sort_order_fields order) (sort_order_at level) order
sort_order_read_back level order known bits short deep =
    let child = payload_fields 1 (spell (expr_fields order.child)) in
    let direction = int_fields 2 order.direction in
    let short_child = short_payload 1 (spell (expr_fields order.child)) (short_two child direction (short_two (child ++ direction) (int_fields 3 order.null_ordering) short).0).0 in
    sort_order_back level order (omega arith) (expr_read_back (level - 1) order.child known bits.child short_child (omega arith)) bits.here short
