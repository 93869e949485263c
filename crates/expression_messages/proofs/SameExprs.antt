-- What is read of the expression in sound messages is the same at every level that suffices.
use Rattle.std.proofs.Common.{◌≡◌, ℕ, zero, suc, ◌-◌, ◌<◌, ◌≤◌, ◌==◌, List, [], ◌∷◌, ◌++◌, map, Option, None, Some, refl, sym, ap, ◌∙◌, arith}
use Rattle.std.specs.Prelude.{if◌then◌else◌, option_map, unwrap_or}
use Rattle.std.specs.List.{AllByRecursion}
use Rattle.std.proofs.lemmas.List.{append-nil}
use Rattle.proto_fields.specs.declared.kind.MessageKind.{MessageKind}
use Rattle.proto_fields.specs.declared.kind.MessageKind.TheVariants as kinds
use Rattle.proto_fields.specs.Fields.{Field, fields_of}
use Rattle.proto_fields.specs.Kinds.{payload_of}
use Rattle.proto_fields.specs.Faults.{IsSound}
use Rattle.proto_fields.specs.Readings.{last_some, payloads, int32_field, int64_field, bool_field, text_field, texts, Member, latest}
use Rattle.expression_messages.specs.declared.data_type.TypeMessage.{TypeMessage}
use Rattle.expression_messages.specs.declared.literal.Literal.{Literal}
use Rattle.expression_messages.specs.declared.literal.Literal.TheVariants as literal
use Rattle.expression_messages.specs.declared.expression.UnresolvedAttribute.{UnresolvedAttribute}
use Rattle.expression_messages.specs.declared.expression.UnresolvedFunction.{UnresolvedFunction}
use Rattle.expression_messages.specs.declared.expression.UnresolvedStar.{UnresolvedStar}
use Rattle.expression_messages.specs.declared.expression.Alias.{Alias}
use Rattle.expression_messages.specs.declared.expression.CastTarget.{CastTarget}
use Rattle.expression_messages.specs.declared.expression.CastTarget.TheVariants as target
use Rattle.expression_messages.specs.declared.expression.Cast.{Cast}
use Rattle.expression_messages.specs.declared.expression.SortOrder.{SortOrder}
use Rattle.expression_messages.specs.declared.expression.Expr.{Expr}
use Rattle.expression_messages.specs.declared.expression.Expr.TheVariants as V
use Rattle.expression_messages.specs.Messages.{message_at, messages_at}
use Rattle.expression_messages.specs.Types.{type_at}
use Rattle.expression_messages.specs.Expressions.{literal_of, literal_member, attribute_of, star_of, target_of, target_member, function_of, alias_of, alias_at, cast_of, sort_order_of, sort_order_at, expr_member, expr_at}
use Rattle.expression_messages.proofs.Levels.{expr_at-zero, expr_at-None, expr_at-Some}
use Rattle.expression_messages.proofs.Agreement.{AreSound, sound_some, fields_sound, fields_in, joined_sound, message_at-joined, payloads_sound, message_sound, since_sound}
use Rattle.expression_messages.proofs.SameTypes.{inner_type_agrees}

-- ---- literals and targets

literal_by : (level more : ℕ) → level ≤ more → (fields : List Field) → AreSound level kinds.Literal fields → (found : Option Member) → latest kinds.Literal fields ≡ found →
    option_map (literal_member (type_at (more - 1))) found ≡ option_map (literal_member (type_at (level - 1))) found
unfolding payload_of
literal_by level more upper fields sound None is = refl
literal_by level more upper fields sound (Some member) is =
    let inner = inner_type_agrees (level - 1) (more - 1) 1 member.since (omega arith) (payloads_sound (level - 1) kinds.Literal kinds.DataType 1 refl member.since (since_sound level kinds.Literal fields member is sound)) in
    ap (λ (kind : TypeMessage). Some (
    if member.number == 1 then literal.Null kind
    else if member.number == 3 then literal.Boolean (bool_field 3 member.since)
    else if member.number == 6 then literal.Integer (int32_field 6 member.since)
    else if member.number == 7 then literal.Long (int64_field 7 member.since)
    else if member.number == 13 then literal.String (text_field 13 member.since)
    else literal.Date (int32_field 16 member.since)
    )) inner

literal_same : (level more : ℕ) → level ≤ more → (fields : List Field) → AreSound level kinds.Literal fields → literal_of (type_at (more - 1)) fields ≡ literal_of (type_at (level - 1)) fields
literal_same level more upper fields sound =
    ap (λ (o : Option Literal). unwrap_or o literal.Absent) (literal_by level more upper fields sound (latest kinds.Literal fields) refl)

target_by : (level more : ℕ) → level ≤ more → (fields : List Field) → AreSound level kinds.Cast fields → (found : Option Member) → latest kinds.Cast fields ≡ found →
    option_map (target_member (type_at (more - 1))) found ≡ option_map (target_member (type_at (level - 1))) found
unfolding payload_of
target_by level more upper fields sound None is = refl
target_by level more upper fields sound (Some member) is =
    let inner = inner_type_agrees (level - 1) (more - 1) 2 member.since (omega arith) (payloads_sound (level - 1) kinds.Cast kinds.DataType 2 refl member.since (since_sound level kinds.Cast fields member is sound)) in
    ap (λ (kind : TypeMessage). Some (if member.number == 2 then target.Kind kind else target.KindText (text_field 3 member.since))) inner

target_same : (level more : ℕ) → level ≤ more → (fields : List Field) → AreSound level kinds.Cast fields → target_of (type_at (more - 1)) fields ≡ target_of (type_at (level - 1)) fields
target_same level more upper fields sound =
    ap (λ (o : Option CastTarget). unwrap_or o target.Absent) (target_by level more upper fields sound (latest kinds.Cast fields) refl)

-- ---- messages that hold expressions

-- what two levels agree on: all messages of expressions, one after another, that are sound with the lower
abbrev Agree : ℕ → ℕ → Type 0
Agree level more = (messages : List (List ℕ)) → AllByRecursion (IsSound level kinds.Expression) messages → expr_at more (fields_in messages) ≡ expr_at level (fields_in messages)

one_same : (level more : ℕ) → Agree level more → (bytes : List ℕ) → IsSound level kinds.Expression bytes → expr_at more (fields_of bytes) ≡ expr_at level (fields_of bytes)
unfolding fields_in
one_same level more agree bytes sound =
    let one = append-nil (fields_of bytes) in ap (expr_at more) (sym one) ∙ agree (bytes ∷ []) (sound, tt) ∙ ap (expr_at level) one

inner_same : (level more number : ℕ) → Agree level more → (fields : List Field) → AllByRecursion (IsSound level kinds.Expression) (payloads number fields) →
    expr_at more (message_at number fields) ≡ expr_at level (message_at number fields)
inner_same level more number agree fields sound =
    let joined = message_at-joined number fields in ap (expr_at more) joined ∙ agree (payloads number fields) sound ∙ ap (expr_at level) (sym joined)

exprs_same : (level more : ℕ) → Agree level more → (messages : List (List ℕ)) → AllByRecursion (IsSound level kinds.Expression) messages →
    map (λ payload. expr_at more (fields_of payload)) messages ≡ map (λ payload. expr_at level (fields_of payload)) messages
exprs_same level more agree [] sound = refl
exprs_same level more agree (message ∷ messages) sound =
    rw (one_same level more agree message sound.0) (ap (λ (es : List Expr). expr_at level (fields_of message) ∷ es) (exprs_same level more agree messages sound.1))

with_arguments : List Field → List Expr → UnresolvedFunction Expr
with_arguments fields arguments = record { function_name = text_field 1 fields; arguments = arguments; is_distinct = bool_field 3 fields }

function_same : (level more : ℕ) → Agree (level - 1) (more - 1) → (fields : List Field) → AreSound level kinds.UnresolvedFunction fields →
    function_of (expr_at (more - 1)) fields ≡ function_of (expr_at (level - 1)) fields
unfolding payload_of with_arguments
function_same level more agree fields sound =
    ap (with_arguments fields) (exprs_same (level - 1) (more - 1) agree (payloads 2 fields) (payloads_sound (level - 1) kinds.UnresolvedFunction kinds.Expression 2 refl fields sound))

with_name : List Field → Expr → Alias Expr
with_name fields expr = record { expr = expr; name = texts 2 fields }

alias_same : (level more : ℕ) → Agree (level - 1) (more - 1) → (fields : List Field) → AreSound level kinds.Alias fields → alias_of (expr_at (more - 1)) fields ≡ alias_of (expr_at (level - 1)) fields
unfolding payload_of with_name
alias_same level more agree fields sound =
    ap (with_name fields) (inner_same (level - 1) (more - 1) 1 agree fields (payloads_sound (level - 1) kinds.Alias kinds.Expression 1 refl fields sound))

same_cast : {expr expr2 : Expr} {target target2 : CastTarget} → expr ≡ expr2 → target ≡ target2 →
    ◌≡◌ {A = Cast Expr} (record { expr = expr; target = target }) (record { expr = expr2; target = target2 })
same_cast expr_is target_is = rw expr_is (rw target_is refl)

cast_same : (level more : ℕ) → level ≤ more → Agree (level - 1) (more - 1) → (fields : List Field) → AreSound level kinds.Cast fields →
    cast_of (type_at (more - 1)) (expr_at (more - 1)) fields ≡ cast_of (type_at (level - 1)) (expr_at (level - 1)) fields
unfolding payload_of
cast_same level more upper agree fields sound =
    same_cast (inner_same (level - 1) (more - 1) 1 agree fields (payloads_sound (level - 1) kinds.Cast kinds.Expression 1 refl fields sound)) (target_same level more upper fields sound)

with_order : List Field → Expr → SortOrder Expr
with_order fields child = record { child = child; direction = int32_field 2 fields; null_ordering = int32_field 3 fields }

sort_order_same : (level more : ℕ) → Agree (level - 1) (more - 1) → (fields : List Field) → AreSound level kinds.SortOrder fields →
    sort_order_of (expr_at (more - 1)) fields ≡ sort_order_of (expr_at (level - 1)) fields
unfolding payload_of with_order
sort_order_same level more agree fields sound =
    ap (with_order fields) (inner_same (level - 1) (more - 1) 1 agree fields (payloads_sound (level - 1) kinds.SortOrder kinds.Expression 1 refl fields sound))

-- ---- an expression by its latest member

-- the member of this number among these
chosen : ℕ → Literal → UnresolvedAttribute → UnresolvedFunction Expr → UnresolvedStar → Alias Expr → Cast Expr → SortOrder Expr → Expr
chosen number it attribute function star alias cast order =
    if number == 1 then V.Literal it
    else if number == 2 then V.UnresolvedAttribute attribute
    else if number == 3 then V.UnresolvedFunction function
    else if number == 5 then V.UnresolvedStar star
    else if number == 6 then V.Alias alias
    else if number == 7 then V.Cast cast
    else if number == 9 then V.SortOrder order
    else V.Other number

chosen_same : {it it2 : Literal} {function function2 : UnresolvedFunction Expr} {alias alias2 : Alias Expr} {cast cast2 : Cast Expr} {order order2 : SortOrder Expr} (number : ℕ) (attribute : UnresolvedAttribute) (star : UnresolvedStar) →
    it ≡ it2 → function ≡ function2 → alias ≡ alias2 → cast ≡ cast2 → order ≡ order2 → chosen number it attribute function star alias cast order ≡ chosen number it2 attribute function2 star alias2 cast2 order2
chosen_same number attribute star it_is function_is alias_is cast_is order_is = rw it_is (rw function_is (rw alias_is (rw cast_is (rw order_is refl))))

member_same : (level more : ℕ) → level ≤ more → Agree (level - 1 - 1) (more - 1 - 1) → (member : Member) → AreSound level kinds.Expression member.since →
    expr_member (type_at (more - 1 - 1)) (expr_at (more - 1 - 1)) member ≡ expr_member (type_at (level - 1 - 1)) (expr_at (level - 1 - 1)) member
unfolding payload_of chosen
member_same level more upper agree member sound =
    chosen_same member.number (attribute_of (message_at 2 member.since)) (star_of (message_at 5 member.since))
    (literal_same (level - 1) (more - 1) (omega arith) (message_at 1 member.since) (message_sound level kinds.Expression kinds.Literal 1 refl member.since sound))
    (function_same (level - 1) (more - 1) agree (message_at 3 member.since) (message_sound level kinds.Expression kinds.UnresolvedFunction 3 refl member.since sound))
    (alias_same (level - 1) (more - 1) agree (message_at 6 member.since) (message_sound level kinds.Expression kinds.Alias 6 refl member.since sound))
    (cast_same (level - 1) (more - 1) (omega arith) agree (message_at 7 member.since) (message_sound level kinds.Expression kinds.Cast 7 refl member.since sound))
    (sort_order_same (level - 1) (more - 1) agree (message_at 9 member.since) (message_sound level kinds.Expression kinds.SortOrder 9 refl member.since sound))

by_member : (level more : ℕ) → 0 < level → level ≤ more → Agree (level - 1 - 1) (more - 1 - 1) → (fields : List Field) → AreSound level kinds.Expression fields →
    (found : Option Member) → latest kinds.Expression fields ≡ found → expr_at more fields ≡ expr_at level fields
by_member level more some upper agree fields sound None is = expr_at-None more fields (omega arith) is ∙ sym (expr_at-None level fields some is)
by_member level more some upper agree fields sound (Some member) is =
    let more_left : more - 2 ≡ more - 1 - 1 = omega arith in
    let level_left : level - 2 ≡ level - 1 - 1 = omega arith in
    let read : ℕ → Expr = λ n. expr_member (type_at n) (expr_at n) member in
    expr_at-Some more fields member (omega arith) is ∙ ap read more_left
    ∙ member_same level more upper agree member (since_sound level kinds.Expression fields member is sound)
    ∙ sym (expr_at-Some level fields member some is ∙ ap read level_left)

-- no expression is Other 0 at every level
latest-nothing : latest kinds.Expression [] ≡ None
unfolding latest last_some
latest-nothing = refl

expr_at-nothing : (level : ℕ) → expr_at level [] ≡ V.Other 0
expr_at-nothing zero = expr_at-zero zero [] refl
expr_at-nothing (suc level) = expr_at-None (suc level) [] (omega arith) latest-nothing

-- with so many levels left in the proof
agree_to : (fuel level more : ℕ) → level ≤ fuel → level ≤ more → Agree level more
unfolding fields_in
agree_to fuel level more few upper [] sound = expr_at-nothing more ∙ sym (expr_at-nothing level)
agree_to zero level more few upper (message ∷ messages) sound = absurd (omega (arith, sound_some level kinds.Expression message sound.0))
agree_to (suc fuel) level more few upper (message ∷ messages) sound =
    let some = sound_some level kinds.Expression message sound.0 in
    let inner : Agree (level - 1 - 1) (more - 1 - 1) = agree_to fuel (level - 1 - 1) (more - 1 - 1) (omega arith) (omega arith) in
    by_member level more some upper inner (fields_in (message ∷ messages)) (joined_sound level kinds.Expression (message ∷ messages) sound) (latest kinds.Expression (fields_in (message ∷ messages))) refl

pub exprs_agree : (level more : ℕ) → level ≤ more → (messages : List (List ℕ)) → AllByRecursion (IsSound level kinds.Expression) messages → expr_at more (fields_in messages) ≡ expr_at level (fields_in messages)
exprs_agree level more upper = agree_to level level more (omega arith) upper

-- of one message
pub expr_agrees : (level more : ℕ) (bytes : List ℕ) → level ≤ more → IsSound level kinds.Expression bytes → expr_at more (fields_of bytes) ≡ expr_at level (fields_of bytes)
expr_agrees level more bytes upper sound = one_same level more (exprs_agree level more upper) bytes sound

-- of the expression in a message
pub inner_expr_agrees : (level more number : ℕ) (fields : List Field) → level ≤ more → AllByRecursion (IsSound level kinds.Expression) (payloads number fields) →
    expr_at more (message_at number fields) ≡ expr_at level (message_at number fields)
inner_expr_agrees level more number fields upper sound = inner_same level more number (exprs_agree level more upper) fields sound

-- of an alias and of a sort order, and of their fields
pub alias_agrees : (level more : ℕ) (fields : List Field) → level ≤ more → AreSound level kinds.Alias fields → alias_at more fields ≡ alias_at level fields
alias_agrees level more fields upper sound = alias_same level more (exprs_agree (level - 1) (more - 1) (omega arith)) fields sound

pub sort_order_agrees : (level more : ℕ) (fields : List Field) → level ≤ more → AreSound level kinds.SortOrder fields → sort_order_at more fields ≡ sort_order_at level fields
sort_order_agrees level more fields upper sound = sort_order_same level more (exprs_agree (level - 1) (more - 1) (omega arith)) fields sound
