-- Whatever fields are read, the numbers of a type or an expression have the bits of their types, and its texts are UTF-8.
use Rattle.std.proofs.Common.{◌≡◌, ℕ, zero, suc, ◌-◌, ◌==◌, Bool, true, false, List, [], ◌∷◌, map, Option, None, Some, refl, sym, ap, subst}
use Rattle.std.specs.Prelude.{if◌then◌else◌, option_map, unwrap_or, IsUtf8, IfSome}
use Rattle.std.specs.List.{AllByRecursion}
use Rattle.proto_fields.specs.declared.kind.MessageKind.TheVariants as kinds
use Rattle.proto_fields.specs.Fields.{Field, fields_of}
use Rattle.proto_fields.specs.Readings.{payloads, bool_field, int32_field, int64_field, text_field, Member, latest}
use Rattle.proto_fields.proofs.TextReadings.{int32_valid, int64_valid, optional_int64_valid, text_valid, optional_text_valid, texts_valid}
use Rattle.expression_messages.specs.declared.data_type.StructField.{StructField}
use Rattle.expression_messages.specs.declared.data_type.TypeMessage.{TypeMessage}
use Rattle.expression_messages.specs.declared.data_type.TypeMessage.TheVariants as T
use Rattle.expression_messages.specs.declared.data_type.TypeMessage.TheOpen as TO
use Rattle.expression_messages.specs.declared.data_type.TypeMessage.TheOpen.{TypeMessage-F}
use Rattle.expression_messages.specs.declared.data_type.TypeMessage.TheFolds.{every-TypeMessage, every_made-TypeMessage}
use Rattle.expression_messages.specs.declared.literal.Literal.{Literal}
use Rattle.expression_messages.specs.declared.literal.Literal.TheVariants as literal
use Rattle.expression_messages.specs.declared.expression.UnresolvedAttribute.{UnresolvedAttribute}
use Rattle.expression_messages.specs.declared.expression.UnresolvedFunction.{UnresolvedFunction}
use Rattle.expression_messages.specs.declared.expression.UnresolvedStar.{UnresolvedStar}
use Rattle.expression_messages.specs.declared.expression.Alias.{Alias}
use Rattle.expression_messages.specs.declared.expression.CastTarget.{CastTarget}
use Rattle.expression_messages.specs.declared.expression.CastTarget.TheVariants as target
use Rattle.expression_messages.specs.declared.expression.Cast.{Cast}
use Rattle.expression_messages.specs.declared.expression.SortOrder.{SortOrder}
use Rattle.expression_messages.specs.declared.expression.Expr.{Expr}
use Rattle.expression_messages.specs.declared.expression.Expr.TheVariants as V
use Rattle.expression_messages.specs.declared.expression.Expr.TheOpen as O
use Rattle.expression_messages.specs.declared.expression.Expr.TheOpen.{Expr-F}
use Rattle.expression_messages.specs.declared.expression.Expr.TheFolds.{every-Expr, every_made-Expr}
use Rattle.expression_messages.specs.Messages.{message_at, messages_at}
use Rattle.expression_messages.specs.Types.{struct_field_of, struct_fields_of, plain_type, type_member, data_type_of, type_at}
use Rattle.expression_messages.specs.Expressions.{literal_member, literal_of, attribute_of, star_of, target_member, target_of, function_of, alias_of, alias_at, cast_of, sort_order_of, sort_order_at, expr_member, expr_of, expr_at}
use Rattle.expression_messages.specs.Known.{HasTypeBitsHere, HasTypeBits, HasLiteralBits, HasAttributeBits, HasTargetBits, HasOrderBits, HasExprBitsHere, HasExprBits, HasAliasBits, HasSortOrderBits}

-- ---- choices and lists

-- of two that have a property, either has it
pub either : {A : Type 0} (P : A → Type 0) (test : Bool) (first second : A) → P first → P second → P (if test then first else second)
either P true first second a b = a
either P false first second a b = b

-- what is read of a oneof, or stands for none
pub one_of : {A : Type 0} (P : A → Type 0) (read : Member → A) (none : A) → ((member : Member) → P (read member)) → P none → (found : Option Member) → P (unwrap_or (option_map read found) none)
one_of P read none each absent None = absent
one_of P read none each absent (Some member) = each member

-- what is read of a message that may be absent
pub if_there : {A : Type 0} (P : A → Type 0) (read : List Field → A) → ((fields : List Field) → P (read fields)) → (found : Option (List Field)) → IfSome (option_map read found) P
if_there P read each None = tt
if_there P read each (Some fields) = each fields

-- the messages of a repeated field
pub each_read : {A : Type 0} (P : A → Type 0) (read : List Field → A) → ((fields : List Field) → P (read fields)) → (number : ℕ) (fields : List Field) → AllByRecursion P (messages_at read number fields)
each_read {A} P read each number fields = over (payloads number fields)
  where
    over : (found : List (List ℕ)) → AllByRecursion P (map (λ payload. read (fields_of payload)) found)
    over [] = tt
    over (payload ∷ found) = (each (fields_of payload), over found)

-- ---- types

-- a type by its layer
abbrev Every : TypeMessage → Type 0
Every = every-TypeMessage HasTypeBitsHere

attach : (fields : List (StructField TypeMessage)) → AllByRecursion (λ field. Every field.data_type) fields → List (StructField ((kind : TypeMessage) × Every kind))
attach [] all = []
attach (field ∷ fields) all = record { name = field.name; data_type = (field.data_type, all.0); nullable = field.nullable } ∷ attach fields all.1

detach : StructField ((kind : TypeMessage) × Every kind) → StructField TypeMessage
detach field = record { name = field.name; data_type = field.data_type.0; nullable = field.nullable }

attached : (fields : List (StructField TypeMessage)) (all : AllByRecursion (λ field. Every field.data_type) fields) → map detach (attach fields all) ≡ fields
unfolding attach detach
attached [] all = refl
attached (field ∷ fields) all = ap (λ (rest : List (StructField TypeMessage)). field ∷ rest) (attached fields all.1)

struct_bits : (fields : List (StructField TypeMessage)) → AllByRecursion (λ field. IsUtf8 field.name) fields → AllByRecursion (λ field. HasTypeBits field.data_type) fields → HasTypeBits (T.Struct fields)
unfolding HasTypeBits detach
struct_bits fields names inner =
    subst Every (T.rolls-Struct fields) (every_made-TypeMessage HasTypeBitsHere (TO.Struct fields) (TO.Struct (attach fields inner)) (ap (λ (fs : List (StructField TypeMessage)). TO.Struct fs) (attached fields inner)) names)

other_bits : (number : ℕ) → HasTypeBits (T.Other number)
unfolding HasTypeBits
other_bits number = subst Every (T.rolls-Other number) (every_made-TypeMessage HasTypeBitsHere (TO.Other number) (TO.Other number) refl tt)

plain_bits : (number : ℕ) → HasTypeBits (plain_type number)
unfolding HasTypeBits
plain_bits number =
    either Every (number == 1) T.Null _ (subst Every T.rolls-Null (every_made-TypeMessage HasTypeBitsHere TO.Null TO.Null refl tt))
    (either Every (number == 3) T.Boolean _ (subst Every T.rolls-Boolean (every_made-TypeMessage HasTypeBitsHere TO.Boolean TO.Boolean refl tt))
    (either Every (number == 4) T.Byte _ (subst Every T.rolls-Byte (every_made-TypeMessage HasTypeBitsHere TO.Byte TO.Byte refl tt))
    (either Every (number == 5) T.Short _ (subst Every T.rolls-Short (every_made-TypeMessage HasTypeBitsHere TO.Short TO.Short refl tt))
    (either Every (number == 6) T.Integer _ (subst Every T.rolls-Integer (every_made-TypeMessage HasTypeBitsHere TO.Integer TO.Integer refl tt))
    (either Every (number == 7) T.Long _ (subst Every T.rolls-Long (every_made-TypeMessage HasTypeBitsHere TO.Long TO.Long refl tt))
    (either Every (number == 11) T.String _ (subst Every T.rolls-String (every_made-TypeMessage HasTypeBitsHere TO.String TO.String refl tt))
    (either Every (number == 14) T.Date (T.Other number) (subst Every T.rolls-Date (every_made-TypeMessage HasTypeBitsHere TO.Date TO.Date refl tt)) (other_bits number))))))))

names_valid : (inner : List Field → TypeMessage) (number : ℕ) (fields : List Field) → AllByRecursion (λ field. IsUtf8 field.name) (messages_at (struct_field_of inner) number fields)
names_valid inner number fields = each_read (λ (field : StructField TypeMessage). IsUtf8 field.name) (struct_field_of inner) (λ found. text_valid 1 found) number fields

kinds_valid : (inner : List Field → TypeMessage) → ((fields : List Field) → HasTypeBits (inner fields)) → (number : ℕ) (fields : List Field) → AllByRecursion (λ field. HasTypeBits field.data_type) (messages_at (struct_field_of inner) number fields)
kinds_valid inner each number fields = each_read (λ (field : StructField TypeMessage). HasTypeBits field.data_type) (struct_field_of inner) (λ found. each (message_at 2 found)) number fields

type_of_valid : (inner : List Field → TypeMessage) → ((fields : List Field) → HasTypeBits (inner fields)) → (fields : List Field) → HasTypeBits (data_type_of inner fields)
type_of_valid inner each fields =
    one_of HasTypeBits (type_member inner) (T.Other 0)
    (λ member. either HasTypeBits (member.number == 21) (T.Struct (struct_fields_of inner (message_at 21 member.since))) (plain_type member.number)
    (struct_bits (struct_fields_of inner (message_at 21 member.since)) (names_valid inner 1 (message_at 21 member.since)) (kinds_valid inner each 1 (message_at 21 member.since)))
    (plain_bits member.number))
    (other_bits 0) (latest kinds.DataType fields)

pub type_valid : (level : ℕ) (fields : List Field) → HasTypeBits (type_at level fields)
unfolding type_at
type_valid zero fields = other_bits 0
type_valid (suc zero) fields = type_of_valid (type_at zero) (λ found. other_bits 0) fields
type_valid (suc (suc zero)) fields = type_of_valid (type_at zero) (λ found. other_bits 0) fields
type_valid (suc (suc (suc level))) fields = type_of_valid (type_at level) (λ found. type_valid level found) fields

-- ---- messages that hold no expression

literal_valid : (level : ℕ) (fields : List Field) → HasLiteralBits (literal_of (type_at level) fields)
literal_valid level fields = one_of HasLiteralBits (literal_member (type_at level)) literal.Absent each tt (latest kinds.Literal fields)
  where
    each : (member : Member) → HasLiteralBits (literal_member (type_at level) member)
    each member =
        either HasLiteralBits (member.number == 1) (literal.Null (type_at level (message_at 1 member.since))) _ (type_valid level (message_at 1 member.since))
        (either HasLiteralBits (member.number == 3) (literal.Boolean (bool_field 3 member.since)) _ tt
        (either HasLiteralBits (member.number == 6) (literal.Integer (int32_field 6 member.since)) _ (int32_valid 6 member.since)
        (either HasLiteralBits (member.number == 7) (literal.Long (int64_field 7 member.since)) _ (int64_valid 7 member.since)
        (either HasLiteralBits (member.number == 13) (literal.String (text_field 13 member.since)) (literal.Date (int32_field 16 member.since)) (text_valid 13 member.since)
        (int32_valid 16 member.since)))))

attribute_valid : (fields : List Field) → HasAttributeBits (attribute_of fields)
attribute_valid fields = record { unparsed_identifier = text_valid 1 fields; plan_id = optional_int64_valid 2 fields }

target_valid : (level : ℕ) (fields : List Field) → HasTargetBits (target_of (type_at level) fields)
target_valid level fields =
    one_of HasTargetBits (target_member (type_at level)) target.Absent
    (λ member. either HasTargetBits (member.number == 2) (target.Kind (type_at level (message_at 2 member.since))) (target.KindText (text_field 3 member.since))
    (type_valid level (message_at 2 member.since)) (text_valid 3 member.since))
    tt (latest kinds.Cast fields)

-- ---- expressions

-- an expression by its layer
abbrev EveryExpr : Expr → Type 0
EveryExpr = every-Expr HasExprBitsHere

attach_exprs : (exprs : List Expr) → AllByRecursion EveryExpr exprs → List ((expr : Expr) × EveryExpr expr)
attach_exprs [] all = []
attach_exprs (expr ∷ exprs) all = (expr, all.0) ∷ attach_exprs exprs all.1

attached_exprs : (exprs : List Expr) (all : AllByRecursion EveryExpr exprs) → map (λ e. e.0) (attach_exprs exprs all) ≡ exprs
unfolding attach_exprs
attached_exprs [] all = refl
attached_exprs (expr ∷ exprs) all = ap (λ (rest : List Expr). expr ∷ rest) (attached_exprs exprs all.1)

literal_bits : (it : Literal) → HasLiteralBits it → EveryExpr (V.Literal it)
literal_bits it here = subst EveryExpr (V.rolls-Literal it) (every_made-Expr HasExprBitsHere (O.Literal it) (O.Literal it) refl here)

attribute_bits : (it : UnresolvedAttribute) → HasAttributeBits it → EveryExpr (V.UnresolvedAttribute it)
attribute_bits it here = subst EveryExpr (V.rolls-UnresolvedAttribute it) (every_made-Expr HasExprBitsHere (O.UnresolvedAttribute it) (O.UnresolvedAttribute it) refl here)

with_arguments : {A : Type 0} → List ℕ → Bool → List A → UnresolvedFunction A
with_arguments name distinct arguments = record { function_name = name; arguments = arguments; is_distinct = distinct }

function_bits : (it : UnresolvedFunction Expr) → IsUtf8 it.function_name → AllByRecursion EveryExpr it.arguments → EveryExpr (V.UnresolvedFunction it)
unfolding with_arguments
function_bits it here inner =
    subst EveryExpr (V.rolls-UnresolvedFunction it)
    (every_made-Expr HasExprBitsHere (O.UnresolvedFunction it) (O.UnresolvedFunction (with_arguments it.function_name it.is_distinct (attach_exprs it.arguments inner)))
    (ap (λ (es : List Expr). O.UnresolvedFunction (with_arguments it.function_name it.is_distinct es)) (attached_exprs it.arguments inner)) here)

star_bits : (it : UnresolvedStar) → IfSome it.unparsed_target IsUtf8 → EveryExpr (V.UnresolvedStar it)
star_bits it here = subst EveryExpr (V.rolls-UnresolvedStar it) (every_made-Expr HasExprBitsHere (O.UnresolvedStar it) (O.UnresolvedStar it) refl here)

alias_bits : (it : Alias Expr) → AllByRecursion IsUtf8 it.name → EveryExpr it.expr → EveryExpr (V.Alias it)
alias_bits it here inner = subst EveryExpr (V.rolls-Alias it) (every_made-Expr HasExprBitsHere (O.Alias it) (O.Alias (record { expr = (it.expr, inner); name = it.name })) refl here)

cast_bits : (it : Cast Expr) → HasTargetBits it.target → EveryExpr it.expr → EveryExpr (V.Cast it)
cast_bits it here inner = subst EveryExpr (V.rolls-Cast it) (every_made-Expr HasExprBitsHere (O.Cast it) (O.Cast (record { expr = (it.expr, inner); target = it.target })) refl here)

order_bits : (it : SortOrder Expr) → HasOrderBits it → EveryExpr it.child → EveryExpr (V.SortOrder it)
order_bits it here inner =
    subst EveryExpr (V.rolls-SortOrder it)
    (every_made-Expr HasExprBitsHere (O.SortOrder it) (O.SortOrder (record { child = (it.child, inner); direction = it.direction; null_ordering = it.null_ordering })) refl here)

none_bits : (number : ℕ) → EveryExpr (V.Other number)
none_bits number = subst EveryExpr (V.rolls-Other number) (every_made-Expr HasExprBitsHere (O.Other number) (O.Other number) refl tt)

member_valid : (level : ℕ) → ((fields : List Field) → EveryExpr (expr_at level fields)) → (member : Member) → EveryExpr (expr_member (type_at level) (expr_at level) member)
member_valid level each member =
    either EveryExpr (member.number == 1) (V.Literal (literal_of (type_at level) (part 1))) _ (literal_bits (literal_of (type_at level) (part 1)) (literal_valid level (part 1)))
    (either EveryExpr (member.number == 2) (V.UnresolvedAttribute (attribute_of (part 2))) _ (attribute_bits (attribute_of (part 2)) (attribute_valid (part 2)))
    (either EveryExpr (member.number == 3) (V.UnresolvedFunction (function_of (expr_at level) (part 3))) _
    (function_bits (function_of (expr_at level) (part 3)) (text_valid 1 (part 3)) (each_read EveryExpr (expr_at level) each 2 (part 3)))
    (either EveryExpr (member.number == 5) (V.UnresolvedStar (star_of (part 5))) _ (star_bits (star_of (part 5)) (optional_text_valid 1 (part 5)))
    (either EveryExpr (member.number == 6) (V.Alias (alias_of (expr_at level) (part 6))) _ (alias_bits (alias_of (expr_at level) (part 6)) (texts_valid 2 (part 6)) (each (message_at 1 (part 6))))
    (either EveryExpr (member.number == 7) (V.Cast (cast_of (type_at level) (expr_at level) (part 7))) _
    (cast_bits (cast_of (type_at level) (expr_at level) (part 7)) (target_valid level (part 7)) (each (message_at 1 (part 7))))
    (either EveryExpr (member.number == 9) (V.SortOrder (sort_order_of (expr_at level) (part 9))) (V.Other member.number)
    (order_bits (sort_order_of (expr_at level) (part 9)) (order_valid (part 9)) (each (message_at 1 (part 9))))
    (none_bits member.number)))))))
  where
    part : ℕ → List Field
    part number = message_at number member.since

    order_valid : (fields : List Field) → HasOrderBits (sort_order_of (expr_at level) fields)
    order_valid fields = record { direction = int32_valid 2 fields; null_ordering = int32_valid 3 fields }

every_valid : (level : ℕ) (fields : List Field) → EveryExpr (expr_at level fields)
unfolding expr_at
every_valid zero fields = none_bits 0
every_valid (suc zero) fields =
    one_of EveryExpr (expr_member (type_at zero) (expr_at zero)) (V.Other 0) (member_valid zero (λ found. none_bits 0)) (none_bits 0) (latest kinds.Expression fields)
every_valid (suc (suc level)) fields =
    one_of EveryExpr (expr_member (type_at level) (expr_at level)) (V.Other 0) (member_valid level (λ found. every_valid level found)) (none_bits 0) (latest kinds.Expression fields)

pub expr_valid : (level : ℕ) (fields : List Field) → HasExprBits (expr_at level fields)
unfolding HasExprBits
expr_valid level fields = every_valid level fields

pub alias_valid : (level : ℕ) (fields : List Field) → HasAliasBits (alias_at level fields)
alias_valid level fields = record { expr = expr_valid (level - 1) (message_at 1 fields); name = texts_valid 2 fields }

pub sort_order_valid : (level : ℕ) (fields : List Field) → HasSortOrderBits (sort_order_at level fields)
sort_order_valid level fields = record {
  child = expr_valid (level - 1) (message_at 1 fields);
  here = record { direction = int32_valid 2 fields; null_ordering = int32_valid 3 fields };
}

-- the type that a call read of any fields
pub type_is_valid : (level : ℕ) (fields : List Field) (kind : TypeMessage) → kind ≡ type_at level fields → HasTypeBits kind
type_is_valid level fields kind is = subst HasTypeBits (sym is) (type_valid level fields)
