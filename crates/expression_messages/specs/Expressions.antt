-- Literals and expressions, read of the fields of their messages (`expressions.proto`, Expression). A level is how many messages may be
-- nested, the message itself among them.
use Rattle.std.specs.Prelude.{ℕ, zero, suc, ◌-◌, ◌==◌, if◌then◌else◌, List, option_map, unwrap_or}
use Rattle.proto_fields.specs.declared.kind.MessageKind.TheVariants as kinds
use Rattle.proto_fields.specs.Fields.{Field}
use Rattle.proto_fields.specs.Readings.{bool_field, int32_field, int64_field, optional_int64, text_field, optional_text, texts, Member, latest}
use Rattle.expression_messages.specs.declared.data_type.TypeMessage.{TypeMessage}
use Rattle.expression_messages.specs.declared.literal.Literal.{Literal}
use Rattle.expression_messages.specs.declared.literal.Literal.TheVariants as literal
use Rattle.expression_messages.specs.declared.expression.UnresolvedAttribute.{UnresolvedAttribute}
use Rattle.expression_messages.specs.declared.expression.UnresolvedFunction.{UnresolvedFunction}
use Rattle.expression_messages.specs.declared.expression.UnresolvedStar.{UnresolvedStar}
use Rattle.expression_messages.specs.declared.expression.Alias.{Alias}
use Rattle.expression_messages.specs.declared.expression.CastTarget.{CastTarget}
use Rattle.expression_messages.specs.declared.expression.CastTarget.TheVariants as target
use Rattle.expression_messages.specs.declared.expression.Cast.{Cast}
use Rattle.expression_messages.specs.declared.expression.SortOrder.{SortOrder}
use Rattle.expression_messages.specs.declared.expression.Expr.{Expr}
use Rattle.expression_messages.specs.declared.expression.Expr.TheVariants as expr
use Rattle.expression_messages.specs.Messages.{message_at, messages_at}
use Rattle.expression_messages.specs.Types.{type_at}

-- ---- messages that hold no expression

-- null 1, boolean 3, integer 6, long 7, string 13, date 16
abbrev pub literal_member : (List Field → TypeMessage) → Member → Literal
literal_member types member =
    if member.number == 1 then literal.Null (types (message_at 1 member.since))
    else if member.number == 3 then literal.Boolean (bool_field 3 member.since)
    else if member.number == 6 then literal.Integer (int32_field 6 member.since)
    else if member.number == 7 then literal.Long (int64_field 7 member.since)
    else if member.number == 13 then literal.String (text_field 13 member.since)
    else literal.Date (int32_field 16 member.since)

-- a literal, where the types in it are read so
abbrev pub literal_of : (List Field → TypeMessage) → List Field → Literal
literal_of types fields = unwrap_or (option_map (literal_member types) (latest kinds.Literal fields)) literal.Absent

-- unparsed_identifier 1, plan_id 2
abbrev pub attribute_of : List Field → UnresolvedAttribute
attribute_of fields = record { unparsed_identifier = text_field 1 fields; plan_id = optional_int64 2 fields }

-- unparsed_target 1
abbrev pub star_of : List Field → UnresolvedStar
star_of fields = record { unparsed_target = optional_text 1 fields }

-- type 2, type_str 3
abbrev pub target_member : (List Field → TypeMessage) → Member → CastTarget
target_member types member =
    if member.number == 2 then target.Kind (types (message_at 2 member.since)) else target.KindText (text_field 3 member.since)

abbrev pub target_of : (List Field → TypeMessage) → List Field → CastTarget
target_of types fields = unwrap_or (option_map (target_member types) (latest kinds.Cast fields)) target.Absent

-- ---- messages that hold expressions, where these are read so

-- function_name 1, arguments 2, is_distinct 3
abbrev pub function_of : (List Field → Expr) → List Field → UnresolvedFunction Expr
function_of inner fields = record {
  function_name = text_field 1 fields;
  arguments = messages_at inner 2 fields;
  is_distinct = bool_field 3 fields;
}

-- expr 1, name 2
abbrev pub alias_of : (List Field → Expr) → List Field → Alias Expr
alias_of inner fields = record { expr = inner (message_at 1 fields); name = texts 2 fields }

-- expr 1
abbrev pub cast_of : (List Field → TypeMessage) → (List Field → Expr) → List Field → Cast Expr
cast_of types inner fields = record { expr = inner (message_at 1 fields); target = target_of types fields }

-- child 1, direction 2, null_ordering 3
abbrev pub sort_order_of : (List Field → Expr) → List Field → SortOrder Expr
sort_order_of inner fields = record {
  child = inner (message_at 1 fields);
  direction = int32_field 2 fields;
  null_ordering = int32_field 3 fields;
}

-- literal 1, unresolved_attribute 2, unresolved_function 3, unresolved_star 5, alias 6, cast 7, sort_order 9; another member stands for itself
abbrev pub expr_member : (List Field → TypeMessage) → (List Field → Expr) → Member → Expr
expr_member types inner member =
    if member.number == 1 then expr.Literal (literal_of types (message_at 1 member.since))
    else if member.number == 2 then expr.UnresolvedAttribute (attribute_of (message_at 2 member.since))
    else if member.number == 3 then expr.UnresolvedFunction (function_of inner (message_at 3 member.since))
    else if member.number == 5 then expr.UnresolvedStar (star_of (message_at 5 member.since))
    else if member.number == 6 then expr.Alias (alias_of inner (message_at 6 member.since))
    else if member.number == 7 then expr.Cast (cast_of types inner (message_at 7 member.since))
    else if member.number == 9 then expr.SortOrder (sort_order_of inner (message_at 9 member.since))
    else expr.Other member.number

-- an absent expression is Other 0
abbrev pub expr_of : (List Field → TypeMessage) → (List Field → Expr) → List Field → Expr
expr_of types inner fields = unwrap_or (option_map (expr_member types inner) (latest kinds.Expression fields)) (expr.Other 0)

-- a type or an expression in an expression is two levels further in: the member's message stands between. Where no level is left, it is Other 0
unfoldable pub expr_at : ℕ → List Field → Expr
expr_at zero fields = expr.Other 0
expr_at (suc zero) fields = expr_of (type_at zero) (expr_at zero) fields
expr_at (suc (suc level)) fields = expr_of (type_at level) (expr_at level) fields

-- an alias and a sort order by themselves: the expression in it is one level further in
abbrev pub alias_at : ℕ → List Field → Alias Expr
alias_at level = alias_of (expr_at (level - 1))

abbrev pub sort_order_at : ℕ → List Field → SortOrder Expr
sort_order_at level = sort_order_of (expr_at (level - 1))
