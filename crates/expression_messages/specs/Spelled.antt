-- Data types, literals and expressions as fields, in one spelling: by ascending number, a scalar left out at its default, a present optional
-- and a set member of a oneof written. What is outside the profile has no fields.
use Rattle.std.specs.Prelude.{List, [], ◌++◌}
use Rattle.proto_fields.specs.Fields.{Field}
use Rattle.proto_fields.specs.Spelling.{spell, bits_of, bit_of, number_fields, payload_fields, int_fields, optional_int_fields, bool_fields, text_fields, optional_payload_fields}
use Rattle.expression_messages.specs.declared.data_type.TypeMessage.{TypeMessage}
use Rattle.expression_messages.specs.declared.data_type.TypeMessage.TheOpen.{TypeMessage-F}
use Rattle.expression_messages.specs.declared.data_type.TypeMessage.TheFolds.{fold-TypeMessage}
use Rattle.expression_messages.specs.declared.data_type.StructField.{StructField}
use Rattle.expression_messages.specs.declared.literal.Literal.{Literal}
use Rattle.expression_messages.specs.declared.literal.Literal.TheVariants as literal
use Rattle.expression_messages.specs.declared.expression.UnresolvedAttribute.{UnresolvedAttribute}
use Rattle.expression_messages.specs.declared.expression.UnresolvedFunction.{UnresolvedFunction}
use Rattle.expression_messages.specs.declared.expression.UnresolvedStar.{UnresolvedStar}
use Rattle.expression_messages.specs.declared.expression.Alias.{Alias}
use Rattle.expression_messages.specs.declared.expression.CastTarget.{CastTarget}
use Rattle.expression_messages.specs.declared.expression.CastTarget.TheVariants as target
use Rattle.expression_messages.specs.declared.expression.Cast.{Cast}
use Rattle.expression_messages.specs.declared.expression.SortOrder.{SortOrder}
use Rattle.expression_messages.specs.declared.expression.Expr.{Expr}
use Rattle.expression_messages.specs.declared.expression.Expr.TheOpen.{Expr-F}
use Rattle.expression_messages.specs.declared.expression.Expr.TheFolds.{fold-Expr}
use Rattle.expression_messages.specs.Messages.{repeated_fields, messages_fields}

-- ---- types (`types.proto`, DataType)

-- name 1, data_type 2, nullable 3, where the type is spelled so
abbrev pub struct_field_fields : {T : Type 0} → (T → List Field) → StructField T → List Field
struct_field_fields inner field =
    text_fields 1 field.name ++ payload_fields 2 (spell (inner field.data_type)) ++ bool_fields 3 field.nullable

-- fields 1
abbrev pub struct_type_fields : {T : Type 0} → (T → List Field) → List (StructField T) → List Field
struct_type_fields inner fields = messages_fields (struct_field_fields inner) 1 fields

-- one type, with the fields of each type in it in its place
abbrev pub type_fields_step : TypeMessage-F (List Field) → List Field
type_fields_step TypeMessage-F.Null = payload_fields 1 []
type_fields_step TypeMessage-F.Boolean = payload_fields 3 []
type_fields_step TypeMessage-F.Byte = payload_fields 4 []
type_fields_step TypeMessage-F.Short = payload_fields 5 []
type_fields_step TypeMessage-F.Integer = payload_fields 6 []
type_fields_step TypeMessage-F.Long = payload_fields 7 []
type_fields_step TypeMessage-F.String = payload_fields 11 []
type_fields_step TypeMessage-F.Date = payload_fields 14 []
type_fields_step (TypeMessage-F.Struct fields) = payload_fields 21 (spell (struct_type_fields (λ inner. inner) fields))
type_fields_step (TypeMessage-F.Other number) = []

unfoldable pub type_fields : TypeMessage → List Field
type_fields = fold-TypeMessage (List Field) type_fields_step

-- ---- messages that hold no expression (`expressions.proto`, Expression)

-- null 1, boolean 3, integer 6, long 7, string 13, date 16
abbrev pub literal_fields : Literal → List Field
literal_fields (literal.Null kind) = payload_fields 1 (spell (type_fields kind))
literal_fields (literal.Boolean value) = number_fields 3 (bit_of value)
literal_fields (literal.Integer value) = number_fields 6 (bits_of value)
literal_fields (literal.Long value) = number_fields 7 (bits_of value)
literal_fields (literal.String text) = payload_fields 13 text
literal_fields (literal.Date days) = number_fields 16 (bits_of days)
literal_fields literal.Absent = []

-- unparsed_identifier 1, plan_id 2
abbrev pub attribute_fields : UnresolvedAttribute → List Field
attribute_fields attribute = text_fields 1 attribute.unparsed_identifier ++ optional_int_fields 2 attribute.plan_id

-- unparsed_target 1
abbrev pub star_fields : UnresolvedStar → List Field
star_fields star = optional_payload_fields 1 star.unparsed_target

-- type 2, type_str 3
abbrev pub target_fields : CastTarget → List Field
target_fields (target.Kind kind) = payload_fields 2 (spell (type_fields kind))
target_fields (target.KindText text) = payload_fields 3 text
target_fields target.Absent = []

-- ---- messages that hold expressions, where these are spelled so

-- function_name 1, arguments 2, is_distinct 3
abbrev pub function_fields : {E : Type 0} → (E → List Field) → UnresolvedFunction E → List Field
function_fields inner function =
    text_fields 1 function.function_name ++ messages_fields inner 2 function.arguments ++ bool_fields 3 function.is_distinct

-- expr 1, name 2
abbrev pub alias_fields_by : {E : Type 0} → (E → List Field) → Alias E → List Field
alias_fields_by inner alias = payload_fields 1 (spell (inner alias.expr)) ++ repeated_fields 2 alias.name

-- expr 1
abbrev pub cast_fields : {E : Type 0} → (E → List Field) → Cast E → List Field
cast_fields inner cast = payload_fields 1 (spell (inner cast.expr)) ++ target_fields cast.target

-- child 1, direction 2, null_ordering 3
abbrev pub sort_order_fields_by : {E : Type 0} → (E → List Field) → SortOrder E → List Field
sort_order_fields_by inner order =
    payload_fields 1 (spell (inner order.child)) ++ int_fields 2 order.direction ++ int_fields 3 order.null_ordering

-- one expression, with the fields of each expression in it in its place: literal 1, unresolved_attribute 2, unresolved_function 3,
-- unresolved_star 5, alias 6, cast 7, sort_order 9
abbrev pub expr_fields_step : Expr-F (List Field) → List Field
expr_fields_step (Expr-F.Literal literal) = payload_fields 1 (spell (literal_fields literal))
expr_fields_step (Expr-F.UnresolvedAttribute attribute) = payload_fields 2 (spell (attribute_fields attribute))
expr_fields_step (Expr-F.UnresolvedFunction function) = payload_fields 3 (spell (function_fields (λ inner. inner) function))
expr_fields_step (Expr-F.UnresolvedStar star) = payload_fields 5 (spell (star_fields star))
expr_fields_step (Expr-F.Alias alias) = payload_fields 6 (spell (alias_fields_by (λ inner. inner) alias))
expr_fields_step (Expr-F.Cast cast) = payload_fields 7 (spell (cast_fields (λ inner. inner) cast))
expr_fields_step (Expr-F.SortOrder order) = payload_fields 9 (spell (sort_order_fields_by (λ inner. inner) order))
expr_fields_step (Expr-F.Other number) = []

unfoldable pub expr_fields : Expr → List Field
expr_fields = fold-Expr (List Field) expr_fields_step

-- an alias and a sort order by themselves
abbrev pub alias_fields : Alias Expr → List Field
alias_fields = alias_fields_by expr_fields

abbrev pub sort_order_fields : SortOrder Expr → List Field
sort_order_fields = sort_order_fields_by expr_fields
