-- Literals, casts and attributes with their types.
use Rattle.std.specs.Prelude.{ℕ, ℤ, Bool, true, false, if◌then◌else◌, List, slice_get, Option, Some, None, Ok, codes}
use Rattle.std.specs.Fmt.{signed_decimal}
use Rattle.cn_types.specs.declared.value.DataType.{DataType}
use Rattle.cn_types.specs.declared.value.Value.{Value}
use Rattle.expression_messages.specs.declared.data_type.TypeMessage.{TypeMessage}
use Rattle.expression_messages.specs.declared.data_type.TypeMessage.TheOpen.{TypeMessage-F}
use Rattle.expression_messages.specs.declared.data_type.TypeMessage.TheViews.{out-TypeMessage}
use Rattle.expression_messages.specs.declared.literal.Literal.{Literal}
use Rattle.expression_messages.specs.declared.expression.CastTarget.{CastTarget}
use Rattle.expression_messages.specs.declared.expression.UnresolvedAttribute.{UnresolvedAttribute}
use Rattle.plan_model.specs.declared.expression.TypedExpr.{TypedExpr}
use Rattle.plan_model.specs.declared.expression.TypedExpr.TheVariants as typed
use Rattle.plan_model.specs.DateFunctions.{is_day}
use Rattle.plan_model.specs.FunctionTypes.{can_cast}
use Rattle.plan_model.specs.NodeTypes.{kind_of}
use Rattle.resolve_names.specs.declared.error.ErrorName.TheVariants.{BadNumber, DatatypeMismatch, Unsupported}
use Rattle.resolve_names.specs.declared.scope.ColumnOf.{ColumnOf}
use Rattle.resolve_names.specs.declared.scope.Tagged.{Tagged}
use Rattle.resolve_names.specs.Scopes.{attribute_at, unresolved}
use Rattle.resolve_names.specs.Checks.{Checked, ◌>>=◌, or_refused, refused}
use Rattle.resolve_names.specs.Refusals.{Refusal, refusal}
use Rattle.resolve_functions.specs.Arguments.{untyped}
use Rattle.resolve_functions.specs.FunctionNames.{kind_named}

-- a type of columns that a message says
abbrev pub column_kind : TypeMessage-F TypeMessage → Option DataType
column_kind TypeMessage-F.Boolean = Some DataType.Boolean
column_kind TypeMessage-F.Integer = Some DataType.Integer
column_kind TypeMessage-F.Long = Some DataType.Long
column_kind TypeMessage-F.String = Some DataType.Text
column_kind TypeMessage-F.Date = Some DataType.Date
column_kind TypeMessage-F.Null = None
column_kind TypeMessage-F.Byte = None
column_kind TypeMessage-F.Short = None
column_kind (TypeMessage-F.Struct fields) = None
column_kind (TypeMessage-F.Other number) = None

unfoldable pub kind_of_type : TypeMessage → Option DataType
kind_of_type message = column_kind (out-TypeMessage message)

-- the type of the null type itself, which is none
abbrev pub is_null_type : TypeMessage-F TypeMessage → Bool
is_null_type TypeMessage-F.Null = true
is_null_type kind = false

unfoldable pub says_no_type : TypeMessage → Bool
says_no_type message = is_null_type (out-TypeMessage message)

-- ---- literals

abbrev pub value_of_kind : Value → DataType → Option TypedExpr
value_of_kind value kind = Some (typed.Literal value kind)

-- a null of a type: of the null type it has none yet, and of one that no column has it is refused
abbrev pub typed_null : Bool → Option DataType → Checked (Option TypedExpr)
typed_null true kind = Ok None
typed_null false (Some kind) = Ok (value_of_kind Value.Null kind)
typed_null false None = refused untyped

-- a date from 0001-01-01 to 9999-12-31
abbrev pub typed_date : ℤ → Checked (Option TypedExpr)
typed_date days = if is_day days then Ok (value_of_kind (Value.Date days) DataType.Date) else refused (refusal BadNumber (signed_decimal days))

-- an expression with this field number, where it has no meaning
abbrev pub unsupported_expression : List ℕ → Refusal
unsupported_expression number = refusal Unsupported number

abbrev pub typed_literal : Literal → Checked (Option TypedExpr)
typed_literal (Literal.Null kind) = typed_null (says_no_type kind) (kind_of_type kind)
typed_literal (Literal.Boolean value) = Ok (value_of_kind (Value.Boolean value) DataType.Boolean)
typed_literal (Literal.Integer value) = Ok (value_of_kind (Value.Integer value) DataType.Integer)
typed_literal (Literal.Long value) = Ok (value_of_kind (Value.Long value) DataType.Long)
typed_literal (Literal.String text) = Ok (value_of_kind (Value.Text text) DataType.Text)
typed_literal (Literal.Date days) = typed_date days
typed_literal Literal.Absent = refused (unsupported_expression (codes "expression 1"))

-- ---- casts

abbrev pub target_kind : CastTarget → Option DataType
target_kind (CastTarget.Kind kind) = kind_of_type kind
target_kind (CastTarget.KindText text) = kind_named text
target_kind CastTarget.Absent = None

abbrev pub bad_cast : Refusal
bad_cast = refusal DatatypeMismatch (codes "cast")

abbrev pub cast_expr : TypedExpr → DataType → Checked TypedExpr
cast_expr expr kind = if can_cast (kind_of expr) kind then Ok (typed.Cast expr kind) else refused bad_cast

-- a null without a type takes the target, and any other value must have a cast to it
abbrev pub cast_to_kind : Option TypedExpr → DataType → Checked TypedExpr
cast_to_kind None kind = Ok (typed.Literal Value.Null kind)
cast_to_kind (Some expr) kind = cast_expr expr kind

unfoldable pub typed_cast : Option TypedExpr → CastTarget → Checked TypedExpr
typed_cast child target = or_refused bad_cast (target_kind target) >>= λ kind. cast_to_kind child kind

-- ---- attributes

-- the column at a place, with its type
abbrev pub column_at : {I : Type 0} → List ℕ → List (ColumnOf I) → ℕ → Checked TypedExpr
column_at identifier columns place = or_refused (unresolved identifier) (slice_get columns place) >>= λ column. Ok (typed.Column place column.kind)

-- the column that an attribute names, with its type
unfoldable pub typed_attribute : {I : Type 0} → (I → I → Bool) → Bool → List (ColumnOf I) → List (Tagged I) → UnresolvedAttribute → Checked TypedExpr
typed_attribute same exact columns relations attribute =
    attribute_at same exact columns relations attribute.unparsed_identifier attribute.plan_id >>= λ place. column_at attribute.unparsed_identifier columns place
